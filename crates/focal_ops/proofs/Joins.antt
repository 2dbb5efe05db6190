-- Pieces of a list of words, and one more word of a table and of a row.
use Rattle.std.proofs.Common.{◌≡◌, ◌≢◌, ℕ, ◌+◌, ◌<◌, ◌≤◌, get_or, set, length, drop, slice_range, ◌-◌, List, ℤ, pos, ◌∙◌, ap, arith, below_more}
use Rattle.std.specs.Int.{int_max}
use Rattle.std.proofs.lemmas.List.{get_or-set_same, get_or-set_other, length-take, length-drop, get_or-take, get_or-drop}

pub slice_long : (xs : List ℤ) (a w : ℕ) → a + w ≤ length xs → length (slice_range xs a (a + w)) ≡ w
slice_long xs a w h = simp (length-take, length-drop) (omega arith)

pub sliced : (xs : List ℤ) (a w j b : ℕ) → j < w → a + j ≡ b → get_or (slice_range xs a (a + w)) j (pos 0) ≡ get_or xs b (pos 0)
sliced xs a w j b h e = get_or-take (a + w - a) (drop a xs) j (pos 0) (omega arith) ∙ get_or-drop a xs j (pos 0) ∙ ap (λ i. get_or xs i (pos 0)) e

pub joined_more : (old tables : List ℤ) (here count m width : ℕ) (word : ℤ) → ((j : ℕ) → j < m → get_or tables (here + count + j) (pos 0) ≡ int_max (get_or old (here + j) (pos 0)) (get_or old (here + (j + width)) (pos 0))) → ((j : ℕ) → j < here + count → get_or tables j (pos 0) ≡ get_or old j (pos 0)) → here + count + m < length tables → m + width < count → word ≡ int_max (get_or tables (here + m) (pos 0)) (get_or tables (here + (m + width)) (pos 0)) → (j : ℕ) → j < m + 1 → get_or (set tables (here + count + m) word) (here + count + j) (pos 0) ≡ int_max (get_or old (here + j) (pos 0)) (get_or old (here + (j + width)) (pos 0))
joined_more old tables here count m width word joined kept room low e =
    below_more (λ j. get_or (set tables (here + count + m) word) (here + count + j) (pos 0) ≡ int_max (get_or old (here + j) (pos 0)) (get_or old (here + (j + width)) (pos 0))) m
    (λ j l. let ne : here + count + j ≢ here + count + m = omega arith in get_or-set_other tables (here + count + m) (here + count + j) word (pos 0) ne ∙ joined j l)
    (get_or-set_same tables (here + count + m) word (pos 0) room ∙ e ∙ ap (λ z. int_max z (get_or tables (here + (m + width)) (pos 0))) (kept (here + m) (omega arith)) ∙ ap (int_max (get_or old (here + m) (pos 0))) (kept (here + (m + width)) (omega arith)))

pub kept_more : (old tables : List ℤ) (n k : ℕ) (word : ℤ) → ((j : ℕ) → j < n → get_or tables j (pos 0) ≡ get_or old j (pos 0)) → n ≤ k → (j : ℕ) → j < n → get_or (set tables k word) j (pos 0) ≡ get_or old j (pos 0)
kept_more old tables n k word kept h j l = let ne : j ≢ k = omega arith in get_or-set_other tables k j word (pos 0) ne ∙ kept j l

pub done_more : (old words left right : List ℤ) (c : ℕ) (word : ℤ) → ((j : ℕ) → j < c → get_or words j (pos 0) ≡ int_max (get_or old j (pos 0)) (int_max (get_or left j (pos 0)) (get_or right j (pos 0)))) → ((j : ℕ) → c ≤ j → get_or words j (pos 0) ≡ get_or old j (pos 0)) → c < length words → word ≡ int_max (get_or words c (pos 0)) (int_max (get_or left c (pos 0)) (get_or right c (pos 0))) → (j : ℕ) → j < c + 1 → get_or (set words c word) j (pos 0) ≡ int_max (get_or old j (pos 0)) (int_max (get_or left j (pos 0)) (get_or right j (pos 0)))
done_more old words left right c word done rest room e =
    below_more (λ j. get_or (set words c word) j (pos 0) ≡ int_max (get_or old j (pos 0)) (int_max (get_or left j (pos 0)) (get_or right j (pos 0)))) c
    (λ j l. let ne : j ≢ c = omega arith in get_or-set_other words c j word (pos 0) ne ∙ done j l)
    (get_or-set_same words c word (pos 0) room ∙ e ∙ ap (λ z. int_max z (int_max (get_or left c (pos 0)) (get_or right c (pos 0)))) (rest c (omega arith)))

pub rest_more : (old words : List ℤ) (c : ℕ) (word : ℤ) → ((j : ℕ) → c ≤ j → get_or words j (pos 0) ≡ get_or old j (pos 0)) → (j : ℕ) → c + 1 ≤ j → get_or (set words c word) j (pos 0) ≡ get_or old j (pos 0)
rest_more old words c word rest j l = let ne : j ≢ c = omega arith in get_or-set_other words c j word (pos 0) ne ∙ rest j (omega arith)

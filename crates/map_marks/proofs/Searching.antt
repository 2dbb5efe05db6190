-- Going through marks one by one.
use Rattle.std.proofs.Common.{◌≡◌, ℕ, ◌+◌, ◌<◌, ◌≤◌, Bool, true, false, cond, not, List, [], ◌∷◌, length, get_or, drop, map, filter, refl, sym, ◌∙◌, ap, arith, ℤ, Option, Some, None}
use Rattle.std.proofs.lemmas.List.{drop_more, drop_all}
use Rattle.map_defs.specs.Ops.{Name}
use Rattle.map_edits.specs.Marks.{Mark as Kept, is_mark, find_mark}
use Rattle.map_marks.specs.declared.mark.Mark.{Mark}
use Rattle.map_marks.specs.Views.{mark_of}

-- the marks from place i on
abbrev pub kept_from : List Mark → ℕ → List Kept
kept_from marks i = map mark_of (drop i marks)

pub next_kept : (marks : List Mark) (i : ℕ) (m : Mark) → i < length marks → m ≡ get_or marks i m → kept_from marks i ≡ mark_of m ∷ kept_from marks (i + 1)
next_kept marks i m h e = ap (map mark_of) (drop_more marks i m h) ∙ ap (λ (x : Mark). mark_of x ∷ kept_from marks (i + 1)) (sym e)

pub none_kept : (marks : List Mark) (i : ℕ) → length marks ≤ i → kept_from marks i ≡ []
none_kept marks i h = ap (map mark_of) (drop_all i marks h)

module _ (marks : List Mark) (n : Name) (z : ℤ) where
  pub found_later : (i : ℕ) (m : Mark) (found : Option (List ℕ)) → i < length marks → m ≡ get_or marks i m → is_mark n z (mark_of m) ≡ false → find_mark (kept_from marks i) n z ≡ found → find_mark (kept_from marks (i + 1)) n z ≡ found
  found_later i m found h e t f =
      let step : find_mark (kept_from marks i) n z ≡ find_mark (kept_from marks (i + 1)) n z = rw (next_kept marks i m h e, t) refl in
      sym step ∙ f

  pub found_here : (i : ℕ) (m : Mark) (found : Option (List ℕ)) → i < length marks → m ≡ get_or marks i m → is_mark n z (mark_of m) ≡ true → find_mark (kept_from marks i) n z ≡ found → Some m.text ≡ found
  found_here i m found h e t f =
      let step : find_mark (kept_from marks i) n z ≡ Some m.text = rw (next_kept marks i m h e, t) refl in
      sym step ∙ f

  pub found_none : (i : ℕ) (found : Option (List ℕ)) → length marks ≤ i → find_mark (kept_from marks i) n z ≡ found → None ≡ found
  found_none i found h f =
      let step : find_mark (kept_from marks i) n z ≡ None = rw (none_kept marks i h) refl in
      sym step ∙ f

  -- how many others there are from place i on
  abbrev pub others_from : ℕ → ℕ
  others_from i = length (filter (λ (m : Kept). not (is_mark n z m)) (kept_from marks i))

-- a filter of the marks, and of what is seen of them
pub kept-filter : (p : Kept → Bool) (marks : List Mark) → map mark_of (filter (λ (m : Mark). p (mark_of m)) marks) ≡ filter p (map mark_of marks)
kept-filter p [] = refl
kept-filter p (m ∷ ms) = by_test (p (mark_of m)) refl (kept-filter p ms)
  where
    by_test : (b : Bool) → p (mark_of m) ≡ b → map mark_of (filter (λ (m : Mark). p (mark_of m)) ms) ≡ filter p (map mark_of ms) → map mark_of (filter (λ (m : Mark). p (mark_of m)) (m ∷ ms)) ≡ filter p (map mark_of (m ∷ ms))
    by_test true e rest = rw e (ap (λ (l : List Kept). mark_of m ∷ l) rest)
    by_test false e rest = rw e rest

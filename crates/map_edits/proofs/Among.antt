-- Names among names.
use Rattle.std.proofs.Common.{◌≡◌, ℕ, ◌≤◌, max, Bool, true, false, List, [], ◌∷◌, map, fold, bytes_eq, inl, inr, refl, sym, ap, ◌∙◌, arith, Option, Some, None}
use Rattle.std.specs.List.{list_any}
use Rattle.std.proofs.Math.Nat.{max-le}
use Rattle.std.proofs.lemmas.Slice.Eq.{bytes_eq-Decides}
use Rattle.std.proofs.lemmas.Bool.{false≢true, both_ways, or_cases, or_left, or_right, false_from_ne_true}
use Rattle.std.proofs.lemmas.Option.{none-some}
use Rattle.map_defs.specs.Ops.{Name}
use Rattle.map_edits.specs.Laws.{is_among}
use Rattle.map_nums.specs.Options.{first_some}

pub same_name : (a b : Name) → bytes_eq a b ≡ true → a ≡ b
same_name a b h = (bytes_eq-Decides a b).0 h

pub bytes_eq-self : (a : Name) → bytes_eq a a ≡ true
bytes_eq-self a = (bytes_eq-Decides a a).1 refl

-- ---- some name passes, or none

pub any_at : (f : Name → Bool) (ms : List Name) (m : Name) → is_among m ms ≡ true → f m ≡ true → list_any f ms ≡ true
any_at f [] m e h = absurd (false≢true e)
any_at f (x ∷ xs) m e h = elim (or_cases (bytes_eq x m) (is_among m xs) e) [
  | inl same ↦ or_left (f x) (list_any f xs) (ap f (same_name x m same) ∙ h)
  | inr later ↦ or_right (f x) (list_any f xs) (any_at f xs m later h)
]

abbrev IsFound : (Name → Bool) → List Name → Type 0
IsFound f ms = (m : Name) × (is_among m ms ≡ true) × (f m ≡ true)

pub any_found : (f : Name → Bool) (ms : List Name) → list_any f ms ≡ true → IsFound f ms
any_found f [] e = absurd (false≢true e)
any_found f (x ∷ xs) e = elim (or_cases (f x) (list_any f xs) e) [
  | inl h ↦ (x, or_left (bytes_eq x x) (is_among x xs) (bytes_eq-self x), h)
  | inr later ↦ let r = any_found f xs later in (r.0, or_right (bytes_eq x r.0) (is_among r.0 xs) r.1, r.2)
]

pub none_at : (f : Name → Bool) (ms : List Name) (m : Name) → is_among m ms ≡ true → list_any f ms ≡ false → f m ≡ false
none_at f ms m a e = false_from_ne_true (f m) (λ h. both_ways (list_any f ms) e (any_at f ms m a h))

pub any_none : (f : Name → Bool) (ms : List Name) → ((m : Name) → is_among m ms ≡ true → f m ≡ false) → list_any f ms ≡ false
any_none f ms h = false_from_ne_true (list_any f ms) (λ e. let r = any_found f ms e in both_ways (f r.0) (h r.0 r.1) r.2)

pub any_more : (f g : Name → Bool) (ms : List Name) → ((m : Name) → f m ≡ true → g m ≡ true) → list_any f ms ≡ true → list_any g ms ≡ true
any_more f g ms h e = let r = any_found f ms e in any_at g ms r.0 r.1 (h r.0 r.2)

-- ---- functions that agree on the names

pub map_agree : {X : Type 0} (f g : Name → X) (ms : List Name) → ((m : Name) → is_among m ms ≡ true → f m ≡ g m) → map f ms ≡ map g ms
map_agree f g [] same = refl
map_agree f g (x ∷ xs) same =
    let first : f x ≡ g x = same x (or_left (bytes_eq x x) (is_among x xs) (bytes_eq-self x)) in
    let rest : map f xs ≡ map g xs = map_agree f g xs (λ m a. same m (or_right (bytes_eq x m) (is_among m xs) a)) in
    cc

-- ---- the greatest of a number for each name

pub fold_max_le : (f : Name → ℕ) (b d : ℕ) (ms : List Name) → d ≤ b → ((m : Name) → is_among m ms ≡ true → f m ≤ b) → fold (λ a m. max a (f m)) d ms ≤ b
fold_max_le f b d [] h below = h
fold_max_le f b d (x ∷ xs) h below =
    let first : f x ≤ b = below x (or_left (bytes_eq x x) (is_among x xs) (bytes_eq-self x)) in
    fold_max_le f b (max d (f x)) xs (max-le h first) (λ m a. below m (or_right (bytes_eq x m) (is_among m xs) a))

fold_max_from : (f : Name → ℕ) (d : ℕ) (ms : List Name) → d ≤ fold (λ a m. max a (f m)) d ms
fold_max_from f d [] = omega arith
fold_max_from f d (x ∷ xs) = let rest = fold_max_from f (max d (f x)) xs in omega arith

pub fold_max_at : (f : Name → ℕ) (d : ℕ) (ms : List Name) (m : Name) → is_among m ms ≡ true → f m ≤ fold (λ a m. max a (f m)) d ms
fold_max_at f d [] m a = absurd (false≢true a)
fold_max_at f d (x ∷ xs) m a = elim (or_cases (bytes_eq x m) (is_among m xs) a) [
  | inl same ↦ let named : f x ≡ f m = ap f (same_name x m same) in let from = fold_max_from f (max d (f x)) xs in omega arith
  | inr later ↦ fold_max_at f (max d (f x)) xs m later
]

pub fold_max_agree : (f g : Name → ℕ) (d : ℕ) (ms : List Name) → ((m : Name) → is_among m ms ≡ true → f m ≡ g m) → fold (λ a m. max a (f m)) d ms ≡ fold (λ a m. max a (g m)) d ms
fold_max_agree f g d [] same = refl
fold_max_agree f g d (x ∷ xs) same =
    let first : f x ≡ g x = same x (or_left (bytes_eq x x) (is_among x xs) (bytes_eq-self x)) in
    ap (λ q. fold (λ a m. max a (f m)) (max d q) xs) first ∙ fold_max_agree f g (max d (g x)) xs (λ m a. same m (or_right (bytes_eq x m) (is_among m xs) a))

pub bytes_eq-turned : (a b : Name) → bytes_eq a b ≡ false → bytes_eq b a ≡ false
bytes_eq-turned a b h = false_from_ne_true (bytes_eq b a) (λ e. both_ways (bytes_eq a b) h ((bytes_eq-Decides a b).1 (sym (same_name b a e))))

-- ---- where none of a list has something, what is named in it hasn't

pub none_of_named : {X Y : Type 0} (name : X → Name) (f : Name → Option Y) (n : Name) (xs : List X) → first_some (map (λ x. f (name x)) xs) ≡ None → list_any (λ x. bytes_eq (name x) n) xs ≡ true → f n ≡ None
none_of_named name f n [] none named = absurd (false≢true named)
none_of_named {X} {Y} name f n (x ∷ xs) none named = go (f (name x)) refl none (none_of_named name f n xs)
  where
    go : (o : Option Y) → f (name x) ≡ o → first_some (o ∷ map (λ y. f (name y)) xs) ≡ None → (first_some (map (λ y. f (name y)) xs) ≡ None → list_any (λ y. bytes_eq (name y) n) xs ≡ true → f n ≡ None) → f n ≡ None
    go (Some y) is none rest = absurd (none-some y (sym none))
    go None is none rest = elim (or_cases (bytes_eq (name x) n) (list_any (λ y. bytes_eq (name y) n) xs) named) [ inl same ↦ ap f (sym (same_name (name x) n same)) ∙ is | inr later ↦ rest none later ]

-- What is found among the entries after one is put or dropped, what stays, and how sums over them change.
use Rattle.std.proofs.Common.{◌≡◌, ℕ, ◌+◌, ◌≤◌, true, false, List, [], ◌∷◌, sum_by, flat_map, Option, Some, None, bytes_eq, inl, inr, refl, ap, ◌∙◌, arith}
use Rattle.std.proofs.lemmas.Bool.{cases_Bool}
use Rattle.std.proofs.lemmas.List.Sums.{sum_by-cons, sum_by-append}
use Rattle.map_defs.specs.Ops.{Name}
use Rattle.map_edits.specs.Entries.{Def, Entry, find_def, put_entry, drop_entry}
use Rattle.map_edits.specs.Laws.{IsApart}
use Rattle.map_edits.proofs.Among.{same_name, bytes_eq-self, bytes_eq-turned}

-- ---- what is found

pub find_put : (es : List Entry) (n : Name) (d : Def) → find_def (put_entry es n d) n ≡ Some d
find_put [] n d = simp bytes_eq-self
find_put (e ∷ es) n d = elim (cases_Bool (bytes_eq e.name n)) [ inl h ↦ simp h | inr h ↦ simp h (find_put es n d) ]

pub find_drop : (es : List Entry) (n : Name) → find_def (drop_entry es n) n ≡ None
find_drop [] n = refl
find_drop (e ∷ es) n = elim (cases_Bool (bytes_eq e.name n)) [ inl h ↦ simp h (find_drop es n) | inr h ↦ simp h (find_drop es n) ]

module _ (n m : Name) (h : bytes_eq m n ≡ false) where
  other_first : (e : Entry) → bytes_eq e.name m ≡ true → bytes_eq e.name n ≡ false
  other_first e k = ap (λ q. bytes_eq q n) (same_name e.name m k) ∙ h

  other_put : (es : List Entry) (d : Def) → find_def (put_entry es n d) m ≡ find_def es m
  other_put [] d = simp (bytes_eq-turned m n h)
  other_put (e ∷ es) d = elim (cases_Bool (bytes_eq e.name m)) [
    | inl k ↦ simp (other_first e k, k)
    | inr k ↦ elim (cases_Bool (bytes_eq e.name n)) [ inl g ↦ simp (g, k) | inr g ↦ simp (g, k) (other_put es d) ]
  ]

  other_drop : (es : List Entry) → find_def (drop_entry es n) m ≡ find_def es m
  other_drop [] = refl
  other_drop (e ∷ es) = elim (cases_Bool (bytes_eq e.name m)) [
    | inl k ↦ simp (other_first e k, k)
    | inr k ↦ elim (cases_Bool (bytes_eq e.name n)) [ inl g ↦ simp (g, k) (other_drop es) | inr g ↦ simp (g, k) (other_drop es) ]
  ]

pub find_put_other : (es : List Entry) (n : Name) (d : Def) (m : Name) → bytes_eq m n ≡ false → find_def (put_entry es n d) m ≡ find_def es m
find_put_other es n d m h = other_put n m h es d

pub find_drop_other : (es : List Entry) (n m : Name) → bytes_eq m n ≡ false → find_def (drop_entry es n) m ≡ find_def es m
find_drop_other es n m h = other_drop n m h es

-- ---- names stay apart

pub apart_put : (es : List Entry) (n : Name) (d : Def) → IsApart es → IsApart (put_entry es n d)
apart_put [] n d apart = (refl, tt)
apart_put (e ∷ es) n d apart = elim (cases_Bool (bytes_eq e.name n)) [ inl h ↦ rw h apart | inr h ↦ rw h (find_put_other es n d e.name h ∙ apart.0, apart_put es n d apart.1) ]

pub apart_drop : (es : List Entry) (n : Name) → IsApart es → IsApart (drop_entry es n)
apart_drop [] n apart = tt
apart_drop (e ∷ es) n apart = elim (cases_Bool (bytes_eq e.name n)) [ inl h ↦ rw h (apart_drop es n apart.1) | inr h ↦ rw h (find_drop_other es n e.name h ∙ apart.0, apart_drop es n apart.1) ]

-- ---- sums over the entries

-- what the entry of a name counts
abbrev pub counted_at : (Entry → ℕ) → Name → Option Def → ℕ
counted_at f n None = 0
counted_at f n (Some d) = f (record { name = n; def = d })

pub sum_put : (f : Entry → ℕ) (es : List Entry) (n : Name) (d : Def) → sum_by f (put_entry es n d) + counted_at f n (find_def es n) ≡ sum_by f es + f (record { name = n; def = d })
sum_put f [] n d = let one = sum_by-cons f (record { name = n; def = d }) [] in omega arith
sum_put f (e ∷ es) n d =
    let rest = sum_put f es n d in let was = sum_by-cons f e es in
    elim (cases_Bool (bytes_eq e.name n)) [
      | inl h ↦
          let now = sum_by-cons f (record e { def = d }) es in
          let named : f (record e { def = d }) ≡ f (record { name = n; def = d }) = ap (λ q. f (record { name = q; def = d })) (same_name e.name n h) in
          let own : f e ≡ f (record { name = n; def = e.def }) = ap (λ q. f (record { name = q; def = e.def })) (same_name e.name n h) in
          rw h (omega arith)
      | inr h ↦ let now = sum_by-cons f e (put_entry es n d) in rw h (omega arith)
    ]

pub sum_drop : (f : Entry → ℕ) (es : List Entry) (n : Name) → sum_by f (drop_entry es n) + counted_at f n (find_def es n) ≤ sum_by f es
sum_drop f [] n = omega arith
sum_drop f (e ∷ es) n =
    let rest = sum_drop f es n in let was = sum_by-cons f e es in
    elim (cases_Bool (bytes_eq e.name n)) [
      | inl h ↦ let own : f e ≡ f (record { name = n; def = e.def }) = ap (λ q. f (record { name = q; def = e.def })) (same_name e.name n h) in rw h (omega arith)
      | inr h ↦ let now = sum_by-cons f e (drop_entry es n) in rw h (omega arith)
    ]

-- of all that the entries stand for
pub sum_flat_map : {X Y : Type 0} (f : Y → ℕ) (g : X → List Y) (xs : List X) → sum_by f (flat_map g xs) ≡ sum_by (λ x. sum_by f (g x)) xs
sum_flat_map f g [] = refl
sum_flat_map f g (x ∷ xs) = let rest = sum_flat_map f g xs in let joined = sum_by-append f (g x) (flat_map g xs) in let both = sum_by-cons (λ x. sum_by f (g x)) x xs in omega arith

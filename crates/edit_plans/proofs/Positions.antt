-- Where a name stands among names.
use Rattle.std.proofs.Common.{◌≡◌, ℕ, zero, suc, ◌+◌, Bool, true, false, cond, List, [], ◌∷◌, ◌++◌, length, get_or, position, Option, Some, None, is_some, option_map, slice_get, bytes_eq, refl, sym, ap, ◌∙◌, arith, Bor, if◌then◌else◌, inl, inr}
use Rattle.std.specs.List.{list_any, position_from}
use Rattle.std.specs.Option.{option_or}
use Rattle.std.proofs.lemmas.Bool.{or_left, or_right, cases_Bool}
use Rattle.std.proofs.lemmas.Option.{none-some, same_Some, slice_get-get_or}
use Rattle.std.proofs.lemmas.List.Quantifiers.{position-Some}
use Rattle.std.proofs.lemmas.Iterator.Adapters.{position_from-zero}
use Rattle.map_defs.specs.Ops.{Name}
use Rattle.map_edits.proofs.Among.{same_name, bytes_eq-self}
use Rattle.edit_plans.specs.Planned.{added_names}

some_from : (p : Name → Bool) (i : ℕ) (xs : List Name) → is_some (position_from p i xs) ≡ list_any p xs
some_from p i [] = refl
some_from p i (x ∷ xs) = elim (cases_Bool (p x)) [ inl h ↦ rw h refl | inr h ↦ rw h (some_from p (i + 1) xs) ]

-- it has a place exactly where it is there
pub some_position : (p : Name → Bool) (xs : List Name) → is_some (position p xs) ≡ list_any p xs
some_position p xs = ap is_some (position_from-zero p xs) ∙ some_from p 0 xs

from_push : (p : Name → Bool) (i : ℕ) (xs : List Name) (a : Name) → position_from p i (xs ++ a ∷ []) ≡ option_or (position_from p i xs) (if p a then Some (i + length xs) else None)
from_push p i [] a = let same : i + 0 ≡ i = omega arith in ap (λ k. if p a then Some k else None) (sym same)
from_push p i (x ∷ xs) a = go (p x) (from_push p (i + 1) xs a ∙ ap (λ k. option_or (position_from p (i + 1) xs) (if p a then Some k else None)) same)
  where
    same : i + 1 + length xs ≡ i + length (x ∷ xs)
    same = omega arith

    go : (b : Bool) → position_from p (i + 1) (xs ++ a ∷ []) ≡ option_or (position_from p (i + 1) xs) (if p a then Some (i + length (x ∷ xs)) else None)
        → cond b (Some i) (position_from p (i + 1) (xs ++ a ∷ [])) ≡ option_or (cond b (Some i) (position_from p (i + 1) xs)) (if p a then Some (i + length (x ∷ xs)) else None)
    go true rest = refl
    go false rest = rest

-- with one name more
pub position_push : (p : Name → Bool) (xs : List Name) (a : Name) → position p (xs ++ a ∷ []) ≡ option_or (position p xs) (if p a then Some (length xs) else None)
position_push p xs a =
    position_from-zero p (xs ++ a ∷ []) ∙ from_push p 0 xs a
    ∙ ap (λ o. option_or o (if p a then Some (0 + length xs) else None)) (sym (position_from-zero p xs))
    ∙ ap (λ k. option_or (position p xs) (if p a then Some k else None)) same
  where
    same : 0 + length xs ≡ length xs
    same = omega arith

-- the name stands at its place
pub position_at : (n : Name) (xs : List Name) (i : ℕ) → position (bytes_eq n) xs ≡ Some i → slice_get xs i ≡ Some n
position_at n xs i e =
    let r = position-Some (bytes_eq n) xs i [] e in
    slice_get-get_or xs i [] r.0 ∙ ap (λ m. Some m) (sym (same_name n (get_or xs i []) r.1))

pub any_at_place : (n : Name) (xs : List Name) (i : ℕ) → slice_get xs i ≡ Some n → list_any (bytes_eq n) xs ≡ true
any_at_place n [] i e = absurd (none-some n e)
any_at_place n (x ∷ xs) zero e = or_left (bytes_eq n x) (list_any (bytes_eq n) xs) (ap (bytes_eq n) (same_Some x n e) ∙ bytes_eq-self n)
any_at_place n (x ∷ xs) (suc i) e = or_right (bytes_eq n x) (list_any (bytes_eq n) xs) (any_at_place n xs i e)

pub get_more : {X : Type 0} (xs ys : List X) (k : ℕ) (x : X) → slice_get xs k ≡ Some x → slice_get (xs ++ ys) k ≡ Some x
get_more [] ys k x e = absurd (none-some x e)
get_more (y ∷ xs) ys zero x e = e
get_more (y ∷ xs) ys (suc k) x e = get_more xs ys k x e

-- the name that comes after all others
pub added_at : (keys : List Name) (o : Option (Bor Name)) (b : Bor Name) (n : Name) (len : ℕ) → o ≡ Some b → position (bytes_eq n) keys ≡ None → bytes_eq n b.now ≡ true → len ≡ length keys
    → Some len ≡ position (bytes_eq n) (keys ++ added_names (option_map (λ m. m.now) o))
added_at keys o b n len is none same count =
    ap (λ k. Some k) count
    ∙ sym (ap (λ q. position (bytes_eq n) (keys ++ added_names (option_map (λ m. m.now) q))) is ∙ position_push (bytes_eq n) keys b.now
    ∙ ap (λ q. option_or q (if bytes_eq n b.now then Some (length keys) else None)) none ∙ ap (λ (c : Bool). if c then Some (length keys) else None) same)

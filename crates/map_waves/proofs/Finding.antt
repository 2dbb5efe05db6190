-- Parts that were found.
use Rattle.std.proofs.Common.{◌≡◌, ℕ, ◌<◌, List, [], ◌∷◌, length, get_or, Option, Some, Result, Ok, Err, refl, sym, subst, ◌∙◌, arith, slice_get}
use Rattle.std.specs.Prelude.{IfOk, IfSome, Vec}
use Rattle.std.specs.List.{sum_by, range_with_len}
use Rattle.std.specs.declared.alloc.Global.{Global}
use Rattle.std.proofs.lemmas.List.Sums.{sum_by-cons}
use Rattle.std.proofs.lemmas.Option.{slice_get_within, get_or_from_slice_get}
use Rattle.map_nums.specs.Grids.{Size}
use Rattle.map_defs.specs.Ops.{Op}
use Rattle.layer_tiles.specs.Changes.{ChangeState}
use Rattle.layer_tiles.specs.Tallies.{TallyState, RisesBy}
use Rattle.layer_tiles.proofs.Rising.{rises_within}
use Rattle.map_waves.specs.Found.{AreFound}

none_in : (xs : List ℕ) → sum_by (λ (k : ℕ). 0) xs ≡ 0
none_in [] = refl
none_in (x ∷ xs) = let rest = none_in xs in let all = sum_by-cons (λ (k : ℕ). 0) x xs in omega (arith, all, rest)

-- jobs without picks
pub quiet_picks : (n x : ℕ) (a b : TallyState) → RisesBy x (sum_by (λ (k : ℕ). 0) (range_with_len 0 n)) a b → RisesBy x 0 a b
quiet_picks n x a b r =
    let none = none_in (range_with_len 0 n) in
    rises_within x (sum_by (λ (k : ℕ). 0) (range_with_len 0 n)) x 0 a b (omega arith) (omega (arith, none)) r

module _ {G P E F : Type 0} (grounded : Size → Op → List ChangeState → ℕ → G → Type 0) (part : Size → Op → List ChangeState → G → ℕ → ℕ → P → Type 0) (s : Size) (op : Op) (operands : List ChangeState) (ground : G) (count : ℕ) (answers : List (Result P E)) where
  pub all_are_found : (r : Result (Vec P Global) F) → grounded s op operands count ground → length answers ≡ count → ((k : ℕ) (d : Result P E) → k < count → IfOk (get_or answers k d) (part s op operands ground count k)) → IfOk r (λ parts. length parts.items ≡ length answers)
      → IfOk r (λ parts. (k : ℕ) (p : P) → slice_get parts.items k ≡ Some p → slice_get answers k ≡ Some (Ok p)) → IfOk r (λ parts. AreFound grounded part s op operands ground parts.items)
  all_are_found (Err e) is all each many from = tt
  all_are_found (Ok parts) is all each many from =
      let n : count ≡ length parts.items = sym (many ∙ all) in record {
        from = subst (λ m. grounded s op operands m ground) n is;
        each = λ k p e.
            (let at = from k p e in
            let one = subst (λ (x : Result P E). IfOk x (part s op operands ground count k)) (get_or_from_slice_get answers k (Ok p) (Ok p) at) (each k (Ok p) (omega (arith, all, slice_get_within answers k (Ok p) at))) in
            subst (λ m. part s op operands ground m k p) n one);
      }

-- what holds of all that may be found holds of this
pub found_so : {Q : Type 0} (P : Q → Type 0) (o : Option Q) (q : Q) → o ≡ Some q → IfSome o P → P q
found_so P o q e h = subst (λ x. IfSome x P) e h

-- what holds from any count on from which the ground was laid holds from this one on
pub found_after : {J H : Type 0} (r : Result J H) (L : TallyState → Type 0) (Q : J → TallyState → Type 0) (a : TallyState) → L a → IfOk r (λ j. (x : TallyState) → L x → Q j x) → IfOk r (λ j. Q j a)
found_after (Ok j) L Q a l h = h a l
found_after (Err e) L Q a l h = tt

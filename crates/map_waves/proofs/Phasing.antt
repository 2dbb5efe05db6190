-- Statements prepared one after another, and phase after phase.
use Rattle.std.proofs.Common.{◌≡◌, ℕ, zero, suc, ◌+◌, ◌-◌, ◌*◌, ◌^◌, ◌<◌, ◌≤◌, List, [], ◌∷◌, ◌++◌, length, get_or, Option, Some, None, slice_get, ◌⊎◌, inl, inr, refl, sym, ap, subst, ◌∙◌, arith}
use Rattle.std.proofs.lemmas.Bool.{cases_lt}
use Rattle.std.proofs.lemmas.Option.{none-some, slice_get_within, slice_get-get_or, slice_get_read, get_or_from_slice_get}
use Rattle.std.proofs.lemmas.List.{length-append, length-map, get_or_append_left, get_or-append_right}
use Rattle.map_nums.specs.Grids.{Size, Cells}
use Rattle.map_defs.specs.Ops.{Op}
use Rattle.layer_tiles.specs.Changes.{ChangeState}
use Rattle.layer_tiles.specs.Tallies.{TallyState, RisesBy}
use Rattle.layer_tiles.proofs.Rising.{rises_then, rises_within}
use Rattle.map_waves.specs.Answers.{total_of}
use Rattle.map_waves.specs.Plans.{Plan, fault_at, change_at, damage_at, work_at}
use Rattle.map_waves.specs.Phases.{AreFaultless}
use Rattle.map_waves.specs.Bases.{kept_by, plan_of}
use Rattle.map_waves.specs.Prepared.{shown, IsPrepared, ArePrepared, changed_in, evaluated_in, worked_in}
use Rattle.map_waves.specs.declared.keeping.Aside.{Aside}
use Rattle.map_waves.specs.declared.keeping.Kept.{Kept}
use Rattle.map_waves.specs.declared.keeping.Made.{Made}
use Rattle.map_waves.specs.declared.plans.Step.{Step}
use Rattle.map_waves.specs.declared.plans.Base.{Base}
use Rattle.map_waves.proofs.Totals.{total_rises}
use Rattle.map_waves.proofs.Reading.{prepared_at}

pub faultless_then : (p : Plan) (first mid end : ℕ) → AreFaultless p first mid → AreFaultless p mid end → AreFaultless p first end
faultless_then p first mid end so_far more j from below = elim (cases_lt j mid) as (λ _. fault_at p j ≡ None) [ inl less ↦ so_far j from less | inr at ↦ more j at below ]

-- ---- elements of a longer list

pub past_end : {X : Type 0} (xs : List X) (i : ℕ) → slice_get xs i ≡ None → length xs ≤ i
past_end [] i e = omega arith
past_end (x ∷ xs) zero e = absurd (none-some x (sym e))
past_end (x ∷ xs) (suc i) e = let rest : length xs ≤ i = past_end xs i e in omega arith

pub get_left : {X : Type 0} (xs ys : List X) (i : ℕ) (x : X) → i < length xs → slice_get (xs ++ ys) i ≡ Some x → slice_get xs i ≡ Some x
get_left xs ys i x less e = slice_get-get_or xs i x less ∙ ap (λ y. Some y) (sym (get_or_append_left xs ys x i less) ∙ get_or_from_slice_get (xs ++ ys) i x x e)

pub get_right : {X : Type 0} (xs ys : List X) (i : ℕ) (x : X) → length xs ≤ i → slice_get (xs ++ ys) i ≡ Some x → slice_get ys (i - length xs) ≡ Some x
get_right xs ys i x more e =
    let whole : i < length (xs ++ ys) = slice_get_within (xs ++ ys) i x e in
    let count = length-append xs ys in
    let less : i - length xs < length ys = omega arith in
    slice_get-get_or ys (i - length xs) x less ∙ ap (λ y. Some y) (sym (get_or-append_right xs ys (length xs) i x refl more) ∙ get_or_from_slice_get (xs ++ ys) i x x e)

pub each_pushed : {X : Type 0} (P : ℕ → X → Type 0) (xs : List X) (y : X) (n : ℕ) → length xs ≡ n → ((k : ℕ) (d : X) → slice_get xs k ≡ Some d → P k d) → P n y
    → (k : ℕ) (d : X) → slice_get (xs ++ y ∷ []) k ≡ Some d → P k d
each_pushed {X} P xs y n count each here k d e = go (cases_lt k (length xs))
  where
    last : (i : ℕ) → k ≡ n + i → slice_get (y ∷ []) i ≡ Some d → P k d
    last zero at is = let same : y ≡ d = cc in let place : n ≡ k = omega arith in subst (λ m. P m d) place (subst (P n) same here)
    last (suc i) at is = absurd (none-some d is)

    go : (k < length xs) ⊎ (length xs ≤ k) → P k d
    go (inl less) = each k d (get_left xs (y ∷ []) k d less e)
    go (inr more) = last (k - length xs) (omega arith) (get_right xs (y ∷ []) k d more e)

module _ {O B : Type 0} (means : O → Op) (suits : Size → Op → List Cells → Aside B → Type 0) (base : Base B) (steps : List (Step O)) where
  -- a list and one that follows it
  pub prepared_then : (first mid : ℕ) (rs more : List (Option (Made B))) → ArePrepared means suits base steps first rs → ArePrepared means suits base steps mid more → first + length rs ≡ mid
      → ArePrepared means suits base steps first (rs ++ more)
  prepared_then first mid rs more these those meets i x r there is = go (cases_lt i (length rs))
    where
      go : (i < length rs) ⊎ (length rs ≤ i) → IsPrepared suits (plan_of means base steps) (first + i) (kept_by base x.kept) r
      go (inl less) = these i x r there (get_left rs more i r less is)
      go (inr at) =
          let same : mid + (i - length rs) ≡ first + i = omega arith in
          subst (λ k. IsPrepared suits (plan_of means base steps) k (kept_by base x.kept) r) same (those (i - length rs) x r (ap (slice_get steps) same ∙ there) (get_right rs more i r at is))

  -- each that is prepared has no fault
  pub prepared_faultless : (first end : ℕ) (rs : List (Option (Made B))) → ArePrepared means suits base steps first rs → first + length rs ≡ end → end ≤ length steps → AreFaultless (plan_of means base steps) first end
  prepared_faultless first end rs these meets within k from below = go (slice_get steps k) refl (slice_get rs (k - first)) refl
    where
      at : first + (k - first) ≡ k
      at = omega arith

      go : (o : Option (Step O)) → slice_get steps k ≡ o → (q : Option (Option (Made B))) → slice_get rs (k - first) ≡ q → fault_at (plan_of means base steps) k ≡ None
      go None e q f = let past : length steps ≤ k = past_end steps k e in absurd (omega arith)
      go (Some x) e None f = let past : length rs ≤ k - first = past_end rs (k - first) f in absurd (omega arith)
      go (Some x) e (Some r) f = sym (ap (fault_at (plan_of means base steps)) at) ∙ (these (k - first) x r (ap (slice_get steps) at ∙ e) f).faultless

-- ---- the tally

pub rises_phase : (f g : ℕ → ℕ) (first end : ℕ) (a b c : TallyState) → first ≤ end → RisesBy (62 * total_of f first) (1000 * total_of g first) a b
    → RisesBy (62 * (total_of f end - total_of f first)) (1000 * (total_of g end - total_of g first)) b c → RisesBy (62 * total_of f end) (1000 * total_of g end) a c
rises_phase f g first end a b c to so_far here =
    rises_within _ _ _ _ a c (omega (arith, total_rises f first end to)) (omega (arith, total_rises g first end to)) (rises_then _ _ _ _ a b c so_far here)

-- ---- the numbers of one that is prepared

pub record AreNumbers {B : Type 0} (p : Plan) (k : ℕ) (r : Option (Made B)) : Type 0 where
  pub changed : changed_in r ≡ length (change_at p k).touched
  pub evaluated : evaluated_in r ≡ length (damage_at p k)
  pub worked : worked_in r ≡ work_at p k
  pub little : worked_in r < 2 ^ 32

touched_count : {B : Type 0} (s : Size) (own : Option (Kept B)) (r : Option (Made B)) → changed_in r ≡ length (shown s own r).touched
touched_count s None None = refl
touched_count s (Some own) None = refl
touched_count s None (Some m) = sym (length-map m.patch.tiles (λ e. e.0))
touched_count s (Some own) (Some m) = sym (length-map m.patch.tiles (λ e. e.0))

pub numbers_at : {O B : Type 0} (means : O → Op) (suits : Size → Op → List Cells → Aside B → Type 0) (base : Base B) (steps : List (Step O)) (rs : List (Option (Made B))) → ArePrepared means suits base steps 0 rs → length rs ≡ length steps
    → (k : ℕ) (r : Option (Made B)) → k < length rs → r ≡ get_or rs k r → AreNumbers (plan_of means base steps) k r
numbers_at {O} {B} means suits base steps rs prepared all k r within read = go (slice_get steps k) refl
  where
    go : (o : Option (Step O)) → slice_get steps k ≡ o → AreNumbers (plan_of means base steps) k r
    go None e = let past : length steps ≤ k = past_end steps k e in absurd (omega arith)
    go (Some x) e =
        let made = prepared_at means suits base steps rs prepared k x r e (slice_get_read rs (length rs) k r refl within read) in
        record {
          changed = touched_count base.extent (kept_by base x.kept) r ∙ ap (λ (c : ChangeState). length c.touched) made.change;
          evaluated = made.evaluated;
          worked = made.worked;
          little = made.little;
        }

-- The statements of a depth that are at work: their jobs, the looks and picks of these within those of the plan, and their first fault.
use Rattle.std.proofs.Common.{◌≡◌, ℕ, zero, suc, ◌≤◌, Bool, true, false, List, [], ◌∷◌, ◌++◌, length, Option, Some, None, slice_get, Result, refl, sym, ap, subst, ◌∙◌, arith, ◌+◌, ◌-◌, ◌*◌, ◌<◌, ◌⊎◌, inl, inr}
use Rattle.std.specs.Prelude.{if◌then◌else◌, sum_by}
use Rattle.std.specs.List.{All}
use Rattle.std.proofs.lemmas.Option.{none-some, same_Some, slice_get_within}
use Rattle.std.proofs.lemmas.List.Elements.{All-head, All-tail}
use Rattle.std.proofs.lemmas.List.Sums.{sum_by-cons, sum_by_push}
use Rattle.std.proofs.lemmas.Bool.{cases_lt}
use Rattle.map_nums.specs.Grids.{Size, Cells}
use Rattle.map_defs.specs.Ops.{Op}
use Rattle.layer_tiles.specs.Changes.{ChangeState}
use Rattle.layer_tiles.specs.Operands.{cells_after}
use Rattle.layer_tiles.specs.declared.kernels.KernelRefusal.{KernelRefusal}
use Rattle.layer_tiles.specs.Tallies.{TallyState, RisesBy}
use Rattle.layer_tiles.proofs.Rising.{rises_none, rises_then, rises_within}
use Rattle.map_waves.specs.Statements.{too_many, damage_by, work_by, fault_in, Fault, wide_at}
use Rattle.map_waves.specs.Keeping.{was_of}
use Rattle.map_waves.specs.Jobs.{JobsState, AreOver, was_in}
use Rattle.map_waves.specs.Answers.{AreJobs, total_of}
use Rattle.map_waves.specs.Plans.{StepDef, Plan, reckoned, operands_at, damage_at, work_at, fault_at, evaluated_to, worked_to}
use Rattle.map_waves.specs.Bases.{kept_by, step_of, plan_of}
use Rattle.map_waves.specs.Tasks.{IsTask, reckoned_kept, StaysAt, AreTasks, places_of, AreBetween}
use Rattle.map_waves.specs.Begun.{IsBegun, AreBegun, IsHalted, halted_looks, halted_picks}
use Rattle.map_waves.specs.declared.keeping.Aside.{Aside}
use Rattle.map_waves.specs.declared.keeping.Kept.{Kept}
use Rattle.map_waves.specs.declared.tasks.Task.{Task}
use Rattle.map_waves.specs.declared.plans.Step.{Step}
use Rattle.map_waves.specs.declared.plans.Base.{Base}
use Rattle.map_waves.specs.Seating.{all_rises, row_of, AreAnswered}
use Rattle.map_waves.specs.Phases.{AreAlike, AreFaultless, IsFirstFault, IsStop, IsReachedAt}
use Rattle.map_waves.specs.Refusals.{IsRefusalOf, AllOkTo}
use Rattle.map_waves.specs.Stops.{refused_at, IsStopBy, by_job, by_viewers}
use Rattle.map_waves.specs.declared.halts.Stop.{Stop}
use Rattle.map_waves.specs.declared.halts.Stop.TheVariants.{Viewers, Overflow, NoMemory}
use Rattle.map_waves.proofs.Rowing.{some_at, map_get, row_answers}
use Rattle.map_waves.proofs.Making.{all_get, step_is}
use Rattle.map_waves.proofs.Totals.{places_within}
use Rattle.layer_tiles.specs.declared.kernels.KernelRefusal.TheVariants as kernels

-- a place, and what is before it
record IsPlaceOf (p : Plan) (low end x : ℕ) : Type 0 where
  from : low ≤ x
  below : x < end
  before : AreFaultless p low x

-- where the statements that stay, and those at work before a place, have no fault
place_of : (p : Plan) (stays : ℕ → Type 0) (low end : ℕ) (xs : List ℕ) (i x : ℕ) → AreBetween stays low end xs → slice_get xs i ≡ Some x → ((k : ℕ) → k < x → stays k → fault_at p k ≡ None)
    → ((j y : ℕ) → j < i → slice_get xs j ≡ Some y → fault_at p y ≡ None) → IsPlaceOf p low end x
place_of p stays low end [] i x between e quiet none = absurd (none-some x e)
place_of p stays low end (y ∷ xs) zero x between e quiet none =
    let same : y ≡ x = cc in
    let from = between.0 in
    let below = between.1 in
    record { from = omega arith; below = omega arith; before = λ k low_k high. quiet k high (between.2 k low_k (omega arith)) }
place_of p stays low end (y ∷ xs) (suc i) x between e quiet none =
    let rest = place_of p stays (suc y) end xs i x between.3 e quiet (λ j z h f. none (suc j) z (omega arith) f) in
    let from = between.0 in
    let high = rest.from in
    record { from = omega arith; below = rest.below; before = λ k low_k below. go k low_k below rest.before (cases_lt k y) (cases_lt y k) }
  where
    go : (k : ℕ) → low ≤ k → k < x → AreFaultless p (suc y) x → (k < y) ⊎ (y ≤ k) → (y < k) ⊎ (k ≤ y) → fault_at p k ≡ None
    go k low_k below later (inl less) after = quiet k below (between.2 k low_k less)
    go k low_k below later (inr at) (inl more) = later k (omega arith) below
    go k low_k below later (inr at) (inr most) = let same : k ≡ y = omega arith in ap (fault_at p) same ∙ none 0 y (omega arith) refl

-- ---- the jobs of statements at work

was_reckoned : {B : Type 0} (b : Bool) (o : Option (Kept B)) → was_of (if b then None else o) ≡ (if b then None else was_of o)
was_reckoned true o = refl
was_reckoned false o = refl

module _ {O B W R : Type 0} (means : O → Op) (formed : O → Type 0) (suits : Size → Op → List Cells → Aside B → Type 0) (sound : JobsState O B W → Type 0) (first : JobsState O B W → ℕ) (looks picks : JobsState O B W → ℕ → ℕ) (pieces : JobsState O B W → ℕ → Result R KernelRefusal → Type 0)
    (base : Base B) (steps : List (Step O)) where
  abbrev plan : Plan
  plan = plan_of means base steps

  abbrev dmg : ℕ → ℕ
  dmg k = length (damage_at plan k)

  -- what is reckoned of a statement and its operands is what is reckoned of the plan's
  pub step_as : {X : Type 0} (f : Op → Option Cells → List ChangeState → X) (t : Task) → IsTask means formed suits base steps t → (x : Step O) → slice_get steps t.place ≡ Some x
      → f (means x.op) (was_of (reckoned_kept base x)) t.operands ≡ f (plan.step t.place).op (reckoned (plan.step t.place)) (operands_at plan t.place)
  step_as f t task x e =
      ap (λ w. f (means x.op) w t.operands) (was_reckoned x.written (kept_by base x.kept))
      ∙ ap (f (means x.op) (reckoned (step_of means base x))) task.is
      ∙ ap (λ (d : StepDef). f d.op (reckoned d) (operands_at plan t.place)) (sym (step_is means base steps t.place x e))

  over_as : {X : Type 0} (f : Size → Op → Option Cells → List ChangeState → X) (t : Task) (j : JobsState O B W) (x : Step O) → AreOver j base.extent x.op t.operands (reckoned_kept base x)
      → f j.size (means j.op) (was_in j) j.operands ≡ f base.extent (means x.op) (was_of (reckoned_kept base x)) t.operands
  over_as f t j x over =
      ap (λ s. f s (means j.op) (was_in j) j.operands) over.size
      ∙ ap (λ o. f base.extent (means o) (was_in j) j.operands) over.op
      ∙ ap (λ k. f base.extent (means x.op) (was_of k) j.operands) over.kept
      ∙ ap (f base.extent (means x.op) (was_of (reckoned_kept base x))) over.operands

  pub begun_as : {X : Type 0} (f : Size → Op → Option Cells → List ChangeState → X) (t : Task) (j : JobsState O B W) → IsTask means formed suits base steps t → IsBegun means sound first looks picks pieces base steps t j
      → f j.size (means j.op) (was_in j) j.operands ≡ f base.extent (plan.step t.place).op (reckoned (plan.step t.place)) (operands_at plan t.place)
  begun_as f t j task begun =
      let found = some_at steps t.place task.below in
      over_as f t j found.0 (begun.over found.0 found.1) ∙ step_as (f base.extent) t task found.0 found.1

  pub begun_damage : (t : Task) (j : JobsState O B W) → IsTask means formed suits base steps t → IsBegun means sound first looks picks pieces base steps t j → length (damage_by j.size (means j.op) (was_in j) j.operands) ≡ dmg t.place
  begun_damage t j task begun = begun_as (λ s op was os. length (damage_by s op was os)) t j task begun

  pub begun_work : (t : Task) (j : JobsState O B W) → IsTask means formed suits base steps t → IsBegun means sound first looks picks pieces base steps t j → work_by j.size (means j.op) (was_in j) j.operands ≡ work_at plan t.place
  begun_work t j task begun = begun_as (λ s op was os. work_by s op was os) t j task begun

  pub begun_fault : (t : Task) (j : JobsState O B W) → IsTask means formed suits base steps t → IsBegun means sound first looks picks pieces base steps t j → fault_in j.size (means j.op) (cells_after j.operands) ≡ fault_at plan t.place
  begun_fault t j task begun = begun_as (λ s op was os. fault_in s op (cells_after os)) t j task begun

  -- ---- in a list

  pub begun_push : (ts : List Task) (js : List (JobsState O B W)) (t : Task) (j : JobsState O B W) → AreBegun means sound first looks picks pieces base steps ts js → slice_get ts (length js) ≡ Some t → IsBegun means sound first looks picks pieces base steps t j
      → AreBegun means sound first looks picks pieces base steps ts (js ++ j ∷ [])
  begun_push [] [] t j are e here = absurd (none-some t e)
  begun_push (u ∷ ts) [] t j are e here = let same : t ≡ u = cc in (subst (λ u. IsBegun means sound first looks picks pieces base steps u j) same here, tt)
  begun_push [] (k ∷ js) t j are e here = absurd are
  begun_push (u ∷ ts) (k ∷ js) t j are e here = (are.0, begun_push ts js t j are.1 e here)

  pub begun_get : (ts : List Task) (js : List (JobsState O B W)) (i : ℕ) (t : Task) (j : JobsState O B W) → AreBegun means sound first looks picks pieces base steps ts js → slice_get ts i ≡ Some t → slice_get js i ≡ Some j
      → IsBegun means sound first looks picks pieces base steps t j
  begun_get ts [] i t j are e f = absurd (none-some j f)
  begun_get [] (k ∷ js) i t j are e f = absurd are
  begun_get (u ∷ ts) (k ∷ js) zero t j are e f =
      let same : u ≡ t = cc in
      let other : k ≡ j = cc in
      subst (λ u. IsBegun means sound first looks picks pieces base steps u j) same (subst (λ k. IsBegun means sound first looks picks pieces base steps u k) other are.0)
  begun_get (u ∷ ts) (k ∷ js) (suc i) t j are e f = begun_get ts js i t j are.1 e f

  pub begun_jobs : (ts : List Task) (js : List (JobsState O B W)) → AreBegun means sound first looks picks pieces base steps ts js → All (AreJobs means sound first looks picks pieces) js
  begun_jobs ts [] are i d h = absurd (omega arith)
  begun_jobs [] (j ∷ js) are i d h = absurd are
  begun_jobs (t ∷ ts) (j ∷ js) are zero d h = are.0.jobs
  begun_jobs (t ∷ ts) (j ∷ js) are (suc i) d h = begun_jobs ts js are.1 i d (omega arith)

  pub begun_short : (ts : List Task) (js : List (JobsState O B W)) → AreBegun means sound first looks picks pieces base steps ts js → length js ≤ length ts
  begun_short ts [] are = omega arith
  begun_short [] (j ∷ js) are = absurd are
  begun_short (t ∷ ts) (j ∷ js) are = let rest = begun_short ts js are.1 in omega arith

  -- ---- a statement whose jobs are begun

  pub begun_more : (ts : List Task) (js : List (JobsState O B W)) (t : Task) (j : JobsState O B W) (x : Step O) → AreBegun means sound first looks picks pieces base steps ts js → slice_get ts (length js) ≡ Some t → slice_get steps t.place ≡ Some x
      → AreJobs means sound first looks picks pieces j → AreOver j base.extent x.op t.operands (reckoned_kept base x) → AreBegun means sound first looks picks pieces base steps ts (js ++ j ∷ [])
  begun_more ts js t j x are at there jobs over =
      begun_push ts js t j are at (record { jobs = jobs; over = λ y e. subst (λ (z : Step O). AreOver j base.extent z.op t.operands (reckoned_kept base z)) (same_Some x y (sym there ∙ e)) over })

  -- why it has no jobs
  pub halted_fault : (ts : List Task) (i : ℕ) (t : Task) (x : Step O) (n : ℕ) → All (IsTask means formed suits base steps) ts → slice_get ts i ≡ Some t → slice_get steps t.place ≡ Some x
      → fault_in base.extent (means x.op) (cells_after t.operands) ≡ Some (too_many n) → IsHalted plan ts i (Some (t.place, n))
  halted_fault ts i t x n all at there fault =
      let task = all_get (IsTask means formed suits base steps) ts all i t at in
      (t, at, refl, sym (step_as (λ op was os. fault_in base.extent op (cells_after os)) t task x there) ∙ fault)

  -- ---- their looks and picks, within those of the plan

  abbrev sums : (ℕ → ℕ) → List Task → ℕ
  sums f ts = sum_by f (places_of ts)

  pub record AreWithin (ts : List Task) (js : List (JobsState O B W)) (l p : ℕ) : Type 0 where
    pub few_looks : sum_by first js + all_rises looks js + l ≤ 60 * sums dmg ts
    pub few_picks : all_rises picks js + p ≤ 1000 * sums (work_at plan) ts

  within_more : (t : Task) (ts : List Task) (j : JobsState O B W) (js : List (JobsState O B W)) (l p : ℕ) → IsTask means formed suits base steps t → IsBegun means sound first looks picks pieces base steps t j → AreWithin ts js l p → AreWithin (t ∷ ts) (j ∷ js) l p
  within_more t ts j js l p task begun rest = record {
    few_looks = omega (arith, begun.jobs.looks_fit, begun_damage t j task begun, sum_by-cons first j js, sum_by-cons (λ (j : JobsState O B W). total_of (looks j) j.count) j js, sum_by-cons dmg t.place (places_of ts), rest.few_looks);
    few_picks = omega (arith, begun.jobs.picks_fit, begun_work t j task begun, sum_by-cons (λ (j : JobsState O B W). total_of (picks j) j.count) j js, sum_by-cons (work_at plan) t.place (places_of ts), rest.few_picks);
  }

  pub within_all : (ts : List Task) (js : List (JobsState O B W)) → All (IsTask means formed suits base steps) ts → AreBegun means sound first looks picks pieces base steps ts js → AreWithin ts js 0 0
  within_all ts [] all are = record { few_looks = omega arith; few_picks = omega arith }
  within_all [] (j ∷ js) all are = absurd are
  within_all (t ∷ ts) (j ∷ js) all are =
      within_more t ts j js 0 0 (All-head (IsTask means formed suits base steps) t ts all) are.0 (within_all ts js (All-tail (IsTask means formed suits base steps) t ts all) are.1)

  pub within_next : (ts : List Task) (js : List (JobsState O B W)) (t : Task) → All (IsTask means formed suits base steps) ts → AreBegun means sound first looks picks pieces base steps ts js → slice_get ts (length js) ≡ Some t
      → AreWithin ts js (60 * dmg t.place) (1000 * work_at plan t.place)
  within_next [] [] t all are e = absurd (none-some t e)
  within_next (u ∷ ts) [] t all are e =
      let place : u.place ≡ t.place = ap (λ (t : Task). t.place) (same_Some u t e) in
      record { few_looks = omega (arith, sum_by-cons dmg u.place (places_of ts), ap dmg place); few_picks = omega (arith, sum_by-cons (work_at plan) u.place (places_of ts), ap (work_at plan) place) }
  within_next [] (j ∷ js) t all are e = absurd are
  within_next (u ∷ ts) (j ∷ js) t all are e =
      within_more u ts j js (60 * dmg t.place) (1000 * work_at plan t.place) (All-head (IsTask means formed suits base steps) u ts all) are.0
      (within_next ts js t (All-tail (IsTask means formed suits base steps) u ts all) are.1 e)

  pub within_halted : (ts : List Task) (js : List (JobsState O B W)) (h : Option (ℕ × ℕ)) → All (IsTask means formed suits base steps) ts → AreBegun means sound first looks picks pieces base steps ts js → IsHalted plan ts (length js) h
      → AreWithin ts js (halted_looks plan h) (halted_picks plan h)
  within_halted ts js None all are halted = within_all ts js all are
  within_halted ts js (Some q) all are halted =
      let next = within_next ts js halted.0 all are halted.1 in
      subst (λ (k : ℕ). AreWithin ts js (60 * dmg k) (1000 * work_at plan k)) (sym halted.2) next

  -- the looks and picks of a depth, and those at its end
  pub phase_rises : (low end : ℕ) (ts : List Task) (js : List (JobsState O B W)) (h : Option (ℕ × ℕ)) (a b c d : TallyState) → AreTasks means formed suits base steps low end ts → low ≤ end → AreBegun means sound first looks picks pieces base steps ts js
      → IsHalted plan ts (length js) h → RisesBy (sum_by first js + halted_looks plan h) (halted_picks plan h) a b → RisesBy (all_rises looks js) (all_rises picks js) b c → RisesBy (2 * sums dmg ts) 0 c d
      → RisesBy (62 * (evaluated_to plan end - evaluated_to plan low)) (1000 * (worked_to plan end - worked_to plan low)) a d
  phase_rises low end ts js h a b c d tasks some are halted begun done made =
      let within = within_halted ts js h tasks.each are halted in
      let damage = places_within dmg (StaysAt means suits base steps) low end (places_of ts) tasks.between some in
      let work = places_within (work_at plan) (StaysAt means suits base steps) low end (places_of ts) tasks.between some in
      rises_within _ _ _ _ a d (omega (arith, within.few_looks, damage)) (omega (arith, within.few_picks, work)) (rises_then _ _ _ _ a c d (rises_then _ _ _ _ a b c begun done) made)

  pub stopped_rises : (low end : ℕ) (ts : List Task) (js : List (JobsState O B W)) (h : Option (ℕ × ℕ)) (a b c : TallyState) → AreTasks means formed suits base steps low end ts → low ≤ end → AreBegun means sound first looks picks pieces base steps ts js
      → IsHalted plan ts (length js) h → RisesBy (sum_by first js + halted_looks plan h) (halted_picks plan h) a b → RisesBy (all_rises looks js) (all_rises picks js) b c
      → RisesBy (62 * (evaluated_to plan end - evaluated_to plan low)) (1000 * (worked_to plan end - worked_to plan low)) a c
  stopped_rises low end ts js h a b c tasks some are halted begun done =
      phase_rises low end ts js h a b c c tasks some are halted begun done (rises_within 0 0 _ 0 c c (omega arith) (omega arith) (rises_none c))

  pub short_rises : (low end : ℕ) (ts : List Task) (a b : TallyState) → AreTasks means formed suits base steps low end ts → low ≤ end → RisesBy (60 * sums dmg ts) (1000 * sums (work_at plan) ts) a b
      → RisesBy (62 * (evaluated_to plan end - evaluated_to plan low)) (1000 * (worked_to plan end - worked_to plan low)) a b
  short_rises low end ts a b tasks some so_far =
      let work = places_within (work_at plan) (StaysAt means suits base steps) low end (places_of ts) tasks.between some in
      rises_within _ _ _ _ a b (omega (arith, places_within dmg (StaysAt means suits base steps) low end (places_of ts) tasks.between some)) (omega (arith, work)) so_far

  -- ---- while jobs are begun

  pub firsts_more : (js : List (JobsState O B W)) (j : JobsState O B W) (a b c : TallyState) → RisesBy (sum_by first js) 0 a b → RisesBy (first j) 0 b c → RisesBy (sum_by first (js ++ j ∷ [])) 0 a c
  firsts_more js j a b c so_far here =
      rises_within _ _ _ _ a c (omega (arith, sum_by_push first js j)) (omega arith) (rises_then _ _ _ _ a b c so_far here)

  -- the rise of a statement with too many viewers, or for which memory is wanting
  pub halted_rises : (ts : List Task) (js : List (JobsState O B W)) (t : Task) (x : Step O) (a b c : TallyState) → All (IsTask means formed suits base steps) ts → slice_get ts (length js) ≡ Some t → slice_get steps t.place ≡ Some x
      → RisesBy (sum_by first js) 0 a b
      → RisesBy (60 * length (damage_by base.extent (means x.op) (was_of (reckoned_kept base x)) t.operands)) (1000 * work_by base.extent (means x.op) (was_of (reckoned_kept base x)) t.operands) b c
      → RisesBy (sum_by first js + 60 * dmg t.place) (1000 * work_at plan t.place) a c
  halted_rises ts js t x a b c all at there so_far here =
      let task = all_get (IsTask means formed suits base steps) ts all (length js) t at in
      let damage = step_as (λ op was os. length (damage_by base.extent op was os)) t task x there in
      let work = step_as (λ op was os. work_by base.extent op was os) t task x there in
      rises_within _ _ _ _ a c (omega (arith, damage)) (omega (arith, work)) (rises_then _ _ _ _ a b c so_far here)

  pub short_next : (ts : List Task) (js : List (JobsState O B W)) (t : Task) (x : Step O) (a b c : TallyState) → All (IsTask means formed suits base steps) ts → AreBegun means sound first looks picks pieces base steps ts js
      → slice_get ts (length js) ≡ Some t → slice_get steps t.place ≡ Some x → RisesBy (sum_by first js) 0 a b
      → RisesBy (60 * length (damage_by base.extent (means x.op) (was_of (reckoned_kept base x)) t.operands)) (1000 * work_by base.extent (means x.op) (was_of (reckoned_kept base x)) t.operands) b c
      → RisesBy (60 * sums dmg ts) (1000 * sums (work_at plan) ts) a c
  short_next ts js t x a b c all are at there so_far here =
      let within = within_next ts js t all are at in
      rises_within _ _ _ _ a c (omega (arith, within.few_looks)) (omega (arith, within.few_picks)) (halted_rises ts js t x a b c all at there so_far here)

  -- ---- their first fault

  module _ (low end : ℕ) (ts : List Task) (js : List (JobsState O B W)) (rs : List (Result R KernelRefusal))
      (tasks : AreTasks means formed suits base steps low end ts) (are : AreBegun means sound first looks picks pieces base steps ts js) (answered : AreAnswered pieces js rs) where
    task_at : (i : ℕ) (t : Task) → slice_get ts i ≡ Some t → IsTask means formed suits base steps t
    task_at i t e = all_get (IsTask means formed suits base steps) ts tasks.each i t e

    -- a statement whose pieces are all there
    pub row_faultless : (i : ℕ) (t : Task) → slice_get ts i ≡ Some t → i < length js → AllOkTo js rs (i + 1) → fault_at plan t.place ≡ None
    row_faultless i t e within ok =
        let found = some_at js i within in
        let begun = begun_get ts js i t found.0 are e found.1 in
        sym (begun_fault t found.0 (task_at i t e) begun)
        ∙ begun.jobs.none_wide (row_of js rs i) (row_answers pieces js rs answered i found.0 found.1) (ok i (omega arith))

    place_at : (i : ℕ) (t : Task) → slice_get ts i ≡ Some t → AllOkTo js rs i → i ≤ length js → IsPlaceOf plan low end t.place
    place_at i t e ok most =
        place_of plan (StaysAt means suits base steps) low end (places_of ts) i t.place tasks.between (map_get (λ (t : Task). t.place) ts i t e)
        (λ k h stays. let below = (task_at i t e).below in let there = some_at steps k (omega arith) in (stays there.0 there.1).faultless)
        (λ j y h f. before j y h f (some_at ts j (let within = slice_get_within ts i t e in omega arith)))
      where
        before : (j y : ℕ) → j < i → slice_get (places_of ts) j ≡ Some y → (u : Task) × (slice_get ts j ≡ Some u) → fault_at plan y ≡ None
        before j y h f u =
            let at : Some u.0.place ≡ Some y = sym (map_get (λ (t : Task). t.place) ts j u.0 u.1) ∙ f in
            let same : u.0.place ≡ y = cc in
            ap (fault_at plan) (sym same) ∙ row_faultless j u.0 u.1 (omega arith) (λ k l. ok k (omega arith))

    first_at : (i : ℕ) (t : Task) (fault : Fault) → slice_get ts i ≡ Some t → AllOkTo js rs i → i ≤ length js → fault_at plan t.place ≡ Some fault → IsFirstFault plan low end t.place fault
    first_at i t fault e ok most is = let place = place_at i t e ok most in record { from = place.from; below = place.below; is = is; none = place.before }

    refused : (i : ℕ) (t : Task) (refusal : KernelRefusal) → slice_get ts i ≡ Some t → i < length js → IsRefusalOf (row_of js rs i) (Some refusal) → AllOkTo js rs i → IsStop plan low end (refused_at t.place refusal)
    refused i t kernels.NoMemory e within row ok = tt
    refused i t (kernels.Overflow at) e within row ok =
        let found = some_at js i within in
        let begun = begun_get ts js i t found.0 are e found.1 in
        first_at i t (wide_at at) e ok (omega arith)
        (sym (begun_fault t found.0 (task_at i t e) begun)
        ∙ begun.jobs.least_wide (row_of js rs i) at (row_answers pieces js rs answered i found.0 found.1) row)

    -- what stops the statements is their first fault
    pub is_stop : (halted : Option (ℕ × ℕ)) (stop : Stop) → IsHalted plan ts (length js) halted → IsStopBy ts js rs halted stop → IsStop plan low end stop
    is_stop halted stop is (by_job it) = subst (IsStop plan low end) (sym it.is) (refused it.place it.task it.refusal it.at it.within it.row it.before)
    is_stop halted stop is (by_viewers k n e f ok) =
        let here : IsHalted plan ts (length js) (Some (k, n)) = subst (IsHalted plan ts (length js)) e is in
        let t = here.0 in
        subst (IsStop plan low end) (sym f)
        (subst (λ (k : ℕ). IsFirstFault plan low end k (too_many n)) (sym here.2)
        (first_at (length js) t (too_many n) here.1 ok (omega arith) (ap (fault_at plan) (sym here.2) ∙ here.3)))

-- ---- over loans of jobs and answers

module _ {O B W R : Type 0} (ts : List Task) (js js' : List (JobsState O B W)) (rs rs' : List (Result R KernelRefusal)) (e : js' ≡ js) (f : rs' ≡ rs) where
  pub stop_as : (halted : Option (ℕ × ℕ)) (stop : Stop) → IsStopBy ts js' rs' halted stop → IsStopBy ts js rs halted stop
  stop_as halted stop is = subst (λ xs. IsStopBy ts xs rs halted stop) e (subst (λ ys. IsStopBy ts js' ys halted stop) f is)

  pub ok_as : AllOkTo js' rs' (length js') → AllOkTo js rs (length js)
  ok_as ok = subst (λ xs. AllOkTo xs rs (length xs)) e (subst (λ ys. AllOkTo js' ys (length js')) f ok)

-- ---- depth after depth

alike_from : {O : Type 0} (steps : List (Step O)) (first end k : ℕ) → AreAlike steps first end → end ≤ length steps → first < end → first ≤ k → AreAlike steps k end
alike_from steps first end k alike most some from j x y low high start here =
    let begin = some_at steps first (omega arith) in
    alike j x begin.0 (omega arith) high begin.1 here ∙ sym (alike k y begin.0 from (omega arith) begin.1 start)

-- the statement that stops is in the depth that was looked at
pub reached : {O : Type 0} (p : Plan) (steps : List (Step O)) (first end : ℕ) (stop : Stop) → AreFaultless p 0 first → AreAlike steps first end → end ≤ length steps → first < end → IsStop p first end stop → IsReachedAt p steps stop end
reached p steps first end (Viewers k count) none alike most some is = (is.below, most, alike_from steps first end k alike most some is.from)
reached p steps first end (Overflow k at) none alike most some is = (is.below, most, alike_from steps first end k alike most some is.from)
reached p steps first end NoMemory none alike most some is = (first, none, (some, most, alike))

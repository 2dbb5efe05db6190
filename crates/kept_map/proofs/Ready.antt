-- What is prepared of all statements can be put in place of what was kept, one after another, and the steps at rest are a plan.
use Rattle.std.proofs.Common.{◌≡◌, ℕ, zero, suc, false, not, List, [], ◌∷◌, map, filter, length, position, Some, is_some, slice_get, bytes_eq, refl, sym, ap, subst, ◌∙◌, arith, ◌<◌, get_or, Option, None, slice_index_or, option_map, ◌≢◌, inl, inr, ◌+◌, ◌≤◌, set, length-set}
use Rattle.std.specs.List.{AllByRecursion, IsDistinct}
use Rattle.std.proofs.lemmas.Bool.{or_parts, cases_eq}
use Rattle.std.proofs.lemmas.Option.{same_Some, slice_get_within, slice_get-get_or, get_or_from_slice_get}
use Rattle.std.proofs.lemmas.List.Quantifiers.{position-Some}
use Rattle.map_defs.specs.Ops.{Name}
use Rattle.map_defs.specs.Nodes.{Node, lacks}
use Rattle.map_defs.specs.Depths.{depth_in, by_depth}
use Rattle.statement_parser.specs.Views.{op_view}
use Rattle.statement_parser.specs.declared.op.Op.{Op as Given}
use Rattle.map_edits.specs.Laws.{is_named_in}
use Rattle.map_edits.specs.LayerDefs.{nodes_of}
use Rattle.map_edits.specs.WholeStates.{WholeState}
use Rattle.map_edits.specs.WholeEdits.{WholeEdit}
use Rattle.map_edits.proofs.Among.{bytes_eq-turned}
use Rattle.map_edits.proofs.Once.{IsOnce, once_filter, by_depth_once}
use Rattle.map_edits.proofs.GroupsOnce.{groups_once}
use Rattle.map_waves.specs.Prepared.{IsReady}
use Rattle.map_waves.specs.Placing.{slot_of, HaveOwnSlots, AreReady}
use Rattle.map_waves.specs.Plans.{StepDef}
use Rattle.map_waves.specs.declared.plans.Step.{Step}
use Rattle.map_waves.specs.declared.keeping.Kept.{Kept}
use Rattle.map_waves.specs.declared.keeping.Made.{Made}
use Rattle.map_waves.specs.declared.plans.Ref.{Ref}
use Rattle.map_waves.specs.declared.plans.Shift.{Shift}
use Rattle.op_jobs.specs.declared.beside.Beside.{Beside}
use Rattle.edit_plans.specs.PlansFor.{AreRefsFor}
use Rattle.edit_plans.specs.Planned.{whole_names, IsPlanned}
use Rattle.edit_plans.proofs.Forming.{step_at}
use Rattle.edit_plans.proofs.Positions.{position_at}
use Rattle.edit_plans.proofs.TouchedAlone.{order_is_kept}
use Rattle.edit_plans.proofs.Ordered.{named_step}
use Rattle.kept_map.specs.Flats.{flats_of_steps}
use Rattle.kept_map.specs.Commits.{IsAtRest, Rests}
use Rattle.kept_map.specs.Maps.{at_place, seen}
use Rattle.kept_map.specs.Keeps.{IsKept}
use Rattle.kept_map.specs.Edits.{IsSetUp}
use Rattle.kept_map.specs.Repairs.{step_in, plan_in, IsUnder, AreMadeOf}
use Rattle.kept_map.specs.declared.maps.KeptMap.{KeptMap}
use Rattle.kept_map.proofs.SettingUp.{place_is}
use Rattle.kept_map.proofs.EditedFlats.{flat_by, flat_is}
use Rattle.map_waves.proofs.SetPlaces.{slice_get-set_same, slice_get-set_other}

-- the first k are changed, and the others are as they were
pub record AreChangedTo {X : Type 0} (R : ℕ → X → X → Type 0) (k : ℕ) (old now : List X) : Type 0 where
  pub count : length now ≡ length old
  pub changed : (j : ℕ) (x : X) → j < k → slice_get old j ≡ Some x → (y : X) × (slice_get now j ≡ Some y) × R j x y
  pub left : (j : ℕ) → k ≤ j → slice_get now j ≡ slice_get old j

pub none_changed : {X : Type 0} (R : ℕ → X → X → Type 0) (xs : List X) → AreChangedTo R 0 xs xs
none_changed R xs = record { count = refl; changed = λ j x below at. absurd (omega arith); left = λ j from. refl }

pub one_changed : {X : Type 0} (R : ℕ → X → X → Type 0) (k : ℕ) (old now : List X) (d y : X) → AreChangedTo R k old now → k < length now → R k (get_or now k d) y → AreChangedTo R (k + 1) old (set now k y)
one_changed {X} R k old now d y so_far within new = record {
  count = length-set now k y ∙ so_far.count;
  changed = λ j x below at. elim (cases_eq j k) [
    | inl same ↦ (let is : get_or now k d ≡ x = get_or_from_slice_get now k x d (so_far.left k (omega arith) ∙ ap (slice_get old) (sym same) ∙ at) in
        subst (λ i. (z : X) × (slice_get (set now k y) i ≡ Some z) × R i x z) (sym same)
        (y, slice_get-set_same now k y (get_or now k d) (slice_get-get_or now k d within), subst (λ (q : X). R k q y) is new))
    | inr other ↦ (let r = so_far.changed j x (omega (arith, other, below)) at in (r.0, slice_get-set_other now k j y other ∙ r.1, r.2))
  ];
  left = λ j from. let other : j ≢ k = λ same. absurd (omega (arith, same)) in slice_get-set_other now k j y other ∙ so_far.left j (omega arith);
}

pub all_changed : {X : Type 0} (R : ℕ → X → X → Type 0) (k : ℕ) (old now : List X) → AreChangedTo R k old now → length old ≤ k
    → (length now ≡ length old) × ((j : ℕ) (x : X) → slice_get old j ≡ Some x → (y : X) × (slice_get now j ≡ Some y) × R j x y)
all_changed R k old now done past = (done.count, λ j x at. done.changed j x (let below = slice_get_within old j x at in omega arith) at)

-- a step comes to rest, with the operands that it had
abbrev pub ComesToRest : ℕ → Step Given → Step Given → Type 0
ComesToRest k x y = IsAtRest k x y × (y.refs ≡ x.refs)

-- ---- names that stand apart

others_named : (n : Name) (xs : List Node) → is_named_in n xs ≡ false → AllByRecursion (λ y. bytes_eq n y ≡ false) (map (λ (x : Node). x.name) xs)
others_named n [] none = tt
others_named n (x ∷ xs) none = let r = or_parts (bytes_eq x.name n) (is_named_in n xs) none in (bytes_eq-turned x.name n r.0, others_named n xs r.1)

once_distinct : (xs : List Node) → IsOnce xs → IsDistinct bytes_eq (map (λ (x : Node). x.name) xs)
unfolding IsDistinct
once_distinct [] once = tt
once_distinct (x ∷ xs) once = (others_named x.name xs once.0, once_distinct xs once.1)

-- each name of a plan stands at one place
whole_place : (nodes : List Node) → IsOnce nodes → (names : List Name) → names ≡ whole_names nodes (by_depth nodes) → (k : ℕ) (n : Name) → slice_get names k ≡ Some n → position (bytes_eq n) names ≡ Some k
whole_place nodes once names whole =
    let listed : List Node = filter (λ (node : Node). not (is_some (lacks nodes node.name))) (by_depth nodes) in
    let apart = once_distinct listed (once_filter (λ (node : Node). not (is_some (lacks nodes node.name))) (by_depth nodes) (by_depth_once nodes once)) in
    place_is names (subst (IsDistinct bytes_eq) (sym whole) apart)

-- ---- steps at rest

module _ (nodes : List Node) (once : IsOnce nodes) (sources names : List Name) (old new : List (Step Given)) (whole : names ≡ whole_names nodes (by_depth nodes)) (old_count : length old ≡ length names) (new_count : length new ≡ length old)
    (depths : (k : ℕ) (n : Name) (x : Step Given) → slice_get names k ≡ Some n → slice_get old k ≡ Some x → x.depth ≡ depth_in nodes n)
    (rest : (k : ℕ) (x y : Step Given) → slice_get old k ≡ Some x → slice_get new k ≡ Some y → IsAtRest k x y × AreRefsFor sources names k (op_view x.op).terms y.refs.items) where
  -- steps at rest are planned from their own statements
  pub rest_planned : IsPlanned nodes sources (flats_of_steps names new) names names new
  rest_planned = record {
    names_are = whole;
    count = new_count ∙ old_count;
    each = λ k n y at here.
        let x = step_at names old old_count k n at in
        let rested = rest k x.0 y x.1 here in
        record {
          flat = flat_by y;
          from = flat_is names new (new_count ∙ old_count) n ∙ ap (λ o. option_map flat_by (at_place new o)) (whole_place nodes once names whole k n at) ∙ ap (option_map flat_by) here;
          op = refl;
          written = refl;
          refs = subst (λ (o : Given). AreRefsFor sources names k (op_view o).terms y.refs.items) (sym rested.0.op) rested.1;
          depth = rested.0.depth ∙ depths k n x.0 at x.1;
          kept = rested.0.kept ∙ sym (whole_place nodes once names whole k n at);
        };
  }

-- ---- what is prepared can be put in place of what was kept

-- what was kept, as slots
pub slot_kept : (kept : List (Kept Beside)) (i : Option ℕ) → slot_of (map (λ k. Some k) kept) i ≡ at_place kept i
slot_kept kept None = refl
slot_kept kept (Some i) = go kept i
  where
    go : (xs : List (Kept Beside)) (i : ℕ) → slice_index_or (map (λ k. Some k) xs) i None ≡ slice_get xs i
    go [] i = refl
    go (x ∷ xs) zero = refl
    go (x ∷ xs) (suc i) = go xs i

module _ (m : KeptMap) (e : WholeEdit) (t : WholeState) (shift : Shift) (sources names : List Name) (steps : List (Step Given)) (kept : IsKept m) (under : IsUnder m e t shift sources names steps) where
  -- a step has a name
  name_at : (k : ℕ) (x : Step Given) → slice_get steps k ≡ Some x → (n : Name) × (slice_get names k ≡ Some n)
  name_at k x here = (get_or names k [], named_step names steps under.count k x here)

  -- what was kept of it stood under its name
  stood_named : (k i : ℕ) (n : Name) (x : Step Given) → slice_get names k ≡ Some n → slice_get steps k ≡ Some x → x.kept ≡ Some i → slice_get m.planned.names.keys i ≡ Some n
  stood_named k i n x at here is = position_at n m.planned.names.keys i (sym (under.kept k n x at here) ∙ is)

  pub slots_within : (k i : ℕ) (x : Step Given) → slice_get steps k ≡ Some x → x.kept ≡ Some i → i < length m.kept.items
  slots_within k i x here is =
      let n = name_at k x here in
      let within = (position-Some (bytes_eq n.0) m.planned.names.keys i [] (sym (under.kept k n.0 x n.1 here) ∙ is)).0 in
      omega (arith, within, kept.statements.planned_are.count, kept.statements.count)

  module _ (set_up : IsSetUp m e t shift sources) where
    -- each name stands at one place of the plan
    pub one_place : (k : ℕ) (n : Name) → slice_get names k ≡ Some n → position (bytes_eq n) names ≡ Some k
    one_place =
        let orderly = order_is_kept (seen m) t e kept.lawful set_up.said set_up.attempt in
        whole_place (nodes_of t.names.entries) (groups_once t.names.entries orderly.groups orderly.apart) names under.whole

    pub own_slots : HaveOwnSlots steps
    own_slots j k i x y here there is was =
        let n = name_at j x here in
        let q = name_at k y there in
        let same : n.0 ≡ q.0 = same_Some n.0 q.0 (sym (stood_named j i n.0 x n.1 here is) ∙ stood_named k i q.0 y q.1 there was) in
        same_Some j k (sym (one_place j n.0 n.1) ∙ ap (λ l. position (bytes_eq l) names) same ∙ one_place k q.0 q.1)

  pub are_ready : (made : List (Option (Made Beside))) → AreMadeOf m shift steps made → AreReady m.extent (map (λ k. Some k) m.kept.items) steps made
  are_ready made are_made k x r here is = subst (λ o. IsReady m.extent o r) (sym (slot_kept m.kept.items x.kept)) (are_made k x r here is).ready

  -- steps at rest have their operands, where the sources have the same places after
  pub rests_after : (new : List (Step Given)) → Rests steps new → (k : ℕ) (x y : Step Given) → slice_get steps k ≡ Some x → slice_get new k ≡ Some y → IsAtRest k x y × AreRefsFor sources names k (op_view x.op).terms y.refs.items
  rests_after new rests k x y here there =
      let n = name_at k x here in
      let rested = rests.1 k x here in
      let same : rested.0 ≡ y = same_Some rested.0 y (sym rested.1 ∙ there) in
      let step : (plan_in m shift steps).step k ≡ step_in m (Some x) = ap (step_in m) here in
      let refs : AreRefsFor sources names k (op_view x.op).terms x.refs.items = subst (λ (d : StepDef). AreRefsFor sources names k d.op.terms d.refs) step (under.plan.steps k n.0 n.1).refs in
      subst (λ (z : Step Given). IsAtRest k x z × AreRefsFor sources names k (op_view x.op).terms z.refs.items) same
      (rested.2, subst (λ (rs : List Ref). AreRefsFor sources names k (op_view x.op).terms rs) (ap (λ v. v.items) (sym rested.3)) refs)

-- The operands of a planned step stand before the first step of its depth.
use Rattle.std.proofs.Common.{◌≡◌, ℕ, zero, suc, ◌<◌, ◌≤◌, Bool, true, not, List, [], ◌∷◌, map, filter, flat_map, length, get_or, position, Some, is_some, slice_get, bytes_eq, inl, inr, refl, sym, ap, subst, ◌∙◌, arith}
use Rattle.std.specs.List.{All}
use Rattle.std.proofs.lemmas.Bool.{cases_lt, or_left, or_right, cases_Bool}
use Rattle.std.proofs.lemmas.List.Quantifiers.{position-Some}
use Rattle.std.proofs.lemmas.Option.{none-some, same_Some, slice_get_within, slice_get-get_or}
use Rattle.std.proofs.lemmas.List.Elements.{All-nil, All-cons}
use Rattle.map_defs.specs.Ops.{Name, Op, Term, layer_term, number_term, term_names, needs_of}
use Rattle.map_defs.specs.Nodes.{Node, lacks, needs_in}
use Rattle.map_defs.specs.Depths.{depth_in, by_depth}
use Rattle.map_edits.specs.LayerDefs.{layers, nodes_of}
use Rattle.map_edits.specs.Laws.{is_among}
use Rattle.map_edits.proofs.Among.{bytes_eq-self}
use Rattle.map_edits.proofs.Looks.{making_needs, needs_in-layers}
use Rattle.map_edits.proofs.Listed.{each_more, each_filter}
use Rattle.map_edits.proofs.Order.{AllFrom, IsRising, ranked_rising, depth_at, is_flat_at, flat_at}
use Rattle.map_edits.proofs.Unfolds.{needed_is_less_deep}
use Rattle.statement_parser.specs.Views.{op_view}
use Rattle.statement_parser.specs.declared.op.Op.{Op as Given}
use Rattle.map_waves.specs.Bases.{IsRef}
use Rattle.map_waves.specs.declared.plans.Ref.{Ref}
use Rattle.map_waves.specs.declared.plans.Ref.TheVariants.{Source, Statement, Number}
use Rattle.map_waves.specs.declared.plans.Step.{Step}
use Rattle.map_waves.specs.declared.plans.Base.{Base}
use Rattle.edit_plans.specs.PlansFor.{AreRefsFor}
use Rattle.edit_plans.specs.Planned.{FlatDef, IsPlanned}
use Rattle.edit_plans.specs.PlannedLaws.{IsCounted, PlannedIsInOrder, DepthsRise}

-- ---- lists in order of a rank

module _ (rank : Node → ℕ) where
  rises_filter : (q : Node → Bool) (xs : List Node) → IsRising rank xs → IsRising rank (filter q xs)
  rises_filter q [] rising = tt
  rises_filter q (x ∷ xs) rising =
      let kept = each_more (λ y. (rank x ≤ rank y) × (q y ≡ true)) (λ y. rank x ≤ rank y) (λ y both. both.0) (filter q xs) (each_filter (λ y. rank x ≤ rank y) q xs rising.0) in
      elim (cases_Bool (q x)) [ inl h ↦ rw h (kept, rises_filter q xs rising.1) | inr h ↦ rw h (rises_filter q xs rising.1) ]

  from_at : (d : ℕ) (xs : List Node) → AllFrom rank d xs → (k : ℕ) (y : Node) → slice_get xs k ≡ Some y → d ≤ rank y
  from_at d [] all k y e = absurd (none-some y e)
  from_at d (x ∷ xs) all zero y e = subst (λ (z : Node). d ≤ rank z) (same_Some x y e) all.0
  from_at d (x ∷ xs) all (suc k) y e = from_at d xs all.1 k y e

  rises_at : (xs : List Node) → IsRising rank xs → (j k : ℕ) (x y : Node) → j ≤ k → slice_get xs j ≡ Some x → slice_get xs k ≡ Some y → rank x ≤ rank y
  rises_at [] rising j k x y h at e = absurd (none-some y e)
  rises_at (z ∷ xs) rising zero zero x y h at e = let same : x ≡ y = sym (same_Some z x at) ∙ same_Some z y e in subst (λ (q : Node). rank x ≤ rank q) same (omega arith)
  rises_at (z ∷ xs) rising zero (suc k) x y h at e = subst (λ (q : Node). rank q ≤ rank y) (same_Some z x at) (from_at (rank z) xs rising.0 k y e)
  rises_at (z ∷ xs) rising (suc j) zero x y h at e = absurd (omega arith)
  rises_at (z ∷ xs) rising (suc j) (suc k) x y h at e = rises_at xs rising.1 j k x y (omega arith) at e

-- ---- by depth

by_depth_rises : (nodes : List Node) → IsRising (depth_at nodes) (by_depth nodes)
unfolding by_depth
by_depth_rises nodes = ranked_rising (depth_at nodes) (is_flat_at nodes) (flat_at nodes) nodes 1 (length nodes)

named_at : (xs : List Node) (k : ℕ) (n : Name) → slice_get (map (λ (x : Node). x.name) xs) k ≡ Some n → (x : Node) × (slice_get xs k ≡ Some x) × (x.name ≡ n)
named_at [] k n e = absurd (none-some n e)
named_at (x ∷ xs) zero n e = (x, refl, same_Some x.name n e)
named_at (x ∷ xs) (suc k) n e = named_at xs k n e

pub named_step : {X : Type 0} (names : List Name) (steps : List X) → length steps ≡ length names → (k : ℕ) (x : X) → slice_get steps k ≡ Some x → slice_get names k ≡ Some (get_or names k [])
named_step names steps count k x at = let within = slice_get_within steps k x at in slice_get-get_or names k [] (omega arith)

module _ (nodes : List Node) (sources : List Name) (flats : List (List ℕ × FlatDef)) (old names : List Name) (steps : List (Step Given)) (planned : IsPlanned nodes sources flats old names steps) where
  names_rise : (j k : ℕ) (m n : Name) → j ≤ k → slice_get names j ≡ Some m → slice_get names k ≡ Some n → depth_in nodes m ≤ depth_in nodes n
  names_rise j k m n h at e =
      let kept : List Node = filter (λ (node : Node). not (is_some (lacks nodes node.name))) (by_depth nodes) in
      let first = named_at kept j m (ap (λ ns. slice_get ns j) (sym planned.names_are) ∙ at) in
      let second = named_at kept k n (ap (λ ns. slice_get ns k) (sym planned.names_are) ∙ e) in
      let rising = rises_at (depth_at nodes) kept (rises_filter (depth_at nodes) (λ (node : Node). not (is_some (lacks nodes node.name))) (by_depth nodes) (by_depth_rises nodes)) j k first.0 second.0 h first.1 second.1 in
      subst (λ q. depth_in nodes q ≤ depth_in nodes n) first.2 (subst (λ q. depth_in nodes first.0.name ≤ depth_in nodes q) second.2 rising)

  steps_rise : (j k : ℕ) (x y : Step Given) → j ≤ k → slice_get steps j ≡ Some x → slice_get steps k ≡ Some y → x.depth ≤ y.depth
  steps_rise j k x y h at e =
      let first = named_step names steps planned.count j x at in
      let second = named_step names steps planned.count k y e in
      let a = (planned.each j (get_or names j []) x first at).depth in
      let b = (planned.each k (get_or names k []) y second e).depth in
      let rise = names_rise j k (get_or names j []) (get_or names k []) h first second in
      omega arith

pub depths_rise : DepthsRise
depths_rise nodes sources flats old names steps j k x y planned h at e = steps_rise nodes sources flats old names steps planned j k x y h at e

-- ---- operands

refs_length : (sources names : List Name) (k : ℕ) (us : List Term) (rs : List Ref) → AreRefsFor sources names k us rs → length rs ≡ length us
refs_length sources names k [] [] are = refl
refs_length sources names k [] (r ∷ rs) are = absurd are
refs_length sources names k (u ∷ us) [] are = absurd are
refs_length sources names k (u ∷ us) (r ∷ rs) are = ap suc (refs_length sources names k us rs are.1)

module _ {B : Type 0} (base : Base B) (sources old names : List Name) (counted : IsCounted base sources old) (k first : ℕ) where
  refs_before : (us : List Term) (rs : List Ref) → AreRefsFor sources names k us rs
      → ((m : Name) (j : ℕ) → is_among m (flat_map term_names us) ≡ true → slice_get names j ≡ Some m → j < first) → All (IsRef base first) rs
  refs_before [] [] are low = All-nil (IsRef base first)
  refs_before [] (r ∷ rs) are low = absurd are
  refs_before (u ∷ us) [] are low = absurd are
  refs_before (layer_term m ∷ us) (Source i ∷ rs) are low =
      let within = slice_get_within sources i m are.0 in
      let count = counted.sources_are in
      All-cons (IsRef base first) (Source i) rs (omega arith) (refs_before us rs are.1 (λ q j a at. low q j (or_right (bytes_eq m q) (is_among q (flat_map term_names us)) a) at))
  refs_before (layer_term m ∷ us) (Statement j ∷ rs) are low =
      All-cons (IsRef base first) (Statement j) rs (low m j (or_left (bytes_eq m m) (is_among m (flat_map term_names us)) (bytes_eq-self m)) are.0.0)
      (refs_before us rs are.1 (λ q j a at. low q j (or_right (bytes_eq m q) (is_among q (flat_map term_names us)) a) at))
  refs_before (number_term z ∷ us) (Number c ∷ rs) are low = All-cons (IsRef base first) (Number c) rs tt (refs_before us rs are.1 low)
  refs_before (layer_term m ∷ us) (Number c ∷ rs) are low = absurd are.0
  refs_before (number_term z ∷ us) (Source i ∷ rs) are low = absurd are.0
  refs_before (number_term z ∷ us) (Statement j ∷ rs) are low = absurd are.0

pub planned_is_in_order : {B : Type 0} (formed : Op → Type 0) → PlannedIsInOrder B formed
planned_is_in_order {B} formed touch s t base sources flats old names steps none made counted are planned first k x y h at_first at same =
    let nodes = nodes_of t.entries in
    let n = get_or names k [] in
    let named = named_step names steps planned.count k x at in
    let top = named_step names steps planned.count first y at_first in
    let step = planned.each k n x named at in
    let y_depth = (planned.each first (get_or names first []) y top at_first).depth in
    let form = are n step.flat step.from in
    let needs : needs_in nodes n ≡ needs_of (op_view x.op) = needs_in-layers (layers t.entries) n ∙ ap making_needs (made.statements n step.flat step.from) ∙ ap needs_of (sym step.op) in
    let terms : length (op_view x.op).terms ≡ length (op_view step.flat.op).terms = ap (λ o. length o.terms) step.op in
    let count = refs_length sources names k (op_view x.op).terms x.refs.items step.refs in
    let low : (m : Name) (j : ℕ) → is_among m (flat_map term_names (op_view x.op).terms) ≡ true → slice_get names j ≡ Some m → j < first = λ m j a stands.
    by_cases first j m n (depth_in nodes) (needed_is_less_deep nodes none n m (ap (is_among m) needs ∙ a)) (sym (sym y_depth ∙ sym same ∙ step.depth)) (λ q. names_rise nodes sources flats old names steps planned first j (get_or names first []) m q top stands) in
    record {
      op = subst formed (sym step.op) form.0;
      refs = refs_before base sources old names counted k first (op_view x.op).terms x.refs.items step.refs low;
      terms = count;
      few = omega (arith, form.1, count, terms);
      kept = λ i is. kept_below n i (sym step.kept ∙ is);
    }
  where
    by_cases : (first j : ℕ) (m n : Name) (depth : Name → ℕ) → depth m < depth n → depth n ≡ depth (get_or names first []) → (first ≤ j → depth (get_or names first []) ≤ depth m) → j < first
    by_cases first j m n depth less same rise = elim (cases_lt j first) [ inl below ↦ below | inr above ↦ let more = rise above in absurd (omega arith) ]

    kept_below : (q : Name) (i : ℕ) → position (bytes_eq q) old ≡ Some i → i < length base.kept.now
    kept_below q i e = let r = position-Some (bytes_eq q) old i [] e in omega (arith, r.0, counted.kept)

-- The tiles of an edit's own source may be read, whether a plan is made or not. What stopped all statements is told by a name; the state that an edit makes, and the fault for which it is refused.
use Rattle.std.proofs.Common.{◌≡◌, ℕ, ◌*◌, ◌≤◌, Bool, true, nat_le, List, [], ◌∷◌, filter, length, sum_by, Option, Some, None, is_some, Ok, if◌then◌else◌, sym, subst, arith, inl, inr, zero, suc, false, ◌⊎◌, refl, ap, ◌∙◌, ℤ, ◌+◌, cond, position, option_map, nat_lt}
use Rattle.std.proofs.lemmas.Bool.{le-leb, cases_Bool, cases_lt, not-false, false_from_ne_true}
use Rattle.std.proofs.lemmas.List.Sums.{sum_by-cons}
use Rattle.map_defs.specs.Depths.{depth_in}
use Rattle.map_edits.specs.LayerDefs.{LayerDef, layers, nodes_of}
use Rattle.map_edits.specs.EngineStates.{EngineState, value_of}
use Rattle.map_edits.specs.Faults.{fault_of}
use Rattle.map_edits.specs.Touches.{Touch, touch_of}
use Rattle.map_edits.specs.LayerChanges.{damage_of}
use Rattle.map_edits.specs.EditCounts.{defined_layers}
use Rattle.map_edits.specs.Allowances.{faulty_name, counts_to, reads_of_attempt, edit_reads}
use Rattle.map_edits.specs.Counted.{fault_after, has_fault_row, done, unless_fault, of_attempt, accept_counted}
use Rattle.map_edits.specs.WholeStates.{WholeState}
use Rattle.map_edits.specs.WholeEdits.{WholeEdit}
use Rattle.map_edits.specs.Attempts.{attempted}
use Rattle.map_edits.proofs.Summed.{sum_filter}
use Rattle.edit_plans.specs.Orderly.{IsOrderly}
use Rattle.edit_plans.specs.SourceCounts.{is_given, counts_of_sources}
use Rattle.edit_plans.proofs.LayersMade.{IsFoundBy, layers_found}
use Rattle.edit_plans.proofs.Reading.{given_depth, given_sum}
use Rattle.std.proofs.lemmas.Option.{none-some}
use Rattle.std.specs.List.{position_from}
use Rattle.std.proofs.lemmas.Iterator.Adapters.{position_from-zero}
use Rattle.map_nums.specs.Grids.{Size, Cells, cell_at}
use Rattle.map_nums.specs.Numbers.{is_value}
use Rattle.map_nums.specs.Answers.{is_wide}
use Rattle.map_defs.specs.Ops.{Name, Op}
use Rattle.map_defs.specs.Sight.{most_viewers}
use Rattle.map_defs.specs.Viewers.{viewers_in}
use Rattle.layer_tiles.specs.Cells.{IsCell, AreCells}
use Rattle.statement_parser.specs.declared.op.Op.{Op as Given}
use Rattle.map_edits.specs.Faults as faults
use Rattle.map_edits.specs.GroupLaws.{IsLawful, PutsBackReached}
use Rattle.map_edits.proofs.LawfulEdits.{tried}
use Rattle.map_edits.proofs.LawfulFaults.{no_fault_stays}
use Rattle.map_waves.specs.Statements.{Fault, too_many, wide_at, made, fault_in}
use Rattle.map_waves.specs.Plans.{Plan, fault_at}
use Rattle.map_waves.specs.Phases.{AreFaultless, IsFirstFault, IsStop}
use Rattle.map_waves.specs.Phases as waves
use Rattle.map_waves.specs.declared.plans.Step.{Step}
use Rattle.map_waves.specs.declared.halts.Stop.{Stop}
use Rattle.map_waves.specs.declared.halts.Stop.TheVariants as stops
use Rattle.kept_map.specs.Told.{IsToldOf, IsTold, IsReachedAt}
use Rattle.kept_map.specs.declared.halts.Halt.{Halt}
use Rattle.kept_map.specs.declared.halts.Halt.TheVariants.{Viewers, Overflow, NoMemory}

-- the sum over some is no more than that over all
some_less : {X : Type 0} (f : X → ℕ) (p : X → Bool) (xs : List X) → sum_by f (filter p xs) ≤ sum_by f xs
some_less f p [] = omega arith
some_less f p (x ∷ xs) =
    let all = sum_by-cons f x xs in
    let one = sum_by-cons f x (filter p xs) in
    let rest = some_less f p xs in
    elim (cases_Bool (p x)) [ inl h ↦ rw h (omega (arith, one, all, rest)) | inr h ↦ rw h (omega (arith, all, rest)) ]

module _ (touch : Touch) (s t : EngineState) (orderly : IsOrderly t) where
  abbrev tiles : LayerDef → ℕ
  tiles l = length (damage_of touch s t l)

  abbrev given : List LayerDef
  given = filter (λ (l : LayerDef). is_given l.making) (defined_layers t)

  to_depth : (d : ℕ) → sum_by tiles given ≤ sum_by tiles (filter (λ (l : LayerDef). nat_le (depth_in (nodes_of t.entries) l.name) d) (defined_layers t))
  to_depth d =
      let r : LayerDef → Bool = λ (l : LayerDef). nat_le (depth_in (nodes_of t.entries) l.name) d in
      let passing : LayerDef → ℕ = λ l. if r l then tiles l else 0 in
      let passes : (l : LayerDef) → IsFoundBy (layers t.entries) l → is_given l.making ≡ true → r l ≡ true = λ l found is.
      let shallow = given_depth t orderly l found is in
      le-leb (depth_in (nodes_of t.entries) l.name) d (omega arith) in
      let few : sum_by tiles given ≤ sum_by passing given = given_sum tiles r (λ (l : LayerDef). is_some (value_of t l.name)) (IsFoundBy (layers t.entries)) passes (layers t.entries) (layers_found t orderly) in
      let less : sum_by passing given ≤ sum_by passing (defined_layers t) = some_less passing (λ (l : LayerDef). is_given l.making) (defined_layers t) in
      let same : sum_by tiles (filter r (defined_layers t)) ≡ sum_by passing (defined_layers t) = sum_filter tiles r (defined_layers t) in
      omega (arith, few, less, same)

  allowed_by : (o : Option faults.Fault) → (counts_of_sources touch s t).evaluated ≤ (counts_to touch s t o).evaluated
  allowed_by None = some_less tiles (λ (l : LayerDef). is_given l.making) (defined_layers t)
  allowed_by (Some f) = to_depth (depth_in (nodes_of t.entries) (faulty_name f))

pub sources_allowed : (s t : WholeState) (e : WholeEdit) → attempted s e ≡ Ok t → IsOrderly t.names → 64 * (counts_of_sources (touch_of e) s.names t.names).evaluated ≤ (edit_reads s e).looks
unfolding edit_reads
sources_allowed s t e tried orderly =
    let touch = touch_of e in
    let few = allowed_by touch s.names t.names orderly (fault_after e t) in
    let looks : 64 * (counts_of_sources touch s.names t.names).evaluated ≤ (reads_of_attempt s e (Ok t)).looks = omega (arith, few) in
    subst (λ r. 64 * (counts_of_sources touch s.names t.names).evaluated ≤ (reads_of_attempt s e r).looks) (sym tried) looks

-- ---- what stopped all statements, told by the name of the one at its place

module _ (s : Size) (p : Plan) (names : List Name) where
  pub told_is : (stop : Stop) (halt : Halt) → IsToldOf s names stop halt → IsStop p 0 (length names) stop → IsTold s p names halt
  told_is stop NoMemory told is = tt
  told_is (stops.Viewers k c) (Viewers n count) told is = record { place = k; named = told.0; first = subst (λ q. IsFirstFault p 0 (length names) k (too_many q)) (sym told.1) is }
  told_is (stops.Overflow k at) (Overflow n row column) told is = (at, record { place = k; named = told.0; first = is }, told.1, told.2)
  told_is stop halt told is = absurd told

  -- and the statements that were looked at
  pub reached_by : (steps : List (Step Given)) (end : ℕ) (stop : Stop) (halt : Halt) → IsToldOf s names stop halt → IsStop p 0 (length names) stop → waves.IsReachedAt p steps stop end → IsReachedAt p names steps halt end
  reached_by steps end (stops.Viewers k c) (Viewers n count) told is at = (k, told.0, subst (λ q. IsFirstFault p 0 (length names) k (too_many q)) (sym told.1) is, at)
  reached_by steps end (stops.Viewers k c) NoMemory told is at = (k, is.none, at)
  reached_by steps end (stops.Overflow k a) (Overflow n row column) told is at = (k, a, told.0, is, at)
  reached_by steps end (stops.Overflow k a) NoMemory told is at = (k, is.none, at)
  reached_by steps end stops.NoMemory NoMemory told is at = at
  reached_by steps end stop halt told is at = absurd told

-- ---- the cells of a statement without a fault are in range

narrow : (c : Option ℤ) → is_wide c ≡ false → IsCell c
narrow None e = tt
narrow (Some z) e = not-false (is_value z) e

narrow_first : (k : ℕ) (c : Option ℤ) (cs : Cells) → position_from is_wide k (c ∷ cs) ≡ None → is_wide c ≡ false
narrow_first k c cs e = false_from_ne_true (is_wide c) (λ h. none-some k (sym e ∙ ap (λ b. cond b (Some k) (position_from is_wide (k + 1) cs)) h))

none_wide : (k : ℕ) (cells : Cells) → position_from is_wide k cells ≡ None → (i : ℕ) → IsCell (cell_at cells i)
none_wide k [] e i = tt
none_wide k (c ∷ cs) e zero = narrow c (narrow_first k c cs e)
none_wide k (c ∷ cs) e (suc i) = none_wide (k + 1) cs (ap (λ b. cond b (Some k) (position_from is_wide (k + 1) cs)) (sym (narrow_first k c cs e)) ∙ e) i

pub faultless_cells : (s : Size) (op : Op) (operands : List Cells) → fault_in s op operands ≡ None → AreCells (made s op operands)
unfolding fault_in
faultless_cells s op operands none = record { each = none_wide 0 (made s op operands) (sym (position_from-zero is_wide (made s op operands)) ∙ go (nat_lt most_viewers (viewers_in op operands)) (position is_wide (made s op operands)) none) }
  where
    go : (b : Bool) (o : Option ℕ) → (if b then Some (too_many (viewers_in op operands)) else option_map (λ at. wide_at at) o) ≡ None → o ≡ None
    go true o e = absurd (none-some (too_many (viewers_in op operands)) (sym e))
    go false None e = refl
    go false (Some at) e = absurd (none-some (wide_at at) (sym e))

-- ---- the fault after an edit

pub accepted : (s t : WholeState) (e : WholeEdit) → attempted s e ≡ Ok t → fault_after e t ≡ None → accept_counted s e ≡ Ok (done (touch_of e) s t)
unfolding accept_counted
accepted s t e tried none = ap (of_attempt s e) tried ∙ ap (unless_fault (touch_of e) s t) none

pub none_after : (t : WholeState) (e : WholeEdit) → fault_of t.names ≡ None → fault_after e t ≡ None
none_after t e none = elim (cases_Bool (has_fault_row e)) [
  | inl row ↦ ap (λ (b : Bool). if b then fault_of t.names else None) row ∙ none
  | inr row ↦ ap (λ (b : Bool). if b then fault_of t.names else None) row
]

-- of a state without a fault an edit that may have none makes none
pub fault_is_after : (s t : WholeState) (e : WholeEdit) → IsLawful s → fault_of s.names ≡ None → PutsBackReached s e → attempted s e ≡ Ok t → fault_after e t ≡ fault_of t.names
fault_is_after s t e lawful none reached tried = elim (cases_Bool (has_fault_row e)) [
  | inl row ↦ ap (λ (b : Bool). if b then fault_of t.names else None) row
  | inr row ↦ (let untold : fault_after e t ≡ None = ap (λ (b : Bool). if b then fault_of t.names else None) row in
      untold ∙ sym (no_fault_stays s e (done (touch_of e) s t) lawful none reached (accepted s t e tried untold)))
]

-- ---- the first fault of a plan

-- no fault before a place, or the first one
abbrev pub HasFirst : Plan → ℕ → Type 0
HasFirst p n = AreFaultless p 0 n ⊎ ((k : ℕ) × (f : Fault) × IsFirstFault p 0 n k f)

pub first_fault : (p : Plan) (n : ℕ) → HasFirst p n
first_fault p zero = inl (λ k from below. absurd (omega arith))
first_fault p (suc n) = elim (first_fault p n) [
  | inl none ↦ at_end none (fault_at p n) refl
  | inr r ↦ (let first = r.2 in inr (r.0, r.1, record { from = first.from; below = omega (arith, first.below); is = first.is; none = first.none }))
]
  where
    at_end : AreFaultless p 0 n → (o : Option Fault) → fault_at p n ≡ o → HasFirst p (suc n)
    at_end none None e = inl (λ k from below. elim (cases_lt k n) [ inl less ↦ none k from less | inr more ↦ (let same : n ≡ k = omega (arith, below, more) in ap (fault_at p) (sym same) ∙ e) ])
    at_end none (Some f) e = inr (n, f, record { from = omega arith; below = omega arith; is = e; none = none })

-- What each statement of a plan counts.
use Rattle.std.proofs.Common.{◌≡◌, ℕ, suc, Bool, List, [], ◌∷◌, map, Option, Some, None, unwrap_or, slice_get, if◌then◌else◌, refl, sym, ap, ◌∙◌, arith}
use Rattle.map_nums.specs.Grids.{Size, Cells}
use Rattle.map_nums.specs.Options.{all_some}
use Rattle.map_defs.specs.Ops.{Name, Term, Op}
use Rattle.map_defs.specs.Damage.{op_damage, changed_tiles}
use Rattle.map_defs.specs.Work.{op_work}
use Rattle.layer_tiles.specs.Operands.{cells_after}
use Rattle.map_edits.specs.LayerDefs.{by_op, LayerDef, nodes_of}
use Rattle.map_edits.specs.EngineStates.{EngineState, term_cells, value_of}
use Rattle.map_edits.specs.WholeStates.{cells_of}
use Rattle.map_edits.specs.Touches.{Touch}
use Rattle.map_edits.specs.LayerChanges.{now_of, standing, operands_in, changed_of, damage_of, work_of}
use Rattle.map_edits.specs.Laws.{HasNoCycle}
use Rattle.map_waves.specs.Statements.{cells_were}
use Rattle.map_waves.specs.Plans.{Plan, reckoned, operands_at, change_at, damage_at, work_at}
use Rattle.edit_plans.specs.PlansFor.{IsPlanFor}
use Rattle.map_edits.specs.Touching.{ChangesOnly}
use Rattle.edit_plans.proofs.Valued.{all_made, operands_made}
use Rattle.edit_plans.proofs.Before.{stood_on, reckoned_stood}
use Rattle.edit_plans.proofs.There.{all_parts}

-- where all are there, each is
pub all_each : (f : Term → Option Cells) (us : List Term) (cells : List Cells) → all_some (map f us) ≡ Some cells → map (λ u. unwrap_or (f u) []) us ≡ cells
all_each f [] cells e = cc
all_each f (u ∷ us) cells e =
    let parts = all_parts (f u) (map f us) cells e in
    ap (λ o. unwrap_or o [] ∷ map (λ u. unwrap_or (f u) []) us) parts.2 ∙ ap (λ cs. parts.0 ∷ cs) (all_each f us parts.1 parts.3) ∙ parts.4

-- a statement that was undefined, or is written, is damaged and worked on whatever its operands were
damage_new : (op : Op) (s : Size) (a b after : List Cells) (now : Cells) → op_damage op s a after None now ≡ op_damage op s b after None now
unfolding op_damage
damage_new op s a b after now = refl

work_new : (op : Op) (s : Size) (a b after : List Cells) (now : Cells) → op_work op s a after None now ≡ op_work op s b after None now
unfolding op_work
work_new op s a b after now = refl

module _ (touch : Touch) (s t : EngineState) (p : Plan) (sources names : List Name) (plan : IsPlanFor touch s t p sources names) (changes : ChangesOnly touch s t) (old : HasNoCycle (nodes_of s.entries)) (none : HasNoCycle (nodes_of t.entries))
    (k : ℕ) (n : Name) (at : slice_get names k ≡ Some n) where
  abbrev op : Op
  op = (p.step k).op

  abbrev layer : LayerDef
  layer = record { name = n; making = by_op op }

  after_is : operands_in t op ≡ cells_after (operands_at p k)
  after_is = all_each (term_cells t.size (value_of t)) op.terms (cells_after (operands_at p k))
      (operands_made touch s t p sources names plan none k n at)

  now_is : now_of t n ≡ (change_at p k).cells
  now_is = ap (λ (o : Option Cells). unwrap_or o []) (all_made touch s t p sources names plan none (suc k) k n (omega arith) at)

  standing_is : standing touch s t n ≡ reckoned (p.step k)
  standing_is = let step = plan.steps k n at in ap (λ (b : Bool). if b then None else cells_of s n) (sym step.written) ∙ ap (λ (o : Option Cells). if (p.step k).written then None else o) (sym step.was)

  before_is : (w : Cells) → reckoned (p.step k) ≡ Some w → operands_in s op ≡ cells_were (operands_at p k)
  before_is w e =
      let r = reckoned_stood (p.step k).written (p.step k).was w e in
      let stood = stood_on touch s t p sources names plan changes old k n w at r.0 r.1 in
      all_each (term_cells s.size (value_of s)) op.terms stood.cells stood.all ∙ sym stood.there.before

  -- what is reckoned from the operands before, where that doesn't matter for a new statement
  by_parts : {X : Type 0} (f : Size → List Cells → List Cells → Option Cells → Cells → X) → ((q : Size) (a b after : List Cells) (now : Cells) → f q a after None now ≡ f q b after None now)
      → f t.size (operands_in s op) (operands_in t op) (standing touch s t n) (now_of t n) ≡ f p.size (cells_were (operands_at p k)) (cells_after (operands_at p k)) (reckoned (p.step k)) (change_at p k).cells
  by_parts f new =
      ap (λ q. f q (operands_in s op) (operands_in t op) (standing touch s t n) (now_of t n)) (sym plan.size)
      ∙ ap (λ os. f p.size (operands_in s op) os (standing touch s t n) (now_of t n)) after_is
      ∙ ap (λ o. f p.size (operands_in s op) (cells_after (operands_at p k)) o (now_of t n)) standing_is
      ∙ ap (f p.size (operands_in s op) (cells_after (operands_at p k)) (reckoned (p.step k))) now_is
      ∙ go (reckoned (p.step k)) refl
    where
      go : (o : Option Cells) → reckoned (p.step k) ≡ o
          → f p.size (operands_in s op) (cells_after (operands_at p k)) o (change_at p k).cells ≡ f p.size (cells_were (operands_at p k)) (cells_after (operands_at p k)) o (change_at p k).cells
      go None e = new p.size (operands_in s op) (cells_were (operands_at p k)) (cells_after (operands_at p k)) (change_at p k).cells
      go (Some w) e = ap (λ os. f p.size os (cells_after (operands_at p k)) (Some w) (change_at p k).cells) (before_is w e)

  pub damage_is : damage_of touch s t layer ≡ damage_at p k
  damage_is = by_parts (λ q a b was now. op_damage op q a b was now) (λ q a b after now. damage_new op q a b after now)

  pub work_is : work_of touch s t layer ≡ work_at p k
  work_is = by_parts (λ q a b was now. op_work op q a b was now) (λ q a b after now. work_new op q a b after now)

  pub changed_is : changed_of s t n ≡ (change_at p k).touched
  changed_is =
      ap (λ q. changed_tiles q (cells_of s n) (now_of t n)) (sym plan.size) ∙ ap (λ o. changed_tiles p.size o (now_of t n)) (sym (plan.steps k n at).was)
      ∙ ap (changed_tiles p.size (p.step k).was) now_is

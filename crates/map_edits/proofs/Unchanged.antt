-- A statement that stays as it was counts nothing.
use Rattle.std.proofs.Common.{◌≡◌, Bool, List, [], Option, Some, None, unwrap_or, ap, ◌∙◌, if◌then◌else◌, false}
use Rattle.map_nums.specs.Grids.{Cells}
use Rattle.map_defs.specs.Ops.{Name, Op}
use Rattle.map_defs.specs.Differences.{changed_tiles}
use Rattle.map_defs.specs.Damage.{op_damage}
use Rattle.map_defs.specs.Work.{op_work}
use Rattle.map_defs.proofs.Unchanged.{damage_none, changed_none, work_none}
use Rattle.map_edits.specs.LayerDefs.{by_op}
use Rattle.map_edits.specs.EngineStates.{EngineState}
use Rattle.map_edits.specs.WholeStates.{cells_of}
use Rattle.map_edits.specs.Touches.{Touch, is_whole}
use Rattle.map_edits.specs.LayerChanges.{now_of, standing, operands_in}
use Rattle.map_edits.specs.CountLaws.{CountsNothing}

module _ (touch : Touch) (s t : EngineState) (n : Name) (op : Op) (w : Cells) (unwritten : is_whole t.entries touch n ≡ false) (same : operands_in s op ≡ operands_in t op)
    (was : cells_of s n ≡ Some w) (now : cells_of t n ≡ Some w) where
  stood : standing touch s t n ≡ Some w
  stood = ap (λ (b : Bool). if b then None else cells_of s n) unwritten ∙ was

  is_now : now_of t n ≡ w
  is_now = ap (λ (o : Option Cells). unwrap_or o []) now

  by_parts : {X : Type 0} (f : List Cells → Option Cells → Cells → X) → f (operands_in s op) (standing touch s t n) (now_of t n) ≡ f (operands_in t op) (Some w) w
  by_parts f = ap (λ o. f o (standing touch s t n) (now_of t n)) same ∙ ap (λ o. f (operands_in t op) o (now_of t n)) stood ∙ ap (f (operands_in t op) (Some w)) is_now

  pub counts_nothing : CountsNothing touch s t (record { name = n; making = by_op op })
  counts_nothing = record {
    changed = ap (λ o. changed_tiles t.size o (now_of t n)) was ∙ ap (changed_tiles t.size (Some w)) is_now ∙ changed_none t.size (operands_in t op) w;
    damage = by_parts (λ o was now. op_damage op t.size o (operands_in t op) was now) ∙ damage_none t.size (operands_in t op) w op;
    work = by_parts (λ o was now. op_work op t.size o (operands_in t op) was now) ∙ work_none t.size (operands_in t op) w op;
  }

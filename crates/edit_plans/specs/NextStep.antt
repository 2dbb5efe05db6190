-- One statement more of a plan, by the statements that are planned.
use Rattle.std.specs.Prelude.{◌≡◌, ℕ, suc, true, false, List, map, fold, max, position, Some, is_some, bytes_eq}
use Rattle.std.specs.List.{list_any}
use Rattle.std.specs.Map.{lookup}
use Rattle.map_nums.specs.Options.{all_some}
use Rattle.map_defs.specs.Ops.{Name}
use Rattle.statement_parser.specs.Views.{op_view}
use Rattle.statement_parser.specs.declared.op.Op.{Op as Given}
use Rattle.map_waves.specs.declared.plans.Step.{Step}
use Rattle.edit_plans.specs.Planned.{FlatDef, HasOperands, ref_for, ref_depth}

-- a flat statement is there, and all that it reads
pub record IsReady (sources : List Name) (flats : List (List ℕ × FlatDef)) (names : List Name) (n : Name) : Type 0 where
  pub flat : FlatDef
  pub found : lookup (bytes_eq n) flats ≡ Some flat
  pub operands : HasOperands (op_view flat.op)
  pub all : is_some (all_some (map (ref_for sources names) (op_view flat.op).terms)) ≡ true

-- its step
pub record IsNextStep (sources : List Name) (flats : List (List ℕ × FlatDef)) (old names : List Name) (steps : List (Step Given)) (n : Name) (x : Step Given) : Type 0 where
  pub flat : FlatDef
  pub found : lookup (bytes_eq n) flats ≡ Some flat
  pub op : op_view x.op ≡ op_view flat.op
  pub written : x.written ≡ flat.written
  pub refs : all_some (map (ref_for sources names) (op_view flat.op).terms) ≡ Some x.refs.items
  pub depth : x.depth ≡ suc (fold (λ d r. max d (ref_depth steps r)) 0 x.refs.items)
  pub kept : x.kept ≡ position (bytes_eq n) old

-- none of the names is this one
abbrev pub IsNew : List Name → Name → Type 0
IsNew names n = list_any (bytes_eq n) names ≡ false

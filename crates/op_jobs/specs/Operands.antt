-- The operands that a statement is handed after an edit.
use Rattle.std.specs.Prelude.{◌≡◌, List, length, Option}
use Rattle.std.specs.List.{All}
use Rattle.map_nums.specs.Grids.{Size}
use Rattle.map_defs.specs.Ops.{Op}
use Rattle.layer_tiles.specs.Changes.{ChangeState}
use Rattle.map_waves.specs.Keeping.{IsRightKept}
use Rattle.map_waves.specs.Operands.{IsOperand}
use Rattle.map_waves.specs.declared.keeping.Kept.{Kept}
use Rattle.op_jobs.specs.Beside.{suits}
use Rattle.op_jobs.specs.Ranges.{HasRanges}
use Rattle.op_jobs.specs.declared.beside.Beside.{Beside}

-- those of an operation whose numbers are in range: one for each of its terms, all of one extent
pub record AreOperandsOf (s : Size) (op : Op) (operands : List ChangeState) : Type 0 where
  pub formed : HasRanges op
  pub count : length operands ≡ length op.terms
  pub each : All (IsOperand s) operands

-- both of an operation that takes two, of one extent
pub record AreBoth (s : Size) (operands : List ChangeState) : Type 0 where
  pub two : length operands ≡ 2
  pub each : All (IsOperand s) operands

-- an edited statement: its operation's operands, and what is kept of it is right for them as they were
pub record IsEdited (s : Size) (op : Op) (operands : List ChangeState) (kept : Option (Kept Beside)) : Type 0 where
  pub operands_are : AreOperandsOf s op operands
  pub right : IsRightKept suits s op operands kept

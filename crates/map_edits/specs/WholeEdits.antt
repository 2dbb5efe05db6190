-- All edits there are.
use Rattle.std.specs.Prelude.{ℕ, ℤ, List}
use Rattle.map_defs.specs.Ops.{Name}
use Rattle.map_defs.specs.Statements.{Procedure}
use Rattle.map_edits.specs.EditForms.{Edit}
use Rattle.map_edits.specs.Pasts.{Past}

pub data WholeEdit : Type 0 where
  -- a load, a new layer, a painted rectangle, a statement, or a drop
  of_names : Edit → WholeEdit
  define_procedure : Procedure → WholeEdit
  label : Name → ℤ → List ℕ → WholeEdit
  -- one byte
  symbol : Name → ℤ → ℕ → WholeEdit
  -- the parts of an earlier state are put back; no line says this, an undo makes it
  put_back : Past → WholeEdit

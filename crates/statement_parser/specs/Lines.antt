-- What lines are.
use Rattle.std.specs.Prelude.{ℕ, ℤ, Bool, List, Option}
use Rattle.map_words.specs.Bytes.{Text}
use Rattle.map_defs.specs.Statements.{Written, Procedure}
use Rattle.statement_parser.specs.declared.operation.Operation.{Operation}
use Rattle.statement_parser.specs.declared.command.Command.{Command}
use Rattle.statement_parser.specs.declared.language.Language.{Language}

-- how lines are read: which rows of the language are there
pub record Manner : Type 0 where
  -- beside LocalSum, which always is
  pub operations : List Operation
  pub commands : List Command
  -- whether FocalSum may radiate
  pub sight : Bool
  -- whether procedures may be called
  pub calls : Bool
  -- whether Local statistics may ignore nulls
  pub ignoring : Bool

-- a line that changes the map
pub data Edit : Type 0 where
  define : Text → Written → Edit
  define_procedure : Procedure → Edit
  -- the first row and column, the last row and column, and the cell
  paint : Text → ℕ → ℕ → ℕ → ℕ → Option ℤ → Edit
  -- a layer that has this cell everywhere
  new_layer : Text → Option ℤ → Edit
  drop : Text → Edit
  -- the text that stands for a value of a layer
  put_label : Text → ℤ → Text → Edit
  -- the byte that stands for a value of a layer
  put_symbol : Text → ℤ → ℕ → Edit

-- a part of a branch: an edit, or a look at the cell in a row and a column
pub data Item : Type 0 where
  make : Edit → Item
  look_at : Text → ℕ → ℕ → Item

-- a line that asks for something
pub data Request : Type 0 where
  ask_value : Text → ℕ → ℕ → Request
  ask_grid : Text → Request
  ask_show : Text → Request
  ask_legend : Text → Request
  -- zones, values
  ask_table : Text → Text → Request
  ask_stamps : Text → Request
  ask_list : Request
  -- branches, each a list of items
  ask_branches : List (List Item) → Request

pub data Line : Type 0 where
  blank : Line
  edit : Edit → Line
  -- the newest edit that isn't taken back yet is taken back
  undo : Line
  ask : Request → Line
  -- the language of the lines after it
  model : Language → Line
  quit : Line

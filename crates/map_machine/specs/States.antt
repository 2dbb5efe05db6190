-- The map machine's state. It keeps sources with their grids, statements as they were written, procedures, labels, symbols and stamps, which language the lines are in,
-- and the parts of up to 64 earlier states; it keeps no grid of a statement.
use Rattle.std.specs.Prelude.{List}
use Rattle.grid_text.specs.declared.Header.{Header}
use Rattle.statement_parser.specs.declared.language.Place.{Place}
use Rattle.map_edits.specs.Pasts.{Past}
use Rattle.map_edits.specs.WholeStates.{WholeState}

pub record MapState : Type 0 where
  -- the texts of the first grid
  pub header : Header
  -- the language, and whether a line may still set it
  pub place : Place
  pub whole : WholeState
  -- what each edit of a line took the place of, the newest first, up to those that are taken back
  pub pasts : List Past

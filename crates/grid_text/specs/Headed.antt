-- What a grid's text holds.
use Rattle.map_nums.specs.Grids.{Grid}
use Rattle.grid_text.specs.declared.Header.{Header}

pub record Headed : Type 0 where
  pub header : Header
  pub grid : Grid

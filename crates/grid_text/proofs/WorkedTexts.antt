-- Worked texts, computed.
use Rattle.std.proofs.Common.{refl}
use Rattle.grid_text.specs.Contents.{grid_in}
use Rattle.grid_text.specs.Rows.{Rows}

pub rows : Rows
unfolding grid_in
rows = record {
  nine = refl;
  padded = refl;
  any_order = refl;
  three_cells = refl;
  five_cells = refl;
  greatest = refl;
  least = refl;
  zeros = refl;
  above = refl;
  broken = refl;
  nineteen_digits = refl;
  no_size = refl;
  no_key = refl;
  no_number = refl;
  no_columns = refl;
  less_than_none = refl;
  minus_zero = refl;
  too_large = refl;
  second_key = refl;
  key_for_value = refl;
  no_value = refl;
  nothing = refl;
  long_decimal = refl;
  exponent = refl;
  point = refl;
  long_number = refl;
}

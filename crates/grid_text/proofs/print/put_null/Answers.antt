use Rattle.std.specs.Fmt.{digits}
use Rattle.grid_text.proofs.print.put_null.Goals as goal

pub returns : goal.returns
unfolding digits
returns c = c.in_ok-extend_from_slice.ensures.items

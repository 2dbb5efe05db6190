use Rattle.std.proofs.Common.{refl}
use Rattle.map_examples.proofs.cut_rows.Goals as goal

pub returns : goal.returns
returns c = record { whole = (refl, refl, refl, refl, refl, refl, refl, refl, refl, refl, refl, refl, refl, refl, refl, refl, refl, refl); further = (refl, refl, refl, refl, refl, refl, refl, refl, refl, refl, refl); open_pieces = (refl, refl, refl, refl, refl, refl, refl, refl, refl, refl, refl); sessions = (refl, refl, refl, refl, refl) }

use Rattle.std.proofs.Common.{◌∙◌, ap, sym, pos}
use Rattle.std.proofs.lemmas.List.Elements.{Contains-get_or}
use Rattle.map_nums.specs.Grids.{Size, moved, compass}
use Rattle.drainage_flow.specs.Steepest.{offset_at}
use Rattle.drainage_flow.proofs.directions.lent_near.Goals as goal

pub lent_cell-requires-clause-lent : goal.lent_cell-requires-clause-lent
lent_cell-requires-clause-lent c = c.requires.lent.around (offset_at c.args.k) c.in-Some.next (Contains-get_or compass c.args.k (pos 0, pos 0) c.requires.few) (ap (λ (z : Size). moved z c.args.at (offset_at c.args.k)) c.requires.size ∙ sym c.in-Some.ensures.place)

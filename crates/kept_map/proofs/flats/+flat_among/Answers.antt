use Rattle.std.proofs.Common.{sym, ◌∙◌}
use Rattle.kept_map.proofs.EditedFlats.{lookup_rest}
use Rattle.kept_map.proofs.flats.+flat_among.Goals as goal

pub returns-else-eq : goal.returns-else-eq
returns-else-eq t c = λ written.
    c.flat_among.ensures written
    ∙ lookup_rest c.args.name.now written c.args.flats.now c.first-item.result c.in-len1-up.len_at_least c.first-item.is (sym c.eq.ensures ∙ c.if-eq.false)

use Rattle.std.proofs.Common.{◌≡◌, true, rules}
use Rattle.what_if.proofs.Places.{place_here}
use Rattle.what_if.proofs.looks.cell_of.Goals as goal

pub cell-requires : goal.cell-requires
cell-requires g c =
    let on : c.is_on.result ≡ true = search rules in
    place_here c.args.layer.now.size c.extent-extent.result c.columns.result c.args.r c.args.c c.is_on.result c.extent-extent.ensures.extent c.columns.ensures.columns c.is_on.ensures on

use Rattle.op_jobs.proofs.ZonalBook.{zonal_answer}
use Rattle.op_jobs.proofs.zonal_kernel.zonal_tile.Goals as goal

pub returns-in-Ok-clause-answer : goal.returns-in-Ok-clause-answer
returns-in-Ok-clause-answer g c = λ values is.
    let zones = c.args.zones.now in
    zonal_answer c.args.stat c.args.book.now zones.size values zones.cells c.requires.size is c.extent-extent.result c.view-view.result c.args.tile c.tile_of_zones.result
    c.extent-extent.ensures.extent c.view-view.ensures.tile c.extent-extent.ensures.size c.requires.within c.tile_of_zones.ensures

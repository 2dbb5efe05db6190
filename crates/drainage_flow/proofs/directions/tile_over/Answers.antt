use Rattle.std.proofs.Common.{◌∙◌, ap, subst, Result, Err}
use Rattle.map_defs.specs.Drainage.{direction_grid}
use Rattle.layer_tiles.specs.Tiles.{Block}
use Rattle.layer_tiles.specs.Answers.{IsTileAnswer}
use Rattle.layer_tiles.specs.declared.kernels.KernelRefusal.{KernelRefusal}
use Rattle.drainage_flow.proofs.Around.{direction_answer, never_wide}
use Rattle.drainage_flow.proofs.directions.tile_over.Goals as goal

pub unreachable-requires : goal.unreachable-requires
unreachable-requires c =
    let s = c.args.surface.now.size in
    let cells = c.args.surface.now.cells in
    let t = c.args.tile in
    let a = direction_answer s c.extent-extent.result cells t c.make_tile.result c.extent-extent.ensures.extent c.extent-extent.ensures.size c.requires.within c.make_tile.ensures in
    never_wide s cells t c.in-Err-Overflow.field-0-0 (subst (λ (r : Result Block KernelRefusal). IsTileAnswer s (direction_grid s cells).cells t r) (c.in-Err-Overflow.is ∙ ap (λ (k : KernelRefusal). let r : Result Block KernelRefusal = Err k in r) c.in-Err-Overflow.field-0-is) a)

pub returns-in-Ok : goal.returns-in-Ok
returns-in-Ok c =
    let s = c.args.surface.now.size in
    let cells = c.args.surface.now.cells in
    let t = c.args.tile in
    let a = direction_answer s c.extent-extent.result cells t c.make_tile.result c.extent-extent.ensures.extent c.extent-extent.ensures.size c.requires.within c.make_tile.ensures in
    (subst (λ (r : Result Block KernelRefusal). IsTileAnswer s (direction_grid s cells).cells t r) c.in-Ok.is a).0

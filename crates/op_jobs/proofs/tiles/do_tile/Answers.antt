use Rattle.std.proofs.Common.{◌<◌, sym, ◌∙◌, subst, Ok}
use Rattle.std.proofs.lemmas.List.{get_or_default}
use Rattle.std.specs.Prelude.{IfSome}
use Rattle.std.specs.List.{All}
use Rattle.layer_tiles.specs.Answers.{IsTileAnswer}
use Rattle.layer_tiles.specs.Tiles.{tiles_in}
use Rattle.statement_parser.specs.Views.{op_view}
use Rattle.map_waves.specs.Jobs.{was_in}
use Rattle.map_waves.specs.Operands.{IsOperand}
use Rattle.op_jobs.specs.Kernels.{CanMake, kernel_cells}
use Rattle.op_jobs.specs.Others.{IsOther}
use Rattle.op_jobs.specs.Pieces.{IsTileMade}
use Rattle.op_jobs.specs.Sound.{StatementJobs, now_in}
use Rattle.op_jobs.proofs.Sharing.{kept_size, size_kept, tile_own}
use Rattle.op_jobs.proofs.Gathering.{job_tile, piece_told}
use Rattle.op_jobs.proofs.tiles.do_tile.Goals as goal

pub make_tile-requires : goal.make_tile-requires
make_tile-requires g c =
    let j = c.args.jobs.now in
    let own = c.args.own.now in
    let t = c.index-tile.result.now in
    let P : StatementJobs → Type 0 = λ x. All (IsOperand x.size) x.operands × CanMake x.size x.operands own.kernel × (t < tiles_in x.size) in
    let within = job_tile j own c.requires.sound c.requires.own c.args.job t c.requires.below c.index-tile.ensures in
    let is = subst P (sym c.jobs.view_is) (c.requires.sound.edited.operands_are.each, (tile_own j own c.requires.sound c.requires.own).can, within) in
    record { operands_are = is.0; can = is.1; within = is.2 }

pub unless_same-requires : goal.unless_same-requires
unless_same-requires g c =
    let j = c.args.jobs.now in
    let t = c.index-tile.result.now in
    subst (λ (x : StatementJobs). IfSome x.kept (λ k. t < tiles_in k.layer.size)) (sym c.jobs.view_is)
    (kept_size j.size (op_view j.op) j.operands j.kept t c.requires.sound.edited.right (job_tile j c.args.own.now c.requires.sound c.requires.own c.args.job t c.requires.below c.index-tile.ensures))

pub returns-clause-piece : goal.returns-clause-piece
returns-clause-piece g c =
    let j = c.args.jobs.now in
    let t = c.index-tile.result.now in
    let own = tile_own j c.args.own.now c.requires.sound c.requires.own in
    let made = subst (λ (x : StatementJobs). IsTileAnswer x.size (kernel_cells x.size x.operands c.args.own.now.kernel) t (Ok c.in_ok-made.made)) c.jobs.view_is c.in_ok-made.ensures.answer in
    let answer : IsTileAnswer j.size (now_in j) t (Ok c.in_ok-made.made) = subst (λ cells. IsTileAnswer j.size cells t (Ok c.in_ok-made.made)) own.cells made in
    let other = subst (λ (x : StatementJobs). IsOther x.kept t c.in_ok-made.made c.unless_same.result) c.jobs.view_is c.unless_same.ensures.other in
    let at = c.index-tile.ensures ∙ get_or_default c.args.own.now.tiles.items c.args.job t 0 c.requires.below in
    subst (λ u. IsTileMade j.size (was_in j) (now_in j) u c.unless_same.result) at
    (piece_told j.size (now_in j) t j.kept c.in_ok-made.made c.unless_same.result c.requires.sound.size (job_tile j c.args.own.now c.requires.sound c.requires.own c.args.job t c.requires.below c.index-tile.ensures) (size_kept j.size (op_view j.op) j.operands j.kept c.requires.sound.edited.right) answer other)

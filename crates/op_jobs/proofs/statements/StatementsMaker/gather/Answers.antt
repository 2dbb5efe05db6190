use Rattle.std.proofs.Common.{◌≡◌, ◌<◌, length, sym, ◌∙◌, ap, subst, arith}
use Rattle.std.specs.List.{All}
use Rattle.std.proofs.lemmas.Result.{IfOk-weaker}
use Rattle.map_nums.specs.Tiles.{tiles_in}
use Rattle.statement_parser.specs.Views.{op_view}
use Rattle.map_waves.specs.Gathered.{IsRepaired}
use Rattle.map_waves.specs.Jobs.{was_in, aside_in}
use Rattle.map_waves.specs.declared.keeping.Made.{Made}
use Rattle.op_jobs.specs.Beside.{suits}
use Rattle.op_jobs.specs.Owning.{count_of}
use Rattle.op_jobs.specs.Pieces.{FitTiles}
use Rattle.op_jobs.specs.Sound.{StatementJobs, IsMadeOf}
use Rattle.op_jobs.specs.declared.beside.Beside.{Beside}
use Rattle.op_jobs.specs.declared.own.Own.TheVariants as an_own
use Rattle.op_jobs.proofs.Gathering.{tiles_within, tiles_up, pieces_fit, made_repaired}
use Rattle.op_jobs.proofs.Kept.{whole_pieces}
use Rattle.op_jobs.proofs.Once.{sound_of}
use Rattle.op_jobs.proofs.statements.StatementsMaker.gather.Goals as goal
use Rattle.op_jobs.proofs.statements.StatementsMaker.gather.Goals.{In-Tiles}

own_is : (c : In-Tiles) → c.args.jobs.own ≡ an_own.Tiles c.in-Tiles.own
own_is c = ap (λ (j : StatementJobs). j.own) (sym c.jobs.view_is) ∙ c.in-Tiles.is

count_is : (c : In-Tiles) → length c.args.pieces_made.items ≡ length c.in-Tiles.own.tiles.items
count_is c = c.requires.count ∙ (sound_of c.args.jobs c.requires.jobs.is_sound).count_is ∙ ap count_of (own_is c)

pub gather_tiles-requires : goal.gather_tiles-requires
gather_tiles-requires c =
    let e = (goal.at.gather_tiles-requires c).In-Tiles in
    let j = c.args.jobs in
    let sound = sound_of j c.requires.jobs.is_sound in
    let tiles = c.in-Tiles.own.tiles.items in
    record {
      few = omega (arith, c.requires.jobs.few, sound.count_is, ap count_of (own_is e));
      count = count_is e;
      ascending = tiles_up j c.in-Tiles.own sound (own_is e);
      within = subst (λ (x : StatementJobs). All (λ u. u < tiles_in x.size) tiles) (sym c.jobs.view_is) (tiles_within j c.in-Tiles.own sound (own_is e));
      fit = subst (λ (x : StatementJobs). FitTiles x.size tiles c.args.pieces_made.items) (sym c.jobs.view_is) (pieces_fit j c.in-Tiles.own c.args.pieces_made.items sound (own_is e) (count_is e) c.requires.each);
    }

pub returns-in-Tiles : goal.returns-in-Tiles
returns-in-Tiles c =
    let e = (goal.at.returns-in-Tiles c).In-Tiles in
    let j = c.args.jobs in
    IfOk-weaker c.gather_tiles.result _ _
    (λ (m : Made Beside) made. made_repaired j c.in-Tiles.own c.args.pieces_made.items (sound_of j c.requires.jobs.is_sound) (own_is e) (count_is e) c.requires.each m (subst (λ (x : StatementJobs). IsMadeOf x.size c.in-Tiles.own c.args.pieces_made.items m) c.jobs.view_is made)) c.gather_tiles.ensures

pub gather_whole-requires : goal.gather_whole-requires
gather_whole-requires c =
    let j = c.args.jobs in
    let sound = sound_of j c.requires.jobs.is_sound in
    let own = ap (λ (j : StatementJobs). j.own) (sym c.jobs.view_is) ∙ c.in-Whole.is in
    let w = whole_pieces j c.in-Whole.field-0 sound own c.args.pieces_made.items (c.requires.count ∙ sound.count_is ∙ ap count_of own) c.requires.each in
    (w.0, w.1)

pub returns : goal.returns
returns c =
    let j = c.args.jobs in
    let sound = sound_of j c.requires.jobs.is_sound in
    let own = ap (λ (j : StatementJobs). j.own) (sym c.jobs.view_is) ∙ c.in-Whole.is in
    let w = whole_pieces j c.in-Whole.field-0 sound own c.args.pieces_made.items (c.requires.count ∙ sound.count_is ∙ ap count_of own) c.requires.each in
    let both = sym w.1 ∙ c.gather_whole.ensures in
    let same : w.0 ≡ c.gather_whole.result = cc in
    subst (λ (m : Made Beside). IsRepaired suits j.size (op_view j.op) j.operands (was_in j) (aside_in j) m) same w.2.repaired

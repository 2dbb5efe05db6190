use Rattle.std.proofs.Common.{ap}
use Rattle.map_edits.specs.Pasts.{parts_of}
use Rattle.map_edits.specs.WholeEdits.{put_back}
use Rattle.kept_map.specs.Maps.{seen}
use Rattle.live_engine.specs.Inverses.{past_of}
use Rattle.live_engine.specs.declared.inverses.Inverse.TheVariants as inverses
use Rattle.live_engine.proofs.Accepting.{reads_by_rest, refused_stays}
use Rattle.live_engine.proofs.TileBacks.{back_repaint}
use Rattle.live_engine.proofs.reverting.tiles_back.Goals as goal

pub carry-requires-clause-draft : goal.carry-requires-clause-draft
carry-requires-clause-draft g c κs within =
    let r = back_repaint c.args.map.now c.requires.kept c.args.repaint c.requires.fits in
    (put_back (past_of (inverses.Tiles c.args.repaint) (parts_of (seen c.args.map.now))), r.0, r.1)

pub returns-in-Ok : goal.returns-in-Ok
returns-in-Ok g c =
    let r = back_repaint c.args.map.now c.requires.kept c.args.repaint c.requires.fits in
    record { reverted = c.in-Ok.ensures.carried _ r.0 r.1; kept = c.carry.ensures.kept; reads = reads_by_rest c.args.map.now _ _ _ _ (c.carry.ensures.reads _ r.0 r.1) }

pub returns : goal.returns
returns g c =
    let r = back_repaint c.args.map.now c.requires.kept c.args.repaint c.requires.fits in
    let left = c.in-Err.ensures.carried _ r.0 r.1 in
    record {
      reverted = (ap inverses.Tiles left.0, refused_stays (seen c.args.map.now) (seen c.carry.new.map) _ c.in-Err.left.refusal left.1);
      kept = c.carry.ensures.kept;
      reads = reads_by_rest c.args.map.now _ _ _ _ (c.carry.ensures.reads _ r.0 r.1);
    }

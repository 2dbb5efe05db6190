use Rattle.live_engine.proofs.Noted.{count_kept, count_accepted, back_beside}
use Rattle.live_engine.proofs.noting.take_back.Goals as goal

pub returns-in-Ok : goal.returns-in-Ok
returns-in-Ok c =
    let is = back_beside c.args.map.now c.args.back c.requires.kept c.requires.fits in
    record {
      reverted = count_accepted c.args.map.now _ _ c.requires.kept is _ _ c.in-Ok.ensures c.count.ensures.map c.count.result c.count.ensures.number c.count.ensures.counts;
      kept = count_kept c.args.map.now _ _ c.requires.kept is _ _ c.in-Ok.ensures c.count.ensures.map;
    }

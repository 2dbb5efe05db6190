use Rattle.std.proofs.Common.{sym, subst}
use Rattle.map_nums.specs.Counts.{raised}
use Rattle.map_edits.specs.Touches.{touch_of}
use Rattle.kept_map.specs.Maps.{seen}
use Rattle.kept_map.specs.declared.maps.KeptMap.{KeptMap}
use Rattle.live_engine.specs.Inverses.{TakesBack}
use Rattle.live_engine.specs.Notes.{edit_of_note}
use Rattle.live_engine.specs.declared.inverses.Inverse.TheVariants as inverses
use Rattle.live_engine.proofs.Noted.{is_noted, count_kept, count_accepted, note_beside, note_back}
use Rattle.live_engine.proofs.noting.take_note.Goals as goal

pub returns : goal.returns
returns c =
    let m = c.args.map.now in
    let note = c.args.note in
    let kept = c.requires.kept in
    let is = note_beside m note kept c.requires.may in
    let put = c.in_ok-before.ensures in
    let new = is_noted m _ _ kept is c.put.new.map c.count.new.map put.0 c.count.ensures.map in
    record {
      accepts = (
        count_accepted m _ _ kept is c.put.new.map c.count.new.map put.0 c.count.ensures.map c.count.result c.count.ensures.number c.count.ensures.counts,
        subst (λ (x : KeptMap). TakesBack (seen m) (seen x) (touch_of (edit_of_note note)) (inverses.Note c.in_ok-before.before)) (sym new) (note_back m note c.in_ok-before.before (raised m.number 1) kept put.1),
      );
      kept = count_kept m _ _ kept is c.put.new.map c.count.new.map put.0 c.count.ensures.map;
    }

use Rattle.std.proofs.Common.{bytes_eq, sym, ap, subst, ◌∙◌}
use Rattle.std.specs.List.{position_or_len}
use Rattle.std.specs.Map.{keys_of}
use Rattle.indexmap.specs.IndexMap.{insert_entry, move_index}
use Rattle.live_engine.specs.Puts.{CanSeat, seated_item}
use Rattle.live_engine.proofs.Seated.{inserted_before}
use Rattle.live_engine.proofs.placing.insert.Goals as goal

pub returns-in-Ok-insert_before-clause-items : goal.returns-in-Ok-insert_before-clause-items
returns-in-Ok-insert_before-clause-items c =
    let es = c.args.names.now.entries in
    let n = c.args.name in
    let item = c.args.item in
    c.in-Ok-insert_before.ensures.entries
    ∙ ap (move_index (insert_entry bytes_eq es n item) (position_or_len (bytes_eq n) (keys_of es))) c.in-Ok-insert_before.ensures.index
    ∙ inserted_before es c.in-Some.at n item (subst (CanSeat es n) c.in-Some.is c.requires.place) ∙ ap (λ o. seated_item es o n item) (sym c.in-Some.is)

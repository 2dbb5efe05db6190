use Rattle.std.proofs.Common.{◌≡◌, take}
use Rattle.layer_tiles.specs.Tallies.{RisesBy}
use Rattle.statement_parser.specs.Views.{items_view}
use Rattle.map_machine.specs.RequestReads.{items_reads}
use Rattle.what_if.specs.Tried.{AreTold}
use Rattle.what_if.proofs.Telling.{after_items}
use Rattle.what_if.proofs.items.tell_all.Given as goal

abbrev pub invariant-loop-item : goal.invariant-loop-item
invariant-loop-item g l = record {
  state : l.engine ≡ after_items l.initial.engine (items_view (take l.item-index l.items));
  told : AreTold l.initial.engine (items_view (take l.item-index l.items)) l.told.items;
  tally : RisesBy (items_reads l.initial.engine (items_view (take l.item-index l.items))).looks (items_reads l.initial.engine (items_view (take l.item-index l.items))).picks (g.M.Tally.counts l.initial.tally) (g.M.Tally.counts l.tally);
}

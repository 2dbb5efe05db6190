use Rattle.std.proofs.Common.{◌≡◌, ℕ, ◌*◌, length, drop}
use Rattle.region_labels.specs.Flood.{marks_in}
use Rattle.region_labels.specs.Lists.{labelled}
use Rattle.region_labels.specs.Provisional.{AreProvisional, AreTied, AreLabelBands}
use Rattle.region_labels.proofs.joins.labels_of_bands.Given as goal

abbrev pub invariant-loop-band : goal.invariant-loop-band
invariant-loop-band l = record {
  provisional : AreProvisional l.extent l.cells l.labels.items;
  tied : AreTied l.extent l.cells l.labels.items;
  row : ℕ;
  above : length l.labels.items ≡ row * l.extent.columns;
  below : AreLabelBands l.extent l.cells row (drop l.band-index l.bands);
  count : l.count ≡ marks_in (labelled l.labels.items);
}

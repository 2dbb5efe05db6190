use Rattle.std.proofs.Common.{◌≡◌, take}
use Rattle.procedure_expand.specs.Flats.{flats_view}
use Rattle.kept_map.proofs.copying.copy_flats.Given as goal

abbrev pub invariant-loop-flat : goal.invariant-loop-flat
invariant-loop-flat l = flats_view l.copies.items ≡ flats_view (take l.flat-index l.flats)

use Rattle.std.proofs.Common.{◌≡◌}
use Rattle.zonal_totals.specs.Books.{IsBookOf}
use Rattle.bench_kernels.proofs.zones.repaints.Given as goal

abbrev pub invariant-loop-round : goal.invariant-loop-round
invariant-loop-round l = record {
  values : l.values.size ≡ l.book.size;
  zones : l.zones.size ≡ l.book.size;
  right : IsBookOf l.book l.values.cells l.zones.cells;
}

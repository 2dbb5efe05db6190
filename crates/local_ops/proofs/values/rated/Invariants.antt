use Rattle.std.proofs.Common.{◌≡◌, drop}
use Rattle.map_defs.specs.Local.{rated}
use Rattle.local_ops.proofs.values.rated.Given as goal

abbrev pub invariant-loop-rate : goal.invariant-loop-rate
invariant-loop-rate l = rated (drop l.rate-index l.rates) l.value ≡ rated l.rates l.value

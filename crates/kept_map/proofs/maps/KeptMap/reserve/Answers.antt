use Rattle.kept_map.proofs.Copied.{kept_stays}
use Rattle.kept_map.proofs.maps.KeptMap.reserve.Goals as goal

pub returns-in_err-reserve-2-clause-kept : goal.returns-in_err-reserve-2-clause-kept
returns-in_err-reserve-2-clause-kept c = λ kept.
    kept_stays c.args.self.now (record c.args.self.now { names = c.reserve.new.self; sources = c.reserve-2.new.self }) c.reserve.ensures.entries c.reserve-2.ensures.names c.reserve-2.ensures.layers kept

pub returns-clause-kept : goal.returns-clause-kept
returns-clause-kept c = λ kept.
    kept_stays c.args.self.now (record c.args.self.now { names = c.reserve.new.self; sources = c.reserve-2.new.self }) c.reserve.ensures.entries c.reserve-2.ensures.names c.reserve-2.ensures.layers kept

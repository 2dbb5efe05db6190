use Rattle.std.proofs.Common.{[], None, refl}
use Rattle.map_defs.specs.Statements.{call}
use Rattle.live_engine.proofs.Counted.{counted_with}
use Rattle.live_engine.proofs.statement_limits.count_with.Goals as goal

pub overflow_sub-others : goal.overflow_sub-others
overflow_sub-others c =
    (counted_with c.args.kind c.args.names.now.entries c.args.name.now _ _ 0 [] c.count_all.ensures c.count_of.ensures refl (record { rows = 1; columns = 1 }) (λ n. None) (call [] [])).0

pub returns : goal.returns
returns c = λ size grids w.
    (counted_with c.args.kind c.args.names.now.entries c.args.name.now _ _ _ c.args.flats.now c.count_all.ensures c.count_of.ensures c.count_among.ensures size grids w).1

use Rattle.live_engine.specs.declared.statement_limits.Kind.TheVariants.{Any, Zonal, Neighbor}
use Rattle.live_engine.proofs.Counted.{few_of}
use Rattle.live_engine.proofs.statement_limits.beyond.Goals as goal

pub is_beyond-requires-clause-few : goal.is_beyond-requires-clause-few
is_beyond-requires-clause-few c = few_of Any c.args.names.now.entries c.requires.few

pub is_beyond-requires-2-clause-few : goal.is_beyond-requires-2-clause-few
is_beyond-requires-2-clause-few c = few_of Zonal c.args.names.now.entries c.requires.few

pub is_beyond-requires-3-clause-few : goal.is_beyond-requires-3-clause-few
is_beyond-requires-3-clause-few c = few_of Neighbor c.args.names.now.entries c.requires.few

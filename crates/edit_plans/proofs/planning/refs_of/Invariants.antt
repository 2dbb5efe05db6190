use Rattle.std.proofs.Common.{◌≡◌, ◌-◌, Some, length, take, map}
use Rattle.map_nums.specs.Options.{all_some}
use Rattle.statement_parser.specs.Views.{op_view}
use Rattle.edit_plans.specs.Planned.{ref_for, source_names}
use Rattle.edit_plans.proofs.planning.refs_of.Given as goal

abbrev pub invariant-loop-term : goal.invariant-loop-term
invariant-loop-term l = all_some (map (ref_for (source_names l.sources) l.names.keys) (take l.k (op_view l.op).terms)) ≡ Some l.refs.items

abbrev pub decreases-loop-term : goal.decreases-loop-term
decreases-loop-term l = length (op_view l.op).terms - l.k

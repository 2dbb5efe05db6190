use Rattle.std.proofs.Common.{ℕ, ◌<◌}
use Rattle.std.specs.Prelude.{IsTrue}
use Rattle.map_nums.specs.Numbers.{is_value}
use Rattle.drainage_flow.specs.Pouring.{flow_in}
use Rattle.drainage_flow.proofs.whole.first_wide_in.Given as goal

abbrev pub invariant-loop-at : goal.invariant-loop-at
invariant-loop-at l = (c : ℕ) → c < l.at → IsTrue (is_value (flow_in l.flows c))

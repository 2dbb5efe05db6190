use Rattle.std.proofs.Common.{◌≡◌, length, ap, arith}
use Rattle.statement_graph.specs.Groups.{nodes_in, drop_group}
use Rattle.statement_graph.proofs.Groupings.{length-drop_group}
use Rattle.map_checks.proofs.graphs.take_out.Goals as goal

pub returns : goal.returns
returns c =
    let le = length-drop_group c.args.graph.now c.args.name.now in
    let is : length (nodes_in c.drop_name.new.self) ≡ length (nodes_in (drop_group c.args.graph.now c.args.name.now)) = ap (λ gs. length (nodes_in gs)) c.drop_name.ensures in
    omega arith

-- What a graph stores: its places with their rows, and room for a round.
use Rattle.std.specs.Prelude.{ℕ, List, Option}
use Rattle.statement_graph.specs.declared.node.Entry.{Entry}
use Rattle.statement_graph.specs.declared.row.Row.{Row}
use Rattle.statement_graph.specs.Seats.{nodes_at}
use Rattle.statement_graph.specs.Tables.{IsKept}
use Rattle.statement_graph.specs.Links.{HasRoom}

pub record IsStored (es : List Entry) (rows spare : List Row) (firsts : List ℕ) (links : List (Option ℕ)) : Type 0 where
  pub kept : IsKept es rows spare
  pub room : HasRoom (nodes_at es) firsts links

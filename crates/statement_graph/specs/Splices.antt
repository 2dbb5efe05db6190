-- Places put in for others.
use Rattle.std.specs.Prelude.{◌≡◌, ℕ, List, ◌++◌, length, take, drop, Result, Ok, Err, IsTrue, IsFalse}
use Rattle.map_defs.specs.Ops.{Name}
use Rattle.map_defs.specs.Depths.{is_looped}
use Rattle.statement_graph.specs.declared.node.Entry.{Entry}
use Rattle.statement_graph.specs.declared.row.Row.{Row}
use Rattle.statement_graph.specs.declared.refusal.GraphRefusal.{GraphRefusal}
use Rattle.statement_graph.specs.declared.refusal.GraphRefusal.TheVariants.{Cycle, NoMemory}
use Rattle.statement_graph.specs.Seats.{nodes_at}
use Rattle.statement_graph.specs.Tables.{shown_all, table_at}

abbrev pub spliced : ℕ → ℕ → List Entry → List Entry → List Entry
spliced start end fresh es = take start es ++ fresh ++ drop end es

-- put in, with the rows of all places, where the name isn't reached from its needs; else as before
abbrev pub IsSpliced : {V : Type 0} → List Entry → List Entry → ℕ → ℕ → List Entry → Name → List Row → Result V GraphRefusal → Type 0
IsSpliced old new start end fresh n rows (Ok _) =
    (new ≡ spliced start end fresh old) × IsFalse (is_looped (nodes_at new) n) × (shown_all (nodes_at new) rows ≡ table_at (length new) (nodes_at new) n)
IsSpliced old new start end fresh n rows (Err Cycle) = (new ≡ old) × IsTrue (is_looped (nodes_at (spliced start end fresh old)) n)
IsSpliced old new start end fresh n rows (Err NoMemory) = new ≡ old

-- Reading procedures, on lists.
use Rattle.std.specs.Prelude.{ℕ, zero, suc, false, List, [], ◌∷◌, ◌++◌, Result, Ok, codes, if◌then◌else◌}
use Rattle.map_words.specs.Bytes.{Text}
use Rattle.map_defs.specs.Statements.{Written, Inner}
use Rattle.grammar_core.specs.declared.Fault.{Fault}
use Rattle.grammar_core.specs.Readers.{◌>>=◌, Read, one_at, end_at, starts}
use Rattle.statement_parser.specs.Lines.{Manner, Line}
use Rattle.statement_parser.specs.Scopes.{has_name, names_before}
use Rattle.statement_parser.specs.Places.{the, name_of, reading}
use Rattle.statement_parser.specs.ProcedureRules.{fresh_of, procedure_line}
use Rattle.statement_parser.specs.ReadBodies.{body_at}

unfoldable pub names_at : ℕ → List Text → List Text → Read Text (List Text)
names_at zero ps ws = Ok (ps, ws)
names_at (suc n) ps ws = if starts (the (codes ",")) ws then (do
  u ← one_at reading (the (codes ",")) false ws
  q ← one_at reading (fresh_of ps) false u.1
  names_at n (ps ++ q.0 ∷ []) q.1) else Ok (ps, ws)

-- the parameters, with what stands around them
unfoldable pub parameters_at : List Text → Read Text (List Text)
parameters_at ws = do
  u ← one_at reading (the (codes "(")) false ws
  a ← one_at reading name_of false u.1
  ps ← names_at 7 (a.0 ∷ []) a.1
  v ← one_at reading (the (codes ")")) false ps.1
  c ← one_at reading (the (codes ":")) false v.1
  Ok (ps.0, c.1)

unfoldable pub inner_at : Manner → List Text → List Text → Read Text Written
inner_at m ns ws = do
  u ← one_at reading (the (codes "=")) false ws
  body_at (has_name ns) m u.1

-- the last statement, to the end
unfoldable pub result_at : Manner → List Text → List Inner → List Text → Result (List Inner) Fault
result_at m ps is ws = do
  u ← one_at reading (the (codes "result")) false ws
  w ← inner_at m (names_before ps is) u.1
  e ← end_at w.1
  Ok (is ++ record { name = codes "result"; written = w.0 } ∷ [])

-- a statement before the last
unfoldable pub named_inner_at : Manner → List Text → List Text → Read Text Inner
named_inner_at m ns ws = do
  q ← one_at reading (fresh_of ns) false ws
  w ← inner_at m ns q.1
  u ← one_at reading (the (codes ";")) false w.1
  Ok (record { name = q.0; written = w.0 }, u.1)

unfoldable pub statements_at : Manner → List Text → ℕ → List Inner → List Text → Result (List Inner) Fault
statements_at m ps zero is ws = result_at m ps is ws
statements_at m ps (suc n) is ws = if starts (the (codes "result")) ws then result_at m ps is ws else (do
  i ← named_inner_at m (names_before ps is) ws
  statements_at m ps n (is ++ i.0 ∷ []) i.1)

unfoldable pub procedure_at : Manner → List Text → Result Line Fault
procedure_at m ws = do
  p ← one_at reading name_of false ws
  ps ← parameters_at p.1
  is ← statements_at m ps.0 15 [] ps.1
  Ok (procedure_line p.0 ps.0 is)

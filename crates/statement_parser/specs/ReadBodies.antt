-- Reading operations, on lists.
use Rattle.std.specs.Prelude.{ℕ, suc, pos, Bool, true, false, List, [], ◌∷◌, length, Option, Some, None, Ok, codes, if◌then◌else◌}
use Rattle.map_nums.specs.declared.Stat.{Stat}
use Rattle.map_nums.specs.Numbers.{greatest_value}
use Rattle.map_words.specs.Bytes.{Text}
use Rattle.map_defs.specs.Ops.{Term, Head, Op, of_one, of_two, local_op, rating_op, focal_op, sight_op}
use Rattle.map_defs.specs.Statements.{Written, plain, call}
use Rattle.grammar_core.specs.declared.Kind.TheVariants as kinds
use Rattle.grammar_core.specs.Refusals.{is_unknown}
use Rattle.grammar_core.specs.Run.{refused}
use Rattle.grammar_core.specs.Readers.{◌>>=◌, Read, one_at, starts}
use Rattle.statement_parser.specs.Lines.{Manner}
use Rattle.statement_parser.specs.Scopes.{Scope}
use Rattle.statement_parser.specs.Places.{the, maybe, value_of, disc_of, reach_of, limit_of, weights_of, call_of, tests, reading}
use Rattle.statement_parser.specs.Operations.{operation_named}
use Rattle.statement_parser.specs.Syntax.{Syntax, one_term, two_terms, many_terms, rated, around, spreading, draining, syntax_of}
use Rattle.statement_parser.specs.Bodies.{radiates, drainage_op}
use Rattle.statement_parser.specs.ReadParts.{term_after_at, further_at, optional_at, rate_at, with_at, friction_at}
use Rattle.statement_parser.specs.declared.operation.Operation.{Operation}

unfoldable pub nulls_at : List Text → Read Text Bool
nulls_at ws = do
  u ← one_at reading (the (codes "ignoring")) false ws
  v ← one_at reading (the (codes "nulls")) false u.1
  Ok (true, v.1)

unfoldable pub ignoring_at : Manner → List Text → Read Text Bool
ignoring_at m ws = if starts (maybe m.ignoring (the (codes "ignoring"))) ws then nulls_at ws else Ok (false, ws)

unfoldable pub statistic_at : Scope → Manner → Stat → List Text → Read Text Op
statistic_at scope m s ws = do
  a ← term_after_at scope (codes "of") ws
  b ← term_after_at scope (codes "and") a.1
  ts ← further_at scope (codes "and") 6 (a.0 ∷ b.0 ∷ []) b.1
  ignoring ← ignoring_at m ts.1
  Ok (local_op s ignoring.0 ts.0, ignoring.1)

unfoldable pub pair_at : Scope → Text → List Text → Read Text (Term × Term)
pair_at scope word ws = do
  a ← term_after_at scope (codes "of") ws
  b ← term_after_at scope word a.1
  Ok ((a.0, b.0), b.1)

unfoldable pub two_at : Scope → Text → Head → List Text → Read Text Op
two_at scope word head ws = do
  p ← pair_at scope word ws
  Ok (of_two head p.0.0 p.0.1, p.1)

unfoldable pub single_at : Scope → Head → List Text → Read Text Op
single_at scope head ws = do
  a ← term_after_at scope (codes "of") ws
  Ok (of_one head a.0, a.1)

unfoldable pub rating_at : Scope → List Text → Read Text Op
rating_at scope ws = do
  a ← term_after_at scope (codes "of") ws
  v ← one_at reading (the (codes "with")) false a.1
  r ← rate_at v.1
  rs ← with_at 31 (r.0 ∷ []) r.1
  Ok (rating_op a.0 rs.0, rs.1)

unfoldable pub radius_at : Stat → Term → List Text → Read Text Op
radius_at s a ws = do
  r ← optional_at (codes "at") disc_of None ws
  Ok (focal_op s r.0 a, r.1)

unfoldable pub sight_at : Scope → Term → List Text → Read Text Op
sight_at scope a ws = do
  u ← one_at reading (the (codes "radiating")) false ws
  surface ← term_after_at scope (codes "on") u.1
  from ← optional_at (codes "from") value_of (pos 0) surface.1
  to ← optional_at (codes "to") value_of (pos 0) from.1
  reach ← optional_at (codes "within") reach_of 64 to.1
  Ok (sight_op (record { from = from.0; to = to.0; reach = reach.0 }) a surface.0, reach.1)

unfoldable pub reaching_at : Scope → Manner → Stat → Term → List Text → Read Text Op
reaching_at scope m s a ws = if starts (maybe (radiates m s) (the (codes "radiating"))) ws then sight_at scope a ws else radius_at s a ws

unfoldable pub focal_at : Scope → Manner → Stat → List Text → Read Text Op
focal_at scope m s ws = do
  a ← term_after_at scope (codes "of") ws
  reaching_at scope m s a.0 a.1

-- sources, friction and limit
unfoldable pub costs_at : Scope → List Text → Read Text (Term × Term × ℕ)
costs_at scope ws = do
  a ← term_after_at scope (codes "of") ws
  friction ← friction_at scope a.1
  limit ← optional_at (codes "within") limit_of greatest_value friction.1
  Ok ((a.0, friction.0, limit.0), limit.1)

unfoldable pub spread_at : Scope → (ℕ → Head) → List Text → Read Text Op
spread_at scope make ws = do
  c ← costs_at scope ws
  Ok (of_two (make c.0.2) c.0.0 c.0.1, c.1)

unfoldable pub drainage_at : Scope → List Text → Read Text Op
drainage_at scope ws = do
  a ← term_after_at scope (codes "of") ws
  w ← optional_at (codes "carrying") (weights_of scope) None a.1
  Ok (drainage_op a.0 w.0, w.1)

abbrev pub syntax_at : Scope → Manner → Syntax → List Text → Read Text Op
syntax_at scope m (one_term head) ws = single_at scope head ws
syntax_at scope m (two_terms word head) ws = two_at scope word head ws
syntax_at scope m (many_terms s) ws = statistic_at scope m s ws
syntax_at scope m rated ws = rating_at scope ws
syntax_at scope m (around s) ws = focal_at scope m s ws
syntax_at scope m (spreading make) ws = spread_at scope make ws
syntax_at scope m draining ws = drainage_at scope ws

abbrev pub operation_at : Scope → Manner → Operation → List Text → Read Text Op
operation_at scope m o ws = syntax_at scope m (syntax_of o) ws

-- the terms of a call, to its end
unfoldable pub given_at : Scope → List Text → Read Text (List Term)
given_at scope ws = do
  a ← term_after_at scope (codes "(") ws
  ts ← further_at scope (codes ",") 7 (a.0 ∷ []) a.1
  u ← one_at reading (the (codes ")")) false ts.1
  Ok (ts.0, u.1)

unfoldable pub call_at : Scope → Text → List Text → Read Text Written
call_at scope p ws = do
  ts ← given_at scope ws
  Ok (call p ts.0, ts.1)

unfoldable pub plain_at : Scope → Manner → Operation → List Text → Read Text Written
plain_at scope m o ws = do
  op ← operation_at scope m o ws
  Ok (plain op.0, op.1)

abbrev pub called_at : Scope → Option Text → List Text → Read Text Written
called_at scope None ws = refused kinds.Syntax (suc (length ws))
called_at scope (Some p) ws = call_at scope p ws

abbrev pub named_at : Scope → Manner → Option Operation → Option Text → List Text → Read Text Written
named_at scope m None p ws = called_at scope p ws
named_at scope m (Some o) p ws = plain_at scope m o ws

unfoldable pub body_at : Scope → Manner → List Text → Read Text Written
body_at scope m [] = refused kinds.Syntax 0
body_at scope m (w ∷ ws) = if is_unknown (tests m) (w ∷ ws) then refused kinds.Operation (suc (length ws)) else named_at scope m (operation_named m w) (call_of m w) ws

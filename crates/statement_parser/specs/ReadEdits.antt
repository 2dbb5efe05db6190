-- Reading what lines and the items of branches have in common, on lists.
use Rattle.std.specs.Prelude.{ℕ, true, false, List, Ok, codes}
use Rattle.map_words.specs.Bytes.{Text}
use Rattle.grammar_core.specs.Readers.{◌>>=◌, Read, one_at}
use Rattle.statement_parser.specs.Lines.{Manner, Edit, define, paint, new_layer, drop}
use Rattle.statement_parser.specs.Scopes.{anywhere}
use Rattle.statement_parser.specs.Places.{the, name_of, any_of, side_of, cell_of, reading}
use Rattle.statement_parser.specs.ReadBodies.{body_at}

unfoldable pub defined_at : Manner → Text → List Text → Read Text Edit
defined_at m n ws = do
  u ← one_at reading (the (codes "=")) false ws
  w ← body_at anywhere m u.1
  Ok (define n w.0, w.1)

-- the rows and columns of a rectangle
unfoldable pub corners_at : List Text → Read Text (ℕ × ℕ × ℕ × ℕ)
corners_at ws = do
  r1 ← one_at reading side_of true ws
  c1 ← one_at reading side_of true r1.1
  r2 ← one_at reading side_of true c1.1
  c2 ← one_at reading side_of true r2.1
  Ok ((r1.0, c1.0, r2.0, c2.0), c2.1)

unfoldable pub painted_at : List Text → Read Text Edit
painted_at ws = do
  n ← one_at reading name_of false ws
  k ← corners_at n.1
  v ← one_at reading cell_of true k.1
  Ok (paint n.0 k.0.0 k.0.1 k.0.2 k.0.3 v.0, v.1)

unfoldable pub laid_at : List Text → Read Text Edit
laid_at ws = do
  n ← one_at reading name_of false ws
  v ← one_at reading cell_of true n.1
  Ok (new_layer n.0 v.0, v.1)

unfoldable pub dropped_at : List Text → Read Text Edit
dropped_at ws = do
  n ← one_at reading name_of false ws
  Ok (drop n.0, n.1)

-- a name, a row and a column
unfoldable pub looked_at : List Text → Read Text (Text × ℕ × ℕ)
looked_at ws = do
  n ← one_at reading any_of false ws
  r ← one_at reading side_of true n.1
  c ← one_at reading side_of true r.1
  Ok ((n.0, r.0, c.0), c.1)

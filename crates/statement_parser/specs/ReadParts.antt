-- Reading the parts of operations, on lists.
use Rattle.std.specs.Prelude.{ℕ, zero, suc, ℤ, pos, true, false, List, [], ◌∷◌, ◌++◌, Option, Ok, codes, if◌then◌else◌}
use Rattle.map_nums.specs.declared.Rate.{Rate}
use Rattle.map_words.specs.Bytes.{Text}
use Rattle.map_defs.specs.Ops.{Term, number_term}
use Rattle.grammar_core.specs.Readers.{◌>>=◌, Read, one_at, starts}
use Rattle.statement_parser.specs.Scopes.{Scope}
use Rattle.statement_parser.specs.Places.{the, value_of, term_of, cell_of, reading}

unfoldable pub term_after_at : Scope → Text → List Text → Read Text Term
term_after_at scope word ws = do
  u ← one_at reading (the word) false ws
  one_at reading (term_of scope) true u.1

unfoldable pub further_at : Scope → Text → ℕ → List Term → List Text → Read Text (List Term)
further_at scope word zero ts ws = Ok (ts, ws)
further_at scope word (suc n) ts ws = if starts (the word) ws then (do
  t ← term_after_at scope word ws
  further_at scope word n (ts ++ t.0 ∷ []) t.1) else Ok (ts, ws)

unfoldable pub optional_at : {A : Type 0} → Text → (Text → Option A) → A → List Text → Read Text A
optional_at word place default ws = if starts (the word) ws then (do
  u ← one_at reading (the word) false ws
  one_at reading place true u.1) else Ok (default, ws)

unfoldable pub range_at : Option ℤ → List Text → Read Text Rate
range_at give ws = do
  u ← one_at reading (the (codes "for")) false ws
  low ← one_at reading value_of true u.1
  high ← optional_at (codes "to") value_of low.0 low.1
  Ok (record { low = low.0; high = high.0; give = give }, high.1)

unfoldable pub rate_at : List Text → Read Text Rate
rate_at ws = do
  give ← one_at reading cell_of true ws
  range_at give.0 give.1

unfoldable pub with_at : ℕ → List Rate → List Text → Read Text (List Rate)
with_at zero rs ws = Ok (rs, ws)
with_at (suc n) rs ws = if starts (the (codes "with")) ws then (do
  u ← one_at reading (the (codes "with")) false ws
  r ← rate_at u.1
  with_at n (rs ++ r.0 ∷ []) r.1) else Ok (rs, ws)

unfoldable pub friction_at : Scope → List Text → Read Text Term
friction_at scope ws = if starts (the (codes "spreading")) ws then (do
  u ← one_at reading (the (codes "spreading")) false ws
  term_after_at scope (codes "in") u.1) else Ok (number_term (pos 1), ws)

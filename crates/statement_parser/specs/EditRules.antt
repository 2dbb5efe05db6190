-- What lines and the items of branches have in common: what follows their first word; f is what may follow it.
use Rattle.std.specs.Prelude.{ℕ, codes}
use Rattle.map_words.specs.Bytes.{Text}
use Rattle.grammar_core.specs.Rules.{Rule, next}
use Rattle.statement_parser.specs.Lines.{Manner, Edit, define, paint, new_layer, drop, Line}
use Rattle.statement_parser.specs.Scopes.{anywhere}
use Rattle.statement_parser.specs.Places.{the, name_of, any_of, side_of, cell_of}
use Rattle.statement_parser.specs.Bodies.{body_rule}

-- after its name: "=" body
abbrev pub define_part : Manner → Text → (Edit → Rule Text Line) → Rule Text Line
define_part m n f = next (the (codes "=")) (λ _. body_rule anywhere m (λ w. f (define n w)))

-- name ROW COL ROW COL cell
abbrev pub paint_part : (Edit → Rule Text Line) → Rule Text Line
paint_part f = next name_of (λ n. next side_of (λ r1. next side_of (λ c1. next side_of (λ r2. next side_of (λ c2. next cell_of (λ v. f (paint n r1 c1 r2 c2 v)))))))

-- name cell
abbrev pub new_part : (Edit → Rule Text Line) → Rule Text Line
new_part f = next name_of (λ n. next cell_of (λ v. f (new_layer n v)))

-- name
abbrev pub drop_part : (Edit → Rule Text Line) → Rule Text Line
drop_part f = next name_of (λ n. f (drop n))

-- any ROW COL
abbrev pub value_part : (Text → ℕ → ℕ → Rule Text Line) → Rule Text Line
value_part f = next any_of (λ n. next side_of (λ r. next side_of (λ c. f n r c)))

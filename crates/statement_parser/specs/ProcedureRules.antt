-- What follows the word procedure.
use Rattle.std.specs.Prelude.{ℕ, zero, suc, not, ◌&&◌, List, [], ◌∷◌, ◌++◌, Option, Some, None, codes, if◌then◌else◌}
use Rattle.map_words.specs.Bytes.{Text}
use Rattle.map_words.specs.Names.{is_plain}
use Rattle.map_defs.specs.Statements.{Written, Inner}
use Rattle.grammar_core.specs.Rules.{Rule, ends, on, next, also}
use Rattle.statement_parser.specs.Lines.{Manner, Line, define_procedure, edit}
use Rattle.statement_parser.specs.Scopes.{has_name, names_before}
use Rattle.statement_parser.specs.Places.{the, name_of}
use Rattle.statement_parser.specs.Bodies.{body_rule}

-- a plain name that is none of these
abbrev pub fresh_of : List Text → Text → Option Text
fresh_of ns t = if is_plain t && not (has_name ns t) then Some t else None

-- {"," name}, each new, at most n times
abbrev pub further_names : (List Text → Rule Text Line) → ℕ → List Text → Rule Text Line
further_names f zero ps = f ps
further_names f (suc n) ps = also (on (the (codes ",")) (λ _. next (fresh_of ps) (λ q. further_names f n (ps ++ q ∷ [])))) (f ps)

-- "=" body, where a term is a number or one of these names
abbrev pub inner_part : Manner → List Text → (Written → Rule Text Line) → Rule Text Line
inner_part m ns f = next (the (codes "=")) (λ _. body_rule (has_name ns) m f)

-- after the last name, result: "=" body
abbrev pub result_rule : Manner → (List Inner → Line) → List Text → List Inner → Rule Text Line
result_rule m make ps is = inner_part m (names_before ps is) (λ w. ends (make (is ++ record { name = codes "result"; written = w } ∷ [])))

-- {name "=" body ";"} "result" "=" body, after the statements is, with at most n more before the last
abbrev pub statements_rule : Manner → (List Inner → Line) → List Text → ℕ → List Inner → Rule Text Line
statements_rule m make ps zero is = next (the (codes "result")) (λ _. result_rule m make ps is)
statements_rule m make ps (suc n) is =
    also (on (the (codes "result")) (λ _. result_rule m make ps is))
    (next (fresh_of (names_before ps is)) (λ q. inner_part m (names_before ps is) (λ w.
    next (the (codes ";")) (λ _. statements_rule m make ps n (is ++ record { name = q; written = w } ∷ [])))))

-- the line of a procedure by its name, its parameters and its body
abbrev pub procedure_line : Text → List Text → List Inner → Line
procedure_line p ps is = edit (define_procedure (record { name = p; takes = ps; body = is }))

-- name "(" name {"," name} ")" ":" statements; 1 to 8 parameters, 1 to 16 statements
abbrev pub procedure_rule : Manner → Rule Text Line
procedure_rule m =
    next name_of (λ p. next (the (codes "(")) (λ _. next name_of (λ a. further_names (λ ps.
    next (the (codes ")")) (λ _. next (the (codes ":")) (λ _. statements_rule m (procedure_line p ps) ps 15 []))) 7 (a ∷ []))))

-- What follows an operation's name; f is what may follow the operation.
use Rattle.std.specs.Prelude.{ℕ, zero, suc, pos, Bool, true, false, List, [], ◌∷◌, ◌++◌, Option, Some, None, codes}
use Rattle.map_nums.specs.declared.Stat.{Stat}
use Rattle.map_nums.specs.declared.Stat.TheVariants.{Sum}
use Rattle.map_nums.specs.declared.Rate.{Rate}
use Rattle.map_nums.specs.Numbers.{greatest_value}
use Rattle.map_words.specs.Bytes.{Text}
use Rattle.map_defs.specs.Ops.{Term, number_term, Head, Op, of_one, of_two, local_op, rating_op, focal_op, direction_op, flow_op, sight_op}
use Rattle.grammar_core.specs.Rules.{Rule, node, on, next, also, ◌<|>◌}
use Rattle.map_defs.specs.Statements.{Written, plain, call}
use Rattle.statement_parser.specs.Lines.{Manner, Line}
use Rattle.statement_parser.specs.Scopes.{Scope}
use Rattle.statement_parser.specs.Operations.{operation_named}
use Rattle.statement_parser.specs.Syntax.{Syntax, one_term, two_terms, many_terms, rated, around, spreading, draining, syntax_of}
use Rattle.statement_parser.specs.Places.{the, maybe, value_of, disc_of, reach_of, limit_of, term_of, weights_of, cell_of, call_of}
use Rattle.statement_parser.specs.declared.operation.Operation.{Operation}

-- word term
abbrev pub term_after : Scope → Text → (Term → Rule Text Line) → Rule Text Line
term_after scope word f = next (the word) (λ _. next (term_of scope) f)

-- {word term}, at most n times
abbrev pub further_terms : Scope → Text → (List Term → Rule Text Line) → ℕ → List Term → Rule Text Line
further_terms scope word f zero ts = f ts
further_terms scope word f (suc n) ts = also (on (the word) (λ _. next (term_of scope) (λ t. further_terms scope word f n (ts ++ t ∷ [])))) (f ts)

-- [word place]; left out, it is the default
abbrev pub optional_part : {A : Type 0} → Text → (Text → Option A) → A → (A → Rule Text Line) → Rule Text Line
optional_part word place default f = also (on (the word) (λ _. next place f)) (f default)

-- ["ignoring" "nulls"], where the language has it
abbrev pub ignoring_part : Manner → (Bool → Rule Text Line) → Rule Text Line
ignoring_part m f = also (on (maybe m.ignoring (the (codes "ignoring"))) (λ _. next (the (codes "nulls")) (λ _. f true))) (f false)

-- "of" term "and" term {"and" term}, 2 to 8 terms, ["ignoring" "nulls"]
abbrev pub statistic_body : Scope → Manner → Stat → (Op → Rule Text Line) → Rule Text Line
statistic_body scope m s f =
    term_after scope (codes "of") (λ a. term_after scope (codes "and") (λ b.
    further_terms scope (codes "and") (λ ts. ignoring_part m (λ ignoring. f (local_op s ignoring ts))) 6 (a ∷ b ∷ [])))

-- "of" term
abbrev pub single_body : Scope → Head → (Op → Rule Text Line) → Rule Text Line
single_body scope head f = term_after scope (codes "of") (λ a. f (of_one head a))

-- "of" term word term
abbrev pub pair_body : Scope → Text → Head → (Op → Rule Text Line) → Rule Text Line
pair_body scope word head f = term_after scope (codes "of") (λ a. term_after scope word (λ b. f (of_two head a b)))

-- cell "for" VALUE ["to" VALUE]
abbrev pub rate_part : (Rate → Rule Text Line) → Rule Text Line
rate_part f =
    next cell_of (λ give. next (the (codes "for")) (λ _. next value_of (λ low.
    optional_part (codes "to") value_of low (λ high. f (record { low = low; high = high; give = give })))))

-- {"with" cell "for" VALUE ["to" VALUE]}, at most n times
abbrev pub with_rates : (List Rate → Rule Text Line) → ℕ → List Rate → Rule Text Line
with_rates f zero rs = f rs
with_rates f (suc n) rs = also (on (the (codes "with")) (λ _. rate_part (λ r. with_rates f n (rs ++ r ∷ [])))) (f rs)

-- "of" term "with" cell "for" VALUE ["to" VALUE] .., 1 to 32 clauses
abbrev pub rating_body : Scope → (Op → Rule Text Line) → Rule Text Line
rating_body scope f =
    term_after scope (codes "of") (λ a. next (the (codes "with")) (λ _. rate_part (λ r.
    with_rates (λ rs. f (rating_op a rs)) 31 (r ∷ []))))

-- ["at" RADIUS]
abbrev pub radius_part : Stat → Term → (Op → Rule Text Line) → Rule Text Line
radius_part s a f = optional_part (codes "at") disc_of None (λ r. f (focal_op s r a))

-- "on" term ["from" VALUE] ["to" VALUE] ["within" REACH]
abbrev pub sight_part : Scope → Term → (Op → Rule Text Line) → Rule Text Line
sight_part scope a f =
    term_after scope (codes "on") (λ surface.
    optional_part (codes "from") value_of (pos 0) (λ from.
    optional_part (codes "to") value_of (pos 0) (λ to.
    optional_part (codes "within") reach_of 64 (λ reach. f (sight_op (record { from = from; to = to; reach = reach }) a surface)))))

-- of the Focal statistics, the sum may radiate
abbrev pub radiates : Manner → Stat → Bool
radiates m Sum = m.sight
radiates m s = false

-- "of" term, and then what radiates or a radius
abbrev pub focal_body : Scope → Manner → Stat → (Op → Rule Text Line) → Rule Text Line
focal_body scope m s f = term_after scope (codes "of") (λ a. also (on (maybe (radiates m s) (the (codes "radiating"))) (λ _. sight_part scope a f)) (radius_part s a f))

-- ["spreading" "in" term]
abbrev pub friction_part : Scope → (Term → Rule Text Line) → Rule Text Line
friction_part scope f = also (on (the (codes "spreading")) (λ _. term_after scope (codes "in") f)) (f (number_term (pos 1)))

-- "of" term ["spreading" "in" term] ["within" LIMIT]
abbrev pub spread_body : Scope → (ℕ → Head) → (Op → Rule Text Line) → Rule Text Line
spread_body scope make f =
    term_after scope (codes "of") (λ a. friction_part scope (λ friction. optional_part (codes "within") limit_of greatest_value (λ limit. f (of_two (make limit) a friction))))

-- the flow that carries weights, or else the direction
abbrev pub drainage_op : Term → Option Term → Op
drainage_op a None = direction_op a
drainage_op a (Some weights) = flow_op a weights

-- "of" term ["carrying" term]
abbrev pub drainage_body : Scope → (Op → Rule Text Line) → Rule Text Line
drainage_body scope f = term_after scope (codes "of") (λ a. optional_part (codes "carrying") (weights_of scope) None (λ w. f (drainage_op a w)))

abbrev pub syntax_body : Scope → Manner → (Op → Rule Text Line) → Syntax → Rule Text Line
syntax_body scope m f (one_term head) = single_body scope head f
syntax_body scope m f (two_terms word head) = pair_body scope word head f
syntax_body scope m f (many_terms s) = statistic_body scope m s f
syntax_body scope m f rated = rating_body scope f
syntax_body scope m f (around s) = focal_body scope m s f
syntax_body scope m f (spreading make) = spread_body scope make f
syntax_body scope m f draining = drainage_body scope f

-- what follows the name of each operation
abbrev pub operation_body : Scope → Manner → (Op → Rule Text Line) → Operation → Rule Text Line
operation_body scope m f o = syntax_body scope m f (syntax_of o)

-- "(" term {"," term} ")", 1 to 8 terms
abbrev pub call_body : Scope → (List Term → Rule Text Line) → Rule Text Line
call_body scope f = term_after scope (codes "(") (λ a. further_terms scope (codes ",") (λ ts. next (the (codes ")")) (λ _. f ts)) 7 (a ∷ []))

-- an operation or a call, and then what f allows
abbrev pub body_rule : Scope → Manner → (Written → Rule Text Line) → Rule Text Line
body_rule scope m f = node None (on (operation_named m) (operation_body scope m (λ op. f (plain op))) <|> on (call_of m) (λ p. call_body scope (λ ts. f (call p ts))))

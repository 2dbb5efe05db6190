-- The one canonical text of a statement.
use Rattle.std.specs.Prelude.{ℕ, ℤ, pos, Bool, true, false, List, [], ◌∷◌, ◌++◌, Option, Some, None, codes, decimal, if◌then◌else◌}
use Rattle.std.specs.Ordering.{int_eq}
use Rattle.std.specs.Fmt.{signed_decimal}
use Rattle.map_nums.specs.declared.Rate.{Rate}
use Rattle.map_nums.specs.Numbers.{vmax}
use Rattle.map_words.specs.Bytes.{Text}
use Rattle.statement_parser.specs.Operations.{operation_text, operation_of}
use Rattle.statement_parser.specs.TermTexts.{term_text, terms_texts, listed}
use Rattle.statement_parser.specs.Spacing.{spaced}
use Rattle.map_defs.specs.Sight.{Sighting}
use Rattle.map_defs.specs.Ops.{Term, layer_term, number_term, Head, local_head, rating_head, focal_head, zonal_head, flow_head, spread_head, nearest_head, sight_head, Op}
use Rattle.map_defs.specs.Statements.{Written, plain, call}

abbrev pub cell_text : Option ℤ → Text
cell_text None = codes "null"
cell_text (Some z) = signed_decimal z

-- a word and a number; both are left out where the number is the default
abbrev pub optional_texts : Text → ℤ → ℤ → List Text
optional_texts word default z = if int_eq z default then [] else word ∷ signed_decimal z ∷ []

abbrev pub rate_texts : Rate → List Text
rate_texts r = codes "with" ∷ cell_text r.give ∷ codes "for" ∷ signed_decimal r.low ∷ optional_texts (codes "to") r.low r.high

abbrev pub rates_texts : List Rate → List Text
rates_texts [] = []
rates_texts (r ∷ rs) = rate_texts r ++ rates_texts rs

-- the square of three by three is left out
abbrev pub radius_texts : Option ℕ → List Text
radius_texts None = []
radius_texts (Some r) = codes "at" ∷ decimal r ∷ []

abbrev pub sight_texts : Sighting → List Text
sight_texts s = optional_texts (codes "from") (pos 0) s.from ++ optional_texts (codes "to") (pos 0) s.to ++ optional_texts (codes "within") (pos 64) (pos s.reach)

abbrev pub is_one : Term → Bool
is_one (layer_term n) = false
is_one (number_term z) = int_eq z (pos 1)

-- friction 1 is left out
abbrev pub friction_texts : Term → List Text
friction_texts t = if is_one t then [] else codes "spreading" ∷ codes "in" ∷ term_text t ∷ []

abbrev pub ignoring_texts : Bool → List Text
ignoring_texts true = codes "ignoring" ∷ codes "nulls" ∷ []
ignoring_texts false = []

-- sources, friction and the greatest cost that counts
abbrev pub spread_texts : ℕ → Term → Term → List Text
spread_texts limit t u = term_text t ∷ (friction_texts u ++ optional_texts (codes "within") vmax (pos limit))

-- the terms and what else a head has, after "of"
abbrev pub head_texts : Head → List Term → List Text
head_texts (local_head s ignoring) ts = terms_texts (codes "and") ts ++ ignoring_texts ignoring
head_texts (rating_head rs) ts = terms_texts (codes "and") ts ++ rates_texts rs
head_texts (focal_head s r) ts = terms_texts (codes "and") ts ++ radius_texts r
head_texts (zonal_head s) ts = terms_texts (codes "within") ts
head_texts flow_head ts = terms_texts (codes "carrying") ts
head_texts (spread_head limit) (t ∷ u ∷ []) = spread_texts limit t u
head_texts (nearest_head limit) (t ∷ u ∷ []) = spread_texts limit t u
head_texts (sight_head s) (t ∷ u ∷ []) = term_text t ∷ codes "radiating" ∷ codes "on" ∷ term_text u ∷ sight_texts s
head_texts head ts = terms_texts (codes "and") ts

-- the words of an operation
abbrev pub op_texts : Op → List Text
op_texts o = operation_text (operation_of o.head) ∷ codes "of" ∷ head_texts o.head o.terms

-- the text of a body, with a space before it; the terms of a call stand between ( and )
abbrev pub tail_text : Written → Text
tail_text (plain o) = spaced (op_texts o)
tail_text (call p ts) = 32 ∷ (p ++ 40 ∷ (listed ts ++ 41 ∷ []))

-- a statement's canonical text: the name, a space and =, and the body
abbrev pub written_text : Text → Written → Text
written_text n w = n ++ 32 ∷ 61 ∷ tail_text w

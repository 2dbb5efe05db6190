-- What a word may be at each place of a line.
use Rattle.std.specs.Prelude.{ℕ, ℤ, pos, nat_abs, ◌==◌, Bool, false, not, ◌&&◌, ◌||◌, Option, Some, None, option_map, codes, bytes_eq, if◌then◌else◌}
use Rattle.map_nums.specs.Numbers.{vmin, vmax}
use Rattle.map_words.specs.Bytes.{Text}
use Rattle.map_words.specs.Names.{has_name_form, is_plain, is_dotted}
use Rattle.map_words.specs.Numbers.{is_number, number_in}
use Rattle.grammar_core.specs.Refusals.{Tests}
use Rattle.map_defs.specs.Ops.{Term, layer_term, number_term}
use Rattle.statement_parser.specs.Lines.{Manner}
use Rattle.statement_parser.specs.Scopes.{Scope}
use Rattle.statement_parser.specs.Operations.{is_operation}
use Rattle.statement_parser.specs.declared.language.Language.{Language}
use Rattle.statement_parser.specs.declared.language.Language.TheVariants.{One, Two}

-- this very word
abbrev pub the : Text → Text → Option (Unit {0})
the word t = if bytes_eq t word then Some tt else None

-- a plain name
abbrev pub name_of : Text → Option Text
name_of t = if is_plain t then Some t else None

-- a plain or a dotted name
abbrev pub any_of : Text → Option Text
any_of t = if is_plain t || is_dotted t then Some t else None

-- a number that a cell may hold
abbrev pub value_of : Text → Option ℤ
value_of t = number_in vmin vmax t

-- a number from 1 on, or from 0 on, in a range
abbrev pub count_of : ℤ → ℤ → Text → Option ℕ
count_of low high t = option_map nat_abs (number_in low high t)

-- a row or a column
abbrev pub side_of : Text → Option ℕ
side_of t = count_of (pos 1) (pos 4096) t

-- the radius of a disc
abbrev pub disc_of : Text → Option (Option ℕ)
disc_of t = option_map Some (count_of (pos 1) (pos 32) t)

-- how far sight reaches
abbrev pub reach_of : Text → Option ℕ
reach_of t = count_of (pos 1) (pos 64) t

-- the greatest cost of a spread
abbrev pub limit_of : Text → Option ℕ
limit_of t = count_of (pos 0) vmax t

-- the version of a language
abbrev pub version_of : Text → Option Language
version_of t = option_map (λ n. if n == 1 then One else Two) (count_of (pos 1) (pos 2) t)

-- a name of the scope, or a number
abbrev pub term_of : Scope → Text → Option Term
term_of scope t = if is_plain t && scope t then Some (layer_term t) else option_map number_term (value_of t)

-- the term of a part that may be left out
abbrev pub weights_of : Scope → Text → Option (Option Term)
weights_of scope t = option_map Some (term_of scope t)

abbrev pub cell_of : Text → Option (Option ℤ)
cell_of t = if bytes_eq t (codes "null") then Some None else option_map Some (value_of t)

-- a place that may not be there
abbrev pub maybe : {A : Type 0} → Bool → (Text → Option A) → Text → Option A
maybe there f t = if there then f t else None

-- a procedure's name, where calls are there
abbrev pub call_of : Manner → Text → Option Text
call_of m t = maybe m.calls name_of t

-- what refusals ask of a word
abbrev pub tests : Manner → Tests Text
tests m = record {
  number = codes "01";
  operation = codes "LocalSum";
  is_number = is_number;
  is_stranger = λ t. has_name_form t && not (is_operation m t);
  opens = λ t. bytes_eq t (codes "(");
}

-- what the reading of one word asks: whether it is a number
abbrev pub reading : Tests Text
reading = record {
  number = codes "01";
  operation = codes "LocalSum";
  is_number = is_number;
  is_stranger = λ t. false;
  opens = λ t. false;
}

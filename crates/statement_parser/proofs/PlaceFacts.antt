-- What the places of lines take, and what they don't.
use Rattle.std.proofs.Common.{◌≡◌, ℕ, pos, Bool, true, false, cond, [], ◌∷◌, Option, Some, None, refl, ap, subst}
use Rattle.std.specs.Prelude.{codes, is_some, bytes_eq, IsTrue}
use Rattle.std.proofs.lemmas.Slice.Eq.{bytes_eq-Decides}
use Rattle.map_nums.specs.declared.Stat.TheVariants as stats
use Rattle.map_nums.specs.Numbers.{is_value, greatest_value}
use Rattle.map_words.specs.Bytes.{Text, is_good}
use Rattle.layer_tiles.specs.Cells.{IsCell}
use Rattle.map_words.specs.Names.{is_plain, is_dotted, is_reserved, is_among}
use Rattle.map_words.specs.Numbers.{number_text}
use Rattle.grammar_core.proofs.Reading.{IsPlace}
use Rattle.map_defs.specs.Ops.{number_term}
use Rattle.statement_parser.specs.Lines.{Manner}
use Rattle.statement_parser.specs.Scopes.{Scope}
use Rattle.statement_parser.specs.Operations.{find_operation, has_row, operation_named}
use Rattle.statement_parser.specs.Syntax.{Syntax, two_terms, syntax_of}
use Rattle.statement_parser.specs.Places.{the, maybe, name_of, any_of, value_of, side_of, disc_of, reach_of, limit_of, version_of, term_of, weights_of, cell_of, call_of, tests}
use Rattle.statement_parser.specs.Signs.{is_sign, one_byte, byte_of, sign_of}
use Rattle.statement_parser.specs.BranchRules.{opening_of}
use Rattle.statement_parser.specs.Formed.{IsAny, IsBetween, IsRadius}
use Rattle.statement_parser.specs.declared.opening.Opening.TheVariants.{Named}
use Rattle.statement_parser.proofs.FormedLines.{if_some, name_formed, any_formed, value_formed, count_formed, disc_formed, IsOpened, opening_formed, IsTermIn, term_formed, cell_formed, AreWeights, weights_formed}
use Rattle.statement_parser.specs.Commands.{find_command, has_command, command_named}
use Rattle.statement_parser.specs.declared.operation.Operation.{Operation}
use Rattle.statement_parser.specs.declared.operation.Operation.TheVariants.{Local, Difference}
use Rattle.statement_parser.specs.declared.language.Language.TheVariants.{One}

pub maybe_free : {A : Type 0} (b : Bool) (f : Text → Option A) (t : Text) → f t ≡ None → maybe b f t ≡ None
maybe_free true f t e = e
maybe_free false f t e = refl

either_none : {A : Type 0} (b : Bool) (o : Option A) → o ≡ None → cond b o None ≡ None
either_none true o e = e
either_none false o e = refl

-- no row is there that the table hasn't
pub operation_none : (m : Manner) (t : Text) → find_operation t ≡ None → operation_named m t ≡ None
unfolding operation_named
operation_none m t e = either_none (has_row (Local stats.Sum ∷ m.operations) t) (find_operation t) e

pub command_none : (m : Manner) (t : Text) → find_command t ≡ None → command_named m t ≡ None
unfolding command_named
command_none m t e = either_none (has_command m.commands t) (find_command t) e

no_operation_number : find_operation (codes "01") ≡ None
unfolding find_operation
no_operation_number = refl

no_command_operation : find_command (codes "LocalSum") ≡ None
unfolding find_command
no_command_operation = refl

no_command_number : find_command (codes "01") ≡ None
unfolding find_command
no_command_number = refl

sum_found : find_operation (codes "LocalSum") ≡ Some (Local stats.Sum)
unfolding find_operation
sum_found = refl

no_name_number : name_of (codes "01") ≡ None
unfolding is_plain
no_name_number = refl

pub the_word : (word : Text) → the word word ≡ Some tt
the_word word = rw ((bytes_eq-Decides word word).1 refl) refl

-- the word before the last term
abbrev pub word_in : Syntax → Text
word_in (two_terms word head) = word
word_in s = codes "of"

-- a word that is no operation, and no number
abbrev pub IsFree : Text → Type 0
IsFree word = (bytes_eq (codes "LocalSum") word ≡ false) × (bytes_eq (codes "01") word ≡ false)

pub word_free : (o : Operation) → IsFree (word_in (syntax_of o))
word_free Difference = (refl, refl)
word_free o = (refl, refl)

-- a byte that is taken is one of those
one_taken : (takes : ℕ → Bool) (w : Text) (b : ℕ) → one_byte takes w ≡ Some b → takes b ≡ true
one_taken takes [] b e = absurd cc
one_taken takes (c ∷ []) b e = let h = if_some (takes c) c b e in subst (λ d. takes d ≡ true) h.1 h.0
one_taken takes (c ∷ d ∷ cs) b e = absurd cc

module _ (m : Manner) where
  pub operation_takes : operation_named m (codes "LocalSum") ≡ Some (Local stats.Sum)
  unfolding operation_named
  operation_takes = sum_found

  -- no operation stands there, and where a number is due
  pub the_place : (word : Text) → IsFree word → IsPlace (tests m) (the word) false
  the_place word e = record { free = rw e.0 refl; number = rw e.1 refl }

  -- a place that takes some word
  pub record IsOpen {A : Type 0} (P : A → Type 0) (f : Text → Option A) (due : Bool) : Type 0 where
    pub place : IsPlace (tests m) f due
    pub word : Text
    pub value : A
    pub takes : f word ≡ Some value
    pub gives : (w : Text) (v : A) → f w ≡ Some v → P v

  opened : {A : Type 0} {P : A → Type 0} (f : Text → Option A) (due : Bool) (word : Text) (value : A) → f (codes "LocalSum") ≡ None → is_some (f (codes "01")) ≡ due → f word ≡ Some value
      → ((w : Text) (v : A) → f w ≡ Some v → P v) → IsOpen P f due
  opened f due word value free number takes gives = record { place = record { free = free; number = number }; word = word; value = value; takes = takes; gives = gives }

  pub name_open : IsOpen (λ n. IsTrue (is_plain n)) name_of false
  unfolding is_plain is_reserved is_among
  name_open = opened name_of false (codes "A") (codes "A") refl refl refl name_formed

  pub any_open : IsOpen IsAny any_of false
  unfolding is_plain is_dotted is_reserved is_among
  any_open = opened any_of false (codes "A") (codes "A") refl refl refl any_formed

  pub opening_open : IsOpen IsOpened opening_of false
  unfolding is_plain is_reserved is_among
  opening_open = opened opening_of false (codes "A") (Named (codes "A")) refl refl refl opening_formed

  pub term_open : (scope : Scope) → IsOpen (IsTermIn scope) (term_of scope) true
  unfolding is_plain is_reserved is_among number_text
  term_open scope = opened (term_of scope) true (codes "1") (number_term (pos 1)) refl refl refl (term_formed scope)

  pub weights_open : (scope : Scope) → IsOpen (AreWeights scope) (weights_of scope) true
  unfolding is_plain is_reserved is_among number_text
  weights_open scope = opened (weights_of scope) true (codes "1") (Some (number_term (pos 1))) refl refl refl (weights_formed scope)

  pub value_open : IsOpen (λ z. IsTrue (is_value z)) value_of true
  unfolding number_text
  value_open = opened value_of true (codes "1") (pos 1) refl refl refl value_formed

  pub cell_open : IsOpen IsCell cell_of true
  unfolding number_text
  cell_open = opened cell_of true (codes "null") None refl refl refl cell_formed

  pub side_open : IsOpen (IsBetween 1 4096) side_of true
  unfolding number_text
  side_open = opened side_of true (codes "1") 1 refl refl refl (count_formed 1 4096)

  pub disc_open : IsOpen IsRadius disc_of true
  unfolding number_text
  disc_open = opened disc_of true (codes "1") (Some 1) refl refl refl disc_formed

  pub reach_open : IsOpen (IsBetween 1 64) reach_of true
  unfolding number_text
  reach_open = opened reach_of true (codes "1") 1 refl refl refl (count_formed 1 64)

  pub limit_open : IsOpen (IsBetween 0 greatest_value) limit_of true
  unfolding number_text
  limit_open = opened limit_of true (codes "1") 1 refl refl refl (count_formed 0 greatest_value)

  pub version_open : IsOpen (λ l. Unit {0}) version_of true
  unfolding number_text
  version_open = opened version_of true (codes "1") One refl refl refl (λ w l e. tt)

  pub sign_open : IsOpen (λ b. IsTrue (is_sign b)) sign_of false
  sign_open = opened sign_of false (codes "x") 120 refl refl refl (one_taken is_sign)

  pub byte_open : IsOpen (λ b. IsTrue (is_good b)) byte_of false
  byte_open = opened byte_of false (codes "x") 120 refl refl refl (one_taken is_good)

  pub call_place : IsPlace (tests m) (call_of m) false
  call_place = record {
    free = maybe_free m.calls name_of (codes "LocalSum") name_open.place.free;
    number = ap is_some (maybe_free m.calls name_of (codes "01") no_name_number);
  }

  pub operation_number : is_some (operation_named m (codes "01")) ≡ false
  operation_number = ap is_some (operation_none m (codes "01") no_operation_number)

  pub command_place : IsPlace (tests m) (command_named m) false
  command_place = record { free = command_none m (codes "LocalSum") no_command_operation; number = ap is_some (command_none m (codes "01") no_command_number) }

-- The names before a statement are the parameters and the names of the statements before.
use Rattle.std.proofs.Common.{◌≡◌, Bool, true, false, ◌||◌, List, [], ◌∷◌, ◌++◌, refl, sym, ap, ◌∙◌}
use Rattle.std.specs.Prelude.{bytes_eq}
use Rattle.std.specs.List.{list_any}
use Rattle.std.proofs.lemmas.List.Folds.{list_any-append}
use Rattle.map_words.specs.Bytes.{Text}
use Rattle.map_defs.specs.Statements.{Inner}
use Rattle.map_defs.specs.MadeProcedures.{inner_names}
use Rattle.statement_parser.specs.Scopes.{has_name, names_before}
use Rattle.statement_parser.specs.Views.{body_view}
use Rattle.statement_parser.specs.declared.line.Written as parsed

or_none : (b : Bool) → b ≡ (b || false)
or_none true = refl
or_none false = refl

or_assoc : (a b c d : Bool) → d ≡ (b || false) → ((a || d) || c) ≡ (a || (b || c))
or_assoc true b c d e = refl
or_assoc false true c d e = rw e refl
or_assoc false false c d e = rw e refl

before_is : (ps : List Text) (is : List Inner) (t : Text) → has_name (names_before ps is) t ≡ (has_name ps t || has_name (inner_names is) t)
before_is ps [] t = or_none (has_name ps t)
before_is ps (i ∷ is) t =
    before_is (ps ++ i.name ∷ []) is t
    ∙ ap (λ b. b || has_name (inner_names is) t) (list_any-append (λ n. bytes_eq n t) ps (i.name ∷ []))
    ∙ or_assoc (has_name ps t) (bytes_eq i.name t) (has_name (inner_names is) t) (has_name (i.name ∷ []) t) refl

pub among_before : (ps : List Text) (is : List Inner) (t : Text) → has_name ps t ≡ true → true ≡ has_name (names_before ps is) t
among_before ps is t e = sym (before_is ps is t ∙ rw e refl)

pub named_before : (ps : List Text) (is : List Inner) (t : Text) → has_name ps t ≡ false → has_name (inner_names is) t ≡ has_name (names_before ps is) t
named_before ps is t e = sym (before_is ps is t ∙ rw e refl)

-- the names of statements as the code holds them
pub any_named : (body : List (Text × parsed.Written)) (t : Text) → list_any (λ i. bytes_eq i.0 t) body ≡ has_name (inner_names (body_view body)) t
any_named [] t = refl
any_named (i ∷ is) t = ap (λ b. bytes_eq i.0 t || b) (any_named is t)

-- What a plain name is.
use Rattle.std.proofs.Common.{◌≡◌, ◌≢◌, ℕ, ◌≤◌, ◌==◌, Bool, true, false, not, ◌&&◌, ◌||◌, List, [], ◌∷◌, ◌++◌, length, cond, Some, bytes_eq, codes, refl, sym, ap, subst, ◌∙◌, arith}
use Rattle.std.specs.Prelude.{nat_le}
use Rattle.std.specs.List.{list_all}
use Rattle.std.specs.Char.{is_ascii_alphabetic, is_ascii_digit}
use Rattle.std.proofs.lemmas.Bool.{true≢false, false≢true, and_parts, leb-true, not-true}
use Rattle.std.proofs.lemmas.Bool.Decides.{nat_tests}
use Rattle.map_words.specs.Names.{is_name_byte, has_name_form, is_reserved, is_among, is_plain}
use Rattle.map_defs.specs.Ops.{Name}
use Rattle.map_defs.specs.FlatNames.{has_dot}
use Rattle.map_defs.specs.Statements.{Procedure}
use Rattle.map_defs.specs.Expansion.{find_procedure}
use Rattle.map_defs.specs.MadeProcedures.{IsUndotted}
use Rattle.procedure_expand.specs.CalledProcedures.{IsShort, AreShort, HaveShortNames}

no_dot : (b : ℕ) → is_name_byte b ≡ true → (b == 46) ≡ false
no_dot b e = grind (arith, nat_tests)

no_dots : (bs : Name) → list_all is_name_byte bs ≡ true → has_dot bs ≡ false
no_dots [] e = refl
no_dots (b ∷ bs) e =
    let h = and_parts (is_name_byte b) (list_all is_name_byte bs) e in
    ap (λ (o : Bool). o || has_dot bs) (no_dot b h.0) ∙ no_dots bs h.1

letter : (b : ℕ) → is_ascii_alphabetic b ≡ true → is_name_byte b ≡ true
letter b e = ap (λ (o : Bool). (o || is_ascii_digit b) || b == 95) e

form_facts : (n : Name) → has_name_form n ≡ true → IsUndotted n × IsShort n
form_facts [] e = absurd (false≢true e)
form_facts (b ∷ bs) e =
    let h = and_parts (is_ascii_alphabetic b && list_all is_name_byte bs) (nat_le (length bs) 31) e in
    let k = and_parts (is_ascii_alphabetic b) (list_all is_name_byte bs) h.0 in
    let few : length bs ≤ 31 = leb-true (length bs) 31 h.1 in
    (ap (λ (o : Bool). o || has_dot bs) (no_dot b (letter b k.0)) ∙ no_dots bs k.1, omega arith)

plain_parts : (n : Name) → is_plain n ≡ true → (has_name_form n ≡ true) × (not (is_reserved n) ≡ true)
unfolding is_plain
plain_parts n e = and_parts (has_name_form n) (not (is_reserved n)) e

result_reserved : is_reserved (codes "result") ≡ true
unfolding is_reserved is_among
result_reserved = refl

pub plain_undotted : (n : Name) → is_plain n ≡ true → IsUndotted n
plain_undotted n e = (form_facts n (plain_parts n e).0).0

pub plain_short : (n : Name) → is_plain n ≡ true → IsShort n
plain_short n e = (form_facts n (plain_parts n e).0).1

pub plain_named : (n : Name) → is_plain n ≡ true → n ≢ codes "result"
plain_named n e same =
    let free : is_reserved n ≡ false = not-true (is_reserved n) (plain_parts n e).1 in
    let both : true ≡ false = sym (ap is_reserved same ∙ result_reserved) ∙ free in
    true≢false both

-- ---- procedures with short names

pub found_short : (ps : List Procedure) (n : Name) (q : Procedure) → HaveShortNames ps → find_procedure ps n ≡ Some q → AreShort q.body
found_short [] n q short e = absurd cc
found_short (p ∷ ps) n q short e = go (bytes_eq p.name n) (found_short ps n q short.1) e
  where
    go : (o : Bool) → (find_procedure ps n ≡ Some q → AreShort q.body) → cond o (Some p) (find_procedure ps n) ≡ Some q → AreShort q.body
    go true later h =
        let same : p ≡ q = cc in
        let P : Procedure → Type 0 = λ r. AreShort r.body in
        subst P same short.0
    go false later h = later h

pub short_more : (ps : List Procedure) (p : Procedure) → HaveShortNames ps → AreShort p.body → HaveShortNames (ps ++ p ∷ [])
short_more [] p h short = (short, tt)
short_more (q ∷ ps) p h short = (h.0, short_more ps p h.1 short)

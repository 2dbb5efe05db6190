-- What places and tables give is formed, and there.
use Rattle.std.proofs.Common.{◌≡◌, ◌<◌, ℕ, ℤ, pos, negsuc, Bool, true, false, cond, not, ◌&&◌, ◌||◌, List, [], ◌∷◌, Option, Some, None, refl, sym, subst, arith, find}
use Rattle.std.specs.Prelude.{codes, bytes_eq, int_le, nat_abs, option_map, IsTrue, nat_le, nat_lt}
use Rattle.std.proofs.lemmas.Bool.{leb-true}
use Rattle.std.proofs.lemmas.Bool.Decides.{nat_tests}
use Rattle.map_nums.specs.declared.Stat.TheVariants as stats
use Rattle.map_nums.specs.Numbers.{is_value, vmin, vmax}
use Rattle.map_words.specs.Bytes.{Text}
use Rattle.map_words.specs.Names.{is_plain, is_dotted}
use Rattle.map_words.specs.Numbers.{number_text, if_between}
use Rattle.map_defs.specs.Ops.{Term, layer_term, number_term}
use Rattle.statement_parser.specs.Lines.{Manner}
use Rattle.statement_parser.specs.Forms.{form_of, form_row}
use Rattle.statement_parser.specs.Scopes.{Scope}
use Rattle.statement_parser.specs.BranchRules.{opening_of}
use Rattle.statement_parser.specs.declared.opening.Opening.{Opening}
use Rattle.statement_parser.specs.declared.opening.Opening.TheVariants.{Named}
use Rattle.statement_parser.specs.declared.opening.Opening.TheVariants as openings
use Rattle.statement_parser.specs.Operations.{operations, operation_text, find_operation, has_row, operation_named}
use Rattle.statement_parser.specs.Places.{name_of, any_of, value_of, count_of, disc_of, term_of, weights_of, cell_of}
use Rattle.statement_parser.specs.Commands.{commands, command_text, find_command, has_command, command_named}
use Rattle.layer_tiles.specs.Cells.{IsCell}
use Rattle.statement_parser.specs.Formed.{Each, InScope, IsTerm, IsNoProduct, IsBetween, IsRadius, IsAny}
use Rattle.statement_parser.specs.There.{HasRow, HasCommand}
use Rattle.std.proofs.lemmas.Slice.Eq.{bytes_eq-Decides}
use Rattle.statement_parser.specs.declared.op.Form.{Form}
use Rattle.statement_parser.specs.declared.op.Form.TheVariants.{Linkage, Length, Partition, Frontage, Gradient, Aspect}
use Rattle.statement_parser.specs.declared.operation.Operation.{Operation}
use Rattle.statement_parser.specs.declared.operation.Operation.TheVariants.{Local, Focal, Zonal}
use Rattle.statement_parser.specs.declared.command.Command.{Command}

-- ---- what a place gives

pub if_some : {A : Type 0} (b : Bool) (x y : A) → cond b (Some x) None ≡ Some y → (b ≡ true) × (x ≡ y)
if_some true x y e = (refl, cc)
if_some false x y e = absurd cc

pub name_formed : (w n : Text) → name_of w ≡ Some n → IsTrue (is_plain n)
name_formed w n e = let h = if_some (is_plain w) w n e in subst (λ t. is_plain t ≡ true) h.1 h.0

pub any_formed : (w n : Text) → any_of w ≡ Some n → IsAny n
any_formed w n e = let h = if_some (is_plain w || is_dotted w) w n e in subst (λ t. (is_plain t || is_dotted t) ≡ true) h.1 h.0

in_range : (low high : ℤ) (o : Option ℤ) (z : ℤ) → if_between low high o ≡ Some z → (int_le low z && int_le z high) ≡ true
in_range low high None z e = absurd cc
in_range low high (Some y) z e = let h = if_some (int_le low y && int_le y high) y z e in subst (λ x. (int_le low x && int_le x high) ≡ true) h.1 h.0

pub value_formed : (w : Text) (z : ℤ) → value_of w ≡ Some z → IsTrue (is_value z)
value_formed w z e = in_range vmin vmax (number_text w) z e

map_some : {A B : Type 0} (f : A → B) (o : Option A) (y : B) → option_map f o ≡ Some y → (x : A) × (o ≡ Some x) × (f x ≡ y)
map_some f None y e = absurd cc
map_some f (Some x) y e = (x, refl, cc)

pub both_true : (a b : Bool) → (a && b) ≡ true → (a ≡ true) × (b ≡ true)
both_true true true e = (refl, refl)
both_true true false e = absurd cc
both_true false b e = absurd cc

pub not_true : (b : Bool) → not b ≡ true → b ≡ false
not_true true e = absurd cc
not_true false e = refl

count_in : (low high : ℕ) (z : ℤ) → (int_le (pos low) z && int_le z (pos high)) ≡ true → IsBetween low high (nat_abs z)
count_in low high (pos n) e =
    let h = both_true (nat_le low n) (nat_le n high) e in
    (leb-true low n h.0, leb-true n high h.1)
count_in low high (negsuc n) e = absurd cc

pub count_formed : (low high : ℕ) (w : Text) (n : ℕ) → count_of (pos low) (pos high) w ≡ Some n → IsBetween low high n
count_formed low high w n e =
    let h = map_some nat_abs (if_between (pos low) (pos high) (number_text w)) n e in
    subst (IsBetween low high) h.2 (count_in low high h.0 (in_range (pos low) (pos high) (number_text w) h.0 h.1))

pub disc_formed : (w : Text) (r : Option ℕ) → disc_of w ≡ Some r → IsRadius r
disc_formed w r e = let h = map_some Some (count_of (pos 1) (pos 32) w) r e in subst IsRadius h.2 (count_formed 1 32 w h.0 h.1)

-- the name of a statement is plain
abbrev pub IsOpened : Opening → Type 0
IsOpened (Named n) = IsTrue (is_plain n)
IsOpened o = Unit {0}

pub opening_formed : (w : Text) (o : Opening) → opening_of w ≡ Some o → IsOpened o
opening_formed w o e = go (bytes_eq w (codes "paint")) (bytes_eq w (codes "new")) (bytes_eq w (codes "drop")) (bytes_eq w (codes "value")) e
  where
    go : (p n d v : Bool) → cond p (Some openings.Paint) (cond n (Some openings.New) (cond d (Some openings.Drop) (cond v (Some openings.Value) (option_map Named (name_of w))))) ≡ Some o → IsOpened o
    go true n d v e = let h : openings.Paint ≡ o = cc in subst IsOpened h tt
    go false true d v e = let h : openings.New ≡ o = cc in subst IsOpened h tt
    go false false true v e = let h : openings.Drop ≡ o = cc in subst IsOpened h tt
    go false false false true e = let h : openings.Value ≡ o = cc in subst IsOpened h tt
    go false false false false e = let h = map_some Named (name_of w) o e in subst IsOpened h.2 (name_formed w h.0 h.1)

pub is_fewer : (n : ℕ) → nat_lt n 15 ≡ true → n < 15
is_fewer n e = grind (arith, nat_tests)

-- a term that may stand in the scope
abbrev pub IsTermIn : Scope → Term → Type 0
IsTermIn scope t = IsTerm t × InScope scope t

pub term_formed : (scope : Scope) (w : Text) (t : Term) → term_of scope w ≡ Some t → IsTermIn scope t
term_formed scope w t e = go (is_plain w) (scope w) refl refl e
  where
    number : option_map number_term (value_of w) ≡ Some t → IsTermIn scope t
    number e = let h = map_some number_term (value_of w) t e in subst (IsTermIn scope) h.2 (value_formed w h.0 h.1, tt)

    go : (b c : Bool) → is_plain w ≡ b → scope w ≡ c → cond (b && c) (Some (layer_term w)) (option_map number_term (value_of w)) ≡ Some t → IsTermIn scope t
    go true true p q e = let h : layer_term w ≡ t = cc in subst (IsTermIn scope) h (p, q)
    go true false p q e = number e
    go false c p q e = number e

pub cell_formed : (w : Text) (c : Option ℤ) → cell_of w ≡ Some c → IsCell c
cell_formed w c e = go (bytes_eq w (codes "null")) e
  where
    go : (b : Bool) → cond b (Some None) (option_map Some (value_of w)) ≡ Some c → IsCell c
    go true e = let h : None ≡ c = cc in subst IsCell h tt
    go false e = let h = map_some Some (value_of w) c e in subst IsCell h.2 (value_formed w h.0 h.1)

-- the terms of a part that may be left out
abbrev pub AreWeights : Scope → Option Term → Type 0
AreWeights scope None = Unit {0}
AreWeights scope (Some t) = IsTermIn scope t

pub weights_formed : (scope : Scope) (w : Text) (t : Option Term) → weights_of scope w ≡ Some t → AreWeights scope t
weights_formed scope w t e = let h = map_some Some (term_of scope w) t e in subst (AreWeights scope) h.2 (term_formed scope w h.0 h.1)

-- ---- what a table gives

pub either_some : {A : Type 0} (b : Bool) (o : Option A) (v : A) → cond b o None ≡ Some v → (b ≡ true) × (o ≡ Some v)
either_some true o v e = (refl, e)
either_some false o v e = absurd cc

-- what is found is a row of the table
found_holds : {A : Type 0} (P : A → Type 0) (text : A → Text) (xs : List A) (t : Text) (v : A) → Each P xs → find (λ x. bytes_eq (text x) t) xs ≡ Some v → (text v ≡ t) × P v
found_holds P text [] t v each e = absurd cc
found_holds {A} P text (x ∷ xs) t v each e = go (bytes_eq (text x) t) refl e (found_holds P text xs t v each.1)
  where
    go : (b : Bool) → bytes_eq (text x) t ≡ b → cond b (Some x) (find (λ x. bytes_eq (text x) t) xs) ≡ Some v → (find (λ x. bytes_eq (text x) t) xs ≡ Some v → (text v ≡ t) × P v) → (text v ≡ t) × P v
    go true h e rest = let same : x ≡ v = cc in subst (λ y. (text y ≡ t) × P y) same ((bytes_eq-Decides (text x) t).0 h, each.0)
    go false h e rest = rest e

-- no product is Focal or Zonal
abbrev pub IsRow : Operation → Type 0
IsRow (Focal s) = IsNoProduct s
IsRow (Zonal s) = IsNoProduct s
IsRow o = Unit {0}

all_rows : Each IsRow operations
all_rows = (tt, (tt, (tt, (tt, (tt, (tt, (tt, (tt, (tt, (tt, (tt, (tt, (tt, (tt, (tt, (tt, (tt, (tt, (tt, (tt, (tt, (tt, (tt, (tt, (tt, (tt, (tt, (tt, (tt, (tt, (tt, (tt, (tt, (tt, (tt, (tt, (tt, (tt, tt))))))))))))))))))))))))))))))))))))))

pub operation_formed_row : (m : Manner) (w : Text) (o : Operation) → operation_named m w ≡ Some o → HasRow m o × IsRow o
unfolding operation_named find_operation
operation_formed_row m w o e =
    let h = either_some (has_row (Local stats.Sum ∷ m.operations) w) (find_operation w) o e in
    let f = found_holds IsRow operation_text operations w o all_rows h.1 in
    (subst (λ t. has_row (Local stats.Sum ∷ m.operations) t ≡ true) (sym f.0) h.0, f.1)

abbrev IsAnyCommand : Command → Type 0
IsAnyCommand c = Unit {0}

all_commands : Each IsAnyCommand commands
all_commands = (tt, (tt, (tt, (tt, (tt, (tt, (tt, (tt, (tt, (tt, (tt, (tt, (tt, (tt, (tt, (tt, (tt, tt)))))))))))))))))

-- a command that is named has the word, and is in the table
pub command_word : (m : Manner) (w : Text) (c : Command) → command_named m w ≡ Some c → (command_text c ≡ w) × (find_command w ≡ Some c)
unfolding command_named find_command
command_word m w c e =
    let h = either_some (has_command m.commands w) (find_command w) c e in
    ((found_holds IsAnyCommand command_text commands w c all_commands h.1).0, h.1)

pub command_there : (m : Manner) (w : Text) (c : Command) → command_named m w ≡ Some c → HasCommand m c
unfolding command_named find_command
command_there m w c e =
    let h = either_some (has_command m.commands w) (find_command w) c e in
    let f = found_holds IsAnyCommand command_text commands w c all_commands h.1 in
    subst (λ t. has_command m.commands t ≡ true) (sym f.0) h.0

pub form_again : (f : Form) → f ≡ form_row (form_of f)
form_again Linkage = refl
form_again Length = refl
form_again Partition = refl
form_again Frontage = refl
form_again Gradient = refl
form_again Aspect = refl

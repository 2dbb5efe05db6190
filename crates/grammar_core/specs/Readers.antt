-- The plain programs of which a parser by descent is made: what was read, and the words after it.
use Rattle.std.specs.Prelude.{ℕ, suc, Bool, false, ◌&&◌, List, [], ◌∷◌, length, Option, Some, None, is_some, Result, Ok, Err, if◌then◌else◌}
use Rattle.grammar_core.specs.declared.Kind.{Kind}
use Rattle.grammar_core.specs.declared.Kind.TheVariants.{Syntax, Number}
use Rattle.grammar_core.specs.declared.Fault.{Fault}
use Rattle.grammar_core.specs.Refusals.{Tests, is_number_next}
use Rattle.grammar_core.specs.Run.{refused}

infixl 10 ◌>>=◌
abbrev pub ◌>>=◌ : {A B : Type 0} → Result A Fault → (A → Result B Fault) → Result B Fault
(Ok x) >>= f = f x
(Err e) >>= f = Err e

abbrev pub Read : Type 0 → Type 0 → Type 0
Read W A = Result (A × List W) Fault

abbrev pub taken : {W A : Type 0} → Option A → Kind → ℕ → List W → Read W A
taken None k n ws = refused k n
taken (Some v) k n ws = Ok (v, ws)

-- where a number is due, a number that doesn't fit is told from another word
abbrev pub fault_kind : {W : Type 0} → Tests W → Bool → List W → Kind
fault_kind t due ws = if due && is_number_next t ws then Number else Syntax

-- one word that the place f takes; whether a number is due
abbrev pub one_at : {W A : Type 0} → Tests W → (W → Option A) → Bool → List W → Read W A
one_at t f due [] = refused Syntax 0
one_at t f due (w ∷ ws) = taken (f w) (fault_kind t due (w ∷ ws)) (suc (length ws)) ws

-- no further word
abbrev pub end_at : {W : Type 0} → List W → Result (Unit {0}) Fault
end_at [] = Ok tt
end_at (w ∷ ws) = refused Syntax (suc (length ws))

-- the next word is one that the place f takes
abbrev pub starts : {W A : Type 0} → (W → Option A) → List W → Bool
starts f [] = false
starts f (w ∷ ws) = is_some (f w)

-- A line of any length does what its step does.
use Rattle.std.proofs.Common.{◌≡◌, ◌<◌, ℕ, true, false, cond, List, length, refl, sym, ap, arith}
use Rattle.std.specs.Prelude.{nat_le}
use Rattle.std.proofs.lemmas.Bool.Decides.{nat_tests}
use Rattle.statement_parser.specs.LineOf.{line_of}
use Rattle.map_machine.specs.States.{MapState}
use Rattle.map_machine.specs.declared.Kind.TheVariants.{Refused}
use Rattle.map_machine.specs.Steps.{Stepped, step_of, long_reply}
use Rattle.map_machine.specs.Text.{is_long, reply_to, state_to, kind_to}

not_short : (n : ℕ) → 4096 < n → nat_le n 4096 ≡ false
not_short n h = grind (arith, nat_tests)

step-long : (s : MapState) (line : List ℕ) → 4096 < length line → step_of s line ≡ record { state = s; reply = long_reply (length line); kind = Refused }
unfolding step_of line_of long_reply
step-long s line long = rw (not_short (length line) long) refl

is_long-true : (line : List ℕ) → is_long line ≡ true → 4096 < length line
is_long-true line e = grind (arith, nat_tests)

pub reply_to-any : (s : MapState) (line : List ℕ) → reply_to s line ≡ (step_of s line).reply
reply_to-any s line = elim (is_long line) as (λ t. is_long line ≡ t → cond t (long_reply (length line)) (step_of s line).reply ≡ (step_of s line).reply) [
  | true ↦ λ e. ap (λ (x : Stepped). x.reply) (sym (step-long s line (is_long-true line e)))
  | false ↦ λ e. refl
] refl

pub state_to-any : (s : MapState) (line : List ℕ) → state_to s line ≡ (step_of s line).state
state_to-any s line = elim (is_long line) as (λ t. is_long line ≡ t → cond t s (step_of s line).state ≡ (step_of s line).state) [
  | true ↦ λ e. ap (λ (x : Stepped). x.state) (sym (step-long s line (is_long-true line e)))
  | false ↦ λ e. refl
] refl

pub kind_to-any : (s : MapState) (line : List ℕ) → kind_to s line ≡ (step_of s line).kind
kind_to-any s line = elim (is_long line) as (λ t. is_long line ≡ t → cond t Refused (step_of s line).kind ≡ (step_of s line).kind) [
  | true ↦ λ e. ap (λ (x : Stepped). x.kind) (sym (step-long s line (is_long-true line e)))
  | false ↦ λ e. refl
] refl

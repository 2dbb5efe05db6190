-- Lines and refusals exclude each other, and a refusal is one.
use Rattle.std.specs.Prelude.{◌≡◌, ℕ, List}
use Rattle.grammar_core.specs.declared.Kind.{Kind}
use Rattle.grammar_core.specs.Rules.{Rule, Derives}
use Rattle.grammar_core.specs.Refusals.{Tests, IsRefusedAt}

-- of all words, either they are one line, or they are refused for one cause at one place
pub record IsSettled {W X : Type 0} (t : Tests W) (r : Rule W X) (ws : List W) : Type 0 where
  pub one_line : (x y : X) → Derives r ws x → Derives r ws y → x ≡ y
  pub one_cause : (k l : Kind) (m n : ℕ) → IsRefusedAt t r ws k m → IsRefusedAt t r ws l n → k ≡ l
  pub one_place : (k l : Kind) (m n : ℕ) → IsRefusedAt t r ws k m → IsRefusedAt t r ws l n → m ≡ n
  pub never_both : (x : X) (k : Kind) (n : ℕ) → Derives r ws x → IsRefusedAt t r ws k n → ⊥

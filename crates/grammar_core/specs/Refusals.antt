-- Where and why words are refused: at the first word that, after the words before it, goes on no line.
use Rattle.std.specs.Prelude.{◌≡◌, ℕ, Bool, true, false, not, ◌&&◌, List, [], ◌∷◌, ◌++◌, length}
use Rattle.grammar_core.specs.declared.Kind.{Kind}
use Rattle.grammar_core.specs.declared.Kind.TheVariants.{Syntax, Number, Operation}
use Rattle.grammar_core.specs.Rules.{Rule, Derives}

-- what a refusal asks of words
pub record Tests (W : Type 0) : Type 0 where
  -- a number that every place for numbers takes
  pub number : W
  -- a word that every place for operations takes
  pub operation : W
  -- the word has a number's form
  pub is_number : W → Bool
  -- the word has a name's form and is no operation
  pub is_stranger : W → Bool
  -- the word opens the terms of a call
  pub opens : W → Bool

-- some line of the grammar begins with these words
abbrev pub Begins : {W X : Type 0} → Rule W X → List W → Type 0
Begins {W} {X} r ws = (more : List W) × (x : X) × Derives r (ws ++ more) x

-- no line begins with the words before and the one after them, or, where there is none, they are no line
abbrev pub Stops : {W X : Type 0} → Rule W X → List W → List W → Type 0
Stops {W} {X} r before [] = (x : X) → Derives r before x → ⊥
Stops r before (w ∷ ws) = Begins r (before ++ w ∷ []) → ⊥

pub record IsFirstFault {W X : Type 0} (r : Rule W X) (before after : List W) : Type 0 where
  pub begins : Begins r before
  pub stops : Stops r before after

abbrev pub NumberIsDue : {W X : Type 0} → Tests W → Rule W X → List W → Type 0
NumberIsDue t r before = Begins r (before ++ t.number ∷ [])

abbrev pub BodyIsDue : {W X : Type 0} → Tests W → Rule W X → List W → Type 0
BodyIsDue t r before = Begins r (before ++ t.operation ∷ [])

abbrev pub is_number_next : {W : Type 0} → Tests W → List W → Bool
is_number_next t [] = false
is_number_next t (w ∷ ws) = t.is_number w

abbrev pub opens_next : {W : Type 0} → Tests W → List W → Bool
opens_next t [] = false
opens_next t (w ∷ ws) = t.opens w

-- the next word has a name's form, is no operation, and isn't called
abbrev pub is_unknown : {W : Type 0} → Tests W → List W → Bool
is_unknown t [] = false
is_unknown t (w ∷ ws) = t.is_stranger w && not (opens_next t ws)

-- no unknown operation stands where a body is due
abbrev pub KnownAll : {W X : Type 0} → Tests W → Rule W X → List W → Type 0
KnownAll {W} t r ws = (before after : List W) → ws ≡ before ++ after → BodyIsDue t r before → is_unknown t after ≡ false

-- the refusal of the words before and then after: it stands at the first word of after, or at the end
abbrev pub Refuses : {W X : Type 0} → Tests W → Rule W X → Kind → List W → List W → Type 0
Refuses t r Operation before after = BodyIsDue t r before × (is_unknown t after ≡ true)
Refuses t r Number before after = IsFirstFault r before after × NumberIsDue t r before × (is_number_next t after ≡ true) × KnownAll t r (before ++ after)
Refuses t r Syntax before after = IsFirstFault r before after × (NumberIsDue t r before → is_number_next t after ≡ false) × KnownAll t r (before ++ after)

-- the words are refused so, with so many of them left from the fault on
abbrev pub IsRefusedAt : {W X : Type 0} → Tests W → Rule W X → List W → Kind → ℕ → Type 0
IsRefusedAt {W} t r ws kind left = (before : List W) × (after : List W) × (ws ≡ before ++ after) × (length after ≡ left) × Refuses t r kind before after

-- A grammar as a tree: what a line may be after the words so far.
use Rattle.std.specs.Prelude.{◌≡◌, List, [], ◌∷◌, Option, Some, None}

-- the value of a line that ends here, if one may, and what may follow each word
pub data Rule (W X : Type 0) : Type 0 where
  fail : Rule W X
  node : Option X → (W → Rule W X) → Rule W X

abbrev pub end_of : {W X : Type 0} → Rule W X → Option X
end_of fail = None
end_of (node e s) = e

abbrev pub step : {W X : Type 0} → Rule W X → W → Rule W X
step fail w = fail
step (node e s) w = s w

-- the words are a line of the grammar, with this value
abbrev pub Derives : {W X : Type 0} → Rule W X → List W → X → Type 0
Derives r [] x = end_of r ≡ Some x
Derives r (w ∷ ws) x = Derives (step r w) ws x

-- ---- the parts of which rules are made

-- the line ends here
abbrev pub ends : {W X : Type 0} → X → Rule W X
ends x = node (Some x) (λ w. fail)

abbrev pub after : {A W X : Type 0} → Option A → (A → Rule W X) → Rule W X
after None r = fail
after (Some v) r = r v

-- a word that the place f takes, and then the rule for what it is
abbrev pub on : {A W X : Type 0} → (W → Option A) → (A → Rule W X) → W → Rule W X
on f r w = after (f w) r

abbrev pub next : {A W X : Type 0} → (W → Option A) → (A → Rule W X) → Rule W X
next f r = node None (on f r)

abbrev pub or_rule : {W X : Type 0} → Rule W X → Rule W X → Rule W X
or_rule fail r = r
or_rule (node e s) r = node e s

-- one alternative or the other, by the next word
infixl 30 ◌<|>◌
abbrev pub ◌<|>◌ : {W X : Type 0} → (W → Rule W X) → (W → Rule W X) → W → Rule W X
(s <|> t) w = or_rule (s w) (t w)

-- an optional part before the rule r
abbrev pub also : {W X : Type 0} → (W → Rule W X) → Rule W X → Rule W X
also s r = node (end_of r) (s <|> step r)

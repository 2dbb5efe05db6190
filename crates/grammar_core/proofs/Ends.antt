-- A property that holds wherever a rule may end holds of each line; and how a line is derived.
use Rattle.std.proofs.Common.{◌≡◌, Option, Some, None, List, [], ◌∷◌, refl, sym, subst}
use Rattle.grammar_core.specs.Rules.{Rule, fail, node, end_of, step, Derives, on, next, after, also, ◌<|>◌, or_rule}
use Rattle.grammar_core.proofs.FirstFault.{nothing}

abbrev pub Holds : {X : Type 0} → (X → Type 0) → Option X → Type 0
Holds P None = Unit {0}
Holds P (Some x) = P x

abbrev pub AllEnds : {W X : Type 0} → (X → Type 0) → Rule W X → Type 0
AllEnds P fail = Unit {0}
AllEnds {W} P (node e s) = Holds P e × ((w : W) → AllEnds P (s w))

pub each_end : {W X : Type 0} (P : X → Type 0) (r : Rule W X) (ws : List W) (x : X) → AllEnds P r → Derives r ws x → P x
each_end P fail ws x a d = absurd (nothing fail ws x refl d)
each_end P (node e s) [] x a d = subst (Holds P) d a.0
each_end P (node e s) (w ∷ ws) x a d = each_end P (s w) ws x (a.1 w) d

pub ends_on : {A W X : Type 0} (P : X → Type 0) (f : W → Option A) (r : A → Rule W X) → ((w : W) (v : A) → f w ≡ Some v → AllEnds P (r v)) → (w : W) → AllEnds P (on f r w)
ends_on {A} {W} {X} P f r h w = go (f w) refl
  where
    go : (o : Option A) → f w ≡ o → AllEnds P (after o r)
    go None e = tt
    go (Some v) e = h w v e

pub ends_next : {A W X : Type 0} (P : X → Type 0) (f : W → Option A) (r : A → Rule W X) → ((w : W) (v : A) → f w ≡ Some v → AllEnds P (r v)) → AllEnds P (next f r)
ends_next P f r h = (tt, ends_on P f r h)

pub ends_or : {W X : Type 0} (P : X → Type 0) (s t : W → Rule W X) → ((w : W) → AllEnds P (s w)) → ((w : W) → AllEnds P (t w)) → (w : W) → AllEnds P ((s <|> t) w)
ends_or {W} {X} P s t a b w = go (s w) (t w) (a w) (b w)
  where
    go : (p q : Rule W X) → AllEnds P p → AllEnds P q → AllEnds P (or_rule p q)
    go fail q x y = y
    go (node e u) q x y = x

ends_end : {W X : Type 0} (P : X → Type 0) (r : Rule W X) → AllEnds P r → Holds P (end_of r)
ends_end P fail a = tt
ends_end P (node e s) a = a.0

ends_step : {W X : Type 0} (P : X → Type 0) (r : Rule W X) → AllEnds P r → (w : W) → AllEnds P (step r w)
ends_step P fail a w = tt
ends_step P (node e s) a w = a.1 w

pub ends_also : {A W X : Type 0} (P : X → Type 0) (f : W → Option A) (q : A → Rule W X) (r : Rule W X) → ((w : W) (v : A) → f w ≡ Some v → AllEnds P (q v)) → AllEnds P r → AllEnds P (also (on f q) r)
ends_also P f q r h a = (ends_end P r a, ends_or P (on f q) (step r) (ends_on P f q h) (ends_step P r a))

-- ---- deriving

-- a word that the place takes, and then the rest
pub next_derives : {A W X : Type 0} (f : W → Option A) (r : A → Rule W X) (w : W) (v : A) (ws : List W) (x : X) → f w ≡ Some v → Derives (r v) ws x → Derives (next f r) (w ∷ ws) x
next_derives f r w v ws x e d = subst (λ o. Derives (after o r) ws x) (sym e) d

or_derives : {W X : Type 0} (p q : Rule W X) (ws : List W) (x : X) → Derives p ws x → Derives (or_rule p q) ws x
or_derives fail q ws x d = absurd (nothing fail ws x refl d)
or_derives (node e s) q ws x d = d

-- an optional part that is there
pub also_derives : {A W X : Type 0} (f : W → Option A) (q : A → Rule W X) (r : Rule W X) (w : W) (v : A) (ws : List W) (x : X) → f w ≡ Some v → Derives (q v) ws x → Derives (also (on f q) r) (w ∷ ws) x
also_derives f q r w v ws x e d = or_derives (on f q w) (step r w) ws x (subst (λ o. Derives (after o q) ws x) (sym e) d)

-- an optional part that is not there
pub rest_derives : {A W X : Type 0} (f : W → Option A) (q : A → Rule W X) (r : Rule W X) (ws : List W) (x : X) → ((w : W) (us : List W) → ws ≡ w ∷ us → f w ≡ None) → Derives r ws x → Derives (also (on f q) r) ws x
rest_derives f q r [] x h d = d
rest_derives {A} {W} {X} f q r (w ∷ ws) x h d = go (f w) (h w ws refl)
  where
    go : (o : Option A) → o ≡ None → Derives (or_rule (after o q) (step r w)) ws x
    go None e = d
    go (Some v) e = absurd cc

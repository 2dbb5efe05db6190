-- The parts of a rule keep it sound: from each place some line goes on.
use Rattle.std.proofs.Common.{◌≡◌, true, false, [], ◌∷◌, Option, Some, None, refl, sym, ap, subst}
use Rattle.grammar_core.specs.Rules.{Rule, fail, node, end_of, step, ends, on, next, after, also, ◌<|>◌, or_rule}
use Rattle.grammar_core.specs.Refusals.{Tests, Begins}
use Rattle.grammar_core.specs.Run.{is_node}
use Rattle.grammar_core.proofs.FirstFault.{Sound, KnownBodies}

-- a line may go on with this word
pub through : {W X : Type 0} (o : Option X) (s : W → Rule W X) (w : W) → Begins (s w) [] → Begins (node o s) []
through o s w b = (w ∷ b.0, b.1, b.2)

pub or_left : {W X : Type 0} (p o : Rule W X) → is_node p ≡ true → or_rule p o ≡ p
or_left fail o e = absurd cc
or_left (node e s) o n = refl

module _ {W X : Type 0} (g : Tests W) where
  -- a rule that isn't fail, and sound
  pub record Healthy (r : Rule W X) : Type 0 where
    pub begins : Begins r []
    pub sound : Sound g r

  -- what goes on after each word
  abbrev pub AllSound : (W → Rule W X) → Type 0
  AllSound s = (w : W) → Sound g (s w)

  -- no operation stands here
  abbrev pub NoBody : (W → Rule W X) → Type 0
  NoBody s = is_node (s g.operation) ≡ false

  pub no_body : (s : W → Rule W X) → NoBody s → KnownBodies g s
  no_body s n b w ws x u d = absurd cc

  pub healthy_node : (o : Option X) (s : W → Rule W X) → Begins (node o s) [] → NoBody s → AllSound s → Healthy (node o s)
  healthy_node o s b n a = record { begins = b; sound = (b, no_body s n, a) }

  -- a line may end here
  pub healthy_end : (x : X) (s : W → Rule W X) → NoBody s → AllSound s → Healthy (node (Some x) s)
  healthy_end x s n a = healthy_node (Some x) s ([], x, refl) n a

  pub healthy_ends : (x : X) → Healthy (ends x)
  healthy_ends x = healthy_end x (λ w. fail) refl (λ w. tt)

  pub all_on : {A : Type 0} (f : W → Option A) (r : A → Rule W X) → ((v : A) → Healthy (r v)) → AllSound (on f r)
  all_on {A = A} f r h w = go (f w)
    where
      go : (o : Option A) → Sound g (after o r)
      go None = tt
      go (Some v) = (h v).sound

  pub all_or : (s t : W → Rule W X) → AllSound s → AllSound t → AllSound (s <|> t)
  all_or s t a b w = go (s w) (t w) (a w) (b w)
    where
      go : (p q : Rule W X) → Sound g p → Sound g q → Sound g (or_rule p q)
      go fail q x y = y
      go (node e u) q x y = x

  -- a place that takes the word w, and no operation
  pub healthy_next : {A : Type 0} (f : W → Option A) (r : A → Rule W X) (w : W) (v : A) → f w ≡ Some v → f g.operation ≡ None → ((v : A) → Healthy (r v)) → Healthy (next f r)
  healthy_next f r w v takes free h =
      healthy_node None (on f r) (through None (on f r) w (subst (λ o. Begins (after o r) []) (sym takes) (h v).begins)) (ap (λ o. is_node (after o r)) free) (all_on f r h)

  -- what may stand behind a body: a sound rule at which no body is due
  pub record Tail (r : Rule W X) : Type 0 where
    pub healthy : Healthy r
    pub node : is_node r ≡ true
    pub no_body : is_node (step r g.operation) ≡ false

  pub tail_ends : (x : X) → Tail (ends x)
  tail_ends x = record { healthy = healthy_ends x; node = refl; no_body = refl }

  pub tail_next : {A : Type 0} (f : W → Option A) (r : A → Rule W X) (w : W) (v : A) → f w ≡ Some v → f g.operation ≡ None → ((v : A) → Healthy (r v)) → Tail (next f r)
  tail_next f r w v takes free h = record { healthy = healthy_next f r w v takes free h; node = refl; no_body = ap (λ o. is_node (after o r)) free }

  all_step : (r : Rule W X) → Sound g r → AllSound (step r)
  all_step fail s w = tt
  all_step (node e t) s w = s.2 w

  -- an optional part: a line may go on by the part's own word
  pub tail_also : {A : Type 0} (f : W → Option A) (q : A → Rule W X) (r : Rule W X) (w : W) (v : A) → f w ≡ Some v → f g.operation ≡ None → ((v : A) → Tail (q v)) → Tail r → Tail (also (on f q) r)
  tail_also f q r w v takes free h tail =
      record { healthy = healthy_node (end_of r) (on f q <|> step r) begins none_here all; node = refl; no_body = none_here }
    where
      none_here : NoBody (on f q <|> step r)
      none_here = rw free tail.no_body

      all : AllSound (on f q <|> step r)
      all = all_or (on f q) (step r) (all_on f q (λ v. (h v).healthy)) (all_step r tail.healthy.sound)

      begins : Begins (node (end_of r) (on f q <|> step r)) []
      begins = through (end_of r) (on f q <|> step r) w (rw takes (rw (or_left (q v) (step r w) (h v).node) (h v).healthy.begins))

-- A refusal is the one that reading gives: so there is one, and none of a line.
use Rattle.std.proofs.Common.{◌≡◌, ℕ, Bool, true, false, ◌&&◌, not, List, [], ◌∷◌, ◌++◌, length, Option, Some, None, Ok, refl, ap, ◌∙◌}
use Rattle.grammar_core.specs.declared.Kind.{Kind}
use Rattle.grammar_core.specs.declared.Kind.TheVariants.{Syntax, Number, Operation}
use Rattle.grammar_core.specs.declared.Fault.{Fault}
use Rattle.grammar_core.specs.Rules.{Rule, end_of, step}
use Rattle.grammar_core.specs.Refusals.{Tests, Stops, KnownAll, Refuses, IsRefusedAt, opens_next, is_unknown}
use Rattle.grammar_core.specs.Run.{takes, refused, finish, run}
use Rattle.grammar_core.specs.Once.{IsSettled}
use Rattle.grammar_core.proofs.FirstFault.{Sound, begins_taken, taken_begins, next_sound, known_at, only_so}

both_true : (a b : Bool) → (a && b) ≡ true → (a ≡ true) × (b ≡ true)
both_true true true e = (refl, refl)
both_true true false e = absurd cc
both_true false b e = absurd cc

and_true : (a : Bool) → a ≡ true → (a && true) ≡ true
and_true a e = rw e refl

if_false : (a b : Bool) → (a ≡ true → b ≡ false) → (a && b) ≡ false
if_false true b h = h refl
if_false false b h = refl

never : (a b : Bool) → (a ≡ true → b ≡ true → ⊥) → (a && b) ≡ false
never true true h = absurd (h refl refl)
never true false h = refl
never false b h = refl

is_false : (a : Bool) → (a ≡ true → ⊥) → a ≡ false
is_false true h = absurd (h refl)
is_false false h = refl

-- whether a word is an unknown operation doesn't change where an operation comes later
same_unknown : {W : Type 0} (g : Tests W) → g.opens g.operation ≡ false → (w : W) (rest after more : List W) → is_unknown g (w ∷ (rest ++ after)) ≡ true → is_unknown g (w ∷ ((rest ++ g.operation ∷ []) ++ more)) ≡ true
same_unknown g closed w [] after more u = rw closed (and_true (g.is_stranger w) (both_true (g.is_stranger w) (not (opens_next g after)) u).0)
same_unknown g closed w (v ∷ rest) after more u = u

module _ {W X : Type 0} (g : Tests W) (closed : g.opens g.operation ≡ false) where
  -- no unknown operation at the first word
  not_unknown : (r : Rule W X) (w : W) (ws : List W) → Sound g r → KnownAll g r (w ∷ ws) → (takes r g.operation && is_unknown g (w ∷ ws)) ≡ false
  not_unknown r w ws s known = if_false (takes r g.operation) (is_unknown g (w ∷ ws)) (λ t. known [] (w ∷ ws) refl (taken_begins g r g.operation s t))

  not_taken : (r : Rule W X) (w : W) (ws : List W) → Sound g r → Stops r [] (w ∷ ws) → takes r w ≡ false
  not_taken r w ws s stops = is_false (takes r w) (λ t. stops (taken_begins g r w s t))

  stops_less : (r : Rule W X) (w : W) (before after : List W) → Stops r (w ∷ before) after → Stops (step r w) before after
  stops_less r w before [] s = s
  stops_less r w before (v ∷ after) s = s

  known_less : (r : Rule W X) (w : W) (ws : List W) → KnownAll g r (w ∷ ws) → KnownAll g (step r w) ws
  known_less r w ws known before after e due = known (w ∷ before) after (ap (λ (v : List W). w ∷ v) e) due

  -- one word more
  run_on : (r : Rule W X) (w : W) (ws : List W) (k : Kind) (n : ℕ) → (takes r g.operation && is_unknown g (w ∷ ws)) ≡ false → takes r w ≡ true → run g (step r w) ws ≡ refused k n → run g r (w ∷ ws) ≡ refused k n
  unfolding run
  run_on r w ws k n u t e = rw (u, t) e

  no_end : (o : Option X) → ((x : X) → o ≡ Some x → ⊥) → finish o ≡ refused Syntax 0
  no_end None h = refl
  no_end (Some x) h = absurd (h x refl)

  -- a refusal with so many words before it is what reading gives
  at_fault : (k : Kind) (r : Rule W X) (before after : List W) → Sound g r → Refuses g r k before after → run g r (before ++ after) ≡ refused k (length after)
  unfolding run
  at_fault Operation r [] [] s h = absurd cc
  at_fault Operation r [] (w ∷ ws) s h = rw (begins_taken r g.operation [] h.0, h.1) refl
  at_fault Operation r (w ∷ rest) after s h =
      run_on r w (rest ++ after) Operation (length after)
      (never (takes r g.operation) (is_unknown g (w ∷ (rest ++ after))) (λ t u. known_at g r w ((rest ++ g.operation ∷ []) ++ h.0.0) h.0.1 s t (same_unknown g closed w rest after h.0.0 u) h.0.2))
      (begins_taken r w (rest ++ g.operation ∷ []) h.0) (at_fault Operation (step r w) rest after (next_sound g r w s) h)
  at_fault Number r [] [] s h = absurd cc
  at_fault Number r [] (w ∷ ws) s h =
      rw (not_unknown r w ws s h.3, not_taken r w ws s h.0.stops, begins_taken r g.number [] h.1, h.2) refl
  at_fault Number r (w ∷ rest) after s h =
      run_on r w (rest ++ after) Number (length after) (not_unknown r w (rest ++ after) s h.3) (begins_taken r w rest h.0.begins)
      (at_fault Number (step r w) rest after (next_sound g r w s) (record { begins = h.0.begins; stops = stops_less r w rest after h.0.stops }, h.1, h.2, known_less r w (rest ++ after) h.3))
  at_fault Syntax r [] [] s h = no_end (end_of r) h.0.stops
  at_fault Syntax r [] (w ∷ ws) s h =
      rw (not_unknown r w ws s h.2, not_taken r w ws s h.0.stops, if_false (takes r g.number) (g.is_number w) (λ t. h.1 (taken_begins g r g.number s t))) refl
  at_fault Syntax r (w ∷ rest) after s h =
      run_on r w (rest ++ after) Syntax (length after) (not_unknown r w (rest ++ after) s h.2) (begins_taken r w rest h.0.begins)
      (at_fault Syntax (step r w) rest after (next_sound g r w s) (record { begins = h.0.begins; stops = stops_less r w rest after h.0.stops }, h.1, known_less r w (rest ++ after) h.2))

  -- a refusal is what reading gives
  pub refused_only : (r : Rule W X) (ws : List W) (k : Kind) (n : ℕ) → Sound g r → IsRefusedAt g r ws k n → run g r ws ≡ refused k n
  refused_only r ws k n s h = ap (run g r) h.2 ∙ at_fault k r h.0 h.1 s h.4 ∙ ap (λ (m : ℕ). refused {X = X} k m) h.3

  -- of all words, either they are one line, or they are refused for one cause at one place
  pub settled : (r : Rule W X) (ws : List W) → Sound g r → IsSettled g r ws
  settled r ws s = record {
    one_line = λ x y d e. (let h : run g r ws ≡ Ok x = only_so g r ws x s d in let k : run g r ws ≡ Ok y = only_so g r ws y s e in cc);
    one_cause = λ k l m n d e. (let h : run g r ws ≡ refused k m = refused_only r ws k m s d in let i : run g r ws ≡ refused l n = refused_only r ws l n s e in
        let f : record { kind = k; left = m } ≡ record { kind = l; left = n } = cc in ap (λ (f : Fault). f.kind) f);
    one_place = λ k l m n d e. (let h : run g r ws ≡ refused k m = refused_only r ws k m s d in let i : run g r ws ≡ refused l n = refused_only r ws l n s e in
        let f : record { kind = k; left = m } ≡ record { kind = l; left = n } = cc in ap (λ (f : Fault). f.left) f);
    never_both = λ x k n d e. (let h : run g r ws ≡ Ok x = only_so g r ws x s d in let i : run g r ws ≡ refused k n = refused_only r ws k n s e in cc);
  }

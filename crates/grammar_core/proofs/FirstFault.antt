-- Reading by a rule gives the line, or the refusal at the first fault.
use Rattle.std.proofs.Common.{◌≡◌, ℕ, suc, Bool, true, false, cond, ◌&&◌, List, [], ◌∷◌, ◌++◌, length, Option, Some, None, Ok, Err, refl, sym, ap, subst, ◌⊎◌, inl, inr}
use Rattle.grammar_core.specs.declared.Kind.{Kind}
use Rattle.grammar_core.specs.declared.Kind.TheVariants.{Syntax, Number, Operation}
use Rattle.grammar_core.specs.declared.Fault.{Fault}
use Rattle.grammar_core.specs.Rules.{Rule, fail, node, end_of, step, Derives}
use Rattle.grammar_core.specs.Refusals.{Tests, Begins, Stops, IsFirstFault, BodyIsDue, KnownAll, Refuses, IsRefusedAt, is_number_next, is_unknown}
use Rattle.grammar_core.specs.Run.{is_node, takes, refused, finish, kind_at, run}

pub nothing : {W X : Type 0} (r : Rule W X) (ws : List W) (x : X) → is_node r ≡ false → Derives r ws x → ⊥
nothing fail [] x e d = cc
nothing fail (w ∷ ws) x e d = nothing fail ws x e d
nothing (node o s) ws x e d = absurd cc

pub node_of : {W X : Type 0} (q : Rule W X) (ws : List W) (x : X) → Derives q ws x → is_node q ≡ true
node_of fail ws x d = absurd (nothing fail ws x refl d)
node_of (node e s) ws x d = refl

pub begins_taken : {W X : Type 0} (r : Rule W X) (w : W) (ws : List W) → Begins r (w ∷ ws) → takes r w ≡ true
begins_taken r w ws b = node_of (step r w) (ws ++ b.0) b.1 b.2

split_first : {W : Type 0} (w : W) (ws before after : List W) → w ∷ ws ≡ before ++ after
    → ((before ≡ []) × (after ≡ w ∷ ws)) ⊎ ((rest : List W) × (before ≡ w ∷ rest) × (ws ≡ rest ++ after))
split_first w ws [] after e = inl (refl, sym e)
split_first w ws (v ∷ rest) after e = inr (rest, cc, cc)

abbrev if_number : Bool → Bool → Kind
if_number due num = cond (due && num) Number Syntax

module _ {W X : Type 0} (g : Tests W) where
  -- where a body is due, no line goes on with a word of a name's form that is no operation and isn't called
  abbrev pub KnownBodies : (W → Rule W X) → Type 0
  KnownBodies s = is_node (s g.operation) ≡ true → (w : W) (ws : List W) (x : X) → is_unknown g (w ∷ ws) ≡ true → Derives (s w) ws x → ⊥

  -- wherever the words have led, some line goes on from there
  abbrev pub Sound : Rule W X → Type 0
  Sound fail = Unit {0}
  Sound (node e s) = Begins (node e s) [] × KnownBodies s × ((w : W) → Sound (s w))

  pub begins_at : (r : Rule W X) → Sound r → is_node r ≡ true → Begins r []
  begins_at fail s e = absurd cc
  begins_at (node o t) s e = s.0

  pub next_sound : (r : Rule W X) (w : W) → Sound r → Sound (step r w)
  next_sound fail w s = tt
  next_sound (node o t) w s = s.2 w

  pub known_at : (r : Rule W X) (w : W) (ws : List W) (x : X) → Sound r → takes r g.operation ≡ true → is_unknown g (w ∷ ws) ≡ true → Derives r (w ∷ ws) x → ⊥
  known_at fail w ws x s b u d = absurd cc
  known_at (node o t) w ws x s b u d = s.1 b w ws x u d

  pub taken_begins : (r : Rule W X) (w : W) → Sound r → takes r w ≡ true → Begins r (w ∷ [])
  taken_begins r w s t = begins_at (step r w) (next_sound r w s) t

  -- no unknown operation at the first word, and none after it
  known_more : (r : Rule W X) (w : W) (ws : List W) → (takes r g.operation ≡ true → is_unknown g (w ∷ ws) ≡ false) → (takes r w ≡ true → KnownAll g (step r w) ws) → KnownAll g r (w ∷ ws)
  known_more r w ws first next before after e due = elim (split_first w ws before after e) [
    | inl h ↦ subst (λ (a : List W). is_unknown g a ≡ false) (sym h.1) (first (begins_taken r g.operation [] (subst (λ (b : List W). BodyIsDue g r b) h.0 due)))
    | inr h ↦ (let due' : BodyIsDue g r (w ∷ h.0) = subst (λ (b : List W). BodyIsDue g r b) h.1 due in
        next (begins_taken r w (h.0 ++ g.operation ∷ []) due') h.0 after h.2 due')
  ]

  known_none : (r : Rule W X) → KnownAll g r []
  known_none r [] [] e due = refl
  known_none r [] (w ∷ after) e due = absurd cc
  known_none r (w ∷ before) after e due = absurd cc

  -- one word more before the fault
  more_words : (r : Rule W X) (w : W) (ws : List W) (k : Kind) (n : ℕ) → (takes r g.operation ≡ true → is_unknown g (w ∷ ws) ≡ false) → IsRefusedAt g (step r w) ws k n → IsRefusedAt g r (w ∷ ws) k n
  more_words r w ws Operation n known h = (w ∷ h.0, h.1, ap (λ (v : List W). w ∷ v) h.2, h.3, h.4)
  more_words r w ws Number n known h = (
    w ∷ h.0,
    h.1,
    ap (λ (v : List W). w ∷ v) h.2,
    h.3,
    (
      record { begins = h.4.0.begins; stops = stops_more r w h.0 h.1 h.4.0.stops },
      h.4.1,
      h.4.2,
      known_more r w (h.0 ++ h.1) (subst (λ (v : List W). takes r g.operation ≡ true → is_unknown g (w ∷ v) ≡ false) h.2 known) (λ t. h.4.3),
    ),
  )
    where
      stops_more : (r : Rule W X) (w : W) (before after : List W) → Stops (step r w) before after → Stops r (w ∷ before) after
      stops_more r w before [] s = s
      stops_more r w before (v ∷ after) s = s
  more_words r w ws Syntax n known h = (
    w ∷ h.0,
    h.1,
    ap (λ (v : List W). w ∷ v) h.2,
    h.3,
    (
      record { begins = h.4.0.begins; stops = stops_more r w h.0 h.1 h.4.0.stops },
      h.4.1,
      known_more r w (h.0 ++ h.1) (subst (λ (v : List W). takes r g.operation ≡ true → is_unknown g (w ∷ v) ≡ false) h.2 known) (λ t. h.4.2),
    ),
  )
    where
      stops_more : (r : Rule W X) (w : W) (before after : List W) → Stops (step r w) before after → Stops r (w ∷ before) after
      stops_more r w before [] s = s
      stops_more r w before (v ∷ after) s = s

  first : (r : Rule W X) (w : W) (ws : List W) → Sound r → is_node r ≡ true → takes r w ≡ false → IsFirstFault r [] (w ∷ ws)
  first r w ws s n t = record { begins = begins_at r s n; stops = λ b. absurd (let h : takes r w ≡ true = begins_taken r w [] b in cc) }

  -- the refusal of a word that goes on nowhere
  here : (r : Rule W X) (w : W) (ws : List W) → Sound r → is_node r ≡ true → (takes r g.operation ≡ true → is_unknown g (w ∷ ws) ≡ false) → takes r w ≡ false → (due num : Bool) → takes r g.number ≡ due → is_number_next g (w ∷ ws) ≡ num → Refuses g r (if_number due num) [] (w ∷ ws)
  here r w ws s n known t true true d m = (first r w ws s n t, taken_begins r g.number s d, m, known_more r w ws known (λ u. absurd cc))
  here r w ws s n known t true false d m = (first r w ws s n t, (λ b. m), known_more r w ws known (λ u. absurd cc))
  here r w ws s n known t false num d m = (first r w ws s n t, (λ b. absurd (let h : takes r g.number ≡ true = begins_taken r g.number [] b in cc)), known_more r w ws known (λ u. absurd cc))

  at_end : (r : Rule W X) (f : Fault) → Sound r → is_node r ≡ true → (o : Option X) → end_of r ≡ o → finish o ≡ Err f → IsRefusedAt g r [] f.kind f.left
  at_end r f s n None o e =
      let at : Refuses g r Syntax [] [] = (record { begins = begins_at r s n; stops = λ x d. absurd cc }, (λ b. refl), known_none r) in
      let is : record { kind = Syntax; left = 0 } ≡ f = cc in
      subst (λ (e : Fault). IsRefusedAt g r [] e.kind e.left) is ([], [], refl, refl, at)
  at_end r f s n (Some x) o e = absurd cc

  -- the refusal at the first fault
  pub refused_so : (r : Rule W X) (ws : List W) (f : Fault) → Sound r → is_node r ≡ true → run g r ws ≡ Err f → IsRefusedAt g r ws f.kind f.left
  unfolding run
  refused_so r [] f s n e = at_end r f s n (end_of r) refl e
  refused_so r (w ∷ ws) f s n e = by_body (takes r g.operation && is_unknown g (w ∷ ws)) refl (takes r w) refl e (refused_so (step r w) ws f (next_sound r w s))
    where
      is_false : (a b : Bool) → (a && b) ≡ false → a ≡ true → b ≡ false
      is_false true b e h = e
      is_false false b e h = absurd cc

      is_true : (a b : Bool) → (a && b) ≡ true → (a ≡ true) × (b ≡ true)
      is_true true true e = (refl, refl)
      is_true true false e = absurd cc
      is_true false b e = absurd cc

      by_body : (u : Bool) → (takes r g.operation && is_unknown g (w ∷ ws)) ≡ u → (t : Bool) → takes r w ≡ t
          → cond u (refused Operation (suc (length ws))) (cond t (run g (step r w) ws) (refused (kind_at g r (w ∷ ws)) (suc (length ws)))) ≡ Err f
          → (is_node (step r w) ≡ true → run g (step r w) ws ≡ Err f → IsRefusedAt g (step r w) ws f.kind f.left)
          → IsRefusedAt g r (w ∷ ws) f.kind f.left
      by_body true u t tk e rest =
          let both = is_true (takes r g.operation) (is_unknown g (w ∷ ws)) u in
          let is : record { kind = Operation; left = suc (length ws) } ≡ f = cc in
          let at : Refuses g r Operation [] (w ∷ ws) = (taken_begins r g.operation s both.0, both.1) in
          subst (λ (e : Fault). IsRefusedAt g r (w ∷ ws) e.kind e.left) is ([], w ∷ ws, refl, refl, at)
      by_body false u true tk e rest = more_words r w ws f.kind f.left (is_false (takes r g.operation) (is_unknown g (w ∷ ws)) u) (rest tk e)
      by_body false u false tk e rest =
          let is : record { kind = kind_at g r (w ∷ ws); left = suc (length ws) } ≡ f = cc in
          let at : Refuses g r (kind_at g r (w ∷ ws)) [] (w ∷ ws) = here r w ws s n (is_false (takes r g.operation) (is_unknown g (w ∷ ws)) u) tk (takes r g.number) (is_number_next g (w ∷ ws)) refl refl in
          subst (λ (e : Fault). IsRefusedAt g r (w ∷ ws) e.kind e.left) is ([], w ∷ ws, refl, refl, at)

  -- what is read is a line of that value
  pub found_so : (r : Rule W X) (ws : List W) (x : X) → run g r ws ≡ Ok x → Derives r ws x
  unfolding run
  found_so r [] x e = go (end_of r) e
    where
      go : (o : Option X) → finish o ≡ Ok x → o ≡ Some x
      go None e = absurd cc
      go (Some y) e = cc
  found_so r (w ∷ ws) x e = go (takes r g.operation && is_unknown g (w ∷ ws)) (takes r w) e (found_so (step r w) ws x)
    where
      go : (u t : Bool) → cond u (refused Operation (suc (length ws))) (cond t (run g (step r w) ws) (refused (kind_at g r (w ∷ ws)) (suc (length ws)))) ≡ Ok x → (run g (step r w) ws ≡ Ok x → Derives (step r w) ws x) → Derives (step r w) ws x
      go true t e rest = absurd cc
      go false true e rest = rest e
      go false false e rest = absurd cc

  -- each line is read
  pub only_so : (r : Rule W X) (ws : List W) (x : X) → Sound r → Derives r ws x → run g r ws ≡ Ok x
  unfolding run
  only_so r [] x s d = ap finish d
  only_so r (w ∷ ws) x s d =
      go (takes r g.operation) refl (is_unknown g (w ∷ ws)) refl (only_so (step r w) ws x (next_sound r w s) d)
    where
      go : (b : Bool) → takes r g.operation ≡ b → (u : Bool) → is_unknown g (w ∷ ws) ≡ u → run g (step r w) ws ≡ Ok x
          → cond (b && u) (refused Operation (suc (length ws))) (cond (takes r w) (run g (step r w) ws) (refused (kind_at g r (w ∷ ws)) (suc (length ws)))) ≡ Ok x
      go true b true u rest = absurd (known_at r w ws x s b u d)
      go true b false u rest = rw (node_of (step r w) ws x d) rest
      go false b u un rest = rw (node_of (step r w) ws x d) rest

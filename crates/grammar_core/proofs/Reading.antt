-- A parser's functions on lists read by a rule: one place after the other, and then whatever follows.
use Rattle.std.proofs.Common.{◌≡◌, ℕ, suc, Bool, true, false, cond, ◌&&◌, List, [], ◌∷◌, length, Option, Some, None, Result, Ok, Err, refl, ap, ◌∙◌}
use Rattle.std.specs.Prelude.{is_some}
use Rattle.grammar_core.specs.declared.Kind.TheVariants.{Syntax, Operation}
use Rattle.grammar_core.specs.declared.Fault.{Fault}
use Rattle.grammar_core.specs.Rules.{Rule, fail, node, step, ends, on, next, after, also, or_rule, ◌<|>◌}
use Rattle.grammar_core.specs.Refusals.{Tests, is_unknown}
use Rattle.grammar_core.specs.Run.{is_node, refused, kind_at, run}
use Rattle.grammar_core.specs.Readers.{◌>>=◌, taken, fault_kind, one_at, end_at, starts}
use Rattle.grammar_core.proofs.Parts.{or_left}

pub assoc : {A B C : Type 0} (m : Result A Fault) (f : A → Result B Fault) (h : B → Result C Fault) → ((m >>= f) >>= h) ≡ (m >>= λ x. f x >>= h)
assoc (Ok x) f h = refl
assoc (Err e) f h = refl

-- either part, and then k
pub cond_k : {X Y : Type 0} (b : Bool) (x y : Result X Fault) (k : X → Result Y Fault) → (cond b x y >>= k) ≡ cond b (x >>= k) (y >>= k)
cond_k true x y k = refl
cond_k false x y k = refl

-- either an unknown operation or what else is read
pub pick : {X Y : Type 0} (u : Bool) (n : ℕ) (a : Result X Fault) (c : Result Y Fault) (k : X → Result Y Fault) → (a >>= k) ≡ c → (cond u (refused Operation n) a >>= k) ≡ cond u (refused Operation n) c
pick true n a c k e = refl
pick false n a c k e = e

-- a place: no operation stands at it, and due tells whether a number is due
pub record IsPlace {W A : Type 0} (g : Tests W) (f : W → Option A) (due : Bool) : Type 0 where
  pub free : f g.operation ≡ None
  pub number : is_some (f g.number) ≡ due

module _ {W X : Type 0} (g : Tests W) where
  abbrev pub AllNodes : {A : Type 0} → (A → Rule W X) → Type 0
  AllNodes {A = A} r = (v : A) → is_node (r v) ≡ true

  -- what k makes of a value and the words after it is read by the rule r
  abbrev pub Reads : {A : Type 0} → (A → List W → Result X Fault) → (A → Rule W X) → Type 0
  Reads {A = A} k r = (v : A) (ws : List W) → k v ws ≡ run g (r v) ws

  taken_is : {A : Type 0} (r : A → Rule W X) → AllNodes r → (s : Option A) → is_node (after s r) ≡ is_some s
  taken_is r nodes None = refl
  taken_is r nodes (Some v) = nodes v

  -- a place, and then k
  pub place : {A : Type 0} (f : W → Option A) (due : Bool) (k : A → List W → Result X Fault) (r : A → Rule W X) → IsPlace g f due → AllNodes r → Reads k r
      → (ws : List W) → (one_at g f due ws >>= λ p. k p.0 p.1) ≡ run g (next f r) ws
  unfolding run
  place f due k r p nodes reads [] = refl
  place {A = A} f due k r p nodes reads (w ∷ ws) = go (f w)
    where
      go : (s : Option A) → (taken s (fault_kind g due (w ∷ ws)) (suc (length ws)) ws >>= λ p. k p.0 p.1)
          ≡ cond (is_node (after (f g.operation) r) && is_unknown g (w ∷ ws)) (refused Operation (suc (length ws)))
          (cond (is_node (after s r)) (run g (after s r) ws) (refused (kind_at g (next f r) (w ∷ ws)) (suc (length ws))))
      go None = rw (p.free, taken_is r nodes (f g.number), p.number) refl
      go (Some v) = rw (p.free, nodes v) (reads v ws)

  pub end_reads : (x : X) (ws : List W) → (end_at ws >>= λ e. Ok x) ≡ run g (ends x) ws
  unfolding run
  end_reads x [] = refl
  end_reads x (w ∷ ws) = refl

  -- what a place gives, or a refusal at its word
  abbrev pub or_refused : {A : Type 0} → Option A → ℕ → (A → Result X Fault) → Result X Fault
  or_refused None n h = refused Syntax n
  or_refused (Some v) n h = h v

  not_there : {A : Type 0} (s : Option A) (q : A → Rule W X) → is_some s ≡ false → after s q ≡ fail
  not_there None q e = refl
  not_there (Some v) q e = absurd cc

  abbrev pub or_else : {A : Type 0} → Option A → Result X Fault → (A → Result X Fault) → Result X Fault
  or_else None r h = r
  or_else (Some v) r h = h v

  -- one alternative or the other, where neither an operation nor a number is due
  pub start_place : {A B : Type 0} (e : Option X) (f : W → Option A) (f' : W → Option B) (h : A → List W → Result X Fault) (j : B → List W → Result X Fault) (q : A → Rule W X) (p : B → Rule W X)
      → IsPlace g f false → IsPlace g f' false → AllNodes q → AllNodes p → Reads h q → Reads j p
      → (w : W) (ws : List W) → or_else (f w) (or_refused (f' w) (suc (length ws)) (λ v. j v ws)) (λ v. h v ws) ≡ run g (node e (on f q <|> on f' p)) (w ∷ ws)
  unfolding run
  start_place {A = A} {B = B} e f f' h j q p pl pl' nq np hq jp w ws = go (f w) (f' w)
    where
      go : (s : Option A) (s' : Option B) → or_else s (or_refused s' (suc (length ws)) (λ v. j v ws)) (λ v. h v ws)
          ≡ cond (is_node (or_rule (after (f g.operation) q) (after (f' g.operation) p)) && is_unknown g (w ∷ ws)) (refused Operation (suc (length ws)))
          (cond (is_node (or_rule (after s q) (after s' p))) (run g (or_rule (after s q) (after s' p)) ws) (refused (kind_at g (node e (on f q <|> on f' p)) (w ∷ ws)) (suc (length ws))))
      go None None = rw (pl.free, pl'.free, not_there (f g.number) q pl.number, not_there (f' g.number) p pl'.number) refl
      go None (Some v) = rw (pl.free, pl'.free, np v) (jp v ws)
      go (Some v) s' = rw (pl.free, pl'.free, or_left (q v) (after s' p) (nq v), nq v) (hq v ws)

  -- ---- an optional part

  -- no body is due, and it is no fail
  pub record IsTail (r : Rule W X) : Type 0 where
    pub node : is_node r ≡ true
    pub no_body : is_node (step r g.operation) ≡ false

  pub ends_tail : (x : X) → IsTail (ends x)
  ends_tail x = record { node = refl; no_body = refl }

  pub next_tail : {A : Type 0} (f : W → Option A) (r : A → Rule W X) → f g.operation ≡ None → IsTail (next f r)
  next_tail f r free = record { node = refl; no_body = ap (λ o. is_node (after o r)) free }

  pub also_tail : {A : Type 0} (f : W → Option A) (q : A → Rule W X) (r : Rule W X) → f g.operation ≡ None → IsTail r → IsTail (also (on f q) r)
  also_tail f q r free t = record { node = refl; no_body = rw free t.no_body }

  -- where the part starts it is read, and otherwise the rest; a number isn't due at the part
  pub also_reads : {A : Type 0} (f : W → Option A) (q : A → Rule W X) (r : Rule W X) (one rest : List W → Result X Fault) → IsPlace g f false → AllNodes q → IsTail r
      → ((ws : List W) → one ws ≡ run g (next f q) ws) → ((ws : List W) → rest ws ≡ run g r ws)
      → (ws : List W) → cond (starts f ws) (one ws) (rest ws) ≡ run g (also (on f q) r) ws
  unfolding run
  also_reads f q r one rest p nodes tail here there [] = there []
  also_reads {A = A} f q r one rest p nodes tail here there (w ∷ ws) = go (f w) refl
    where
      no_number : (s : Option A) → is_some s ≡ false → after s q ≡ fail
      no_number None e = refl
      no_number (Some v) e = absurd cc

      go : (o : Option A) → f w ≡ o → cond (is_some o) (one (w ∷ ws)) (rest (w ∷ ws)) ≡ run g (also (on f q) r) (w ∷ ws)
      go None e = there (w ∷ ws) ∙ rw (e, p.free, no_number (f g.number) p.number) refl
      go (Some v) e = here (w ∷ ws) ∙ rw (e, p.free, tail.no_body, or_left (q v) (step r w) (nodes v), nodes v) refl

-- Places read by a rule, where only the tests of numbers matter; and a part that may not be there.
use Rattle.std.proofs.Common.{◌≡◌, suc, Bool, true, false, cond, ◌&&◌, List, [], ◌∷◌, length, Option, Some, None, Result, refl, ap, ◌∙◌}
use Rattle.std.specs.Prelude.{is_some}
use Rattle.map_words.specs.Bytes.{Text}
use Rattle.grammar_core.specs.declared.Kind.TheVariants.{Operation}
use Rattle.grammar_core.specs.declared.Fault.{Fault}
use Rattle.grammar_core.specs.Rules.{Rule, fail, node, on, next, after, also, or_rule, ◌<|>◌}
use Rattle.grammar_core.specs.Refusals.{is_unknown}
use Rattle.grammar_core.specs.Run.{is_node, refused, kind_at, run}
use Rattle.grammar_core.specs.Readers.{◌>>=◌, Read, one_at, starts}
use Rattle.grammar_core.proofs.Parts.{or_left}
use Rattle.grammar_core.proofs.Reading.{assoc, IsPlace, AllNodes, Reads, place, or_refused, or_else}
use Rattle.statement_parser.specs.Lines.{Manner, Line}
use Rattle.statement_parser.specs.Places.{maybe, tests, reading}

module _ (m : Manner) where
  one_same : {A : Type 0} (f : Text → Option A) (due : Bool) (ws : List Text) → one_at reading f due ws ≡ one_at (tests m) f due ws
  one_same f due [] = refl
  one_same f due (w ∷ ws) = refl

  -- a place, and then k
  pub placed : {A : Type 0} (f : Text → Option A) (due : Bool) (k : A → List Text → Result Line Fault) (r : A → Rule Text Line) → IsPlace (tests m) f due → AllNodes (tests m) r → Reads (tests m) k r
      → (ws : List Text) → (one_at reading f due ws >>= λ p. k p.0 p.1) ≡ run (tests m) (next f r) ws
  placed f due k r p nodes reads ws = ap (λ x. x >>= λ p. k p.0 p.1) (one_same f due ws) ∙ place (tests m) f due k r p nodes reads ws

  -- a place, what is read after it, and then k
  pub placed_k : {A B : Type 0} (f : Text → Option A) (due : Bool) (h : A → List Text → Read Text B) (k : B → List Text → Result Line Fault) (r : A → Rule Text Line) → IsPlace (tests m) f due → AllNodes (tests m) r
      → ((v : A) (ws : List Text) → (h v ws >>= λ p. k p.0 p.1) ≡ run (tests m) (r v) ws) → (ws : List Text) → ((one_at reading f due ws >>= λ p. h p.0 p.1) >>= λ p. k p.0 p.1) ≡ run (tests m) (next f r) ws
  placed_k f due h k r p nodes reads ws = assoc (one_at reading f due ws) (λ p. h p.0 p.1) (λ p. k p.0 p.1) ∙ placed f due (λ v us. h v us >>= λ p. k p.0 p.1) r p nodes reads ws

  -- an optional part that isn't there
  pub part_none : {A : Type 0} (f : Text → Option A) (q : A → Rule Text Line) (r : Rule Text Line) (one rest : List Text → Result Line Fault) → ((ws : List Text) → rest ws ≡ run (tests m) r ws)
      → (ws : List Text) → cond (starts (maybe false f) ws) (one ws) (rest ws) ≡ run (tests m) (also (on (maybe false f) q) r) ws
  unfolding run
  part_none f q r one rest there [] = there []
  part_none f q r one rest there (w ∷ ws) = there (w ∷ ws)

  not_there : {A : Type 0} (s : Option A) (q : A → Rule Text Line) → is_some s ≡ false → after s q ≡ fail
  not_there None q e = refl
  not_there (Some v) q e = absurd cc

  -- an operation where one is due, or else another word; no number is due
  pub either_place : {A B : Type 0} (f : Text → Option A) (f' : Text → Option B) (h : A → List Text → Result Line Fault) (j : B → List Text → Result Line Fault) (q : A → Rule Text Line) (p : B → Rule Text Line)
      → is_some (f (tests m).operation) ≡ true → is_some (f (tests m).number) ≡ false → IsPlace (tests m) f' false → AllNodes (tests m) q → AllNodes (tests m) p → Reads (tests m) h q → Reads (tests m) j p → (w : Text) (ws : List Text)
      → cond (is_unknown (tests m) (w ∷ ws)) (refused Operation (suc (length ws))) (or_else (tests m) (f w) (or_refused (tests m) (f' w) (suc (length ws)) (λ v. j v ws)) (λ v. h v ws)) ≡ run (tests m) (node None (on f q <|> on f' p)) (w ∷ ws)
  unfolding run
  either_place {A} {B} f f' h j q p due none pl nq np hq jp w ws = go (f w) (f' w)
    where
      first_node : (s : Option A) (r : Rule Text Line) → is_some s ≡ true → is_node (or_rule (after s q) r) ≡ true
      first_node None r e = absurd cc
      first_node (Some v) r e = ap is_node (or_left (q v) r (nq v)) ∙ nq v

      due_node : is_node (or_rule (after (f (tests m).operation) q) (after (f' (tests m).operation) p)) ≡ true
      due_node = first_node (f (tests m).operation) (after (f' (tests m).operation) p) due

      go : (s : Option A) (s' : Option B) → cond (is_unknown (tests m) (w ∷ ws)) (refused Operation (suc (length ws))) (or_else (tests m) s (or_refused (tests m) s' (suc (length ws)) (λ v. j v ws)) (λ v. h v ws))
          ≡ cond (is_node (or_rule (after (f (tests m).operation) q) (after (f' (tests m).operation) p)) && is_unknown (tests m) (w ∷ ws)) (refused Operation (suc (length ws)))
          (cond (is_node (or_rule (after s q) (after s' p))) (run (tests m) (or_rule (after s q) (after s' p)) ws) (refused (kind_at (tests m) (node None (on f q <|> on f' p)) (w ∷ ws)) (suc (length ws))))
      go None None = rw (due_node, not_there (f (tests m).number) q none, not_there (f' (tests m).number) p pl.number) refl
      go None (Some v) = rw (due_node, np v) (ap (cond (is_unknown (tests m) (w ∷ ws)) (refused Operation (suc (length ws)))) (jp v ws))
      go (Some v) s' = rw (due_node, or_left (q v) (after s' p) (nq v), nq v) (ap (cond (is_unknown (tests m) (w ∷ ws)) (refused Operation (suc (length ws)))) (hq v ws))

-- An edit is kept in front of those before it, and the newest of these stay.
use Rattle.std.proofs.Common.{◌≡◌, ℕ, zero, suc, List, [], ◌∷◌, take, refl, sym, ap, ◌∙◌, subst}
use Rattle.map_nums.specs.Grids.{Size}
use Rattle.map_edits.specs.Pasts.{Parts, Past, parts_of, most_pasts, with_past}
use Rattle.map_edits.specs.Touches.{Touch}
use Rattle.map_edits.specs.WholeStates.{WholeState}
use Rattle.live_engine.specs.Inverses.{back, touched, past_of, TakesBack}
use Rattle.live_engine.specs.declared.inverses.Inverse.{Inverse}
use Rattle.undo_shelf.specs.Histories.{AreChained, pasts_from}

-- ---- the newest of a chain

chained_front : (k : ℕ) (size : Size) (s : Parts) (is : List Inverse) → AreChained size s is → AreChained size s (take k is)
chained_front zero size s is c = tt
chained_front (suc k) size s [] c = tt
chained_front (suc k) size s (i ∷ is) c = (c.0, chained_front k size (back i s) is c.1)

pasts_from-take : (k : ℕ) (s : Parts) (is : List Inverse) → pasts_from s (take k is) ≡ take k (pasts_from s is)
pasts_from-take zero s is = refl
pasts_from-take (suc k) s [] = refl
pasts_from-take (suc k) s (i ∷ is) = ap (λ (ps : List Past). past_of i s ∷ ps) (pasts_from-take k (back i s) is)

-- ---- one more

abbrev past : Parts → Touch → Past
past p touch = record { parts = p; touch = touch }

-- what is kept after an edit: what takes it back, in front of what was kept before
pub record IsKeptIn (s t : WholeState) (touch : Touch) (is js : List Inverse) : Type 0 where
  pub chained : AreChained t.names.size (parts_of t) js
  pub pasts : pasts_from (parts_of t) js ≡ with_past s touch (pasts_from (parts_of s) is)

pub kept_front : (s t : WholeState) (touch : Touch) (i : Inverse) (is : List Inverse) → TakesBack s t touch i → AreChained s.names.size (parts_of s) is → IsKeptIn s t touch is (take most_pasts (i ∷ is))
kept_front s t touch i is b c = record {
  chained = chained_front most_pasts t.names.size (parts_of t) (i ∷ is)
      (b.fits, subst (λ (size : Size). AreChained size (back i (parts_of t)) is) (sym b.size) (subst (λ (p : Parts). AreChained s.names.size p is) (sym b.parts) c));
  pasts = pasts_from-take most_pasts (parts_of t) (i ∷ is)
      ∙ ap (take most_pasts) (ap (λ (p : Parts). past p (touched i) ∷ pasts_from p is) b.parts ∙ ap (λ (u : Touch). past (parts_of s) u ∷ pasts_from (parts_of s) is) b.touch_is);
}

-- ---- nothing is changed

pub chained_same : (old new : WholeState) (is : List Inverse) → new ≡ old → AreChained old.names.size (parts_of old) is → AreChained new.names.size (parts_of new) is
chained_same old new is same c = subst (λ (s : WholeState). AreChained s.names.size (parts_of s) is) (sym same) c

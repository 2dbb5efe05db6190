-- The work of a repair, in the words that all operations share.
use Rattle.std.proofs.Common.{◌≡◌, ℕ, ◌+◌, List, [], ◌∷◌, length, Option, Some, None, refl, sym, ◌∙◌, ap, subst}
use Rattle.std.specs.Prelude.{filter}
use Rattle.map_nums.specs.Grids.{Size, Cells, places}
use Rattle.map_defs.specs.Damage.{differs, has_changed}
use Rattle.map_defs.specs.Ops.{Term, spread_op}
use Rattle.map_defs.specs.Work.{first_work, op_work}
use Rattle.layer_tiles.specs.Tiles.{Block}
use Rattle.layer_tiles.specs.Patches.{patched}
use Rattle.layer_tiles.specs.Layers.{LayerState}
use Rattle.tile_work.specs.Working.{base_of, before_of}
use Rattle.changed_cells.specs.Unions.{AreAllPlaces}
use Rattle.changed_cells.proofs.Joining.{same_length}

pub work_of : (limit : ℕ) (s : Size) (sb sn fb fn old now : Cells) (found : List ℕ) (t u : Term) → AreAllPlaces s (has_changed (sb ∷ fb ∷ []) (sn ∷ fn ∷ [])) found → length found + length (filter (differs old now) (places s)) ≡ op_work (spread_op limit t u) s (sb ∷ fb ∷ []) (sn ∷ fn ∷ []) (Some old) now
unfolding op_work
work_of limit s sb sn fb fn old now found t u h = ap (λ n. n + length (filter (differs old now) (places s))) (same_length s (has_changed (sb ∷ fb ∷ []) (sn ∷ fn ∷ [])) found h)

pub work_is : (limit : ℕ) (s : Size) (before after : List Cells) (old now : Cells) (t u : Term) → length (filter (has_changed before after) (places s)) + length (filter (differs old now) (places s)) ≡ op_work (spread_op limit t u) s before after (Some old) now
unfolding op_work
work_is limit s before after old now t u = refl

pub first_of : (limit : ℕ) (s : Size) (was now : List Cells) (cells : Cells) (t u : Term) → first_work s cells ≡ op_work (spread_op limit t u) s was now None cells
unfolding op_work
first_of limit s was now cells t u = refl

pub first_case : (limit : ℕ) (s : Size) (was now : List Cells) (tiles : List (ℕ × Block)) (worked : ℕ) (t u : Term) (b : Option LayerState) → b ≡ None → worked ≡ first_work s (patched s [] tiles) → worked ≡ op_work (spread_op limit t u) s was now (before_of b) (patched s (base_of (before_of b)) tiles)
first_case limit s was now tiles worked t u b q e =
    let P : Option LayerState → Type 0 = λ o. worked ≡ op_work (spread_op limit t u) s was now (before_of o) (patched s (base_of (before_of o)) tiles) in
    subst P (sym q) (e ∙ first_of limit s was now (patched s [] tiles) t u)

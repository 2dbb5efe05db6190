-- Labels of regions that are shown in tiles.
use Rattle.std.proofs.Common.{◌≡◌, ℕ, suc, ◌<◌, ◌≤◌, true, false, length, Option, Some, None, refl, ap, arith, ℤ, pos}
use Rattle.std.specs.Prelude.{Result, not}
use Rattle.std.proofs.lemmas.Bool.{le-leb}
use Rattle.map_nums.specs.Grids.{Size, IsSize, Cells, cell_at}
use Rattle.map_nums.specs.Numbers.{greatest_value, is_value}
use Rattle.map_nums.specs.Answers.{is_wide}
use Rattle.layer_tiles.specs.Tiles.{Block, tiles_in, tile_width}
use Rattle.layer_tiles.specs.Answers.{IsTileAnswer}
use Rattle.layer_tiles.specs.PlaceByPlace.{cell_in, IsPlacesAnswer}
use Rattle.layer_tiles.specs.declared.kernels.KernelRefusal.{KernelRefusal}
use Rattle.tile_frame.specs.Frames.{by_row}
use Rattle.tile_frame.proofs.Answering.{grid_answer}
use Rattle.region_labels.specs.Roots.{told_in, root_in, AreBack, numbered, resolved, resolved_cells}
use Rattle.region_labels.proofs.Rooting.{root_back}
use Rattle.region_labels.proofs.Tying.{told_least}

pub resolved_answer : (s : Size) (labels : Cells) (t : ℕ) (result : Result Block KernelRefusal) → IsSize s → t < tiles_in s → IsPlacesAnswer (by_row (tile_width s t) (λ r c. resolved labels (cell_in s t r c))) s t result → IsTileAnswer s (resolved_cells s labels) t result
resolved_answer s labels t result size within a = grid_answer s t (λ r c. resolved labels (cell_in s t r c)) (resolved labels) result size within (λ r c l m. refl) a

-- ---- a label that is told is a number that a cell may hold

numbered_narrow : (root : ℕ) (label : Option ℤ) → root < 1500000 → is_wide (numbered root label) ≡ false
numbered_narrow root None l = refl
numbered_narrow root (Some z) l = let h : is_value (pos (suc root)) ≡ true = le-leb (suc root) greatest_value (omega (arith, l)) in ap not h

pub resolved_narrow : (labels : Cells) (i : ℕ) → i < length labels → length labels ≤ 1500000 → AreBack labels → is_wide (resolved labels i) ≡ false
resolved_narrow labels i l few back = numbered_narrow (root_in labels i) (cell_at labels i) (omega (arith, l, few, root_back (told_in labels) (told_least labels back) i))

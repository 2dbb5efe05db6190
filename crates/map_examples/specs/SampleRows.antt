-- Grids and lines of the sample, and what it writes on one cell.
use Rattle.std.specs.Prelude.{◌≡◌, ℕ, ◌+◌, ◌%◌, ◌==◌, pos, List, [], ◌∷◌, ◌++◌, map, flat_map, length, Some, None, codes, if◌then◌else◌}
use Rattle.std.specs.List.{range_with_len}
use Rattle.map_nums.specs.Grids.{Cells}
use Rattle.map_machine.specs.Openings.{goes_on}
use Rattle.map_machine.specs.Words.{of_sample}
use Rattle.map_machine.specs.SampleGrids.{by_place, height, friction, start, zone}
use Rattle.map_machine.specs.SampleLines.{sample_paint, sample_lines}
use Rattle.map_examples.specs.Runs.{Run, held, Comes, ok}

abbrev pub nums : List ℕ → Cells
nums ns = map (λ n. Some (pos n)) ns

abbrev pub smallest : Run
smallest = record { form = of_sample 1; files = held []; session = [] }

-- paint i: odd ones of F, even ones of H
abbrev pub painted : ℕ → List ℕ
painted i = if i % 2 == 1 then ok (10 + i) 1 2 1 else ok (10 + i) 2 4 1

pub record SampleRows : Type 0 where
  pub heights : (by_place 2 height).cells ≡ nums (21 ∷ 57 ∷ 45 ∷ 84 ∷ [])
  pub frictions : (by_place 2 friction).cells ≡ nums (9 ∷ 3 ∷ 5 ∷ 8 ∷ [])
  pub starts : (by_place 2 start).cells ≡ Some (pos 1) ∷ None ∷ None ∷ None ∷ []
  pub zones : (by_place 2 zone).cells ≡ nums (1 ∷ 1 ∷ 1 ∷ 1 ∷ [])
  pub far_zone : zone 129 257 ≡ Some (pos 19)
  pub far_start : start 101 201 ≡ Some (pos 1)
  pub first_paint : sample_paint 7 1 ≡ codes "paint F 3 5 3 5 2"
  pub second_paint : sample_paint 7 2 ≡ codes "paint H 5 2 5 2 3"
  pub fifty_eight_lines : length (sample_lines 7) ≡ 58
  pub one_cell : Comes smallest (ok 1 1 1 0 ++ ok 2 1 1 0 ++ ok 3 1 1 0 ++ ok 4 1 1 0 ++ ok 5 1 1 0 ++ ok 6 1 1 0 ++ ok 7 1 1 2 ++ ok 8 1 1 2 ++ ok 9 1 1 2 ++ ok 10 1 1 0 ++ flat_map painted (range_with_len 1 50) ++ codes "legend M 1\n0 1 0\n") goes_on 10304 56000

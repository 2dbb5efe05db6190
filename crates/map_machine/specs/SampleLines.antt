-- The lines of the sample: six statements, fifty paints, a legend.
use Rattle.std.specs.Prelude.{ℕ, ◌+◌, ◌*◌, ◌%◌, ◌==◌, List, [], ◌∷◌, ◌++◌, map, codes, if◌then◌else◌}
use Rattle.std.specs.List.{range_with_len}
use Rattle.map_machine.specs.Causes.{counted, counted_twice}

abbrev pub sample_statements : List (List ℕ)
sample_statements =
    codes "G = IncrementalGradient of H" ∷ codes "M = ZonalMean of G within Z" ∷ codes "D = FocalProximity of S spreading in F within 100000"
    ∷ codes "W = IncrementalDrainage of H carrying 1" ∷ codes "R = FocalInsularity of Z" ∷ codes "Q = FocalMaximum of H at 3" ∷ []

-- one cell is painted
abbrev pub paint_line : List ℕ → ℕ → ℕ → ℕ → List ℕ
paint_line name r c v = counted (counted_twice (counted_twice (codes "paint " ++ name) r c) r c) v

-- paint i of a map of n rows and n columns: odd ones of F, even ones of H
abbrev pub sample_paint : ℕ → ℕ → List ℕ
sample_paint n i = paint_line (if i % 2 == 1 then codes "F" else codes "H") (1 + (37 * i) % n) (1 + (53 * i) % n) (1 + i % 9)

abbrev pub sample_lines : ℕ → List (List ℕ)
sample_lines n = sample_statements ++ map (sample_paint n) (range_with_len 1 50) ++ codes "legend M" ∷ codes "quit" ∷ []

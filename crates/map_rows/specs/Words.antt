-- How the rows write grids.
use Rattle.std.specs.Prelude.{ℕ, ℤ, pos, neg_ℤ, List, map, replicate, Option, Some}
use Rattle.map_nums.specs.Grids.{Size, Cells, cells_in}

abbrev pub some : ℕ → Option ℤ
some n = Some (pos n)

abbrev pub less : ℕ → Option ℤ
less n = Some (neg_ℤ (pos n))

-- numbers that are not negative
abbrev pub nums : List ℕ → Cells
nums ns = map some ns

abbrev pub by : ℕ → ℕ → Size
by r c = record { rows = r; columns = c }

-- one number everywhere
abbrev pub all : Size → ℕ → Cells
all s n = replicate (cells_in s) (some n)

-- The limits of a run.
use Rattle.std.specs.Prelude.{ℕ}

-- the most bytes of a file
abbrev pub longest_file : ℕ
longest_file = 67108864

-- a session of so many bytes is too long
abbrev pub too_many_bytes : ℕ
too_many_bytes = 1073741824

-- the most bytes of a line
abbrev pub longest_line : ℕ
longest_line = 4096

-- the most pairs of a name and a file
abbrev pub most_pairs : ℕ
most_pairs = 32

abbrev pub most_workers : ℕ
most_workers = 64

-- the most rows and columns of the sample
abbrev pub largest_sample : ℕ
largest_sample = 1224

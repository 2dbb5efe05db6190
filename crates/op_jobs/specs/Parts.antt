-- Parts of so many rows or tiles.
use Rattle.std.specs.Prelude.{ℕ, ◌*◌, ◌/◌}

-- where part k of n begins
abbrev pub part_start : ℕ → ℕ → ℕ → ℕ
part_start all n k = k * all / n

-- What is answered for the viewers of an operand.
use Rattle.std.specs.Prelude.{◌≡◌, ℕ, ◌<◌, ◌≤◌, List, ℤ, Result, Ok, Err}
use Rattle.map_nums.specs.Grids.{Size, Cells}
use Rattle.map_defs.specs.Sight.{viewer_count, most_viewers}
use Rattle.sight_lines.specs.Viewed.{viewers_of}
use Rattle.sight_lines.specs.declared.refusals.SightRefusal.{SightRefusal}
use Rattle.sight_lines.specs.declared.refusals.SightRefusal.TheVariants.{Viewers, NoMemory}

-- the viewers where there are at most 64, else how many there are; want of memory is free
abbrev pub IsViewersAnswer : Size → Cells → Result (List (ℕ × ℤ)) SightRefusal → Type 0
IsViewersAnswer s cells (Ok viewers) = (viewers ≡ viewers_of s cells) × (viewer_count cells ≤ most_viewers)
IsViewersAnswer s cells (Err (Viewers count)) = (count ≡ viewer_count cells) × (most_viewers < count)
IsViewersAnswer s cells (Err NoMemory) = Unit {0}

-- The greatest and the least of numbers as one: the least is the greatest of the negatives.
use Rattle.std.specs.Prelude.{◌≡◌, ℕ, ◌+◌, ◌*◌, ◌<◌, ◌^◌, ◌≤◌, length, ℤ, pos, negsuc, neg_ℤ, ◌<ℤ◌, Bool, true, false, List, [], ◌∷◌, Option, Some, None, slice_index_or, slice_range, if◌then◌else◌}
use Rattle.std.specs.Int.{int_max}
use Rattle.std.specs.Ordering.{int_eq}
use Rattle.map_nums.specs.Numbers.{greatest_value}
use Rattle.map_nums.specs.declared.Stat.{Stat}
use Rattle.map_nums.specs.declared.Stat.TheVariants.{Maximum, Minimum}
use Rattle.map_nums.specs.Grids.{Cells, numbers_in}

abbrev pub extreme : Bool → Stat
extreme false = Maximum
extreme true = Minimum

-- the word of no number
abbrev pub nothing : ℤ
nothing = negsuc greatest_value

abbrev pub turned : Bool → ℤ → ℤ
turned false z = z
turned true z = neg_ℤ z

-- the greatest word of numbers
abbrev pub most : Bool → List ℤ → ℤ
most least [] = nothing
most least (z ∷ zs) = int_max (turned least z) (most least zs)

-- the word of each number is above that of none
abbrev pub AllFit : Bool → List ℤ → Type 0
AllFit least [] = Unit {0}
AllFit least (z ∷ zs) = (nothing <ℤ turned least z) × AllFit least zs

pub record IsMost (least : Bool) (zs : List ℤ) (word : ℤ) : Type 0 where
  pub fits : AllFit least zs
  pub is : word ≡ most least zs

-- the number that a word stands for
abbrev pub of_word : Bool → ℤ → Option ℤ
of_word least word = if int_eq word nothing then None else Some (turned least word)

-- table p has the words of the `width` cells from each place on, as far as there are so many
abbrev pub IsTable : Bool → Cells → ℕ → ℕ → List ℤ → Type 0
IsTable least square p width tables = (m : ℕ) → m + width ≤ length square → IsMost least (numbers_in (slice_range square m (m + width))) (slice_index_or tables (p * length square + m) (pos 0))

-- there is a table for each power of two up to `widest`
pub record AreTables (least : Bool) (square : Cells) (widest : ℕ) (tables : List ℤ) : Type 0 where
  pub levels : ℕ
  pub enough : widest < 2 * 2 ^ levels
  pub count : length tables ≡ (levels + 1) * length square
  pub are : (p : ℕ) → p ≤ levels → IsTable least square p (2 ^ p) tables

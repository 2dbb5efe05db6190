-- Sums over pieces of rows by what the first cells add up to.
use Rattle.std.specs.Prelude.{◌≡◌, ℕ, zero, suc, ◌+◌, ◌-◌, ◌*◌, ◌<◌, ◌≤◌, ℤ, pos, neg_ℤ, ◌+ℤ◌, ◌-ℤ◌, ◌≤ℤ◌, Bool, true, false, List, length, take, Option, Some, None, slice_index, slice_index_or, if◌then◌else◌}
use Rattle.std.specs.Int.{int_div_euclid}
use Rattle.std.specs.Ordering.{int_eq}
use Rattle.map_nums.specs.declared.Stat.{Stat}
use Rattle.map_nums.specs.declared.Stat.TheVariants.{Sum, Mean}
use Rattle.map_nums.specs.Grids.{Cells, numbers_in}
use Rattle.map_nums.specs.Stats.{total_of}

abbrev pub summed : Bool → Stat
summed false = Sum
summed true = Mean

abbrev pub count_of : List ℤ → ℤ
count_of zs = pos (length zs)

-- n numbers of cells may add up to this
pub record IsWithin (n : ℕ) (z : ℤ) : Type 0 where
  pub low : neg_ℤ (pos (1000000000000000 * n)) ≤ℤ z
  pub high : z ≤ℤ pos (1000000000000000 * n)

-- no step from one of the first n places to the next is more than a number
abbrev pub Rises : ℕ → List ℤ → Type 0
Rises n fronts = (m : ℕ) → m < n → IsWithin 1 (slice_index_or fronts (m + 1) (pos 0) -ℤ slice_index_or fronts m (pos 0))

-- f of the numbers among the first m cells stands at place m, up to place n
pub record IsFront (f : List ℤ → ℤ) (square : Cells) (n : ℕ) (fronts : List ℤ) : Type 0 where
  pub is : (m : ℕ) → m ≤ n → slice_index_or fronts m (pos 0) ≡ f (numbers_in (take m square))
  pub rises : Rises n fronts

-- those of all cells, for the sums and for the counts
pub record AreFronts (square : Cells) (sums counts : List ℤ) : Type 0 where
  pub sums_count : length sums ≡ length square + 1
  pub counts_count : length counts ≡ length square + 1
  pub sums_are : IsFront total_of square (length square) sums
  pub counts_are : IsFront count_of square (length square) counts

-- by how much the fronts rise over the first n rows of offsets
abbrev pub differences : ℕ → List ℕ → List ℤ → ℕ → ℕ → ℕ → ℕ → ℤ
differences reach halves fronts w r c zero = pos 0
differences reach halves fronts w r c (suc n) =
    let half = slice_index halves n in
    let start = (r + n) * w + (c + reach - half) in
    differences reach halves fronts w r c n +ℤ (slice_index_or fronts (start + (2 * half + 1)) (pos 0) -ℤ slice_index_or fronts start (pos 0))

-- the sum, or the mean, of n numbers that add up to t
abbrev pub of_totals : Bool → ℤ → ℤ → Option ℤ
of_totals mean t n = if int_eq n (pos 0) then None else Some (if mean then int_div_euclid t n else t)

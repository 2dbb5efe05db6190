-- The different numbers of a list with how often each occurs, and keys by which they lead.
use Rattle.std.specs.Prelude.{◌≡◌, ◌≢◌, ℕ, ◌+◌, ◌-◌, ◌*◌, ◌%◌, ◌<◌, ◌≤◌, ℤ, pos, ◌+ℤ◌, ◌<ℤ◌, ◌≤ℤ◌, Bool, true, false, List, take, slice_index, slice_index_or, unsigned_abs, if◌then◌else◌}
use Rattle.map_nums.specs.declared.Stat.{Stat}
use Rattle.map_nums.specs.declared.Stat.TheVariants.{Majority, Minority}
use Rattle.map_nums.specs.Stats.{occurrences, variety_of}

abbrev pub by_counts : Bool → Stat
by_counts false = Majority
by_counts true = Minority

-- where a number is looked for first
abbrev pub slot_at : ℤ → ℕ
slot_at z = unsigned_abs z % 512

-- the first n values are the different numbers among the first i of a list
pub record AreKinds (xs : List ℤ) (i : ℕ) (values : List ℤ) (counts : List ℕ) (n : ℕ) : Type 0 where
  pub few : n ≤ i
  pub variety : n ≡ variety_of (take i xs)
  pub counted : (k : ℕ) → k < n → slice_index counts k ≡ occurrences (slice_index_or values k (pos 0)) (take i xs)
  pub are : (k : ℕ) → k < n → (j : ℕ) × (j < i) × (slice_index_or xs j (pos 0) ≡ slice_index_or values k (pos 0))
  pub apart : (j k : ℕ) → j < n → k < n → slice_index_or values j (pos 0) ≡ slice_index_or values k (pos 0) → j ≡ k
  pub all : (j : ℕ) → j < i → (k : ℕ) × (k < n) × (slice_index_or values k (pos 0) ≡ slice_index_or xs j (pos 0))

-- each of the first n values has a slot that is taken
abbrev pub HaveSlots : List ℕ → List ℤ → ℕ → Type 0
HaveSlots slots values n = (k : ℕ) → k < n → slice_index slots (slot_at (slice_index_or values k (pos 0))) ≢ 255

-- fewer occurrences rank first where the least is wanted, else more
abbrev pub rank : Bool → ℕ → ℕ
rank least m = if least then m else 64 - m

-- the key of a number z that occurs m times: its rank, and among equal ranks the number
pub record IsKey (least : Bool) (z : ℤ) (m key : ℕ) : Type 0 where
  pub is : pos key ≡ (z +ℤ pos (rank least m * 18446744073709551616 + 9223372036854775808))
  pub low : pos 0 ≤ℤ (z +ℤ pos 9223372036854775808)
  pub high : (z +ℤ pos 9223372036854775808) <ℤ pos 18446744073709551616

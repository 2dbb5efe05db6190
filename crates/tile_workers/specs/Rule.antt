-- The rule of the ticket word, and what a draw tells.
use Rattle.std.specs.Prelude.{◌≡◌, ℕ, ◌-◌, ◌^◌, ◌<◌, ◌≤◌, false, ltb, List, [], ◌∷◌, ◌++◌, length, slice_index, sum_by}
use Rattle.std.specs.List.{range_with_len}
use mathlib.Core.Option.{some}
use lib.ListN.{get_elem?}
use Rattle.atomic_table.specs.Table.{State, Me, Step}
use Rattle.tile_workers.specs.declared.seat.View.{View}
use Rattle.tile_workers.specs.Lists.{one_if, times, Ascends}

-- 1 where x is below n, and else 0
abbrev pub once_below : ℕ → ℕ → ℕ
once_below x n = one_if (ltb x n)

-- what the seats hold together: each number below the next once, and no other
pub record IsDealt (next : ℕ) (seats : List View) : Type 0 where
  pub shares : sum_by (λ (v : View). v.share) seats ≡ 64
  pub once : (x : ℕ) → sum_by (λ (v : View). times x v.drawn) seats ≡ once_below x next
  pub counted : sum_by (λ (v : View). length v.drawn) seats ≡ next
  pub ascends : (i : ℕ) (v : View) → get_elem? seats i ≡ some v → Ascends v.drawn
  pub spent : (i : ℕ) (v : View) → get_elem? seats i ≡ some v → v.share ≡ 0 → v.drawn ≡ []

-- how many seats have the mark
abbrev pub marks : List View → ℕ
marks views = sum_by (λ (v : View). one_if v.marked) views

-- One word, the next number. Once a draw has found the last number of 64 bits, the word starts anew, and a seat has the mark
pub record IsBoard (s : State (Unit {0}) View) : Type 0 where
  pub one_word : length s.words ≡ 1
  pub shares : sum_by (λ (v : View). v.share) s.views ≡ 64
  pub spent : (i : ℕ) (v : View) → get_elem? s.views i ≡ some v → v.share ≡ 0 → (v.drawn ≡ []) × (v.marked ≡ false)
  pub dealt : marks s.views ≡ 0 → IsDealt (slice_index s.words 0) s.views
  pub ran_over : 0 < marks s.views → 2 ^ 64 - 1 ≤ sum_by (λ (v : View). length v.drawn) s.views

-- the number found goes to the end of the seat's list
abbrev pub drew : Step (Unit {0}) → Me (Unit {0}) View → ℕ → Me (Unit {0}) View → Type 0
drew st m r m' = (m'.0.drawn ≡ m.0.drawn ++ r ∷ []) × (m'.0.share ≡ m.0.share) × (m'.1 ≡ m.1)
    × (m'.0.marked ≡ false → (m.0.marked ≡ false) × Ascends m'.0.drawn)
    × (m.0.share ≡ 64 → length m.0.drawn < 2 ^ 64 - 1 → m.0.drawn ≡ range_with_len 0 r)

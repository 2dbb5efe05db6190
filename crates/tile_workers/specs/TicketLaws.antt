-- Where each ticket stands.
use Rattle.std.specs.Prelude.{◌≡◌, ◌≢◌, ℕ, ◌<◌, ◌≤◌, List, [], sum_by}
use Rattle.std.specs.List.{range_with_len}
use mathlib.Core.Option.{some}
use lib.ListN.{get_elem?}
use Rattle.tile_workers.specs.declared.seat.View.{View}
use Rattle.tile_workers.specs.Lists.{times, Ascends}
use Rattle.tile_workers.specs.Tickets.{TicketState}

-- the number x stands in the list of one live seat, once, and in no other list
abbrev pub IsWithOne : List View → ℕ → Type 0
IsWithOne seats x = (i : ℕ) × (v : View) × (get_elem? seats i ≡ some v) × (0 < v.share) × (times x v.drawn ≡ 1)
    × ((j : ℕ) (w : View) → get_elem? seats j ≡ some w → i ≢ j → times x w.drawn ≡ 0)

-- seat i is the only live one, and holds every number below the next
abbrev pub HoldsAll : ℕ → List View → ℕ → View → Type 0
HoldsAll next seats i v = (v.drawn ≡ range_with_len 0 next)
    × ((j : ℕ) (w : View) → get_elem? seats j ≡ some w → i ≢ j → (w.share ≡ 0) × (w.drawn ≡ []))

-- There are 64 shares. Each number below the next stands with one live seat, and no other number was drawn
pub record EachStandsOnce (s : TicketState) : Type 0 where
  pub shares : sum_by (λ (v : View). v.share) s.seats ≡ 64
  pub each_once : (x : ℕ) → x < s.next → IsWithOne s.seats x
  pub none_above : (x i : ℕ) (v : View) → s.next ≤ x → get_elem? s.seats i ≡ some v → times x v.drawn ≡ 0
  pub ascends : (i : ℕ) (v : View) → get_elem? s.seats i ≡ some v → Ascends v.drawn
  pub whole : (i : ℕ) (v : View) → get_elem? s.seats i ≡ some v → v.share ≡ 64 → HoldsAll s.next s.seats i v

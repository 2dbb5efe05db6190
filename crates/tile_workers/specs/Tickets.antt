-- Tickets that seats draw: a machine whose events are the steps of single seats, in any order.
use Rattle.std.specs.Prelude.{◌≡◌, ◌≢◌, ℕ, ◌+◌, ◌-◌, ◌<◌, Bool, false, List, [], ◌∷◌, ◌++◌, slice_set, ◌||◌}
use mathlib.Core.Option.{some}
use lib.ListN.{get_elem?}
use Rattle.tile_workers.specs.declared.seat.View.{View}
use Rattle.tile_workers.specs.Lists.{merged}

abbrev pub view : List ℕ → ℕ → Bool → View
view drawn share marked = record { drawn = drawn; share = share; marked = marked }

-- the seat that a board is made with
abbrev pub first_view : View
first_view = view [] 64 false

-- a seat that was split off
abbrev pub new_view : View
new_view = view [] 1 false

-- a seat that was joined into another
abbrev pub spent_view : View
spent_view = view [] 0 false

abbrev pub less_one : View → View
less_one v = view v.drawn (v.share - 1) v.marked

abbrev pub both_views : View → View → View
both_views v w = view (merged v.drawn w.drawn) (v.share + w.share) (v.marked || w.marked)

-- the next number, and every seat that ever was
pub record TicketState : Type 0 where
  pub next : ℕ
  pub seats : List View

abbrev pub first_state : TicketState
first_state = record { next = 0; seats = first_view ∷ [] }

pub data Event : Type 0 where
  split : ℕ → Event
  draw : ℕ → Event
  join : ℕ → ℕ → Event

-- the event may come, and leads from the first state to the second
abbrev pub Leads : TicketState → Event → TicketState → Type 0
Leads s (split i) t = (v : View) × (get_elem? s.seats i ≡ some v) × (1 < v.share)
    × (t ≡ record { next = s.next; seats = slice_set s.seats i (less_one v) ++ new_view ∷ [] })
Leads s (draw i) t = (v : View) × (get_elem? s.seats i ≡ some v) × (0 < v.share)
    × (t ≡ record { next = s.next + 1; seats = slice_set s.seats i (view (v.drawn ++ s.next ∷ []) v.share v.marked) })
Leads s (join i j) t = (v : View) × (w : View) × (get_elem? s.seats i ≡ some v) × (get_elem? s.seats j ≡ some w) × (i ≢ j) × (0 < v.share) × (0 < w.share)
    × (t ≡ record { next = s.next; seats = slice_set (slice_set s.seats i (both_views v w)) j spent_view })

abbrev pub LeadsAll : TicketState → List Event → TicketState → Type 0
LeadsAll s [] t = s ≡ t
LeadsAll s (e ∷ es) t = (m : TicketState) × Leads s e m × LeadsAll m es t

-- A statement's places as they are made, and a group's as they are found.
use Rattle.std.specs.Prelude.{ℕ, true, false, List, [], ◌∷◌}
use Rattle.map_defs.specs.Nodes.{Node}
use Rattle.statement_graph.specs.declared.places.Span.{Span}
use Rattle.statement_graph.specs.Seats.{Seat}

abbrev pub span_pair : Span → ℕ × ℕ
span_pair s = (s.start, s.end)

abbrev pub inner_seat : Node → Seat
inner_seat node = record { node = node; ends = false }

-- all but the last go on
abbrev pub group_seats : List Node → List Seat
group_seats [] = []
group_seats (node ∷ []) = record { node = node; ends = true } ∷ []
group_seats (node ∷ next ∷ nodes) = inner_seat node ∷ group_seats (next ∷ nodes)

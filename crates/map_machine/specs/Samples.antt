-- The sample: its grids are loaded, and then its lines are played.
use Rattle.std.specs.Prelude.{ℕ, List, [], ◌∷◌}
use Rattle.map_lines.specs.Present.{first_place}
use Rattle.map_edits.specs.WholeStates.{no_names}
use Rattle.map_machine.specs.States.{MapState}
use Rattle.map_machine.specs.Loads.{grid_load}
use Rattle.map_machine.specs.LoadTexts.{opened_text}
use Rattle.map_machine.specs.Openings.{Opening, opened_opening}
use Rattle.map_machine.specs.SampleGrids.{NamedGrid, sample_header}

-- before the first grid
abbrev pub sample_state : ℕ → MapState
sample_state n = record { header = sample_header; place = first_place; whole = no_names (record { rows = n; columns = n }); pasts = [] }

-- the text from these grids on; `next` is the text from the state after them
abbrev pub grids_text : MapState → List NamedGrid → (MapState → List ℕ) → List ℕ
grids_text s [] next = next s
grids_text s (g ∷ gs) next = opened_text (grid_load s g.name g.grid) (λ t. grids_text t gs next)

-- how they come out
abbrev pub grids_opening : MapState → List NamedGrid → (MapState → Opening) → Opening
grids_opening s [] next = next s
grids_opening s (g ∷ gs) next = opened_opening (grid_load s g.name g.grid) (λ t. grids_opening t gs next)

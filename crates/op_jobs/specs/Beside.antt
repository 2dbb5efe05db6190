-- What stands beside a layer.
use Rattle.std.specs.Prelude.{◌≡◌, ℕ, ℤ, List, Option, Some, None, option_map}
use Rattle.map_nums.specs.Grids.{Size, Cells}
use Rattle.map_defs.specs.Ops.{Op}
use Rattle.map_defs.specs.Facts.{Class, zonal_class, sight_class, nearest_class, class_of}
use Rattle.map_defs.specs.Differences.{costs_by}
use Rattle.map_defs.specs.Operate.{operand}
use Rattle.zonal_totals.specs.Books.{BookState, IsBookOf}
use Rattle.sight_lines.specs.Viewed.{viewers_of}
use Rattle.layer_tiles.specs.Layers.{LayerState}
use Rattle.map_waves.specs.declared.keeping.Aside.{Aside}
use Rattle.map_waves.specs.declared.keeping.Aside.TheVariants.{Layer, Other}
use Rattle.map_waves.specs.declared.keeping.Kept.{Kept}
use Rattle.op_jobs.specs.declared.beside.Beside.{Beside}
use Rattle.op_jobs.specs.declared.beside.Beside.TheVariants.{Nothing, Book, Viewers}

-- nothing
abbrev pub IsNothing : Aside Beside → Type 0
IsNothing (Other Nothing) = Unit {0}
IsNothing beside = ⊥

-- the book of these values and zones
abbrev pub IsBook : Size → Cells → Cells → Aside Beside → Type 0
IsBook s values zones (Other (Book b)) = (b.size ≡ s) × IsBookOf b values zones
IsBook s values zones beside = ⊥

-- the viewers of this grid
abbrev pub AreViewers : Size → Cells → Aside Beside → Type 0
AreViewers s cells (Other (Viewers v)) = v ≡ viewers_of s cells
AreViewers s cells beside = ⊥

-- the layer of these costs
abbrev pub AreCosts : Size → Cells → Aside Beside → Type 0
AreCosts s cells (Layer l) = (l.size ≡ s) × (l.cells ≡ cells)
AreCosts s cells beside = ⊥

-- the book of a Zonal statement, the viewers of a sight statement, the least costs of a nearest-source statement, and nothing beside any other
abbrev pub suits_in : Class → Size → List Cells → Aside Beside → Type 0
suits_in (zonal_class stat) s operands beside = IsBook s (operand operands 0) (operand operands 1) beside
suits_in (sight_class r) s operands beside = AreViewers s (operand operands 0) beside
suits_in (nearest_class limit) s operands beside = AreCosts s (costs_by limit s operands) beside
suits_in class s operands beside = IsNothing beside

abbrev pub suits : Size → Op → List Cells → Aside Beside → Type 0
suits s op = suits_in (class_of op) s

-- ---- what is kept beside a layer

abbrev pub book_at : Aside Beside → Option BookState
book_at (Other (Book b)) = Some b
book_at beside = None

abbrev pub viewers_at : Aside Beside → Option (List (ℕ × ℤ))
viewers_at (Other (Viewers v)) = Some v
viewers_at beside = None

abbrev pub costs_at : Aside Beside → Option LayerState
costs_at (Layer l) = Some l
costs_at beside = None

-- the book, the viewers, the costs and the layer of what is kept, where it has one
abbrev pub book_in : Option (Kept Beside) → Option BookState
book_in None = None
book_in (Some k) = book_at k.beside

abbrev pub kept_viewers : Option (Kept Beside) → Option (List (ℕ × ℤ))
kept_viewers None = None
kept_viewers (Some k) = viewers_at k.beside

abbrev pub costs_in : Option (Kept Beside) → Option LayerState
costs_in None = None
costs_in (Some k) = costs_at k.beside

-- costs, where there are any, as what stands beside a layer
abbrev pub costs_aside : Option LayerState → Option (Aside Beside)
costs_aside costs = option_map (λ (l : LayerState). Layer l) costs

abbrev pub layer_in : Option (Kept Beside) → Option LayerState
layer_in None = None
layer_in (Some k) = Some k.layer

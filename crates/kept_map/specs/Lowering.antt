-- Sources and operands after a source was taken out.
use Rattle.std.specs.Prelude.{◌≡◌, ℕ, ◌-◌, nat_lt, List, length, map, remove, Option, Some, None, slice_get, if◌then◌else◌}
use Rattle.statement_parser.specs.declared.op.Op.{Op as Given}
use Rattle.map_waves.specs.declared.plans.Ref.{Ref}
use Rattle.map_waves.specs.declared.plans.Ref.TheVariants.{Source, Statement, Number}
use Rattle.map_waves.specs.declared.plans.Step.{Step}
use Rattle.kept_map.specs.declared.maps.Sources.{Sources}

-- the sources after the place come one place forward
abbrev pub lowered : ℕ → Ref → Ref
lowered place (Source i) = if nat_lt place i then Source (i - 1) else Source i
lowered place (Statement j) = Statement j
lowered place (Number c) = Number c

pub record IsLowered (place : ℕ) (x y : Step Given) : Type 0 where
  pub op : y.op ≡ x.op
  pub depth : y.depth ≡ x.depth
  pub kept : y.kept ≡ x.kept
  pub written : y.written ≡ x.written
  pub refs : y.refs.items ≡ map (lowered place) x.refs.items

abbrev pub AreLowered : ℕ → List (Step Given) → List (Step Given) → Type 0
AreLowered place old new = (length new ≡ length old) × ((k : ℕ) (x : Step Given) → slice_get old k ≡ Some x → (y : Step Given) × (slice_get new k ≡ Some y) × IsLowered place x y)

-- the source at a place is taken out, or none where there is no place
abbrev pub IsTakenOut : Option ℕ → Sources → Sources → List (Step Given) → List (Step Given) → Type 0
IsTakenOut None old new steps moved = (new.names.keys ≡ old.names.keys) × (new.layers.items ≡ old.layers.items) × (moved ≡ steps)
IsTakenOut (Some place) old new steps moved = (new.names.keys ≡ remove old.names.keys place) × (new.layers.items ≡ remove old.layers.items place) × AreLowered place steps moved

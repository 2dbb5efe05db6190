-- An edit that leaves the plan is put in place.
use Rattle.std.specs.Prelude.{◌≡◌, ℕ, length, map, Option, Some, slice_get}
use Rattle.map_nums.specs.Counts.{raised}
use Rattle.map_waves.specs.Placing.{ArePlaced}
use Rattle.map_waves.specs.Prepared.{IsReady}
use Rattle.map_waves.specs.declared.keeping.Kept.{Kept}
use Rattle.map_waves.specs.declared.keeping.Made.{Made}
use Rattle.map_waves.specs.declared.plans.Step.{Step}
use Rattle.statement_parser.specs.declared.op.Op.{Op as Given}
use Rattle.op_jobs.specs.declared.beside.Beside.{Beside}
use Rattle.kept_map.specs.Commits.{IsAtRest, Rests}
use Rattle.kept_map.specs.declared.maps.KeptMap.{KeptMap}
use Rattle.kept_map.specs.declared.repairing.Prepared.{Prepared}

-- the steps rest, and what was prepared of each statement fits what is kept of it
pub record CanSettle (m : KeptMap) (prepared : Prepared) : Type 0 where
  pub rest : (k : ℕ) (x : Step Given) → slice_get m.planned.steps.items k ≡ Some x → IsAtRest k x x
  pub kept : length m.kept.items ≡ length m.planned.steps.items
  pub all : length prepared.made.items ≡ length m.kept.items
  pub ready : (k : ℕ) (own : Kept Beside) (r : Option (Made Beside)) → slice_get m.kept.items k ≡ Some own → slice_get prepared.made.items k ≡ Some r → IsReady m.extent (Some own) r

-- it is kept, and the steps rest
pub record HaveSettled (old new : KeptMap) (prepared : Prepared) : Type 0 where
  pub plan_names : new.planned.names.keys ≡ old.planned.names.keys
  pub rests : Rests old.planned.steps.items new.planned.steps.items
  pub kept_count : length new.kept.items ≡ length old.planned.steps.items
  pub placed : ArePlaced old.extent (raised old.number 1) (map (λ k. Some k) old.kept.items) old.planned.steps.items prepared.made.items new.kept.items

-- one more edit is counted, and all else is as before
pub record IsSettled (old new : KeptMap) (prepared : Prepared) : Type 0 where
  pub others : new ≡ record old { planned = new.planned; kept = new.kept; number = raised old.number 1 }
  pub statements : HaveSettled old new prepared

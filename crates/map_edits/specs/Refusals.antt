-- Why an edit is refused.
use Rattle.std.specs.Prelude.{ℕ}
use Rattle.map_nums.specs.Grids.{Size}
use Rattle.map_defs.specs.Ops.{Name}
use Rattle.map_edits.specs.Faults.{Fault}
use Rattle.map_edits.specs.Limits.{Kind, any_kind, zonal_kind, nearest_kind}

pub data Which : Type 0 where
  sources : Which
  statements : Which
  zonals : Which
  neighbors : Which
  labels : Which
  symbols : Which
  procedures : Which

-- what a kind of flat statements is told as
abbrev pub which_kind : Kind → Which
which_kind any_kind = statements
which_kind zonal_kind = zonals
which_kind nearest_kind = neighbors

pub data Refusal : Type 0 where
  unknown : Name → Refusal
  is_derived : Name → Refusal
  exists_already : Name → Refusal
  -- the state's own size
  wrong_size : Size → Refusal
  beyond : Which → Refusal
  cycle : Name → Refusal
  fault : Fault → Refusal
  no_procedure : Name → Refusal
  -- how many terms are given and wanted
  wrong_terms : ℕ → ℕ → Refusal

-- How a run ends over forms in memory that never fail.
use Rattle.std.specs.Prelude.{⊤}
use Rattle.map_run.specs.declared.status.Status.{Status}
use Rattle.map_run.specs.declared.status.Status.TheVariants.{Done, Usage, Load, ShelfFault, SourceFault, SinkFault, NoMemory, TooLong}

-- without a fault of shelf, source or sink
abbrev pub EndsSteady : Status → Type 0
EndsSteady Done = ⊤
EndsSteady Usage = ⊤
EndsSteady Load = ⊤
EndsSteady ShelfFault = ⊥
EndsSteady SourceFault = ⊥
EndsSteady SinkFault = ⊥
EndsSteady NoMemory = ⊤
EndsSteady TooLong = ⊤

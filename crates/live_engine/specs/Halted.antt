-- Why statements are not repaired, as a refusal.
use Rattle.kept_map.specs.declared.halts.Halt.{Halt}
use Rattle.kept_map.specs.declared.halts.Halt.TheVariants as halts
use Rattle.live_engine.specs.declared.edits.Refusal.{Refusal}
use Rattle.live_engine.specs.declared.edits.Refusal.TheVariants.{Viewers, Overflow, NoMemory}

abbrev pub refusal_of : Halt → Refusal
refusal_of (halts.Viewers n count) = Viewers n count
refusal_of (halts.Overflow n row column) = Overflow n row column
refusal_of halts.NoMemory = NoMemory

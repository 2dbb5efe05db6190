-- Why a run stops, and what it answers then.
use Rattle.std.specs.Prelude.{Result, Ok, Err}
use Rattle.map_outside.specs.declared.sinks.PutFault.{PutFault}
use Rattle.map_outside.specs.declared.sinks.PutFault.TheVariants as put
use Rattle.map_run.specs.declared.stop.Stop.{Stop}
use Rattle.map_run.specs.declared.stop.Stop.TheVariants as stop
use Rattle.map_run.specs.declared.status.Status.{Status}
use Rattle.map_run.specs.declared.status.Status.TheVariants as status

abbrev pub put_stop : PutFault → Stop
put_stop put.Failed = stop.SinkFault
put_stop put.NoMemory = stop.NoMemory

abbrev pub stop_status : Stop → Status
stop_status stop.Load = status.Load
stop_status stop.ShelfFault = status.ShelfFault
stop_status stop.SourceFault = status.SourceFault
stop_status stop.SinkFault = status.SinkFault
stop_status stop.NoMemory = status.NoMemory
stop_status stop.TooLong = status.TooLong

abbrev pub status_of : {T : Type 0} → Result T Stop → Status
status_of (Ok x) = status.Done
status_of (Err s) = stop_status s

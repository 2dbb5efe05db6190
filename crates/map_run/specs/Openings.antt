-- How the loads of a run and its answer go together.
use Rattle.std.specs.Prelude.{◌≡◌, ⊤}
use Rattle.map_machine.specs.Openings.{Opening, goes_on, turned_back}
use Rattle.map_run.specs.declared.status.Status.{Status}
use Rattle.map_run.specs.declared.status.Status.TheVariants.{Done, Load, SourceFault, TooLong}

-- a session was begun only where nothing was refused, and `Load` comes only where something was
abbrev pub OpensSo : Status → Opening → Type 0
OpensSo Done opening = opening ≡ goes_on
OpensSo SourceFault opening = opening ≡ goes_on
OpensSo TooLong opening = opening ≡ goes_on
OpensSo Load opening = opening ≡ turned_back
OpensSo status opening = ⊤

-- How a file that was opened is fetched.
use Rattle.std.specs.Prelude.{ℕ, ◌≡◌, List, Option, Some, None, Result, Err, Vec}
use Rattle.std.specs.declared.alloc.Global.{Global}
use Rattle.map_outside.specs.Causes.{FetchCounts}
use Rattle.map_outside.specs.Takings.{TakesAll}
use Rattle.map_outside.specs.declared.shelves.FetchFault.{FetchFault}
use Rattle.map_outside.specs.declared.shelves.FetchFault.TheVariants.{Failed}

-- all bytes of what was opened were taken, up to the limit, and only a fault of it made the fetch fail; what could not be opened did too
abbrev pub FetchesOpened : {S : Type 0} → (S → Option (List ℕ)) → (S → ℕ) → Option S → ℕ → Result (Vec ℕ Global) FetchFault → Type 0
FetchesOpened left faults None limit r = r ≡ Err Failed
FetchesOpened left faults (Some s) limit r = (s' : _) × TakesAll (left s) (left s') limit r × FetchCounts (faults s) (faults s') r

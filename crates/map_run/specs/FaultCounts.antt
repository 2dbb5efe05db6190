-- The counts of faults of shelf, source and sink.
use Rattle.std.specs.Prelude.{ℕ, ◌≡◌}
use Rattle.map_nums.specs.Counts.{Rose}
use Rattle.map_run.specs.declared.status.Status.{Status}
use Rattle.map_run.specs.declared.status.Status.TheVariants.{ShelfFault, SourceFault, SinkFault}

-- a fault is answered only where the count of that very object rose, and no other answer moves a count
abbrev pub RunCounts : ℕ → ℕ → ℕ → ℕ → ℕ → ℕ → Status → Type 0
RunCounts f f' s s' k k' ShelfFault = Rose f f' × (s' ≡ s) × (k' ≡ k)
RunCounts f f' s s' k k' SourceFault = (f' ≡ f) × Rose s s' × (k' ≡ k)
RunCounts f f' s s' k k' SinkFault = (f' ≡ f) × (s' ≡ s) × Rose k k'
RunCounts f f' s s' k k' status = (f' ≡ f) × (s' ≡ s) × (k' ≡ k)

-- no count of faults rose
abbrev pub NoneRose : ℕ → ℕ → ℕ → ℕ → ℕ → ℕ → Type 0
NoneRose f f' s s' k k' = (Rose f f' → ⊥) × (Rose s s' → ⊥) × (Rose k k' → ⊥)

-- What a put does to a writer, and to the bytes that it holds where those are known.
use Rattle.std.specs.Prelude.{ℕ, List, take, Option, Result, Ok, Err}
use Rattle.std.specs.Io.KnownBytes.{Appends}
use Rattle.map_outside.specs.declared.sinks.PutFault.{PutFault}
use Rattle.map_outside.specs.declared.sinks.PutFault.TheVariants.{Failed, NoMemory}

-- all bytes were written, and then a flush went well
abbrev pub WritesFlushed : {W : Type 0} → (W → Option (List ℕ)) → (W → W → Type 0) → W → W → List ℕ → Type 0
WritesFlushed contents flushes old new bytes = (whole : _) × Appends (contents old) (contents whole) bytes × flushes whole new

-- all was written and flushed, or a front was written where the writer failed; it takes no memory
abbrev pub WriterPuts : {T W : Type 0} → (W → Option (List ℕ)) → (W → W → Type 0) → W → W → Result T PutFault → List ℕ → Type 0
WriterPuts contents flushes old new (Ok x) bytes = Appends (contents old) (contents new) bytes × WritesFlushed contents flushes old new bytes
WriterPuts contents flushes old new (Err Failed) bytes = (n : ℕ) × Appends (contents old) (contents new) (take n bytes)
WriterPuts contents flushes old new (Err NoMemory) bytes = ⊥

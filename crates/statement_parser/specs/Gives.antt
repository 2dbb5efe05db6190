-- What a part of the parser returned is what reading gives.
use Rattle.std.specs.Prelude.{◌≡◌, Result, Ok, Err}
use Rattle.grammar_core.specs.declared.Fault.{Fault}
use Rattle.statement_parser.specs.declared.fault.ReadError.{ReadError}
use Rattle.statement_parser.specs.declared.fault.ReadError.TheVariants as errors

-- the fault that reading gives; want of memory is free
abbrev pub Fails : {Y : Type 0} → ReadError → Result Y Fault → Type 0
Fails errors.NoMemory read = Unit {0}
Fails (errors.Fault f) read = read ≡ Err f

-- what was returned, seen by view, is what reading gives
abbrev pub Gives : {X Y : Type 0} → (X → Y) → Result X ReadError → Result Y Fault → Type 0
Gives view (Ok x) read = read ≡ Ok (view x)
Gives view (Err e) read = Fails e read

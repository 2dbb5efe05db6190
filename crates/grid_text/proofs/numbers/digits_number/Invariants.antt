use Rattle.std.proofs.Common.{◌≡◌, ◌<◌, ◌^◌, take}
use Rattle.grid_text.specs.Numbers.{digits_number}
use Rattle.grid_text.proofs.numbers.digits_number.Given as goal

abbrev pub invariant-loop-byte : goal.invariant-loop-byte
invariant-loop-byte l = record { value : l.number ≡ digits_number (take l.byte-index l.text); bound : l.number < 10 ^ l.byte-index }

use Rattle.std.proofs.Common.{◌≡◌, ◌<◌, ◌^◌, true, take}
use Rattle.std.specs.Char.{is_ascii_digit}
use Rattle.std.specs.List.{list_all}
use Rattle.grid_text.specs.Numbers.{digits_number}
use Rattle.grid_text.proofs.numbers.few_digits.Given as goal

abbrev pub invariant-loop-byte : goal.invariant-loop-byte
invariant-loop-byte l = record {
  digits : list_all is_ascii_digit (take l.byte-index l.text) ≡ true;
  value : l.number ≡ digits_number (take l.byte-index l.text);
  bound : l.number < 10 ^ l.byte-index;
}

-- What reading a line of bytes answers.
use Rattle.std.specs.Prelude.{List, Option, Some, None, IfSome, Result, Ok, Err}
use Rattle.map_words.specs.Bytes.{Text}
use Rattle.grammar_core.specs.Refusals.{IsRefusedAt}
use Rattle.statement_parser.specs.declared.fault.ReadError.{ReadError}
use Rattle.statement_parser.specs.declared.fault.ReadError.TheVariants as errors
use Rattle.statement_parser.specs.declared.refusal.LineRefusal.{LineRefusal}
use Rattle.statement_parser.specs.declared.refusal.LineRefusal.TheVariants as refusals
use Rattle.statement_parser.specs.Lines.{Manner, Line}
use Rattle.statement_parser.specs.Places.{tests}
use Rattle.statement_parser.specs.Grammar.{line_rule, IsLine}
use Rattle.statement_parser.specs.Texts.{LineText, RefusedText, Refusal, long, syntax, operation, number}

-- the line that the words are, or their refusal; want of memory is free
abbrev pub IsWordsRead : {V : Type 0} → Manner → (V → Line) → List Text → Result V ReadError → Type 0
IsWordsRead m view ws (Ok x) = IsLine m ws (view x)
IsWordsRead m view ws (Err errors.NoMemory) = Unit {0}
IsWordsRead m view ws (Err (errors.Fault f)) = IsRefusedAt (tests m) (line_rule m) ws f.kind f.left

-- what a refusal says; want of memory says nothing
abbrev pub refusal_view : LineRefusal → Option Refusal
refusal_view (refusals.Long n) = Some (long n)
refusal_view (refusals.Syntax at) = Some (syntax at)
refusal_view (refusals.Operation at) = Some (operation at)
refusal_view (refusals.Number at) = Some (number at)
refusal_view refusals.NoMemory = None

-- the line that the bytes are, or their refusal; want of memory is free
abbrev pub IsParsed : {V : Type 0} → Manner → (V → Line) → Text → Result V LineRefusal → Type 0
IsParsed m view bytes (Ok x) = LineText m bytes (view x)
IsParsed m view bytes (Err e) = IfSome (refusal_view e) (RefusedText m bytes)

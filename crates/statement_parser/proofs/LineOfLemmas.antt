-- The program of lines gives the line that bytes are, or how they are refused: so they are one line, or refused in one way.
use Rattle.std.proofs.Common.{◌≡◌, ◌⊎◌, inl, inr, ℕ, Bool, true, false, cond, length, Option, Some, None, Result, Ok, Err, refl, ap, subst}
use Rattle.std.specs.Prelude.{IfSome}
use Rattle.map_words.specs.Bytes.{Text, first_bad, is_silent}
use Rattle.grammar_core.specs.declared.Fault.{Fault}
use Rattle.grammar_core.specs.Run.{run}
use Rattle.grammar_core.proofs.FirstFault.{found_so, refused_so, only_so}
use Rattle.grammar_core.proofs.Once.{refused_only}
use Rattle.statement_parser.specs.declared.refusal.LineRefusal.{LineRefusal}
use Rattle.statement_parser.specs.Lines.{Manner, Line, blank}
use Rattle.statement_parser.specs.Places.{tests}
use Rattle.statement_parser.specs.Grammar.{line_rule}
use Rattle.statement_parser.specs.Texts.{seen, is_short, LineText, silent, worded, Refusal, long, RefusedText, too_long, bad_byte, bad_word, IsSettledText}
use Rattle.statement_parser.specs.Parsed.{refusal_view, IsParsed}
use Rattle.statement_parser.specs.LineOf.{of_words, of_bytes, line_of, IsLineOf, IsLineRead}
use Rattle.statement_parser.proofs.LineParts.{healthy_line}

-- the bytes are this line, or are refused so
abbrev Told : Manner → Text → Result Line Refusal → Type 0
Told m bytes (Ok x) = LineText m bytes x
Told m bytes (Err r) = RefusedText m bytes r

words_told : (m : Manner) (bytes : Text) → is_short bytes ≡ true → is_silent bytes ≡ false → first_bad bytes ≡ None → (o : Result Line Fault) → run (tests m) (line_rule m) (seen bytes) ≡ o → Told m bytes (of_words bytes o)
words_told m bytes short spoken good (Ok x) e = worded short spoken good (found_so (tests m) (line_rule m) (seen bytes) x e)
words_told m bytes short spoken good (Err f) e = bad_word f.kind f.left short spoken good (refused_so (tests m) (line_rule m) (seen bytes) f (healthy_line m).sound refl e)

bytes_told : (m : Manner) (bytes : Text) (short quiet : Bool) (bad : Option ℕ) → is_short bytes ≡ short → is_silent bytes ≡ quiet → first_bad bytes ≡ bad
    → Told m bytes (cond short (cond quiet (Ok blank) (of_bytes m bytes bad)) (Err (long (length bytes))))
bytes_told m bytes false quiet bad e f g = too_long e
bytes_told m bytes true true bad e f g = silent e f
bytes_told m bytes true false (Some at) e f g = bad_byte e f g
bytes_told m bytes true false None e f g = words_told m bytes e f g (run (tests m) (line_rule m) (seen bytes)) refl

told : (m : Manner) (bytes : Text) → Told m bytes (line_of m bytes)
unfolding line_of
told m bytes = bytes_told m bytes (is_short bytes) (is_silent bytes) (first_bad bytes) refl refl refl

-- what bytes are is all that they are
line_given : (m : Manner) (bytes : Text) (x : Line) → LineText m bytes x → line_of m bytes ≡ Ok x
unfolding line_of
line_given m bytes blank (silent s e) = rw (s, e) refl
line_given m bytes x (worded s e f d) = rw (s, e, f) (ap (of_words bytes) (only_so (tests m) (line_rule m) (seen bytes) x (healthy_line m).sound d))

refusal_given : (m : Manner) (bytes : Text) (r : Refusal) → RefusedText m bytes r → line_of m bytes ≡ Err r
unfolding line_of
refusal_given m bytes r (too_long s) = rw s refl
refusal_given m bytes r (bad_byte s e f) = rw (s, e, f) refl
refusal_given m bytes r (bad_word k left s e f d) = rw (s, e, f) (ap (of_words bytes) (refused_only (tests m) refl (line_rule m) (seen bytes) k left (healthy_line m).sound d))

pub line_of_is : (m : Manner) (bytes : Text) → IsLineOf m bytes
line_of_is m bytes = record {
  line = line_given m bytes;
  refusal = refusal_given m bytes;
  is_line = λ x e. subst (Told m bytes) e (told m bytes);
  is_refused = λ r e. subst (Told m bytes) e (told m bytes);
}

pub settled_text : (m : Manner) (bytes : Text) → IsSettledText m bytes
settled_text m bytes = record {
  one_line = λ x y d e. (let h = line_given m bytes x d in let k = line_given m bytes y e in cc);
  one_refusal = λ r s d e. (let h = refusal_given m bytes r d in let k = refusal_given m bytes s e in cc);
  never_both = λ x r d e. (let h = line_given m bytes x d in let k = refusal_given m bytes r e in cc);
  either = go (line_of m bytes) (told m bytes);
}
  where
    go : (o : Result Line Refusal) → Told m bytes o → ((x : Line) × LineText m bytes x) ⊎ ((r : Refusal) × RefusedText m bytes r)
    go (Ok x) t = inl (x, t)
    go (Err r) t = inr (r, t)

-- what was parsed is what the program gives
pub parsed_read : {V : Type 0} (m : Manner) (view : V → Line) (bytes : Text) (r : Result V LineRefusal) → IsParsed m view bytes r → IsLineRead (line_of m bytes) view r
parsed_read m view bytes (Ok x) h = (line_of_is m bytes).line (view x) h
parsed_read m view bytes (Err e) h = go (refusal_view e) h
  where
    go : (o : Option Refusal) → IfSome o (RefusedText m bytes) → IfSome o (λ r. line_of m bytes ≡ Err r)
    go (Some r) h = (line_of_is m bytes).refusal r h
    go None h = tt

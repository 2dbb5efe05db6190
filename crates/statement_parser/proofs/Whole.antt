-- What reading words and bytes answers, by the grammar.
use Rattle.std.proofs.Common.{◌≡◌, ℕ, ◌-◌, ◌<◌, ◌≤◌, take, drop, arith, length-drop, true, false, List, [], ◌∷◌, map, length, Some, None, Result, Ok, Err, refl, sym, ap, subst, ◌∙◌}
use Rattle.std.specs.Prelude.{nat_le, IfSome}
use Rattle.std.proofs.lemmas.Bool.Decides.{nat_tests}
use Rattle.map_words.specs.Bytes.{Text, first_bad, is_silent}
use Rattle.map_words.specs.Words.{Placed, text_of}
use Rattle.statement_parser.specs.Tails.{line_words}
use Rattle.std.proofs.Math.Seq.{take-length}
use Rattle.std.proofs.lemmas.List.{drop-map, length-map}
use Rattle.map_words.specs.Cut.{placed, placed_all}
use Rattle.map_words.specs.declared.cutting.Word.{Word}
use Rattle.grammar_core.specs.declared.Kind.{Kind}
use Rattle.grammar_core.specs.Refusals.{IsRefusedAt}
use Rattle.grammar_core.proofs.FirstFault.{found_so, refused_so}
use Rattle.statement_parser.specs.declared.fault.ReadError.{ReadError}
use Rattle.statement_parser.specs.declared.fault.ReadError.TheVariants as errors
use Rattle.statement_parser.specs.declared.refusal.LineRefusal.{LineRefusal}
use Rattle.statement_parser.specs.Lines.{Manner, Line}
use Rattle.statement_parser.specs.Places.{tests}
use Rattle.statement_parser.specs.Grammar.{line_rule, IsLine}
use Rattle.statement_parser.specs.Gives.{Gives}
use Rattle.statement_parser.specs.ReadLine.{line_at}
use Rattle.statement_parser.specs.Views.{texts_of}
use Rattle.statement_parser.specs.Texts.{seen, is_short, LineText, worded, refusal_of, RefusedText, bad_word}
use Rattle.statement_parser.specs.Columns.{first_column, column_among}
use Rattle.statement_parser.specs.Parsed.{IsWordsRead, refusal_view, IsParsed}
use Rattle.statement_parser.proofs.LineParts.{healthy_line, line_reads}

pub words_read : {V : Type 0} (m : Manner) (view : V → Line) (ws : List Text) (r : Result V ReadError) → Gives view r (line_at m ws) → IsWordsRead m view ws r
words_read m view ws (Ok x) g = found_so (tests m) (line_rule m) ws (view x) (sym (line_reads m ws) ∙ g)
words_read m view ws (Err errors.NoMemory) g = tt
words_read m view ws (Err (errors.Fault f)) g = refused_so (tests m) (line_rule m) ws f (healthy_line m).sound refl (sym (line_reads m ws) ∙ g)

-- the column among words as the code holds them
pub column_is : (len : ℕ) (ws : List Word) (n : ℕ) → first_column len (placed_all (take (length ws - (length ws - n)) (drop (length ws - n) ws))) ≡ column_among len (placed_all ws) n
column_is len ws n =
    let k = length ws - n in
    let rest : take (length ws - k) (drop k ws) ≡ drop k ws = ap (λ j. take j (drop k ws)) (sym (length-drop k ws)) ∙ take-length (drop k ws) in
    ap (λ us. first_column len (placed_all us)) rest
    ∙ ap (first_column len) (sym (drop-map placed k ws) ∙ ap (λ j. drop (j - n) (placed_all ws)) (sym (length-map ws placed)))

-- whether a line is short
pub not_short : (n : ℕ) → 4096 < n → nat_le n 4096 ≡ false
not_short n h = grind (arith, nat_tests)

pub not_long : (n : ℕ) → n ≤ 4096 → nat_le n 4096 ≡ true
not_long n h = grind (arith, nat_tests)

-- the texts of words that are a line's
texts_placed : (ws : List Word) → texts_of ws ≡ map text_of (placed_all ws)
texts_placed [] = refl
texts_placed (w ∷ ws) = ap (λ ts. w.text.now ∷ ts) (texts_placed ws)

module _ (m : Manner) (bytes : Text) (ws : List Word) (short : is_short bytes ≡ true) (spoken : is_silent bytes ≡ false) (good : first_bad bytes ≡ None) (cut : placed_all ws ≡ line_words bytes) where
  same : texts_of ws ≡ seen bytes
  same = texts_placed ws ∙ ap (map text_of) cut

  pub line_is : (x : Line) → IsLine m (texts_of ws) x → LineText m bytes x
  line_is x d = worded short spoken good (subst (λ ts. IsLine m ts x) same d)

  refused_is : (k : Kind) (left : ℕ) → IsRefusedAt (tests m) (line_rule m) (texts_of ws) k left → RefusedText m bytes (refusal_of k (column_among (length bytes) (placed_all ws) left))
  refused_is k left d = subst (λ (ps : List Placed). RefusedText m bytes (refusal_of k (column_among (length bytes) ps left))) (sym cut) (bad_word k left short spoken good (subst (λ ts. IsRefusedAt (tests m) (line_rule m) ts k left) same d))

  pub refusal_is : {V : Type 0} (view : V → Line) (k : Kind) (left : ℕ) (r : LineRefusal) → IsRefusedAt (tests m) (line_rule m) (texts_of ws) k left
      → refusal_view r ≡ Some (refusal_of k (column_among (length bytes) (placed_all ws) left)) → IsParsed m view bytes (Err r)
  refusal_is view k left r d e = subst (λ o. IfSome o (RefusedText m bytes)) (sym e) (refused_is k left d)

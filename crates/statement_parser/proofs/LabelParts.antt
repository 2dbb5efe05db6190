-- Labels and symbols, to the end of their lines.
use Rattle.std.proofs.Common.{◌≡◌, ◌+◌, ℕ, zero, suc, true, false, List, [], ◌∷◌, ◌++◌, Ok, refl, ◌∙◌, arith}
use Rattle.std.specs.Prelude.{codes, IsTrue}
use Rattle.std.proofs.lemmas.Bool.Decides.{nat_tests}
use Rattle.map_words.specs.Bytes.{Text, is_good}
use Rattle.grammar_core.specs.Rules.{ends}
use Rattle.grammar_core.specs.Readers.{◌>>=◌, one_at, end_at, starts}
use Rattle.grammar_core.proofs.Ends.{ends_also}
use Rattle.grammar_core.proofs.Parts.{tail_ends, tail_also}
use Rattle.grammar_core.proofs.Reading.{cond_k, ends_tail, also_reads, end_reads}
use Rattle.statement_parser.specs.Lines.{Manner, Line, put_label, put_symbol, edit}
use Rattle.statement_parser.specs.Places.{name_of, value_of, tests, reading}
use Rattle.statement_parser.specs.Signs.{is_sign, byte_of, sign_of}
use Rattle.statement_parser.specs.Labels.{further_bytes, label_rule, symbol_rule}
use Rattle.statement_parser.specs.ReadLabels.{bytes_at, label_at, symbol_at}
use Rattle.statement_parser.specs.Formed.{IsText}
use Rattle.statement_parser.specs.There.{HasCommand}
use Rattle.statement_parser.specs.declared.command.Command.TheVariants.{Label, Symbol}
use Rattle.statement_parser.proofs.PlaceFacts.{name_open, value_open, sign_open, byte_open}
use Rattle.statement_parser.proofs.Placing.{placed_k}
use Rattle.statement_parser.proofs.Parts.{IsGood, Goes, one_part, IsRest, end_rest, weaker_rest, then_rest}
use Rattle.statement_parser.proofs.BodyParts.{IsRun, run-push}

abbrev IsGoodByte : ℕ → Type 0
IsGoodByte b = IsTrue (is_good b)

sign_good : (b : ℕ) → is_sign b ≡ true → is_good b ≡ true
sign_good b e = grind (arith, nat_tests)

module _ (m : Manner) where
  -- a text that begins with these bytes, of at most n more
  bytes_rest : (make : Text → Line) (n : ℕ) (t : Text)
      → IsRest m (IsRun IsGoodByte 1 64 n t × ((u : Text) → IsText u → IsGood m (make u))) (λ ws. bytes_at n t ws >>= λ p. end_at p.1 >>= λ e. Ok (make p.0)) (further_bytes make n t)
  unfolding bytes_at
  bytes_rest make zero t = end_rest m (make t) (λ c. c.1 t (c.0.0, omega arith, c.0.2))
  bytes_rest make (suc n) t =
      let k : Goes m Text = λ u ws. end_at ws >>= λ e. Ok (make u) in
      let behind = λ (b : ℕ) (ws : List Text). bytes_at n (t ++ b ∷ []) ws in
      let part = λ (ws : List Text). one_at reading byte_of false ws >>= λ b. behind b.0 b.1 in
      let rule = λ (b : ℕ). further_bytes make n (t ++ b ∷ []) in
      let more = λ (b : ℕ). bytes_rest make n (t ++ b ∷ []) in
      record {
        reads = λ ws.
            cond_k (starts byte_of ws) (part ws) (Ok (t, ws)) (λ p. k p.0 p.1)
            ∙ also_reads (tests m) byte_of rule (ends (make t)) (λ ws. part ws >>= λ p. k p.0 p.1) (k t) (byte_open m).place (λ b. (more b).tail.node) (ends_tail (tests m) (make t))
            (placed_k m byte_of false behind k rule (byte_open m).place (λ b. (more b).tail.node) (λ b. (more b).reads)) (end_reads (tests m) (make t)) ws;
        tail = tail_also (tests m) byte_of rule (ends (make t)) (codes "x") 120 refl refl (λ b. (more b).tail) (tail_ends (tests m) (make t));
        formed = λ c.
            ends_also (IsGood m) byte_of rule (ends (make t)) (λ w b e. (more b).formed (run-push IsGoodByte 1 64 n t b c.0 ((byte_open m).gives w b e), c.1)) (c.1 t (c.0.0, omega arith, c.0.2), λ w. tt);
      }

  pub label_rest : IsRest m (HasCommand m Label) label_at label_rule
  unfolding label_at
  label_rest =
      then_rest m (one_part m name_of false (name_open m)) (λ n. then_rest m (one_part m value_of true (value_open m)) (λ z. then_rest m (one_part m sign_of false (sign_open m)) (λ b.
      weaker_rest m (bytes_rest (λ t. edit (put_label n z t)) 63 (b ∷ [])) (λ c. ((omega arith, omega arith, (sign_good b c.0, tt)), λ t r. ((c.1.1.0, c.1.0, r), c.1.1.1))))))

  pub symbol_rest : IsRest m (HasCommand m Symbol) symbol_at symbol_rule
  unfolding symbol_at
  symbol_rest =
      then_rest m (one_part m name_of false (name_open m)) (λ n. then_rest m (one_part m value_of true (value_open m)) (λ z. then_rest m (one_part m sign_of false (sign_open m)) (λ b.
      end_rest m (edit (put_symbol n z b)) (λ c. ((c.1.1.0, c.1.0, c.0), c.1.1.1)))))

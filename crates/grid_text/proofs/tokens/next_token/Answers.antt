use Rattle.std.proofs.Common.{◌+◌, ◌-◌, List, ℕ, take, drop, length, sym, ap, ◌∙◌, refl}
use Rattle.std.proofs.lemmas.List.{take_rest, nil_from_length}
use Rattle.std.proofs.lemmas.Bool.{eqb-true, eqb-false}
use Rattle.grid_text.specs.Tokens.{tokens_from}
use Rattle.grid_text.proofs.Splits.{no_token, token_from}
use Rattle.grid_text.proofs.tokens.next_token.Goals as goal

pub returns-then-is_empty-clause-tokens : goal.returns-then-is_empty-clause-tokens
returns-then-is_empty-clause-tokens c =
    let at : ℕ = c.args.from in
    let k : ℕ = c.white_len-skipped.result in
    let rest : List ℕ = take (length c.args.bytes.now - at) (drop at c.args.bytes.now) in
    let word : List ℕ = take (length rest - k) (drop k rest) in
    ap (tokens_from (at + 1)) (sym (take_rest c.args.bytes.now at))
    ∙ no_token (at + 1) rest word (take_rest rest k ∙ ap (λ j. drop j rest) c.white_len-skipped.ensures.count)
    (nil_from_length word (eqb-true (length word) 0 (sym c.is_empty.ensures ∙ c.if-is_empty.true)))

pub returns-clause-tokens : goal.returns-clause-tokens
returns-clause-tokens c =
    let at : ℕ = c.args.from in
    let k : ℕ = c.white_len-skipped.result in
    let m : ℕ = c.word_len-len.result in
    let rest : List ℕ = take (length c.args.bytes.now - at) (drop at c.args.bytes.now) in
    let word : List ℕ = take (length rest - k) (drop k rest) in
    token_from c.args.bytes.now rest word (take m word) at k m (take_rest c.args.bytes.now at) (take_rest rest k) c.white_len-skipped.ensures.count
    (λ z. eqb-false (length word) 0 (sym c.is_empty.ensures ∙ c.if-is_empty.false) (ap length z)) refl c.word_len-len.ensures.count

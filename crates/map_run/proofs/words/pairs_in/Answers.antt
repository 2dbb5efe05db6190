use Rattle.std.proofs.Common.{◌+◌, ◌++◌, ◌∷◌, [], length, take, drop, sym, ap, ◌∙◌, subst, arith}
use Rattle.std.proofs.lemmas.Bool.{eqb-true, eqb-false}
use Rattle.map_machine.specs.Pairs.{pair_of, all_pairs, pairs_of}
use Rattle.map_machine.proofs.PairsLemmas.{pairs_wrong_word}
use Rattle.map_run.proofs.WordLemmas.{ReadSoFar, is_read, words_at, words_to, read_more, read_full, read_twice}
use Rattle.map_run.proofs.words.pairs_in.Goals as goal

pub returns-in-None : goal.returns-in-None
returns-in-None c =
    let ws = c.args.words.now in
    let i = c.loop-word.word-index in
    let w = c.word-item.result in
    let whole = words_at ws i w c.loop-word-test.true c.word-item.is in
    ap (λ l. pairs_of (all_pairs l)) (sym whole) ∙ pairs_wrong_word (take i ws) (drop (i + 1) ws) w (ap pair_of (sym c.as_str.ensures.value) ∙ c.in-None.ensures)

pub returns-then-is_full : goal.returns-then-is_full
returns-then-is_full c =
    let ws = c.args.words.now in
    let i = c.loop-word.word-index in
    let w = c.word-item.result in
    let whole = words_at ws i w c.loop-word-test.true c.word-item.is in
    let ps = c.loop-word.pairs.items in
    ap (λ l. pairs_of (all_pairs l)) (sym whole) ∙ read_full (take i ws) (drop (i + 1) ws) w ps c.in-Some.pair c.loop-word.invariant
    (ap pair_of (sym c.as_str.ensures.value) ∙ c.in-Some.ensures.0) (omega (arith, eqb-true (length ps) 32 (sym c.is_full.ensures.value ∙ c.if-is_full.true)))

pub returns-then-has_name : goal.returns-then-has_name
returns-then-has_name c =
    let ws = c.args.words.now in
    let i = c.loop-word.word-index in
    let w = c.word-item.result in
    let whole = words_at ws i w c.loop-word-test.true c.word-item.is in
    let ps = c.loop-word.pairs.items in
    let p = c.in-Some.pair in
    ap (λ l. pairs_of (all_pairs l)) (sym whole) ∙ read_twice (take i ws) (drop (i + 1) ws) w ps p c.loop-word.invariant
    (ap pair_of (sym c.as_str.ensures.value) ∙ c.in-Some.ensures.0)
    (ap (λ l. is_read l p.name.now) (sym c.deref.ensures.0) ∙ sym c.has_name.ensures ∙ c.if-has_name.true)

pub loop-word-preserved : goal.loop-word-preserved
loop-word-preserved c =
    let ws = c.args.words.now in
    let i = c.loop-word.word-index in
    let w = c.word-item.result in
    let ps = c.loop-word.pairs.items in
    let p = c.in-Some.pair in
    let more = read_more (take i ws) w ps p c.loop-word.invariant (ap pair_of (sym c.as_str.ensures.value) ∙ c.in-Some.ensures.0) c.in-Some.ensures.1
    (omega (arith, c.is_full.ensures.fits, eqb-false (length ps) 32 (sym c.is_full.ensures.value ∙ c.if-is_full.false)))
    (ap (λ l. is_read l p.name.now) (sym c.deref.ensures.0) ∙ sym c.has_name.ensures ∙ c.if-has_name.false) in
    subst (λ l. ReadSoFar (take (i + 1) ws) l) (sym c.push.ensures.items)
    (subst (λ l. ReadSoFar l (ps ++ p ∷ [])) (words_to ws i w c.loop-word-test.true c.word-item.is) more)

use Rattle.std.proofs.Common.{◌+◌, length}
use Rattle.std.proofs.lemmas.Result.{err_from_is_err_and}
use Rattle.grid_text.specs.Heads.{pairs_in}
use Rattle.grid_text.specs.Keys.{nothing}
use Rattle.grid_text.specs.Places.{tokens_left, token_of}
use Rattle.grid_text.specs.Tokens.{tokens_of}
use Rattle.grid_text.proofs.PairLists.{next_pair, bad_pair}
use Rattle.grid_text.proofs.headers.read_pairs.Goals as goal

pub returns-in_err-pair-clause-pairs : goal.returns-in_err-pair-clause-pairs
returns-in_err-pair-clause-pairs c =
    let p = err_from_is_err_and c.from_residual.result c.from_residual.ensures.1 in
    let bytes = c.args.bytes.now in
    let name = c.in-Some.name in
    rw (p.1, p.2)
    (bad_pair (length bytes + 1) c.loop-name.found c.in_err-pair.field-0.0 (token_of name) (tokens_left bytes c.loop-name.next) (tokens_left bytes name.next) (pairs_in (length bytes + 1) nothing (tokens_of bytes))
    c.in-Some.ensures.pair.0 c.in-Some.ensures.pair.1 c.in_err-pair.ensures.pair c.loop-name.invariant.read)

pub loop-name-preserved : goal.loop-name-preserved
loop-name-preserved c =
    let bytes = c.args.bytes.now in
    let name = c.in-Some.name in
    let pair = c.in_ok-pair.pair in
    record {
      read =
          next_pair (length bytes + 1) c.loop-name.found pair.found (token_of name) (tokens_left bytes c.loop-name.next) (tokens_left bytes name.next) (tokens_left bytes pair.next) (pairs_in (length bytes + 1) nothing (tokens_of bytes))
          c.in-Some.ensures.pair.0 c.in-Some.ensures.pair.1 c.in_ok-pair.ensures.pair c.loop-name.invariant.read;
      within = c.in_ok-pair.ensures.within;
    }

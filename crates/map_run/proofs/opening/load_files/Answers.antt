use Rattle.std.proofs.Common.{None, Err}
use Rattle.std.specs.Prelude.{IsTrue}
use Rattle.std.proofs.lemmas.Result.{err_from_is_err_and}
use Rattle.map_words.specs.Names.{is_plain}
use Rattle.map_run.specs.Forms.{pair_read, pairs_read}
use Rattle.map_run.specs.Loads.{file_stage, further_stage}
use Rattle.map_run.specs.Stops.{status_of}
use Rattle.map_run.specs.declared.forms.Pair.{Pair as Read}
use Rattle.map_run.proofs.CountLemmas.{counts_then}
use Rattle.map_run.proofs.LoadLemmas.{first_then, serves_rest, first_of_all, rest_of_all, pairs_cut, pairs_at}
use Rattle.map_run.proofs.StageLemmas.{loads_stop}
use Rattle.map_run.proofs.opening.load_files.Goals as goal

pub load_further-requires-clause-serves : goal.load_further-requires-clause-serves
load_further-requires-clause-serves g c κs within =
    let F = g.F.Shelf in
    serves_rest (F.serves c.args.shelf.now) (F.serves c.load_file.new.shelf) c.args.pairs.now c.in-Some.rest.now c.in-Some.pair.now c.in_ok-session-in-Some.ensures.names c.in-Some.ensures.cases.0 c.requires.serves

pub load_further-requires-clause-plain : goal.load_further-requires-clause-plain
load_further-requires-clause-plain g c κs within = rest_of_all (λ (q : Read). IsTrue (is_plain q.name.now)) c.args.pairs.now c.in-Some.rest.now c.in-Some.pair.now c.in-Some.ensures.cases.0 c.requires.plain

pub load_file-requires-clause-plain : goal.load_file-requires-clause-plain
load_file-requires-clause-plain g c κs within = first_of_all (λ (q : Read). IsTrue (is_plain q.name.now)) c.args.pairs.now c.in-Some.rest.now c.in-Some.pair.now c.in-Some.ensures.cases.0 c.requires.plain

pub load_file-requires-clause-serves : goal.load_file-requires-clause-serves
load_file-requires-clause-serves g c κs within =
    first_of_all (λ (q : Read). IsTrue (g.F.Shelf.serves c.args.shelf.now q.file.now)) c.args.pairs.now c.in-Some.rest.now c.in-Some.pair.now c.in-Some.ensures.cases.0 c.requires.serves

pub returns-in_err-session-in-Some-clause-counts : goal.returns-in_err-session-in-Some-clause-counts
returns-in_err-session-in-Some-clause-counts g c source =
    let p = err_from_is_err_and c.from_residual.result c.from_residual.ensures.1 in
    rw (p.1, p.2) (c.in_err-session-in-Some.ensures.counts source)

pub returns-clause-counts : goal.returns-clause-counts
returns-clause-counts g c source = counts_then _ _ _ _ _ _ _ _ _ (status_of c.load_further.result) (c.in_ok-session-in-Some.ensures.counts source) (c.load_further.ensures.counts source)

pub returns-clause-loads : goal.returns-clause-loads
returns-clause-loads g c =
    let F = g.F.Shelf in
    let most = c.args.setup.now.limits.file in
    pairs_at (F.files c.args.shelf.now) most (pairs_read c.args.pairs.now) (pair_read c.in-Some.pair.now) (pairs_read c.in-Some.rest.now) _ _ c.load_further.result (pairs_cut c.args.pairs.now c.in-Some.rest.now c.in-Some.pair.now c.in-Some.ensures.cases.0)
    (first_then (F.files c.args.shelf.now) (F.files c.load_file.new.shelf) most None (pair_read c.in-Some.pair.now) (pairs_read c.in-Some.rest.now) _ _ _ c.in_ok-session-in-Some.session c.load_further.result
    c.in_ok-session-in-Some.ensures.same c.in_ok-session-in-Some.ensures.loads c.load_further.ensures.loads)

pub returns-in_err-session-in-Some-clause-loads : goal.returns-in_err-session-in-Some-clause-loads
returns-in_err-session-in-Some-clause-loads g c =
    let F = g.F.Shelf in
    let p = err_from_is_err_and c.from_residual.result c.from_residual.ensures.1 in
    let most = c.args.setup.now.limits.file in
    let pair = pair_read c.in-Some.pair.now in
    let rest = pairs_read c.in-Some.rest.now in
    let stop = c.in_err-session-in-Some.field-0.0 in
    rw (p.1, p.2) (pairs_at (F.files c.args.shelf.now) most (pairs_read c.args.pairs.now) pair rest _ _ (Err stop) (pairs_cut c.args.pairs.now c.in-Some.rest.now c.in-Some.pair.now c.in-Some.ensures.cases.0)
    (loads_stop (F.files c.args.shelf.now) (λ f. file_stage most None pair.name (f pair.file)) (λ f. further_stage most f rest) _ _ stop c.in_err-session-in-Some.ensures.loads))

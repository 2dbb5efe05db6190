use Rattle.std.proofs.Common.{◌≡◌, ◌≤◌, ◌<◌, ◌++◌, List, ℕ, length, take, drop, refl, sym, ap, ◌∙◌, subst, arith, Ok, Err}
use Rattle.std.proofs.KnownBytes.{Consumes-trans}
use Rattle.std.proofs.lemmas.List.{length-take-le, take-append-le}
use Rattle.std.proofs.lemmas.Result.{err_from_is_err_and}
use Rattle.map_machine.specs.Lines.{open_piece, ended_lines, last_line}
use Rattle.map_run.specs.Kept.{IsKept}
use Rattle.map_run.specs.declared.lines.Fed.TheVariants.{More, Quit}
use Rattle.map_run.proofs.AnsweredLemmas.{answered_then}
use Rattle.map_run.proofs.Playing.{plays_stopped, plays_finished, moved_nothing, goes_on, chunk_then, fed_front, room_some, room_within, short_still, still_within}
use Rattle.map_run.proofs.Rising.{keeps_then}
use Rattle.map_run.proofs.session.play_chunks.Goals as goal

pub returns-in-Ok-eq0-clause-plays : goal.returns-in-Ok-eq0-clause-plays
returns-in-Ok-eq0-clause-plays g c =
    let p = c.loop-taken.invariant.playing in
    let limit = c.args.setup.now.limits.session in
    let left = g.S.Source.left c.args.source.now in
    let left' = g.S.Source.left c.take.new.self in
    let none = ap (λ n. take n c.take.new.into) c.in-Ok-eq0.field-0-test in
    let room = room_some c.min-room.result limit c.loop-taken.taken c.take.new.into c.loop-taken.chunk c.take.auto.into c.min-room.ensures c.loop-taken-test.true (omega (arith, c.loop-taken.auto.chunk, c.requires.some)) in
    plays_finished limit c.args.session.now c.finish.new.session left left' _ _ p.bytes (Ok c.in_ok-finish-in-Ok-eq0.field-0) (subst (λ m. m < limit) p.size c.loop-taken-test.true)
    (moved_nothing left (g.S.Source.left c.loop-taken.source) left' p.bytes (take c.in-Ok-eq0.field-0 c.take.new.into) none p.moved c.in-Ok-eq0.ensures.bytes.0)
    (c.in-Ok-eq0.ensures.bytes.1 c.in-Ok-eq0.field-0-test room)
    (answered_then c.args.session.now c.loop-taken.session c.finish.new.session (ended_lines p.bytes) (last_line (open_piece p.bytes)) _ _ _ (Ok c.in_ok-finish-in-Ok-eq0.field-0) p.answered (c.in_ok-finish-in-Ok-eq0.ensures.answered (open_piece p.bytes) p.kept_so))

pub returns-in_err-finish-in-Ok-eq0-clause-plays : goal.returns-in_err-finish-in-Ok-eq0-clause-plays
returns-in_err-finish-in-Ok-eq0-clause-plays g c =
    let p = c.loop-taken.invariant.playing in
    let why = err_from_is_err_and c.from_residual.result c.from_residual.ensures.1 in
    let limit = c.args.setup.now.limits.session in
    let left = g.S.Source.left c.args.source.now in
    let left' = g.S.Source.left c.take.new.self in
    let none = ap (λ n. take n c.take.new.into) c.in-Ok-eq0.field-0-test in
    let room = room_some c.min-room.result limit c.loop-taken.taken c.take.new.into c.loop-taken.chunk c.take.auto.into c.min-room.ensures c.loop-taken-test.true (omega (arith, c.loop-taken.auto.chunk, c.requires.some)) in
    let stop = c.in_err-finish-in-Ok-eq0.field-0.0 in
    rw (why.1, why.2) (plays_finished limit c.args.session.now c.finish.new.session left left' _ _ p.bytes (Err stop) (subst (λ m. m < limit) p.size c.loop-taken-test.true)
    (moved_nothing left (g.S.Source.left c.loop-taken.source) left' p.bytes (take c.in-Ok-eq0.field-0 c.take.new.into) none p.moved c.in-Ok-eq0.ensures.bytes.0)
    (c.in-Ok-eq0.ensures.bytes.1 c.in-Ok-eq0.field-0-test room)
    (answered_then c.args.session.now c.loop-taken.session c.finish.new.session (ended_lines p.bytes) (last_line (open_piece p.bytes)) _ _ _ (Err stop) p.answered (c.in_err-finish-in-Ok-eq0.ensures.answered (open_piece p.bytes) p.kept_so)))

pub loop-taken-preserved : goal.loop-taken-preserved
loop-taken-preserved g c =
    let M = g.M.Tally in
    let p = c.loop-taken.invariant.playing in
    let S = g.S.Source in
    let limit = c.args.setup.now.limits.session in
    let n = c.in-Ok.count in
    let into : List ℕ = c.take.new.into in
    let rest = drop c.min-room.result c.loop-taken.chunk in
    let fed = c.in_ok-feed-in-Ok.ensures in
    let fits : n ≤ length into = c.in-Ok.ensures.bound.0 in
    let front : take n (into ++ rest) ≡ take n into = take-append-le n into rest fits in
    let answered = fed_front c.loop-taken.session c.feed.new.session p.bytes (take n (into ++ rest)) (take n into) _ _ (Ok c.in_ok-feed-in-Ok.field-0) (Ok More) front (ap Ok c.in-More.is) (fed.answered p.bytes p.kept_so) in
    let grown : IsKept (open_piece (p.bytes ++ take n (into ++ rest))) c.feed.new.piece.kept.items c.feed.new.piece.count c.feed.new.piece.returns =
    c.feed.ensures.kept (c.in_ok-feed-in-Ok.was ∙ ap Ok c.in-More.is) p.bytes p.kept_so in
    let kept = rw front at grown in
    record {
      within = room_within n c.min-room.result limit c.loop-taken.taken into c.loop-taken.chunk fits c.take.auto.into c.min-room.ensures c.loop-taken.invariant.within;
      short = short_still c.feed.new.piece.count c.loop-taken.piece.count c.loop-taken.taken n into rest fits fed.count c.loop-taken.invariant.short;
      parts = keeps_then (M.counts c.args.tally.now) (M.counts c.loop-taken.tally) (M.counts c.feed.new.tally) c.loop-taken.invariant.parts fed.parts;
      source = c.in-Ok.ensures.cause ∙ c.loop-taken.invariant.source;
      playing = goes_on c.args.session.now c.loop-taken.session c.feed.new.session (S.left c.args.source.now) (S.left c.loop-taken.source) (S.left c.take.new.self)
          _ _ _
          c.loop-taken.piece.kept.items c.feed.new.piece.kept.items c.loop-taken.piece.count c.feed.new.piece.count c.loop-taken.piece.returns c.feed.new.piece.returns
          c.loop-taken.taken n (take n into) p (sym (length-take-le n into fits)) c.in-Ok.ensures.bytes.0 answered kept;
    }

pub returns-in-Quit-clause-plays : goal.returns-in-Quit-clause-plays
returns-in-Quit-clause-plays g c =
    let p = c.loop-taken.invariant.playing in
    let S = g.S.Source in
    let limit = c.args.setup.now.limits.session in
    let n = c.in-Ok.count in
    let into : List ℕ = c.take.new.into in
    let rest = drop c.min-room.result c.loop-taken.chunk in
    let fits : n ≤ length into = c.in-Ok.ensures.bound.0 in
    let front : take n (into ++ rest) ≡ take n into = take-append-le n into rest fits in
    let answered = fed_front c.loop-taken.session c.feed.new.session p.bytes (take n (into ++ rest)) (take n into) _ _ (Ok c.in_ok-feed-in-Ok.field-0) (Ok Quit) front (ap Ok c.in-Quit.is) (c.in_ok-feed-in-Ok.ensures.answered p.bytes p.kept_so) in
    plays_stopped limit c.args.session.now c.feed.new.session (S.left c.args.source.now) (S.left c.take.new.self) _ _ (p.bytes ++ take n into) (Ok Quit) (λ e. cc)
    (still_within c.loop-taken.taken n limit p.bytes into p.size fits (room_within n c.min-room.result limit c.loop-taken.taken into c.loop-taken.chunk fits c.take.auto.into c.min-room.ensures c.loop-taken.invariant.within))
    (Consumes-trans (S.left c.args.source.now) (S.left c.loop-taken.source) (S.left c.take.new.self) p.bytes (take n into) p.moved c.in-Ok.ensures.bytes.0)
    (chunk_then c.args.session.now c.loop-taken.session c.feed.new.session _ _ _ p.bytes (take n into) (Ok Quit) p.answered answered)

pub returns-in_err-feed-in-Ok-clause-plays : goal.returns-in_err-feed-in-Ok-clause-plays
returns-in_err-feed-in-Ok-clause-plays g c =
    let p = c.loop-taken.invariant.playing in
    let why = err_from_is_err_and c.from_residual-in_err-feed-in-Ok.result c.from_residual-in_err-feed-in-Ok.ensures.1 in
    let S = g.S.Source in
    let limit = c.args.setup.now.limits.session in
    let n = c.in-Ok.count in
    let into : List ℕ = c.take.new.into in
    let rest = drop c.min-room.result c.loop-taken.chunk in
    let stop = c.in_err-feed-in-Ok.field-0.0 in
    let fits : n ≤ length into = c.in-Ok.ensures.bound.0 in
    let front : take n (into ++ rest) ≡ take n into = take-append-le n into rest fits in
    let answered = fed_front c.loop-taken.session c.feed.new.session p.bytes (take n (into ++ rest)) (take n into) _ _ (Err stop) (Err stop) front refl (c.in_err-feed-in-Ok.ensures.answered p.bytes p.kept_so) in
    rw (why.1, why.2) (plays_stopped limit c.args.session.now c.feed.new.session (S.left c.args.source.now) (S.left c.take.new.self) _ _ (p.bytes ++ take n into) (Err stop) (λ e. cc)
    (still_within c.loop-taken.taken n limit p.bytes into p.size fits (room_within n c.min-room.result limit c.loop-taken.taken into c.loop-taken.chunk fits c.take.auto.into c.min-room.ensures c.loop-taken.invariant.within))
    (Consumes-trans (S.left c.args.source.now) (S.left c.loop-taken.source) (S.left c.take.new.self) p.bytes (take n into) p.moved c.in-Ok.ensures.bytes.0)
    (chunk_then c.args.session.now c.loop-taken.session c.feed.new.session _ _ _ p.bytes (take n into) (Err stop) p.answered answered))

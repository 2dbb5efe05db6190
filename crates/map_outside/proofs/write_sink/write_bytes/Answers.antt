use Rattle.std.proofs.Common.{◌≡◌, ◌-◌, List, ℕ, length, drop, take, arith}
use Rattle.std.proofs.KnownBytes.{Appends-trans}
use Rattle.std.proofs.Math.Seq.{take-add}
use Rattle.std.proofs.lemmas.List.{take_rest, length-drop}
use Rattle.map_outside.proofs.write_sink.write_bytes.Goals as goal

pub loop-at-preserved : goal.loop-at-preserved
loop-at-preserved g c =
    let all : List ℕ = c.args.bytes.now in
    let at = c.loop-at.at in
    let count = c.in-Ok.count in
    let whole : take (length all - at) (drop at all) ≡ drop at all = take_rest all at in
    let wrote = rw whole at c.in-Ok.ensures.bytes in
    let bound = rw whole at c.in-Ok.ensures.bound in
    record {
      within = omega (arith, bound, length-drop at all);
      written = rw (take-add at count all) (Appends-trans (g.W.Outlet.contents c.args.inner.now) _ (g.W.Outlet.contents c.write_some.new.self) (take at all) (take count (drop at all)) c.loop-at.invariant.written wrote);
    }

use Rattle.std.proofs.Common.{◌≡◌, ◌+◌, refl, subst, arith}
use Rattle.std.specs.Prelude.{slice_index_or}
use Rattle.std.specs.Fork.{ChangesAt}
use Rattle.tile_workers.proofs.forks.fork_each.Goals as goal

pub returns : goal.returns
returns g c i d l =
    let e : 0 + i ≡ i = omega arith in
    (refl, subst (λ j. ChangesAt g.F.Fn c.args.f.now j (slice_index_or c.args.s.now i d) (slice_index_or c.fork_from.new.s i d)) e (c.fork_from.ensures.each i d l))

use Rattle.std.proofs.Common.{ℕ}
use Rattle.std.specs.Fork.{AcceptsAt, ChangesAt}
use Rattle.tile_workers.proofs.Forking.{accepted_rest, changed_both}
use Rattle.tile_workers.proofs.forks.+forks.Goals as goal

pub fork_from-fork_first-requires-clause-back : goal.fork_from-fork_first-requires-clause-back
fork_from-fork_first-requires-clause-back g t c κs within =
    let P : ℕ → g.row.T.Denot → Type 0 = AcceptsAt g.F.Fn c.args.f.now in
    let cut = c.split_at_mut-a in
    accepted_rest c.args.s.now cut.result.0.now cut.result.1.now c.args.base cut.ensures.value cut.ensures.front_len P c.requires

pub fork_from-returns : goal.fork_from-returns
fork_from-returns g t c =
    let R : ℕ → g.row.T.Denot → g.row.T.Denot → Type 0 = ChangesAt g.F.Fn c.args.f.now in
    let cut = c.split_at_mut-a in
    changed_both R c.args.s.now cut.result.0.now cut.result.1.now c.fork_first.new.a c.fork_first.new.b c.args.base cut.ensures.value cut.ensures.front_len c.fork_first.ensures.front c.fork_first.ensures.back

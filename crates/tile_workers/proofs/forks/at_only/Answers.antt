use Rattle.std.proofs.Common.{ℕ, subst, arith}
use Rattle.std.proofs.lemmas.List.{get_or_default}
use Rattle.std.specs.Fork.{AcceptsAt, ChangesAt}
use Rattle.tile_workers.proofs.Forking.{accepted_only, changed_only}
use Rattle.tile_workers.proofs.forks.at_only.Goals as goal

pub at_one-requires : goal.at_one-requires
at_one-requires g c =
    let P : ℕ → g.row.T.Denot → Type 0 = AcceptsAt g.F.Fn c.args.f.now in
    accepted_only P c.args.i c.args.s.now c.index-s-0.result c.requires.one c.requires.accepts

pub returns : goal.returns
returns g c =
    let R : ℕ → g.row.T.Denot → g.row.T.Denot → Type 0 = ChangesAt g.F.Fn c.args.f.now in
    let xs = c.args.s.now in
    let y = c.at_one.new.it in
    changed_only R c.args.i xs y c.requires.one (λ d. subst (λ (x : g.row.T.Denot). R c.args.i x y) (get_or_default xs 0 c.index-s-0.result d (omega (arith, c.requires.one))) c.at_one.ensures)

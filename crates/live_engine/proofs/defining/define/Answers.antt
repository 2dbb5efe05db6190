use Rattle.std.proofs.Common.{subst}
use Rattle.kept_map.specs.Maps.{seen}
use Rattle.live_engine.specs.Accepts.{ReadsWithin}
use Rattle.live_engine.specs.Defining.{defines}
use Rattle.live_engine.specs.Inverses.{AcceptsBack}
use Rattle.live_engine.proofs.defining.define.Goals as goal

pub returns : goal.returns
returns g c =
    let e = defines c.args.name c.args.written in
    record {
      accepts = subst (λ q. AcceptsBack q (seen c.carry_out.new.map) e c.carry_out.result) c.reserve.ensures.seen (c.carry_out.ensures.accepts e c.drafted-drafted.ensures.drafted);
      kept = c.carry_out.ensures.kept;
      reads = subst (λ q. ReadsWithin q e (g.M.Tally.counts c.args.tally.now) (g.M.Tally.counts c.carry_out.new.tally)) c.reserve.ensures.seen (c.carry_out.ensures.reads e c.drafted-drafted.ensures.drafted);
    }

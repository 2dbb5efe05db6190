use Rattle.std.proofs.Common.{refl, sym, subst, ◌∙◌}
use Rattle.map_edits.specs.EditForms.{new_layer}
use Rattle.map_edits.specs.Refusals.{exists_already}
use Rattle.map_edits.specs.WholeEdits.{of_names}
use Rattle.kept_map.specs.Maps.{seen}
use Rattle.live_engine.specs.Accepts.{ReadsWithin}
use Rattle.live_engine.specs.Inverses.{AcceptsBack}
use Rattle.live_engine.proofs.Drafting.{new_adding}
use Rattle.live_engine.proofs.Accepting.{accept_refused}
use Rattle.live_engine.proofs.adding.new_layer.Goals as goal

pub returns-then-has-clause-accepts : goal.returns-then-has-clause-accepts
returns-then-has-clause-accepts g c =
    (accept_refused (seen c.args.map.now) (of_names (new_layer c.args.name c.args.cell)) (exists_already c.args.name) (rw (sym c.has.ensures ∙ c.if-has.true) refl), refl)

pub returns : goal.returns
returns g c =
    let own = new_layer c.args.name c.args.cell in
    let adding = new_adding c.args.map.now c.reserve.new.self c.args.name c.reserve.ensures.seen c.requires.plain (sym c.has.ensures ∙ c.if-has.false) c.args.cell c.in_ok-layer.layer _ c.in_ok-layer.ensures in
    let drafted = c.drafted-drafted.ensures.drafted own adding in
    record {
      accepts = subst (λ q. AcceptsBack q (seen c.carry_out.new.map) (of_names own) c.carry_out.result) c.reserve.ensures.seen (c.carry_out.ensures.accepts (of_names own) drafted);
      kept = c.carry_out.ensures.kept;
      reads = subst (λ q. ReadsWithin q (of_names own) (g.M.Tally.counts c.args.tally.now) (g.M.Tally.counts c.carry_out.new.tally)) c.reserve.ensures.seen (c.carry_out.ensures.reads (of_names own) drafted);
    }

pub carry_out-requires-clause-drafted : goal.carry_out-requires-clause-drafted
carry_out-requires-clause-drafted g c κs within =
    let adding = new_adding c.args.map.now c.reserve.new.self c.args.name c.reserve.ensures.seen c.requires.plain (sym c.has.ensures ∙ c.if-has.false) c.args.cell c.in_ok-layer.layer _ c.in_ok-layer.ensures in
    (of_names (new_layer c.args.name c.args.cell), c.drafted-drafted.ensures.drafted _ adding)

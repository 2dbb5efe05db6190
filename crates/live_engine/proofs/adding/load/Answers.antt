use Rattle.std.proofs.Common.{true, false, refl, sym, ap, subst, ◌∙◌}
use Rattle.map_edits.specs.EditForms.{load}
use Rattle.map_edits.specs.Refusals.{exists_already, wrong_size}
use Rattle.map_edits.specs.WholeEdits.{of_names}
use Rattle.map_edits.specs.WholeStates.{WholeState}
use Rattle.kept_map.specs.Maps.{grid_of, seen}
use Rattle.live_engine.specs.Accepts.{ReadsWithin}
use Rattle.live_engine.specs.Inverses.{AcceptsBack}
use Rattle.live_engine.proofs.Drafting.{load_adding, size_is, same_sized, size_refused}
use Rattle.live_engine.proofs.Accepting.{accept_refused}
use Rattle.live_engine.proofs.adding.load.Goals as goal

pub returns-then-has-clause-accepts : goal.returns-then-has-clause-accepts
returns-then-has-clause-accepts g c =
    (accept_refused (seen c.args.map.now) (of_names (load c.args.name (grid_of c.args.layer))) (exists_already c.args.name) (rw (sym c.has.ensures ∙ c.if-has.true) refl), refl)

pub returns-then-not-same_size-clause-accepts : goal.returns-then-not-same_size-clause-accepts
returns-then-not-same_size-clause-accepts g c =
    let s = seen c.args.map.now in
    let other = size_is c.args.map.now c.args.layer c.extent.result c.same_size.result false c.extent.ensures.extent c.same_size.ensures c.if-not-same_size.true in
    let own = of_names (load c.args.name (grid_of c.args.layer)) in
    size_refused s own c.rows.result c.columns.result (accept_refused s own (wrong_size s.names.size) (rw (sym c.has.ensures ∙ c.if-has.false, other) refl)) c.rows.ensures.rows c.columns.ensures.columns

pub returns : goal.returns
returns g c =
    let adding = load_adding c.args.map.now c.reserve.new.self c.args.name c.reserve.ensures.seen c.requires.plain (sym c.has.ensures ∙ c.if-has.false)
    c.args.layer _ _ c.extent.ensures.extent c.same_size.ensures c.if-not-same_size.false in
    let own = load c.args.name (grid_of c.args.layer) in
    let drafted = c.drafted-drafted.ensures.drafted own adding in
    record {
      accepts = subst (λ q. AcceptsBack q (seen c.carry_out.new.map) (of_names own) c.carry_out.result) c.reserve.ensures.seen (c.carry_out.ensures.accepts (of_names own) drafted);
      kept = c.carry_out.ensures.kept;
      reads = subst (λ q. ReadsWithin q (of_names own) (g.M.Tally.counts c.args.tally.now) (g.M.Tally.counts c.carry_out.new.tally)) c.reserve.ensures.seen (c.carry_out.ensures.reads (of_names own) drafted);
    }

pub carry_out-requires-clause-drafted : goal.carry_out-requires-clause-drafted
carry_out-requires-clause-drafted g c κs within =
    let adding = load_adding c.args.map.now c.reserve.new.self c.args.name c.reserve.ensures.seen c.requires.plain (sym c.has.ensures ∙ c.if-has.false)
    c.args.layer _ _ c.extent.ensures.extent c.same_size.ensures c.if-not-same_size.false in
    (of_names (load c.args.name (grid_of c.args.layer)), c.drafted-drafted.ensures.drafted _ adding)

pub drafted-drafted-requires-clause-size : goal.drafted-drafted-requires-clause-size
drafted-drafted-requires-clause-size g c =
    same_sized c.args.layer.size c.args.map.now.extent (size_is c.args.map.now c.args.layer c.extent.result c.same_size.result true c.extent.ensures.extent c.same_size.ensures c.if-not-same_size.false)
    ∙ ap (λ (q : WholeState). q.names.size) (sym c.reserve.ensures.seen)

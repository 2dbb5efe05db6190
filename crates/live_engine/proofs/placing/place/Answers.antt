use Rattle.live_engine.specs.Drafts.{draft_state}
use Rattle.kept_map.specs.Maps.{seen}
use Rattle.std.proofs.Common.{refl}
use Rattle.live_engine.proofs.DraftMaps.{can_enter, draft_accepts, draft_kept, draft_takes_back}
use Rattle.live_engine.proofs.Accepting.{few_changed, few_evaluated}
use Rattle.live_engine.proofs.placing.place.Goals as goal

pub counts_with-counts-requires : goal.counts_with-counts-requires
counts_with-counts-requires c =
    let r = c.requires.ready in
    let t = draft_state (seen c.args.map.now) c.args.draft in
    let p = c.args.replanned in
    record {
      changed = few_changed c.args.map.now c.requires.kept r.0 t r.2.shift _ p.planned.names.keys p.planned.steps.items p.prepared r.2.ready r.1.sources_few r.1.flats_few;
      evaluated = few_evaluated c.args.map.now c.requires.kept r.0 t r.2.shift _ p.planned.names.keys p.planned.steps.items p.prepared r.2.ready r.1.sources_few r.1.flats_few;
    }

pub enter-change-requires-clause-can : goal.enter-change-requires-clause-can
enter-change-requires-clause-can c =
    let r = c.requires.ready in
    let p = c.args.replanned in
    can_enter c.args.map.now c.requires.kept r.0 c.args.draft p.planned p.prepared c.commit-graph.new.map c.commit-graph.new.map c.commit-graph.ensures.put c.args.draft.change r.1 c.requires.room

pub returns : goal.returns
returns c =
    let m = c.args.map.now in
    let kept = c.requires.kept in
    let d = c.args.draft in
    let p = c.args.replanned in
    let r = c.requires.ready in
    let old = c.commit-graph.new.map in
    let put = c.commit-graph.ensures.put in
    let x = c.enter-change.new.map in
    let entered = c.enter-change.ensures.entered in
    let labels = c.exchange-labels.ensures.new in
    let symbols = c.exchange-symbols.ensures.new in
    record {
      accepts = λ e draft repaired. draft_accepts m kept e d p.planned p.prepared old x put _ _ labels symbols d.change draft repaired entered (record { number = x.number; counts = c.counts_with-counts.result }) refl c.counts_with-counts.ensures;
      before = λ e draft.
          draft_takes_back m kept r.0 d p.planned p.prepared old x put _ _ labels symbols d.change r.1 r.2 entered
          e draft c.enter-change.result c.enter-change.ensures.before _ _ _ c.commit-graph.ensures.before c.exchange-labels.ensures.before c.exchange-symbols.ensures.before;
      kept = draft_kept m kept r.0 d p.planned p.prepared old x put _ _ labels symbols d.change r.1 r.2 entered;
    }

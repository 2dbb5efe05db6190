use Rattle.std.proofs.Common.{◌≡◌, min, max, ◌∙◌, ap}
use Rattle.std.specs.Prelude.{slice_set}
use Rattle.region_labels.specs.Roots.{root_in}
use Rattle.region_labels.proofs.Tying.{join_step, join_tied}
use Rattle.region_labels.proofs.joins.join.Goals as goal
use Rattle.region_labels.proofs.joins.join.Goals.{After-max}

low_is : (c : After-max) → c.min.result ≡ min (root_in c.args.labels.now c.args.one) (root_in c.args.labels.now c.args.other)
low_is c = c.min.ensures ∙ ap (λ k. min k c.root_of-b.result) c.root_of-a.ensures.root ∙ ap (min (root_in c.args.labels.now c.args.one)) c.root_of-b.ensures.root

high_is : (c : After-max) → c.max.result ≡ max (root_in c.args.labels.now c.args.one) (root_in c.args.labels.now c.args.other)
high_is c = c.max.ensures ∙ ap (λ k. max k c.root_of-b.result) c.root_of-a.ensures.root ∙ ap (max (root_in c.args.labels.now c.args.one)) c.root_of-b.ensures.root

pub returns-clause-step : goal.returns-clause-step
returns-clause-step c =
    let r = c.requires.region in
    join_step c.args.extent c.args.cells.now c.args.labels.now c.requires.provisional r.0 c.args.one c.args.other c.min.result c.max.result c.requires.one c.requires.other r.1 r.2 r.3 (low_is c) (high_is c) _ (ap (slice_set c.args.labels.now c.max.result) c.of.ensures)

pub returns-clause-tied : goal.returns-clause-tied
returns-clause-tied c =
    let r = c.requires.region in
    join_tied c.args.extent c.args.cells.now c.args.labels.now c.requires.provisional r.0 c.args.one c.args.other c.min.result c.max.result c.requires.one c.requires.other r.1 r.2 r.3 (low_is c) (high_is c) _ (ap (slice_set c.args.labels.now c.max.result) c.of.ensures)

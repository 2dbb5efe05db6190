use Rattle.std.proofs.Common.{◌∙◌, ap, subst, sym, length, IfOk}
use Rattle.map_nums.specs.Grids.{Cells}
use Rattle.statement_parser.specs.Views.{op_view}
use Rattle.op_jobs.specs.Grounds.{IsGround, IsGroundOf, IsLabels, IsPart}
use Rattle.op_jobs.specs.declared.ground.Ground.{Ground}
use Rattle.op_jobs.specs.declared.ground.Part.TheVariants.{Costs, Nearest, Flows, Labels}
use Rattle.op_jobs.proofs.Once.{grounded_of}
use Rattle.op_jobs.proofs.ZonalParts.{part_rises_by}
use Rattle.op_jobs.proofs.statements.StatementsMaker.find_part.Goals as goal

pub find_costs-requires : goal.find_costs-requires
find_costs-requires g c = let q = grounded_of _ _ _ _ _ c.requires.ground in record { cells = (subst (IsGround c.args.extent c.args.operands.now) c.in-Costs.is q.is).fill; few = q.few; below = c.requires.below }

pub find_nearest-requires : goal.find_nearest-requires
find_nearest-requires g c = let q = grounded_of _ _ _ _ _ c.requires.ground in record { cells = (subst (IsGround c.args.extent c.args.operands.now) c.in-Nearest.is q.is).fill; few = q.few; below = c.requires.below }

pub find_flows-requires : goal.find_flows-requires
find_flows-requires g c = let q = grounded_of _ _ _ _ _ c.requires.ground in record { cells = (subst (IsGround c.args.extent c.args.operands.now) c.in-Flow.is q.is).fill; few = q.few; below = c.requires.below }

pub find_labels-requires : goal.find_labels-requires
find_labels-requires g c = let q = grounded_of _ _ _ _ _ c.requires.ground in record { cells = ap length c.deref.ensures.value ∙ (subst (IsGround c.args.extent c.args.operands.now) c.in-Regions.is q.is).count; few = q.few; below = c.requires.below }

pub count_part-requires : goal.count_part-requires
count_part-requires g c = let q = grounded_of _ _ _ _ _ c.requires.ground in record { both = subst (IsGround c.args.extent c.args.operands.now) c.in-Zones.is q.is; few = q.few; below = c.requires.below }

pub returns-in_ok-find_costs-in-Costs-clause-part : goal.returns-in_ok-find_costs-in-Costs-clause-part
returns-in_ok-find_costs-in-Costs-clause-part g c =
    subst (λ (x : Ground). IsPart c.args.extent (op_view c.args.op.now) c.args.operands.now x c.args.count c.args.k (Costs c.in_ok-find_costs-in-Costs.field-0)) (sym c.in-Costs.is) c.in_ok-find_costs-in-Costs.ensures

pub returns-in_ok-find_nearest-in-Nearest-clause-part : goal.returns-in_ok-find_nearest-in-Nearest-clause-part
returns-in_ok-find_nearest-in-Nearest-clause-part g c =
    subst (λ (x : Ground). IsPart c.args.extent (op_view c.args.op.now) c.args.operands.now x c.args.count c.args.k (Nearest c.in_ok-find_nearest-in-Nearest.field-0)) (sym c.in-Nearest.is) c.in_ok-find_nearest-in-Nearest.ensures

pub returns-in_ok-find_flows-in-Flow-clause-part : goal.returns-in_ok-find_flows-in-Flow-clause-part
returns-in_ok-find_flows-in-Flow-clause-part g c =
    subst (λ (x : Ground). IsPart c.args.extent (op_view c.args.op.now) c.args.operands.now x c.args.count c.args.k (Flows c.in_ok-find_flows-in-Flow.field-0)) (sym c.in-Flow.is) c.in_ok-find_flows-in-Flow.ensures

pub returns-in_ok-find_labels-in-Regions-clause-part : goal.returns-in_ok-find_labels-in-Regions-clause-part
returns-in_ok-find_labels-in-Regions-clause-part g c =
    let labels = Labels c.in_ok-find_labels-in-Regions.field-0 in
    let here = subst (λ (cells : Cells). IsLabels c.args.extent cells c.args.count c.args.k labels) c.deref.ensures.value c.in_ok-find_labels-in-Regions.ensures in
    subst (λ (x : Ground). IsPart c.args.extent (op_view c.args.op.now) c.args.operands.now x c.args.count c.args.k labels) (sym c.in-Regions.is) here

pub returns-in-Zones-clause-part : goal.returns-in-Zones-clause-part
returns-in-Zones-clause-part g c =
    subst (λ (x : Ground). IfOk c.count_part.result (IsPart c.args.extent (op_view c.args.op.now) c.args.operands.now x c.args.count c.args.k)) (sym c.in-Zones.is) c.count_part.ensures.counts

pub returns-in-Zones-clause-looks : goal.returns-in-Zones-clause-looks
returns-in-Zones-clause-looks g c =
    let op = op_view c.args.op.now in
    let of = subst (IsGroundOf op) c.in-Zones.is (grounded_of _ _ _ _ _ c.requires.ground).of in
    part_rises_by c.args.extent op c.args.operands.now c.args.count c.args.k _ _ of c.count_part.ensures.looks

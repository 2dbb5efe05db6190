use Rattle.std.proofs.Common.{List, Result, Err, sym, subst}
use Rattle.map_defs.specs.Statements.{Flat}
use Rattle.map_defs.specs.Expansion.{WrongCall, expansion_of}
use Rattle.procedure_expand.specs.Answers.{IsExpanded}
use Rattle.procedure_expand.specs.declared.refusal.ExpandRefusal.{ExpandRefusal}
use Rattle.procedure_expand.specs.declared.refusal.ExpandRefusal.TheVariants.{Unknown, Count, Limit, NoMemory}
use Rattle.statement_parser.specs.Views.{written_view}
use Rattle.live_engine.specs.Expanding.{StandsFor, not_expanded}
use Rattle.live_engine.specs.declared.edits.Refusal.{Refusal}
use Rattle.live_engine.proofs.Bodies.{written_undotted}
use Rattle.live_engine.proofs.RangedFlats.{ranged_flats}
use Rattle.live_engine.proofs.expanding.expanded.Goals as goal

pub expand-requires-clause-undotted : goal.expand-requires-clause-undotted
expand-requires-clause-undotted c = written_undotted (written_view c.args.written.now) c.requires.formed

pub returns-in-Ok-clause-ranges : goal.returns-in-Ok-clause-ranges
returns-in-Ok-clause-ranges c =
    ranged_flats c.args.procedures.now c.args.name.now (written_view c.args.written.now) c.in-Ok.flats.items c.requires.procedures c.requires.formed c.in-Ok.ensures.expanded.0

refused : (all : Result (List Flat) WrongCall) (e : ExpandRefusal) → IsExpanded {A = Unit {0}} all (Err e) → StandsFor {A = Unit {0}} all (Err (not_expanded e))
refused all (Unknown n) is = is
refused all (Count given wanted) is = is
refused all Limit is = is
refused all NoMemory is = tt

pub returns-in-Err-clause-flats : goal.returns-in-Err-clause-flats
returns-in-Err-clause-flats c =
    let all = expansion_of c.args.procedures.now c.args.name.now (written_view c.args.written.now) in
    subst (λ (r : Refusal). StandsFor {A = Unit {0}} all (Err r)) (sym c.not_expanded.ensures) (refused all c.in-Err.refusal c.in-Err.ensures.expanded)

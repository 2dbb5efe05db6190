use Rattle.map_edits.specs.EditForms.{paint}
use Rattle.map_edits.specs.WholeEdits.{of_names}
use Rattle.live_engine.specs.Painting.{rectangle_of}
use Rattle.live_engine.proofs.Unpainted.{paint_reads_all}
use Rattle.live_engine.proofs.repainting.paint.Goals as goal

pub carry-requires-clause-draft : goal.carry-requires-clause-draft
carry-requires-clause-draft g c κs within = (of_names (paint c.args.name (rectangle_of c.args.rectangle) c.args.cell), c.in-Ok.ensures.drafted.0, c.in-Ok.ensures.drafted.1)

pub returns-in-Ok-carry-clause-accepts : goal.returns-in-Ok-carry-clause-accepts
returns-in-Ok-carry-clause-accepts g c = let d = c.in-Ok.ensures.drafted in (c.in-Ok-carry.ensures.carried _ d.0 d.1, c.in-Ok-carry.ensures.before _ d.0 d.1)

pub returns-in-Ok-carry-clause-reads : goal.returns-in-Ok-carry-clause-reads
returns-in-Ok-carry-clause-reads g c =
    let d = c.in-Ok.ensures.drafted in
    paint_reads_all c.args.map.now c.requires.kept c.args.name (rectangle_of c.args.rectangle) c.args.cell d.0 c.in-Ok.repaint d.1 _ _ _ c.in-Ok.ensures.looks (c.carry.ensures.reads _ d.0 d.1)

pub returns-in-Err-carry-clause-accepts : goal.returns-in-Err-carry-clause-accepts
returns-in-Err-carry-clause-accepts g c = let d = c.in-Ok.ensures.drafted in (c.in-Err-carry.ensures.carried _ d.0 d.1).1

pub returns-in-Err-carry-clause-reads : goal.returns-in-Err-carry-clause-reads
returns-in-Err-carry-clause-reads g c =
    let d = c.in-Ok.ensures.drafted in
    paint_reads_all c.args.map.now c.requires.kept c.args.name (rectangle_of c.args.rectangle) c.args.cell d.0 c.in-Ok.repaint d.1 _ _ _ c.in-Ok.ensures.looks (c.carry.ensures.reads _ d.0 d.1)

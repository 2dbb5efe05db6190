use Rattle.std.proofs.Common.{subst}
use Rattle.kept_map.specs.Maps.{seen}
use Rattle.live_engine.specs.Notes.{MayNote}
use Rattle.live_engine.proofs.Bodies.{body_made, body_short}
use Rattle.live_engine.proofs.noting.put.Goals as goal

pub add-requires-clause-body : goal.add-requires-clause-body
add-requires-clause-body c = let may = subst (MayNote (seen c.args.map.now)) c.in-Procedure.is c.requires in body_made _ may.formed

pub add-requires-clause-short : goal.add-requires-clause-short
add-requires-clause-short c = let may = subst (MayNote (seen c.args.map.now)) c.in-Procedure.is c.requires in body_short _ may.formed

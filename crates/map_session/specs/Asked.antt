-- Of what requests ask, and how much their answers may read.
use Rattle.std.specs.Prelude.{[]}
use Rattle.layer_tiles.specs.Tallies.{TallyState, RisesBy}
use Rattle.statement_parser.specs.Lines.{Request}
use Rattle.map_edits.specs.Allowances.{Reads}
use Rattle.map_machine.specs.States.{MapState}
use Rattle.map_machine.specs.RequestReads.{request_reads}
use Rattle.map_session.specs.declared.answers.Asked.{Asked}

-- no answer goes by earlier states
abbrev pub state_asked : Asked → MapState
state_asked a = record { header = a.header.now; place = a.place; whole = a.engine.now; pasts = [] }

-- no more is read than this
abbrev pub IsRead : Reads → TallyState → TallyState → Type 0
IsRead reads before after = RisesBy reads.looks reads.picks before after

-- no more is read than the answer may read
abbrev pub ReadsFor : MapState → Request → TallyState → TallyState → Type 0
ReadsFor s r before after = IsRead (request_reads s.whole r) before after

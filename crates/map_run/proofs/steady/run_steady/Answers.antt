use Rattle.std.proofs.Common.{◌≡◌, ℕ, List}
use Rattle.map_machine.specs.Limits.{longest_file, too_many_bytes}
use Rattle.map_machine.specs.Play.{run_text, run_opening}
use Rattle.map_machine.specs.Openings.{goes_on}
use Rattle.map_machine.specs.RunReads.{run_reads}
use Rattle.map_machine.specs.Words.{form_of}
use Rattle.map_outside.specs.Contents.{Files, Grows}
use Rattle.map_outside.specs.Steady.{steady_files, held_in_room}
use Rattle.map_run.specs.Completeness.{ComesToEnd, ComesToLimit, IsComplete, IsTooLong}
use Rattle.map_run.specs.Front.{WritesFront, ReadsAsWritten}
use Rattle.map_run.specs.Openings.{OpensSo}
use Rattle.map_run.proofs.SteadyLemmas.{none_rises, ends_steady, told_here, held_here}
use Rattle.map_run.proofs.WordLemmas.{all_served}
use Rattle.map_run.proofs.steady.run_steady.Goals as goal

pub run-requires-clause-serves : goal.run-requires-clause-serves
run-requires-clause-serves g c κs within = all_served (form_of c.args.words.now)

pub returns-clause-steady : goal.returns-clause-steady
returns-clause-steady g c = ends_steady c.run.result c.run.ensures.counts

pub returns-clause-front : goal.returns-clause-front
returns-clause-front g c = told_here (form_of c.args.words.now) (steady_files c.args.shelf.now) c.args.source.now.left
    (λ files session. WritesFront (held_in_room c.args.sink.now) (held_in_room c.run.new.sink) (run_text longest_file too_many_bytes c.args.words.now files session)) c.run.ensures.front

pub returns-clause-whole : goal.returns-clause-whole
returns-clause-whole g c whole = told_here (form_of c.args.words.now) (steady_files c.args.shelf.now) c.args.source.now.left
    (λ files session. Grows (held_in_room c.args.sink.now) (held_in_room c.run.new.sink) (run_text longest_file too_many_bytes c.args.words.now files session)) (c.run.ensures.whole whole)

pub returns-clause-opens : goal.returns-clause-opens
returns-clause-opens g c = held_here (form_of c.args.words.now) (steady_files c.args.shelf.now)
    (λ files. OpensSo c.run.result (run_opening longest_file c.args.words.now files)) c.run.ensures.opens

pub returns-clause-complete : goal.returns-clause-complete
returns-clause-complete g c some = told_here (form_of c.args.words.now) (steady_files c.args.shelf.now) c.args.source.now.left
    (λ files session. run_opening longest_file c.args.words.now files ≡ goes_on → ComesToEnd too_many_bytes session → IsComplete c.run.result) (c.run.ensures.complete none_rises some)

pub returns-clause-too_long : goal.returns-clause-too_long
returns-clause-too_long g c some = told_here (form_of c.args.words.now) (steady_files c.args.shelf.now) c.args.source.now.left
    (λ files session. run_opening longest_file c.args.words.now files ≡ goes_on → ComesToLimit too_many_bytes session → IsTooLong c.run.result) (c.run.ensures.too_long none_rises some)

pub returns-clause-reads : goal.returns-clause-reads
returns-clause-reads g c = told_here (form_of c.args.words.now) (steady_files c.args.shelf.now) c.args.source.now.left
    (λ files session. ReadsAsWritten (record { held = held_in_room c.args.sink.now; faults = 0; tally = g.M.Tally.counts c.args.tally.now })
    (record { held = held_in_room c.run.new.sink; faults = 0; tally = g.M.Tally.counts c.run.new.tally })
    (run_text longest_file too_many_bytes c.args.words.now files session) (run_reads longest_file too_many_bytes c.args.words.now files session)) c.run.ensures.reads

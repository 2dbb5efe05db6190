use Rattle.map_machine.specs.Words.{form_of}
use Rattle.map_run.proofs.WordLemmas.{all_served}
use Rattle.map_checks.proofs.gates.play.Goals as goal

pub run-status-requires-clause-serves : goal.run-status-requires-clause-serves
run-status-requires-clause-serves g c κs within = all_served (form_of c.args.words.now)

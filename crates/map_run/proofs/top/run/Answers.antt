use Rattle.map_machine.specs.Limits.{longest_file, too_many_bytes}
use Rattle.map_machine.specs.Words.{form_of}
use Rattle.map_run.proofs.RunLemmas.{runs_front, runs_complete, runs_too_long}
use Rattle.map_run.proofs.top.run.Goals as goal

pub returns-clause-front : goal.returns-clause-front
returns-clause-front g c = runs_front longest_file too_many_bytes (form_of c.args.words.now) _ _ c.run_within.result c.run_within.ensures.runs

pub returns-clause-complete : goal.returns-clause-complete
returns-clause-complete g c none some = runs_complete longest_file too_many_bytes (form_of c.args.words.now) _ _ c.run_within.result c.run_within.ensures.runs some none

pub returns-clause-too_long : goal.returns-clause-too_long
returns-clause-too_long g c none some = runs_too_long longest_file too_many_bytes (form_of c.args.words.now) _ _ c.run_within.result c.run_within.ensures.runs some none

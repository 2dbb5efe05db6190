use Rattle.std.proofs.Common.{Some, None}
use Rattle.map_run.proofs.WordLemmas.{cut_once}
use Rattle.map_run.proofs.words.cut_word.Goals as goal

pub returns-in-Some : goal.returns-in-Some
returns-in-Some c = cut_once c.args.word.now (Some (c.in-Some.name, c.in-Some.file)) c.in-Some.ensures.cases

pub returns-in-None : goal.returns-in-None
returns-in-None c = cut_once c.args.word.now None c.in-None.ensures.cases

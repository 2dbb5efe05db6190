use Rattle.map_run.proofs.AnsweredLemmas.{one_answered, one_stopped}
use Rattle.map_run.proofs.lines.put_answer.Goals as goal

pub returns-in-Ok : goal.returns-in-Ok
returns-in-Ok g c state line before after goes is rises = one_answered state line c.args.reply.now _ _ goes is c.in-Ok.ensures.bytes c.in-Ok.ensures.cause rises

pub returns-in-Err-Failed : goal.returns-in-Err-Failed
returns-in-Err-Failed g c state line before after goes is rises = record {
  at = one_stopped state line c.args.reply.now _ _ _ goes is c.in-Err-Failed.ensures.bytes.1 rises;
  rose = rw c.in-Err-Failed.field-0-is at c.in-Err-Failed.ensures.cause;
}

pub returns-in-Err-NoMemory : goal.returns-in-Err-NoMemory
returns-in-Err-NoMemory g c state line before after goes is rises = record {
  at = one_stopped state line c.args.reply.now _ _ _ goes is c.in-Err-NoMemory.ensures.bytes.1 rises;
  same = rw c.in-Err-NoMemory.field-0-is at c.in-Err-NoMemory.ensures.cause;
}

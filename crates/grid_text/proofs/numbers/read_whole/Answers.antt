use Rattle.grid_text.proofs.Naturals.{long_whole}
use Rattle.grid_text.proofs.numbers.read_whole.Goals as goal

pub returns-in-Long : goal.returns-in-Long
returns-in-Long c = long_whole c.args.text.now c.unsigned.result.now c.unsigned.ensures c.in-Long.ensures

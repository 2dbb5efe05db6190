use Rattle.grid_text.proofs.ReadingBack.{reads_back}
use Rattle.grid_text.proofs.laws.printed_reads_back.Goals as goal

pub returns : goal.returns
returns c = reads_back

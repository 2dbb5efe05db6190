use Rattle.map_lines.proofs.Presence.{statements_read, procedures_read}
use Rattle.map_lines.proofs.laws.printed_lines_read_again.Goals as goal

pub returns : goal.returns
returns c p = (statements_read p, procedures_read p)

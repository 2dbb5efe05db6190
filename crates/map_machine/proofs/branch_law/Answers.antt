use Rattle.map_machine.proofs.Branching.{reply_as_lines, leave_the_state}
use Rattle.map_machine.proofs.branch_law.Goals as goal

pub returns-clause-replies : goal.returns-clause-replies
returns-clause-replies c = reply_as_lines

pub returns-clause-leaves : goal.returns-clause-leaves
returns-clause-leaves c = leave_the_state

use Rattle.std.proofs.Common.{refl}
use Rattle.map_defs.specs.Expansion.{expansion_of}
use Rattle.map_defs.specs.Calls.{wrong_call}
use Rattle.map_rows.proofs.expansion.expansion_rows.Goals as goal

pub returns : goal.returns
unfolding expansion_of wrong_call
returns c = record { plainly = refl; one_call = refl; nested = refl; few_given = refl; not_there = refl; sixty_four = refl; eighty = refl; good_body = refl; wrong_body = refl }

use Rattle.std.proofs.Common.{refl}
use Rattle.map_words.specs.Names as names
use Rattle.map_sample.proofs.grids.SampleGrid.name.Goals as goal

pub returns-in-Height-clause-plain : goal.returns-in-Height-clause-plain
unfolding names.is_plain names.is_reserved names.is_among
returns-in-Height-clause-plain c = refl

pub returns-in-Friction-clause-plain : goal.returns-in-Friction-clause-plain
unfolding names.is_plain names.is_reserved names.is_among
returns-in-Friction-clause-plain c = refl

pub returns-in-Start-clause-plain : goal.returns-in-Start-clause-plain
unfolding names.is_plain names.is_reserved names.is_among
returns-in-Start-clause-plain c = refl

pub returns-in-Zone-clause-plain : goal.returns-in-Zone-clause-plain
unfolding names.is_plain names.is_reserved names.is_among
returns-in-Zone-clause-plain c = refl

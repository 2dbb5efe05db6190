use Rattle.op_jobs.proofs.Bands.{labels_kind, labels_are}
use Rattle.op_jobs.proofs.label_bands.labels_by.Goals as goal

pub all_of-requires : goal.all_of-requires
all_of-requires c = λ k p e. labels_kind _ k _ _ p (c.requires.each k p e)

pub labels_of_bands-requires-clause-bands : goal.labels_of_bands-requires-clause-bands
labels_of_bands-requires-clause-bands c = labels_are c.args.extent c.args.cells.now c.in_ok-bands.bands.items _ c.args.parts.items c.deref.ensures.value c.requires.some c.in_ok-bands.ensures.count c.in_ok-bands.ensures.each c.requires.each

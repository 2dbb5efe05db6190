use Rattle.map_outside.proofs.file_shelf.fetch_opened.Goals as goal

pub returns-in-Some-clause-exact : goal.returns-in-Some-clause-exact
returns-in-Some-clause-exact g c = rw c.in-Some.is (c.take_all.new.source, c.take_all.ensures.bytes, c.take_all.ensures.cause)

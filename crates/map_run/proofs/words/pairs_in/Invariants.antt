use Rattle.std.proofs.Common.{take}
use Rattle.map_run.proofs.WordLemmas.{ReadSoFar}
use Rattle.map_run.proofs.words.pairs_in.Given as goal

abbrev pub invariant-loop-word : goal.invariant-loop-word
invariant-loop-word l = ReadSoFar (take l.word-index l.words) l.pairs.items

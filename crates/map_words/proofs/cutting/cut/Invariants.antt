use Rattle.std.proofs.Common.{◌≡◌, suc, ◌++◌, drop}
use Rattle.map_words.specs.Words.{words_from, words_of}
use Rattle.map_words.specs.Cut.{placed_all, under_way, IsStarted}
use Rattle.map_words.proofs.cutting.cut.Given as goal

abbrev pub invariant-loop-at : goal.invariant-loop-at
invariant-loop-at l = IsStarted l.start l.at × (placed_all l.found.items ++ words_from (suc l.at) (under_way l.line l.start l.at) (drop l.at l.line) ≡ words_of l.line)

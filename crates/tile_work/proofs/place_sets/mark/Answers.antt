use Rattle.std.proofs.Common.{refl, ◌∙◌, arith}
use Rattle.std.proofs.lemmas.List.{get_or_default}
use Rattle.tile_work.proofs.Marks.{marked_word}
use Rattle.tile_work.proofs.place_sets.mark.Goals as goal

pub returns : goal.returns
returns c =
    let words = c.args.words.now.items in
    marked_word words words c.args.row c.args.column c.index_mut.result.now c.requires.row c.requires.column c.requires.words (λ r. refl)
    (c.index_mut.ensures.value ∙ get_or_default words c.args.row c.index_mut.result.now 0 (omega (arith, c.requires.words, c.requires.row)))

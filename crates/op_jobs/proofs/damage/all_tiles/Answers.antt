use Rattle.std.proofs.Common.{ℕ, List, ◌∙◌, ap, sym, [], ◌∷◌, ◌++◌}
use Rattle.op_jobs.proofs.Listing.{range_more}
use Rattle.op_jobs.proofs.damage.all_tiles.Goals as goal

pub loop-tile-preserved : goal.loop-tile-preserved
loop-tile-preserved c = c.in_ok-push.ensures.items ∙ ap (λ (xs : List ℕ). xs ++ c.loop-tile.tile ∷ []) c.loop-tile.invariant ∙ sym (range_more c.loop-tile.tile)

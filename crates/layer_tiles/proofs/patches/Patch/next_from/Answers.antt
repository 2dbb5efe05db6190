use Rattle.std.proofs.Common.{ℕ, ◌<◌, subst, ◌∙◌, ap, List}
use Rattle.std.specs.Prelude.{IfNone}
use Rattle.std.specs.List.{Contains}
use Rattle.layer_tiles.specs.Tiles.{Block}
use Rattle.layer_tiles.specs.Patches.{PatchState, numbers_of}
use Rattle.layer_tiles.proofs.patches.Patch.next_from.Goals as goal

pub returns-clause-none : goal.returns-clause-none
returns-clause-none c =
    subst (λ (tiles : List (ℕ × Block)). IfNone c.number_from.result ((t : ℕ) → Contains (numbers_of tiles) t → t < c.args.from))
    (c.deref.ensures.value ∙ ap (λ (p : PatchState). p.tiles) c.self.view_is) c.number_from.ensures.none

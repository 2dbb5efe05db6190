use Rattle.std.proofs.Common.{◌≡◌, ℕ, ◌<◌, List, ◌∷◌, [], ◌++◌, append_assoc, length, length-append, get_or, sym, ◌∙◌, ap, subst, arith}
use Rattle.std.proofs.lemmas.List.{length_push}
use Rattle.std.specs.Vec.Iter.{into_iter_items}
use Rattle.map_nums.specs.Grids.{Size}
use Rattle.layer_tiles.specs.Patches.{PatchState, IsAboveLast}
use Rattle.layer_tiles.specs.Tiles.{Block}
use Rattle.op_jobs.specs.Pieces.{FitsTile, tiles_at, tiles_of}
use Rattle.op_jobs.proofs.After.{first_after}
use Rattle.op_jobs.proofs.Gathering.{above, tiles_next}
use Rattle.op_jobs.proofs.tiles.changed_patch.Goals as goal

pub push_piece-requires-clause-ascending : goal.push_piece-requires-clause-ascending
push_piece-requires-clause-ascending c =
    let i = c.loop-piece.invariant in
    let ts = c.args.tiles.now in
    let every : c.loop-piece.yielded ++ c.in-Some.piece ∷ into_iter_items c.next.new.self ≡ c.args.pieces.items = rw (← c.in-Some.ensures.steps.0) i.every in
    let within : length c.loop-piece.yielded < length ts = omega (arith, ap length every, length-append c.loop-piece.yielded (c.in-Some.piece ∷ into_iter_items c.next.new.self), c.requires.count) in
    let P : List (ℕ × Block) → ℕ → Type 0 = λ xs n. IsAboveLast xs (get_or ts n 0) in
    subst (λ xs. P xs c.loop-piece.k) (sym i.tiles) (subst (P (tiles_of ts c.loop-piece.yielded)) (sym i.place) (above ts c.loop-piece.yielded c.requires.ascending within))

pub push_piece-requires-clause-fits : goal.push_piece-requires-clause-fits
push_piece-requires-clause-fits c =
    let i = c.loop-piece.invariant in
    let ts = c.args.tiles.now in
    let every : c.loop-piece.yielded ++ c.in-Some.piece ∷ into_iter_items c.next.new.self ≡ c.args.pieces.items = rw (← c.in-Some.ensures.steps.0) i.every in
    let fit = c.requires.fit (length c.loop-piece.yielded) c.in-Some.piece (first_after c.loop-piece.yielded c.in-Some.piece _ _ every) in
    let P : Size → ℕ → Type 0 = λ s n. FitsTile s (get_or ts n 0) c.in-Some.piece in
    subst (λ s. P s c.loop-piece.k) (sym i.size) (subst (P c.args.extent) (sym i.place) fit)

pub loop-piece-preserved : goal.loop-piece-preserved
loop-piece-preserved c =
    let i = c.loop-piece.invariant in
    let ts = c.args.tiles.now in
    let piece = c.in-Some.piece in
    let yielded = c.loop-piece.yielded in
    let steps : into_iter_items c.loop-piece.piece-iterator ≡ piece ∷ into_iter_items c.next.new.self = c.in-Some.ensures.steps.0 in
    let every : yielded ++ piece ∷ into_iter_items c.next.new.self ≡ c.args.pieces.items = rw (← steps) i.every in
    let within : length yielded < length ts = omega (arith, ap length every, length-append yielded (piece ∷ into_iter_items c.next.new.self), c.requires.count) in
    record {
      every = append_assoc yielded (piece ∷ []) _ ∙ every;
      left = let gone = c.in-Some.ensures.steps.1 in let short = ap length steps in let was = i.left in omega arith;
      place = omega (arith, i.place, length_push yielded piece);
      size = ap (λ (p : PatchState). p.size) c.in_ok-push_piece.ensures ∙ i.size;
      tiles =
          ap (λ (p : PatchState). p.tiles) c.in_ok-push_piece.ensures
          ∙ ap (λ (xs : List (ℕ × Block)). xs ++ tiles_at (get_or ts c.loop-piece.k 0) piece) i.tiles
          ∙ ap (λ n. tiles_of ts yielded ++ tiles_at (get_or ts n 0) piece) i.place
          ∙ sym (tiles_next ts yielded piece within);
    }

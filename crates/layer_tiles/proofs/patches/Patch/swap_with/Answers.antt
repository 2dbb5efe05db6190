use Rattle.std.proofs.Common.{◌≡◌, ◌∙◌, ◌++◌, ℕ, ◌≤◌, List, length, take, drop, subst, sym, ap, [], arith}
use Rattle.std.proofs.lemmas.List.{append-nil, take_all, drop_all}
use Rattle.layer_tiles.specs.Patches.{PatchState, IsPatch, patched}
use Rattle.layer_tiles.specs.Tiles.{Block}
use Rattle.layer_tiles.specs.Wholes.{IsWhole}
use Rattle.layer_tiles.specs.Exchanges.{tiles_at}
use Rattle.layer_tiles.proofs.Swapping.{IsPatch-tiles_at}
use Rattle.layer_tiles.proofs.patches.Patch.swap_with.Goals as goal

pub invariant_of-self : goal.invariant_of-self
invariant_of-self c =
    let i = c.self.inside in
    let new = c.swap_tiles.new.entries in
    let n : length new ≡ length i.tiles.items = c.swap_tiles.auto.entries ∙ ap (λ (xs : List (ℕ × Block)). length xs) c.deref_mut.ensures.value in
    let k : length new ≤ i.tiles.len = omega (arith, c.swap_tiles.auto.entries, c.deref_mut.ensures.len) in
    let same : take i.tiles.len (new ++ drop (length new) i.tiles.items) ≡ new = rw (drop_all (length new) i.tiles.items (omega (arith, n)), append-nil new) (take_all i.tiles.len new k) in
    let w : IsWhole i.extent c.args.tiles.now = subst (λ (p : PatchState). IsWhole p.size c.args.tiles.now) (sym c.self.view_is) c.requires in
    let taken : new ≡ tiles_at i.extent (patched i.extent [] c.args.tiles.now) i.tiles.items = c.swap_tiles.ensures.taken ∙ ap (λ (xs : List (ℕ × Block)). tiles_at i.extent (patched i.extent [] c.args.tiles.now) xs) c.deref_mut.ensures.value in
    rw (same)
    (subst (λ (xs : List (ℕ × Block)). IsPatch (record { size = i.extent; tiles = xs })) (sym taken) (IsPatch-tiles_at i.extent i.tiles.items c.args.tiles.now c.self.invariant.0 w), λ l. c.self.invariant.1 (rw (n) at l))

use Rattle.std.proofs.Common.{◌≡◌, List, [], ◌∷◌, ◌++◌, length, map, sym, ◌∙◌, ap, append_assoc, arith}
use Rattle.std.proofs.lemmas.List.{map_push}
use Rattle.std.specs.Vec.Iter.{into_iter_items}
use Rattle.friction_neighbor.specs.declared.bands.NearestBand.{NearestBand}
use Rattle.friction_neighbor.proofs.joins.split.Goals as goal

mapped : {X Y : Type 0} (f : X → Y) (xs : List X) (x : X) (old new : List Y) → new ≡ old ++ f x ∷ [] → old ≡ map f xs → new ≡ map f (xs ++ x ∷ [])
mapped f xs x old new e h = e ∙ ap (λ ys. ys ++ f x ∷ []) h ∙ sym (map_push f xs x)

pub loop-band-preserved : goal.loop-band-preserved
loop-band-preserved c =
    let now = c.loop-band in
    let band = c.in-Some.band in
    let steps : into_iter_items now.band-iterator ≡ band ∷ into_iter_items c.next.new.self = c.in-Some.ensures.steps.0 in
    record {
      all = append_assoc now.yielded (band ∷ []) _ ∙ rw (← steps) now.invariant.all;
      left = let gone = c.in-Some.ensures.steps.1 in let short = ap length steps in let was = now.invariant.left in omega arith;
      costs = mapped (λ (b : NearestBand). b.costs) now.yielded band now.costs.items c.push.new.self.items c.in_ok-push.ensures.items now.invariant.costs;
      values = mapped (λ (b : NearestBand). b.values) now.yielded band now.values.items c.push-in-loop-band.new.self.items c.in_ok-push-2.ensures.items now.invariant.values;
    }

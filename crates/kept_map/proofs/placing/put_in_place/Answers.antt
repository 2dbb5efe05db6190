use Rattle.std.proofs.Common.{subst, ◌∙◌}
use Rattle.map_waves.specs.Placing.{ArePlaced}
use Rattle.kept_map.proofs.placing.put_in_place.Goals as goal

pub returns-clause-placed : goal.returns-clause-placed
returns-clause-placed c =
    subst (λ slots. ArePlaced c.args.extent c.args.stamp slots c.args.steps.now c.args.made.items c.place_all.new.next.items) (c.as_mut_slice.ensures.value ∙ c.move_out.ensures)
    (subst (λ rs. ArePlaced c.args.extent c.args.stamp c.as_mut_slice.result.now c.args.steps.now rs c.place_all.new.next.items) c.as_mut_slice-2.ensures.value c.place_all.ensures.placed)

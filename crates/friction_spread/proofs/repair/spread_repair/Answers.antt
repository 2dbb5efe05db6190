use Rattle.std.proofs.Common.{◌≡◌, ℕ, ◌*◌, [], ◌∷◌, Option, Some, None, ap, sym, ◌∙◌, subst, arith, length}
use Rattle.std.specs.Prelude.{nat_abs}
use Rattle.std.specs.Option.{option_copied}
use Rattle.std.proofs.lemmas.Int.{to_z-of_z}
use Rattle.map_nums.specs.Widths.{value_width}
use Rattle.map_defs.specs.Damage.{op_damage}
use Rattle.map_defs.specs.Ops.{spread_op}
use Rattle.map_defs.specs.Work.{op_work}
use Rattle.layer_tiles.specs.Changes.{ChangeState, cells_before}
use Rattle.layer_tiles.specs.Layers.{LayerState}
use Rattle.layer_tiles.specs.Tiles.{tiles_in}
use Rattle.layer_tiles.specs.Tallies.{RisesBy, TallyState}
use Rattle.layer_tiles.proofs.Rising.{rises_within}
use Rattle.tile_work.specs.Working.{before_of}
use Rattle.friction_spread.specs.Repairs.{ReadsWithin}
use Rattle.friction_spread.proofs.Damaging.{first_looks}
use Rattle.friction_spread.proofs.Works.{first_case}
use Rattle.friction_spread.proofs.repair.spread_repair.Given.{Over}
use Rattle.friction_spread.proofs.repair.spread_repair.Goals as goal
use Rattle.friction_spread.proofs.repair.spread_repair.Goals.{After-repair_layer, After-first_costs}

-- ---- reads, over a layer that there may be

module _ (so fr : ChangeState) (limit : ℕ) (o : Option LayerState) (x y : TallyState) where
  repair_reads : (n : ℕ) (layer : LayerState) → n ≡ limit → o ≡ Some layer → ReadsWithin 7 628 so fr n (Some layer.cells) x y → ReadsWithin 7 628 so fr limit (before_of o) x y
  repair_reads n layer e is r =
      let P : Option LayerState → Type 0 = λ k. ReadsWithin 7 628 so fr limit (before_of k) x y in
      let R : ℕ → Type 0 = λ k. ReadsWithin 7 628 so fr k (Some layer.cells) x y in
      subst P (sym is) (subst R e r)

  first_reads : o ≡ None → RisesBy (2 * tiles_in so.size) 0 x y → ReadsWithin 7 628 so fr limit (before_of o) x y
  first_reads is r =
      let were = cells_before so ∷ cells_before fr ∷ [] in
      let are = so.cells ∷ fr.cells ∷ [] in
      let P : Option LayerState → Type 0 = λ k. ReadsWithin 7 628 so fr limit (before_of k) x y in
      subst P (sym is) (λ a b t u cells right. rises_within (2 * tiles_in so.size) 0 (7 * length (op_damage (spread_op limit t u) so.size were are None cells)) (628 * op_work (spread_op limit t u) so.size were are None cells) x y (first_looks so.size limit were are cells t u) (omega arith) r)

  whole_reads : ReadsWithin 7 628 so fr limit (before_of o) x y → ReadsWithin 32 1000 so fr limit (before_of o) x y
  whole_reads r = λ a b t u cells right.
      let damage = length (op_damage (spread_op limit t u) so.size (cells_before so ∷ cells_before fr ∷ []) (so.cells ∷ fr.cells ∷ []) (before_of o) cells) in
      let work = op_work (spread_op limit t u) so.size (cells_before so ∷ cells_before fr ∷ []) (so.cells ∷ fr.cells ∷ []) (before_of o) cells in
      rises_within (7 * damage) (628 * work) (32 * damage) (1000 * work) x y (omega arith) (omega arith) (r a b t u cells right)

repaired : (g : Over) (c : After-repair_layer g) → ReadsWithin 7 628 c.args.sources.now c.args.friction.now (nat_abs c.args.limit) (before_of (option_copied c.args.base)) (g.M.Tally.counts c.args.tally.now) (g.M.Tally.counts c.repair_layer.new.tally)
repaired g c = repair_reads c.args.sources.now c.args.friction.now (nat_abs c.args.limit) (option_copied c.args.base) _ _ _ c.in-Some.layer.now (c.limit_of-limit.ensures.value ∙ ap nat_abs (to_z-of_z value_width c.args.limit c.ranges.limit)) (ap option_copied c.in-Some.is) c.repair_layer.ensures.reads

filled : (g : Over) (c : After-first_costs g) → ReadsWithin 7 628 c.args.sources.now c.args.friction.now (nat_abs c.args.limit) (before_of (option_copied c.args.base)) (g.M.Tally.counts c.args.tally.now) (g.M.Tally.counts c.first_costs.new.tally)
filled g c = first_reads c.args.sources.now c.args.friction.now (nat_abs c.args.limit) (option_copied c.args.base) _ _ (ap option_copied c.in-None.is) c.first_costs.ensures.looks

pub returns-in_err-repair-in-Some-clause-inner : goal.returns-in_err-repair-in-Some-clause-inner
returns-in_err-repair-in-Some-clause-inner g c = repaired g (goal.at.returns-in_err-repair-in-Some-clause-inner g c).After-repair_layer

pub returns-in_err-repair-in-Some-clause-reads : goal.returns-in_err-repair-in-Some-clause-reads
returns-in_err-repair-in-Some-clause-reads g c = whole_reads c.args.sources.now c.args.friction.now (nat_abs c.args.limit) (option_copied c.args.base) _ _ (repaired g (goal.at.returns-in_err-repair-in-Some-clause-reads g c).After-repair_layer)

pub returns-in_ok-repair-in-Some-clause-inner : goal.returns-in_ok-repair-in-Some-clause-inner
returns-in_ok-repair-in-Some-clause-inner g c = repaired g (goal.at.returns-in_ok-repair-in-Some-clause-inner g c).After-repair_layer

pub returns-in_ok-repair-in-Some-clause-reads : goal.returns-in_ok-repair-in-Some-clause-reads
returns-in_ok-repair-in-Some-clause-reads g c = whole_reads c.args.sources.now c.args.friction.now (nat_abs c.args.limit) (option_copied c.args.base) _ _ (repaired g (goal.at.returns-in_ok-repair-in-Some-clause-reads g c).After-repair_layer)

pub returns-in_err-repair-in-None-clause-inner : goal.returns-in_err-repair-in-None-clause-inner
returns-in_err-repair-in-None-clause-inner g c = filled g (goal.at.returns-in_err-repair-in-None-clause-inner g c).After-first_costs

pub returns-in_err-repair-in-None-clause-reads : goal.returns-in_err-repair-in-None-clause-reads
returns-in_err-repair-in-None-clause-reads g c = whole_reads c.args.sources.now c.args.friction.now (nat_abs c.args.limit) (option_copied c.args.base) _ _ (filled g (goal.at.returns-in_err-repair-in-None-clause-reads g c).After-first_costs)

pub returns-in_ok-repair-in-None-clause-inner : goal.returns-in_ok-repair-in-None-clause-inner
returns-in_ok-repair-in-None-clause-inner g c = filled g (goal.at.returns-in_ok-repair-in-None-clause-inner g c).After-first_costs

pub returns-in_ok-repair-in-None-clause-reads : goal.returns-in_ok-repair-in-None-clause-reads
returns-in_ok-repair-in-None-clause-reads g c = whole_reads c.args.sources.now c.args.friction.now (nat_abs c.args.limit) (option_copied c.args.base) _ _ (filled g (goal.at.returns-in_ok-repair-in-None-clause-reads g c).After-first_costs)

pub returns-in_ok-repair-in-None-clause-worked : goal.returns-in_ok-repair-in-None-clause-worked
returns-in_ok-repair-in-None-clause-worked g c = λ t u.
    first_case (nat_abs c.args.limit) c.args.sources.now.size (cells_before c.args.sources.now ∷ cells_before c.args.friction.now ∷ []) (c.args.sources.now.cells ∷ c.args.friction.now.cells ∷ []) c.in_ok-repair-in-None.repair.patch.tiles c.in_ok-repair-in-None.repair.worked t u (option_copied c.args.base) (ap option_copied c.in-None.is) c.in_ok-repair-in-None.ensures.worked

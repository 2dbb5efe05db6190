use Rattle.std.proofs.Common.{◌≡◌, ◌+◌, List, Some, ℤ, refl, sym, ◌∙◌, ap, subst, arith, rules, to_z, of_z}
use Rattle.std.specs.Prelude.{IsTrue}
use Rattle.std.proofs.lemmas.Int.{to_z-of_z}
use mir.Val.{SFits}
use Rattle.map_nums.specs.Numbers.{is_value}
use Rattle.map_nums.specs.Widths.{value_width}
use Rattle.friction_neighbor.specs.declared.seeds.Seed.{Seed}
use Rattle.friction_neighbor.specs.Seeds.{IsSeed, AreSeedsTo}
use Rattle.friction_neighbor.proofs.Seeding.{seed_added}
use Rattle.friction_neighbor.proofs.seeds.add_seed.Goals as goal

pub returns-in_ok-push : goal.returns-in_ok-push
returns-in_ok-push c =
    let f = c.args.field.now in
    let fits : SFits value_width c.in-Some.number = search rules in
    let e : to_z value_width (of_z value_width c.in-Some.number) ≡ c.in-Some.number = to_z-of_z value_width c.in-Some.number fits in
    let new : Seed = record { number = to_z value_width (of_z value_width c.in-Some.number); value = c.source-value.result; at = c.args.at } in
    let Q : ℤ → Type 0 = λ z. IsTrue (is_value z) in
    let seed : IsSeed f new = record {
      within = c.requires.within;
      number = sym c.source-value.ensures ∙ sym c.get.ensures.value ∙ c.in-Some.is ∙ ap Some (sym e);
      value = sym c.get.ensures.value ∙ c.in-Some.is ∙ ap Some (sym e);
      in_range = subst Q (sym e) c.in-Some.ensures.in_range;
      free = omega (arith, c.cost.ensures.value, c.if-cost-gt0.false);
    } in
    let P : List Seed → Type 0 = AreSeedsTo f (c.args.at + 1) in
    subst P (sym c.in_ok-push.ensures.items) (seed_added f c.args.at new c.args.seeds.now.items c.requires.seeds seed refl)

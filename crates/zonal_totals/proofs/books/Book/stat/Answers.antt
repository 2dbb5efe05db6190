use Rattle.std.proofs.Common.{◌≡◌, subst, ℤ, Option}
use Rattle.std.specs.Prelude.{IsTrue, IsFalse}
use Rattle.std.proofs.lemmas.Int.{to_z-of_z}
use Rattle.map_nums.specs.Widths.{value_width}
use Rattle.map_nums.specs.Answers.{is_wide}
use Rattle.zonal_totals.proofs.Zones.{part_statistic}
use Rattle.zonal_totals.proofs.books.Book.stat.Goals as goal

pub returns-in-Ok-clause-statistic : goal.returns-in-Ok-clause-statistic
returns-in-Ok-clause-statistic c = λ values zones h.
    let P : Option ℤ → Type 0 = λ o. (c.in-Ok.value ≡ o) × IsFalse (is_wide o) in
    subst P (part_statistic c.args.stat _ _ values zones c.args.zone _ c.part-part.result.entries.now c.self.view_is (to_z-of_z value_width c.args.zone c.ranges.zone) c.part-part.ensures.part h) c.in-Ok.ensures

pub returns-in-Err-clause-statistic : goal.returns-in-Err-clause-statistic
returns-in-Err-clause-statistic c = λ values zones h.
    let P : Option ℤ → Type 0 = λ o. IsTrue (is_wide o) in
    subst P (part_statistic c.args.stat _ _ values zones c.args.zone _ c.part-part.result.entries.now c.self.view_is (to_z-of_z value_width c.args.zone c.ranges.zone) c.part-part.ensures.part h) c.in-Err.ensures

use Rattle.std.proofs.Common.{◌++◌, arith, get_or, take, filter, pos, rules, FitsSigned}
use Rattle.std.proofs.lemmas.Int.{to_z-of_z}
use Rattle.map_nums.specs.Widths.{value_width}
use Rattle.sight_lines.specs.Found.{is_between}
use Rattle.sight_lines.proofs.Keeping.{taken_more}
use Rattle.sight_lines.proofs.searches.add_kept.Goals as goal

pub loop-k-preserved : goal.loop-k-preserved
loop-k-preserved c =
    let xs = c.args.kept.now in
    let k = c.loop-k.k in
    let fits : FitsSigned value_width (get_or xs k (0, pos 0)).1 = search rules in
    record {
      few = omega (arith, c.in_ok-found.ensures.at_most);
      found = λ all f. taken_more c.args.from c.args.to all xs c.add_between.new.pairs.items k c.in_ok-found.found c.loop-k-test.true
          (c.in_ok-found.ensures.found (all ++ filter (is_between c.args.from c.args.to) (take k xs)) (get_or xs k (0, pos 0)).1 (to_z-of_z value_width (get_or xs k (0, pos 0)).1 fits) (c.loop-k.invariant.found all f));
    }

use Rattle.std.proofs.Common.{◌≡◌, inl, inr, ℕ, ◌≤◌, ℤ, pos, get_or, below_more, subst, rules, arith, FitsSigned, to_z, of_z}
use Rattle.std.proofs.lemmas.Int.{to_z-of_z}
use Rattle.std.proofs.lemmas.Bool.{cases_lt}
use Rattle.map_nums.specs.Widths.{value_width}
use Rattle.focal_ops.specs.Kinds.{IsKey}
use Rattle.focal_ops.proofs.kinds.least_key.Goals as goal

pub loop-k-preserved : goal.loop-k-preserved
loop-k-preserved c =
    let k = c.loop-k.k in
    let values = c.args.kinds.now.values in
    let counts = c.args.kinds.now.counts in
    let best = c.loop-k.best in
    let key = c.key_of.result in
    let least = c.min-best.result in
    let fits : FitsSigned value_width (get_or values k (pos 0)) = search rules in
    let same : to_z value_width (of_z value_width (get_or values k (pos 0))) ≡ get_or values k (pos 0) = to_z-of_z value_width (get_or values k (pos 0)) fits in
    let here : IsKey c.args.least (get_or values k (pos 0)) (get_or counts k 0) key = subst (λ (z : ℤ). IsKey c.args.least z (get_or counts k 0) key) same c.key_of.ensures in
    let under : least ≤ best = omega (arith, c.min-best.ensures) in
    let under_key : least ≤ key = omega (arith, c.min-best.ensures) in
    let r = c.loop-k.invariant.reached in
    record {
      some = omega arith;
      first = below_more (λ j. (other : ℕ) × IsKey c.args.least (get_or values j (pos 0)) (get_or counts j 0) other × (least ≤ other)) k
          (λ j l. let f = c.loop-k.invariant.first j l in (f.0, f.1, omega (arith, f.2, under)))
          (key, here, under_key);
      reached = elim (cases_lt key best) [
        | inl below ↦
            let is : key ≡ least = omega (arith, c.min-best.ensures) in
            (k, omega arith, subst (IsKey c.args.least (get_or values k (pos 0)) (get_or counts k 0)) is here)
        | inr above ↦
            let is : best ≡ least = omega (arith, c.min-best.ensures) in
            (r.0, omega (arith, r.1), subst (IsKey c.args.least (get_or values r.0 (pos 0)) (get_or counts r.0 0)) is r.2)
      ];
    }

use Rattle.std.proofs.Common.{◌≡◌, ◌<◌, ◌≤◌, ℕ, nat_lt, true, false, rules, arith, sym, ap, subst, length, List}
use Rattle.std.specs.List.Sorted.{IsPartitionPoint, IsStrictlyIncreasing}
use Rattle.std.proofs.lemmas.Bool.Decides.{nat_tests}
use Rattle.std.proofs.lemmas.List.Sorted.{IsPartitionPoint-from_clause, IsPartitionedBy-ltb}
use Rattle.tile_work.proofs.Numbers.{never_falls}
use Rattle.tile_work.proofs.working.add_number.Goals as goal
use Rattle.tile_work.proofs.working.add_number.Goals.{After-partition_point-at}

below : (u t : ℕ) → nat_lt u t ≡ true → u < t
below u t h = grind (arith, nat_tests)

not_below : (u t : ℕ) → nat_lt u t ≡ false → t ≤ u
not_below u t h = grind (arith, nat_tests)

point : (c : After-partition_point-at) → IsPartitionPoint (λ e. nat_lt e c.args.number ≡ true) (λ e. nat_lt e c.args.number ≡ false) c.args.numbers.now.items c.partition_point-at.result
point c =
    let P : List ℕ → Type 0 = λ xs. IsPartitionPoint (λ e. nat_lt e c.args.number ≡ true) (λ e. nat_lt e c.args.number ≡ false) xs c.partition_point-at.result in
    let Q : List ℕ → Type 0 = IsStrictlyIncreasing in
    subst P c.deref.ensures.value
    (IsPartitionPoint-from_clause (λ (e : ℕ). nat_lt e c.args.number) c.deref.result.now c.partition_point-at.result c.partition_point-at.ensures.partitioned
    (IsPartitionedBy-ltb (λ (e : ℕ). e) c.deref.result.now c.args.number (never_falls c.deref.result.now (subst Q (sym c.deref.ensures.value) c.requires)))
    (λ a r f q. search rules))

pub returns-clause-ok : goal.returns-clause-ok
returns-clause-ok c =
    let p = point (goal.at.returns-clause-ok c).After-partition_point-at in
    record {
      place = c.partition_point-at.result;
      within = omega (arith, c.partition_point-at.ensures.bound, c.deref.ensures.len, ap length c.deref.ensures.value);
      is = c.in_ok-insert.ensures.items;
      below = λ k l. below _ _ (p.0 k 0 (omega arith) l);
      above = λ k l m. not_below _ _ (p.1 k 0 l m);
    }

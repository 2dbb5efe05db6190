use Rattle.std.proofs.Common.{rules}
use Rattle.std.specs.Cmp.{int_cmp_total}
use Rattle.std.proofs.lemmas.List.Sorted.{ranks_by, answers_always}
use Rattle.friction_neighbor.specs.declared.seeds.Seed.{Seed}
use Rattle.friction_neighbor.proofs.Seeding.{before, seeds_sorted}
use Rattle.friction_neighbor.proofs.seeds.seeds_of.Goals as goal

pub returns : goal.returns
returns c =
    let f = c.args.field.now in
    let up = c.sort_unstable_by.ensures.sorted (before f) (ranks_by int_cmp_total (λ (s : Seed). s.number)) (answers_always _ _ _ (λ f a r f' q. search rules)) in
    seeds_sorted f c.in_ok-seeds.seeds.items c.sort_unstable_by.new.self.items c.in_ok-seeds.ensures c.sort_unstable_by.ensures.permutation up

-- What is read of the statements that are prepared.
use Rattle.std.proofs.Common.{◌≡◌, ℕ, ◌+◌, List, Option, Some, slice_get, ap, subst, ◌∙◌, arith}
use Rattle.map_nums.specs.Grids.{Size, Cells}
use Rattle.map_defs.specs.Ops.{Op}
use Rattle.map_waves.specs.Bases.{kept_by, plan_of}
use Rattle.map_waves.specs.Prepared.{IsPrepared, ArePrepared}
use Rattle.map_waves.specs.declared.keeping.Aside.{Aside}
use Rattle.map_waves.specs.declared.keeping.Made.{Made}
use Rattle.map_waves.specs.declared.plans.Step.{Step}
use Rattle.map_waves.specs.declared.plans.Base.{Base}

pub prepared_at : {O B : Type 0} (means : O → Op) (suits : Size → Op → List Cells → Aside B → Type 0) (base : Base B) (steps : List (Step O)) (rs : List (Option (Made B))) → ArePrepared means suits base steps 0 rs
    → (j : ℕ) (x : Step O) (r : Option (Made B)) → slice_get steps j ≡ Some x → slice_get rs j ≡ Some r → IsPrepared suits (plan_of means base steps) j (kept_by base x.kept) r
prepared_at means suits base steps rs prepared j x r there is =
    let e : 0 + j ≡ j = omega arith in
    subst (λ i. IsPrepared suits (plan_of means base steps) i (kept_by base x.kept) r) e (prepared j x r (ap (slice_get steps) e ∙ there) is)

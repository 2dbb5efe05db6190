use Rattle.std.proofs.Common.{◌≡◌, ◌+◌, ℕ, List, Result, Some, take, inl, inr, refl, ap, subst, ◌∙◌, arith}
use Rattle.std.specs.Prelude.{slice_range}
use Rattle.std.proofs.lemmas.Bool.{cases_lt}
use Rattle.std.proofs.lemmas.Option.{slice_get_read}
use Rattle.layer_tiles.specs.declared.kernels.KernelRefusal.{KernelRefusal}
use Rattle.map_waves.specs.Jobs.{JobsState}
use Rattle.map_waves.specs.Answers.{AllOk}
use Rattle.map_waves.specs.Seating.{all_jobs, row_of}
use Rattle.map_waves.specs.Refusals.{AllOkTo, IsRefusalOf}
use Rattle.map_waves.proofs.Rowing.{jobs_more}
use Rattle.map_waves.proofs.refusals.first_refusal.Given.{Over}
use Rattle.map_waves.proofs.refusals.first_refusal.Goals as goal
use Rattle.map_waves.proofs.refusals.first_refusal.Goals.{After-count_of-count}

ok_next : {O B W R : Type 0} (js : List (JobsState O B W)) (rs : List (Result R KernelRefusal)) (i : ℕ) → AllOkTo js rs i → AllOk (row_of js rs i) → AllOkTo js rs (i + 1)
ok_next js rs i so_far here j h = elim (cases_lt j i) as (λ _. AllOk (row_of js rs j)) [
  | inl less ↦ so_far j less
  | inr at ↦ let same : i ≡ j = omega arith in subst (λ k. AllOk (row_of js rs k)) same here
]

-- the answers of a statement, between its first ticket and that of the next one
row : (g : Over) (c : After-count_of-count g)
    → (c.loop-place.start + c.count_of-count.result ≡ all_jobs (take (c.loop-place.place + 1) c.args.jobs.now)) × (slice_range c.args.answers.now c.loop-place.start (c.loop-place.start + c.count_of-count.result) ≡ row_of c.args.jobs.now c.args.answers.now c.loop-place.place)
row g c =
    let js = c.args.jobs.now in
    let rs = c.args.answers.now in
    let place = c.loop-place.place in
    let own = c.index-jobs-place.result in
    let start = c.loop-place.invariant.start in
    let more = jobs_more js place own (slice_get_read js _ place own refl c.loop-place-test.true c.index-jobs-place.is) in
    let end : c.loop-place.start + c.count_of-count.result ≡ all_jobs (take (place + 1) js) = omega (arith, more, start, c.count_of-count.ensures) in
    (end, ap (λ a. slice_range rs a (c.loop-place.start + c.count_of-count.result)) start ∙ ap (slice_range rs (all_jobs (take place js))) end)

pub loop-place-preserved : goal.loop-place-preserved
loop-place-preserved g c =
    let rs = c.args.answers.now in
    let r = row g (goal.at.loop-place-preserved g c).After-count_of-count in
    let here = subst (IsRefusalOf (slice_range rs c.loop-place.start (c.loop-place.start + c.count_of-count.result))) c.in_default.is c.refusal_of.ensures in
    record { start = r.0; ok = ok_next c.args.jobs.now rs c.loop-place.place c.loop-place.invariant.ok (subst AllOk r.1 here) }

pub returns-in-Some : goal.returns-in-Some
returns-in-Some g c =
    let r = row g (goal.at.returns-in-Some g c).After-count_of-count in
    (c.loop-place-test.true, subst (λ answers. IsRefusalOf answers (Some c.in-Some.refusal)) r.1 c.in-Some.ensures, c.loop-place.invariant.ok)

pub returns : goal.returns
returns g c j h = c.loop-place.invariant.ok j (omega arith)

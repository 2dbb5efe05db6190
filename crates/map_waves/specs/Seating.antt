-- The jobs of several statements in one row of tickets.
use Rattle.std.specs.Prelude.{◌≡◌, ℕ, ◌+◌, ◌-◌, ◌<◌, take, slice_range, slice_index, nat_lt, List, [], ◌∷◌, length, sum_by, Option, Some, None, IfSome, slice_get, Result, if◌then◌else◌}
use Rattle.layer_tiles.specs.declared.kernels.KernelRefusal.{KernelRefusal}
use Rattle.map_waves.specs.Jobs.{JobsState}
use Rattle.map_waves.specs.Answers.{total_of}

module _ {O B W : Type 0} where
  abbrev pub all_jobs : List (JobsState O B W) → ℕ
  all_jobs js = sum_by (λ (j : JobsState O B W). j.count) js

  -- the statement of a ticket, and the number of its job there
  abbrev pub seat_of : List (JobsState O B W) → ℕ → Option (JobsState O B W × ℕ)
  seat_of [] t = None
  seat_of (j ∷ js) t = if nat_lt t j.count then Some (j, t) else seat_of js (t - j.count)

  -- the greatest rise of a ticket, by that of a job
  abbrev pub rise_of : (JobsState O B W → ℕ → ℕ) → Option (JobsState O B W × ℕ) → ℕ
  rise_of rise None = 0
  rise_of rise (Some q) = rise q.0 q.1

  -- the greatest rises of all jobs
  abbrev pub all_rises : (JobsState O B W → ℕ → ℕ) → List (JobsState O B W) → ℕ
  all_rises rise js = sum_by (λ (j : JobsState O B W). total_of (rise j) j.count) js

  -- the answers of statement i among those of all tickets
  abbrev pub row_of : {R : Type 0} → List (JobsState O B W) → List R → ℕ → List R
  row_of {R} js rs i = slice_range rs (all_jobs (take i js)) (all_jobs (take (i + 1) js))

  -- the first ticket of each statement
  pub record AreStarts (js : List (JobsState O B W)) (starts : List ℕ) : Type 0 where
    pub count : length starts ≡ length js
    pub each : (i : ℕ) → i < length js → slice_index starts i ≡ all_jobs (take i js)

-- the answers of all jobs, in the order of their tickets
pub record AreAnswered {O B W R : Type 0} (pieces : JobsState O B W → ℕ → Result R KernelRefusal → Type 0) (js : List (JobsState O B W)) (rs : List (Result R KernelRefusal)) : Type 0 where
  pub count : length rs ≡ all_jobs js
  pub each : (t : ℕ) (d : Result R KernelRefusal) → slice_get rs t ≡ Some d → IfSome (seat_of js t) (λ q. pieces q.0 q.1 d)

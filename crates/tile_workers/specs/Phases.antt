-- What a phase of jobs gives, and what it may add to a tally.
use Rattle.std.specs.Prelude.{◌≡◌, ℕ, ◌<◌, ◌≤◌, ◌⊎◌, cond, ltb, List, [], ◌∷◌, ◌++◌, map, length, sum_by, All}
use Rattle.tile_workers.specs.declared.laid.Laid.{Laid}
use Rattle.tile_workers.specs.Lists.{times}

-- x is the last of the list
abbrev pub EndsWith : List ℕ → ℕ → Type 0
EndsWith xs x = (front : List ℕ) × (xs ≡ front ++ x ∷ [])

-- what a number may add: that of a job where it is one, and else nothing
abbrev pub job_part : ℕ → (ℕ → ℕ) → ℕ → ℕ
job_part jobs f x = cond (ltb x jobs) (f x) 0

-- what the numbers that were drawn may add
abbrev pub added : ℕ → (ℕ → ℕ) → List ℕ → ℕ
added jobs f xs = sum_by (job_part jobs f) xs

-- no job was left: more numbers were drawn than there are jobs, or one past them
abbrev pub IsEnded : ℕ → List ℕ → Type 0
IsEnded jobs xs = (jobs < length xs) ⊎ ((x : ℕ) × (jobs ≤ x) × (0 < times x xs))

module _ {D : Type 0} where
  abbrev pub tickets : List (Laid D) → List ℕ
  tickets laid = map (λ (a : Laid D). a.ticket) laid

  -- each job that was drawn has its answer
  abbrev pub AreAnswered : ℕ → List ℕ → List (Laid D) → Type 0
  AreAnswered jobs xs laid = (x : ℕ) → x < jobs → times x (tickets laid) ≡ times x xs

  -- each answer may be given to its job
  abbrev pub AllStand : (ℕ → D → Type 0) → List (Laid D) → Type 0
  AllStand answers laid = All (λ (a : Laid D). answers a.ticket a.done) laid

  -- the answers that the jobs below `jobs` may have
  abbrev pub job_answers : ℕ → (ℕ → D → Type 0) → ℕ → D → Type 0
  job_answers jobs answers x d = (x < jobs) × answers x d

-- Each answer comes to the place of its job.
use Rattle.std.proofs.Common.{◌≡◌, ℕ, ◌<◌, ◌⊎◌, inl, inr, List, [], ◌∷◌, ◌++◌, length, get_or, set, sym, ap, ⊎_elim, subst, arith, get_or-set_same, get_or-set_other}
use Rattle.std.specs.Prelude.{Option, Some, option_to_list, IsSomeAnd}
use Rattle.std.proofs.lemmas.List.Elements.{All-pop}
use native.Mathlib.Decide.{ℕ_discrete}
use Rattle.tile_workers.specs.declared.laid.Laid.{Laid}
use Rattle.tile_workers.specs.Lists.{times}
use Rattle.tile_workers.specs.Phases.{tickets, AllStand, job_answers}
use Rattle.tile_workers.proofs.Numbers.{times_snoc, one_if_apart}
use Rattle.tile_workers.proofs.Turns.{one_laid, tickets_snoc}

module _ {D : Type 0} (jobs : ℕ) (answers : ℕ → D → Type 0) where
  -- each job with an answer in `all` has one in `left`, or it has come to its place
  abbrev pub ArePut : List (Laid D) → List (Laid D) → List (Option D) → Type 0
  ArePut all left slots = (k : ℕ) (d : Option D) → k < jobs → 0 < times k (tickets all) → (0 < times k (tickets left)) ⊎ IsSomeAnd (get_or slots k d) (answers k)

  put_cases : (all left : List (Laid D)) (slots : List (Option D)) (x : ℕ) (done : D) (k : ℕ) (d : Option D) → Dec (k ≡ x) → length slots ≡ jobs → k < jobs → answers x done
      → (0 < times k (tickets (left ++ one_laid x done ∷ []))) ⊎ IsSomeAnd (get_or slots k d) (answers k) → (0 < times k (tickets left)) ⊎ IsSomeAnd (get_or (set slots x (Some done)) k d) (answers k)
  put_cases all left slots x done k d (yes e) len less here was =
      let P : ℕ → Type 0 = λ z. IsSomeAnd (get_or (set slots x (Some done)) z d) (answers z) in
      inr (subst P (sym e) (subst (λ (o : Option D). IsSomeAnd o (answers x)) (sym (get_or-set_same slots x (Some done) d (omega arith))) here))
  put_cases all left slots x done k d (no ne) len less here was =
      ⊎_elim (λ h. inl (let t = ap (λ (l : List ℕ). times k l) (tickets_snoc left x done) in omega (arith, times_snoc k x (tickets left), one_if_apart x k (λ e. ne (sym e)))))
      (λ h. inr (subst (λ (o : Option D). IsSomeAnd o (answers k)) (sym (get_or-set_other slots x k (Some done) d ne)) h)) was

  pub puts : (all whole left : List (Laid D)) (slots : List (Option D)) (x : ℕ) (done : D) → ArePut all whole slots → whole ≡ left ++ one_laid x done ∷ [] → length slots ≡ jobs → answers x done
      → ArePut all left (set slots x (Some done))
  puts all whole left slots x done put is len here k d less some_there =
      put_cases all left slots x done k d (ℕ_discrete k x) len less here
      (subst (λ (l : List (Laid D)). (0 < times k (tickets l)) ⊎ IsSomeAnd (get_or slots k d) (answers k)) is (put k d less some_there))

  pub stands : (whole left : List (Laid D)) (a : Laid D) → AllStand (job_answers jobs answers) whole → whole ≡ left ++ option_to_list (Some a) → AllStand (job_answers jobs answers) left × (answers a.ticket a.done)
  stands whole left a all is = let r = All-pop (λ (t : Laid D). job_answers jobs answers t.ticket t.done) whole left (Some a) is all in (r.0, (r.1).1)

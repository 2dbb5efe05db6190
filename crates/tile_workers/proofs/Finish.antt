-- What follows once every seat is back.
use Rattle.std.proofs.Common.{◌≡◌, ℕ, zero, suc, ◌+◌, ◌-◌, ◌^◌, ◌<◌, ◌≤◌, inl, inr, false, eqb, List, [], ◌∷◌, length, sym, refl, ap, ◌∙◌, subst, arith}
use Rattle.std.specs.Prelude.{sum_by}
use Rattle.std.proofs.lemmas.List.Sums.{sum_by-cons}
use Rattle.std.proofs.lemmas.List.FromFn.{length-range_with_len}
use native.Mathlib.Decide.{ℕ_discrete}
use Rattle.layer_tiles.specs.Tallies.{TallyState, RisesBy}
use Rattle.atomic_table.specs.Seated.{TableId}
use Rattle.tile_workers.specs.declared.shift.Gathered.{Gathered}
use Rattle.std.specs.List.{range_with_len}
use Rattle.tile_workers.specs.Lists.{one_if, times}
use Rattle.tile_workers.specs.Seats.{drawn, share, marked}
use Rattle.tile_workers.specs.Phases.{job_part, added, IsEnded, tickets}
use Rattle.tile_workers.specs.Shifts.{IsAllDone}
use Rattle.tile_workers.proofs.Numbers.{times-cons, one_if_same, one_if_apart}
use Rattle.tile_workers.proofs.Turns.{job_part_yes, job_part_no}

added_none : (jobs : ℕ) (f : ℕ → ℕ) (n low : ℕ) → jobs ≤ low → added jobs f (range_with_len low n) ≡ 0
added_none jobs f zero low h = refl
added_none jobs f (suc n) low h = let r = added_none jobs f n (low + 1) (omega arith) in omega (arith, sum_by-cons (job_part jobs f) low (range_with_len (low + 1) n), job_part_no jobs f low h)

added_le : (jobs : ℕ) (f : ℕ → ℕ) (n m low : ℕ) → jobs ≡ low + m → added jobs f (range_with_len low n) ≤ sum_by f (range_with_len low m)
added_le jobs f n zero low e = let r = added_none jobs f n low (omega arith) in omega arith
added_le jobs f zero (suc m) low e = omega arith
added_le jobs f (suc n) (suc m) low e = let r = added_le jobs f n m (low + 1) (omega arith) in
    omega (arith, sum_by-cons (job_part jobs f) low (range_with_len (low + 1) n), sum_by-cons f low (range_with_len (low + 1) m), job_part_yes jobs f low (omega arith))

there_cases : (x n low : ℕ) → (low + 1 ≤ x → x < low + 1 + n → 0 < times x (range_with_len (low + 1) n)) → Dec (low ≡ x) → low ≤ x → x < low + suc n → 0 < times x (low ∷ range_with_len (low + 1) n)
there_cases x n low later (yes e) h less = let one : times x (low ∷ range_with_len (low + 1) n) ≡ 1 + times x (range_with_len (low + 1) n) = times-cons x low (range_with_len (low + 1) n) ∙ ap (λ (k : ℕ). k + times x (range_with_len (low + 1) n)) (subst (λ (z : ℕ). one_if (eqb z x) ≡ 1) (sym e) (one_if_same x)) in omega arith
there_cases x n low later (no ne) h less = let r = later (omega arith) (omega arith) in omega (arith, times-cons x low (range_with_len (low + 1) n))

times_there : (x n low : ℕ) → low ≤ x → x < low + n → 0 < times x (range_with_len low n)
times_there x zero low h less = absurd (omega arith)
times_there x (suc n) low h less = there_cases x n low (times_there x n (low + 1)) (ℕ_discrete low x) h less

times_inside : (x n low : ℕ) → 0 < times x (range_with_len low n) → x < low + n
times_inside x zero low h = absurd (let none : times x [] ≡ 0 = refl in omega arith)
times_inside x (suc n) low h = elim (ℕ_discrete low x) [ yes e ↦ omega arith | no ne ↦ (let r = times_inside x n (low + 1) (omega (arith, times-cons x low (range_with_len (low + 1) n), one_if_apart low x ne)) in omega arith) ]

past_jobs : (jobs n : ℕ) → IsEnded jobs (range_with_len 0 n) → jobs ≤ n
past_jobs jobs n (inl h) = omega (arith, length-range_with_len 0 n)
past_jobs jobs n (inr h) = let at = h.1 in let r = times_inside h.0 n 0 h.2 in omega arith

module _ {D : Type 0} (table : TableId) (jobs : ℕ) (looks picks : ℕ → ℕ) (answers : ℕ → D → Type 0) (before now : TallyState) (all : Gathered D) (n : ℕ) where
  abbrev Closed : Type 0
  Closed = share all.seat ≡ 64 → length (drawn all.seat) < 2 ^ 64 - 1 → (drawn all.seat ≡ range_with_len 0 n) × (marked all.seat ≡ false)

  numbers : IsAllDone table jobs looks picks answers before now all → jobs < 2 ^ 32 → Closed → drawn all.seat ≡ range_with_len 0 n
  numbers d small closed = let f = d.few in (closed d.every_share (omega arith)).0

  pub all_tally : IsAllDone table jobs looks picks answers before now all → jobs < 2 ^ 32 → Closed → RisesBy (sum_by looks (range_with_len 0 jobs)) (sum_by picks (range_with_len 0 jobs)) before now
  all_tally d small closed = let list = numbers d small closed in let t = d.tally in record {
    looks_rise = let h = t.looks_rise in let a = ap (λ (xs : List ℕ). added jobs looks xs) list in omega (arith, added_le jobs looks n jobs 0 (omega arith));
    picks_rise = let h = t.picks_rise in let a = ap (λ (xs : List ℕ). added jobs picks xs) list in omega (arith, added_le jobs picks n jobs 0 (omega arith));
    parts_out_stay = t.parts_out_stay;
    is_part_stays = t.is_part_stays;
  }

  pub all_answered : IsAllDone table jobs looks picks answers before now all → jobs < 2 ^ 32 → Closed → all.is_short ≡ false → (k : ℕ) → k < jobs → 0 < times k (tickets all.laid.items)
  all_answered d small closed ample k less =
      let list = numbers d small closed in
      let enough = past_jobs jobs n (subst (λ (xs : List ℕ). IsEnded jobs xs) list (d.ended ample)) in
      let same = d.answered ample k less ∙ ap (λ (xs : List ℕ). times k xs) list in
      let r = times_there k n 0 (omega arith) (omega arith) in omega arith

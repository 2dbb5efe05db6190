-- What a worker keeps from turn to turn.
use Rattle.std.proofs.Common.{◌≡◌, ℕ, ◌<◌, ◌≤◌, inr, true, false, cond, ltb, List, [], ◌∷◌, ◌++◌, length, refl, ap, arith}
use Rattle.std.proofs.lemmas.Bool.Decides.{nat_tests}
use mathlib.Core.List.{map-append}
use Rattle.layer_tiles.specs.Tallies.{TallyState, RisesBy}
use Rattle.tile_workers.specs.declared.laid.Laid.{Laid}
use Rattle.tile_workers.specs.Phases.{job_part, added, IsEnded, tickets, AreAnswered, AllStand}
use Rattle.tile_workers.proofs.Numbers.{times_snoc, one_if_same, one_if_apart}

pub job_part_yes : (jobs : ℕ) (f : ℕ → ℕ) (x : ℕ) → x < jobs → job_part jobs f x ≡ f x
job_part_yes jobs f x h = let t : ltb x jobs ≡ true = grind (arith, nat_tests) in ap (λ b. cond b (f x) 0) t

pub job_part_no : (jobs : ℕ) (f : ℕ → ℕ) (x : ℕ) → jobs ≤ x → job_part jobs f x ≡ 0
job_part_no jobs f x h = let t : ltb x jobs ≡ false = grind (arith, nat_tests) in ap (λ b. cond b (f x) 0) t

module _ {D : Type 0} where
  abbrev pub one_laid : ℕ → D → Laid D
  one_laid ticket done = record { ticket = ticket; done = done }

  pub tickets_snoc : (laid : List (Laid D)) (x : ℕ) (done : D) → tickets (laid ++ one_laid x done ∷ []) ≡ tickets laid ++ x ∷ []
  tickets_snoc laid x done = map-append (λ (a : Laid D). a.ticket) laid (one_laid x done ∷ [])

  pub answered_past : (jobs x : ℕ) (xs : List ℕ) (laid : List (Laid D)) → jobs ≤ x → AreAnswered jobs xs laid → AreAnswered jobs (xs ++ x ∷ []) laid
  answered_past jobs x xs laid h all z less = let t = all z less in omega (arith, times_snoc z x xs, one_if_apart x z (λ e. omega arith))

  pub record IsUnderWay (jobs : ℕ) (looks picks : ℕ → ℕ) (answers : ℕ → D → Type 0) (turns : ℕ) (drawn : List ℕ) (laid : List (Laid D)) (before after : TallyState) : Type 0 where
    pub long : length drawn ≡ turns
    pub answered : AreAnswered jobs drawn laid
    pub stand : AllStand answers laid
    pub tally : RisesBy (added jobs looks drawn) (added jobs picks drawn) before after

  module _ (jobs : ℕ) (looks picks : ℕ → ℕ) (answers : ℕ → D → Type 0) where
    pub starts : (b : TallyState) → IsUnderWay jobs looks picks answers 0 [] [] b b
    starts b = record {
      long = refl;
      answered = λ x h. refl;
      stand = λ k d h. absurd (omega arith);
      tally = record { looks_rise = omega arith; picks_rise = omega arith; parts_out_stay = refl; is_part_stays = refl };
    }

pub ended_past : (jobs x : ℕ) (xs : List ℕ) → jobs ≤ x → IsEnded jobs (xs ++ x ∷ [])
ended_past jobs x xs h = inr (x, h, omega (arith, times_snoc x x xs, one_if_same x))

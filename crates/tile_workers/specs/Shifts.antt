-- What a worker beside others begins and ends with.
use Rattle.std.specs.Prelude.{◌≡◌, ℕ, ◌+◌, ◌*◌, ◌≤◌, true, false, List, [], length, sum_by, All}
use Rattle.layer_tiles.specs.Tallies.{TallyState, RisesBy, new_part}
use Rattle.atomic_table.specs.Seated.{TableId}
use Rattle.tile_workers.specs.declared.shift.Shift.{Shift}
use Rattle.tile_workers.specs.declared.shift.Gathered.{Gathered}
use Rattle.tile_workers.specs.Seats.{drawn, share}
use Rattle.tile_workers.specs.Phases.{added, IsEnded, AreAnswered, AllStand, job_answers}

module _ {M D : Type 0} (state : M → TallyState) (table : TableId) where
  pub record IsHired (s : Shift M D) : Type 0 where
    pub own : s.seat.inner.table_id ≡ table
    pub none_drawn : drawn s.seat ≡ []
    pub none_laid : s.laid.items ≡ []
    pub part : state s.part ≡ new_part

  pub record IsDone (jobs : ℕ) (looks picks : ℕ → ℕ) (answers : ℕ → D → Type 0) (s : Shift M D) : Type 0 where
    pub own : s.seat.inner.table_id ≡ table
    pub few : length (drawn s.seat) ≤ jobs + 1
    pub ended : s.is_short ≡ false → IsEnded jobs (drawn s.seat)
    pub answered : s.is_short ≡ false → AreAnswered jobs (drawn s.seat) s.laid.items
    pub stand : AllStand (job_answers jobs answers) s.laid.items
    pub looks_bound : (state s.part).looks ≤ added jobs looks (drawn s.seat)
    pub picks_bound : (state s.part).picks ≤ added jobs picks (drawn s.seat)
    pub is_part : (state s.part).is_part ≡ true

abbrev pub shift_share : {M D : Type 0} → Shift M D → ℕ
shift_share s = share s.seat

-- what was gathered from some workers, where the shifts `left` are still to come, and `keep` parts are out beside theirs
pub record IsGathering {M D : Type 0} (state : M → TallyState) (table : TableId) (jobs : ℕ) (looks picks : ℕ → ℕ) (answers : ℕ → D → Type 0) (shares workers keep : ℕ) (before now : TallyState) (all : Gathered D) (left : List (Shift M D)) : Type 0 where
  pub own : all.seat.inner.table_id ≡ table
  pub shares_left : share all.seat + sum_by shift_share left ≡ shares
  pub few : length (drawn all.seat) + length left * (jobs + 1) ≤ workers * (jobs + 1)
  pub ended : all.is_short ≡ false → IsEnded jobs (drawn all.seat)
  pub answered : all.is_short ≡ false → AreAnswered jobs (drawn all.seat) all.laid.items
  pub stand : AllStand (job_answers jobs answers) all.laid.items
  pub looks_bound : now.looks ≤ before.looks + added jobs looks (drawn all.seat)
  pub picks_bound : now.picks ≤ before.picks + added jobs picks (drawn all.seat)
  pub parts : now.parts_out ≡ keep + length left
  pub kind : now.is_part ≡ false
  pub done : All (IsDone state table jobs looks picks answers) left

-- what all workers leave
pub record IsAllDone {D : Type 0} (table : TableId) (jobs : ℕ) (looks picks : ℕ → ℕ) (answers : ℕ → D → Type 0) (before now : TallyState) (all : Gathered D) : Type 0 where
  pub own : all.seat.inner.table_id ≡ table
  pub every_share : share all.seat ≡ 64
  pub few : length (drawn all.seat) ≤ 64 * (jobs + 1)
  pub ended : all.is_short ≡ false → IsEnded jobs (drawn all.seat)
  pub answered : all.is_short ≡ false → AreAnswered jobs (drawn all.seat) all.laid.items
  pub stand : AllStand (job_answers jobs answers) all.laid.items
  pub tally : RisesBy (added jobs looks (drawn all.seat)) (added jobs picks (drawn all.seat)) before now

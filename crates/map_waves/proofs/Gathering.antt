-- The statements of a depth put together, one after another.
use Rattle.std.proofs.Common.{◌≡◌, ℕ, zero, suc, ◌+◌, ◌*◌, ◌<◌, ◌≤◌, true, false, List, [], ◌∷◌, length, Option, Some, None, slice_get, ◌⊎◌, inl, inr, refl, sym, ap, subst, ◌∙◌, arith, ◌-◌, ◌++◌, drop, take, get_or, Result, Ok}
use Rattle.std.specs.Prelude.{if◌then◌else◌, sum_by}
use Rattle.std.proofs.lemmas.Option.{none-some, slice_get_within, same_Some, get_or_from_slice_get, slice_get_read}
use Rattle.std.proofs.lemmas.List.{length_push, drop_more, take_more, take-map, map_push, drop-drop}
use Rattle.std.proofs.lemmas.List.Sums.{sum_by_push, sum_by-take-le}
use Rattle.std.proofs.Math.ListN.{drop_of_length-le}
use Rattle.map_nums.specs.Grids.{Size, Cells}
use Rattle.map_defs.specs.Ops.{Op}
use Rattle.layer_tiles.specs.Changes.{ChangeState}
use Rattle.layer_tiles.specs.Narrowed.{narrowed}
use Rattle.layer_tiles.specs.Operands.{cells_after}
use Rattle.layer_tiles.specs.Patches.{IsPatch}
use Rattle.layer_tiles.specs.Tallies.{TallyState, looked, RisesBy}
use Rattle.layer_tiles.proofs.Rising.{rises_none, rises_looked, rises_within, rises_then}
use Rattle.layer_tiles.specs.declared.kernels.KernelRefusal.{KernelRefusal}
use Rattle.map_waves.specs.Statements.{damage_by, fault_in}
use Rattle.map_waves.specs.Keeping.{was_of, aside_of}
use Rattle.map_waves.specs.Gathered.{IsRepaired}
use Rattle.map_waves.specs.Jobs.{JobsState, AreOver, was_in, aside_in}
use Rattle.map_waves.specs.Plans.{StepDef, reckoned, operands_at, damage_at, Plan}
use Rattle.map_waves.specs.Bases.{IsBase, kept_by, step_of, plan_of}
use Rattle.map_waves.specs.Prepared.{IsMade, IsPrepared, ArePrepared}
use Rattle.map_waves.specs.Filled.{IsFilled}
use Rattle.map_waves.specs.Tasks.{StaysAt, IsTask, reckoned_kept, AreBetween, AreTasks, places_of}
use Rattle.map_waves.specs.declared.keeping.Aside.{Aside}
use Rattle.map_waves.specs.declared.keeping.Kept.{Kept}
use Rattle.map_waves.specs.declared.keeping.Made.{Made}
use Rattle.map_waves.specs.declared.tasks.Task.{Task}
use Rattle.map_waves.specs.declared.plans.Step.{Step}
use Rattle.map_waves.specs.declared.plans.Base.{Base}
use Rattle.map_waves.specs.Answers.{AreJobs, AllOk}
use Rattle.map_waves.specs.Begun.{AreBegun}
use Rattle.map_waves.specs.Seating.{all_jobs, row_of, AreAnswered}
use Rattle.map_waves.proofs.Making.{kept_layer, made_fresh, made_changed, made_written, narrow_looks, all_get, step_is}
use Rattle.map_waves.proofs.Phasing.{prepared_then}
use Rattle.map_waves.proofs.Rowing.{left_first, some_at, row_is, row_answers, answer_at, jobs_more, jobs_within}
use Rattle.map_waves.proofs.Depths.{begun_get}

-- ---- one statement

module _ {O B W : Type 0} (means : O → Op) (suits : Size → Op → List Cells → Aside B → Type 0) (base : Base B) (x : Step O) (j : JobsState O B W) (m : Made B)
    (over : AreOver j base.extent x.op j.operands (reckoned_kept base x)) (repaired : IsRepaired suits j.size (means j.op) j.operands (was_in j) (aside_in j) m) where
  pub repaired_from : (w : Option (Kept B)) → reckoned_kept base x ≡ w → IsRepaired suits base.extent (means x.op) j.operands (was_of w) (aside_of w) m
  repaired_from w e =
      subst (λ (w : Option (Kept B)). IsRepaired suits base.extent (means x.op) j.operands (was_of w) (aside_of w) m) (over.kept ∙ e)
      (subst (λ o. IsRepaired suits base.extent (means o) j.operands (was_in j) (aside_in j) m) over.op
      (subst (λ s. IsRepaired suits s (means j.op) j.operands (was_in j) (aside_in j) m) over.size repaired))

  pub repaired_written : x.written ≡ true → IsRepaired suits base.extent (means x.op) j.operands None None m
  repaired_written written = repaired_from None (ap (λ b. if b then None else kept_by base x.kept) written)

  pub repaired_left : x.written ≡ false → (o : Option (Kept B)) → kept_by base x.kept ≡ o → IsRepaired suits base.extent (means x.op) j.operands (was_of o) (aside_of o) m
  repaired_left left o e = repaired_from o (ap (λ b. if b then None else kept_by base x.kept) left ∙ e)

  module _ (is : IsBase base) (faultless : fault_in base.extent (means x.op) (cells_after j.operands) ≡ None) where
    abbrev def : StepDef
    def = step_of means base x

    -- one that the edit didn't write
    pub made_left : x.written ≡ false → IsMade suits base.extent def j.operands (kept_by base x.kept) (Some m)
    made_left left = go (kept_by base x.kept) refl
      where
        go : (o : Option (Kept B)) → kept_by base x.kept ≡ o → IsMade suits base.extent def j.operands (kept_by base x.kept) (Some m)
        go None e =
            subst (λ (o : Option (Kept B)). IsMade suits base.extent def j.operands o (Some m)) (sym e)
            (made_fresh suits base.extent def j.operands m (ap (λ o. was_of o) e) (repaired_left left None e) faultless)
        go (Some own) e =
            subst (λ (o : Option (Kept B)). IsMade suits base.extent def j.operands o (Some m)) (sym e)
            (made_changed suits base.extent def j.operands own (kept_layer base is x.kept own e).0 (ap (λ o. was_of o) e) left m (repaired_left left (Some own) e) faultless)

    -- one that it wrote, and that was undefined
    pub made_new : x.written ≡ true → kept_by base x.kept ≡ None → IsMade suits base.extent def j.operands (kept_by base x.kept) (Some m)
    made_new written e =
        subst (λ (o : Option (Kept B)). IsMade suits base.extent def j.operands o (Some m)) (sym e)
        (made_fresh suits base.extent def j.operands m (ap (λ o. was_of o) e) (repaired_written written) faultless)

    -- one that it wrote, and that was there
    pub made_narrowed : x.written ≡ true → (own : Kept B) → kept_by base x.kept ≡ Some own → IsPatch m.patch → (n : Made B)
        → n ≡ record m { patch = record m.patch { tiles = narrowed own.layer.size own.layer.cells m.patch.tiles } } → IsMade suits base.extent def j.operands (kept_by base x.kept) (Some n)
    made_narrowed written own e patch n narrow =
        subst (λ (n : Made B). IsMade suits base.extent def j.operands (kept_by base x.kept) (Some n)) (sym narrow)
        (subst (λ (o : Option (Kept B)). IsMade suits base.extent def j.operands o (Some (record m { patch = record m.patch { tiles = narrowed own.layer.size own.layer.cells m.patch.tiles } }))) (sym e)
        (made_written suits base.extent def j.operands own (kept_layer base is x.kept own e).0 (ap (λ o. was_of o) e) m (record m.patch { tiles = narrowed own.layer.size own.layer.cells m.patch.tiles }) written patch (repaired_written written) faultless refl))

    pub narrowed_rises : x.written ≡ true → (a b : TallyState) → b ≡ looked (2 * length m.patch.tiles) a → RisesBy (2 * length (damage_by base.extent (means x.op) (reckoned def) j.operands)) 0 a b
    narrowed_rises written a b e =
        let few = narrow_looks suits base.extent def j.operands m written (repaired_written written) in
        rises_within (0 + 2 * length m.patch.tiles) 0 _ _ a b (omega (arith, few)) (omega arith) (rises_looked 0 0 (2 * length m.patch.tiles) a a b (rises_none a) e)

-- ---- among the others

module _ {O B : Type 0} (means : O → Op) (formed : O → Type 0) (suits : Size → Op → List Cells → Aside B → Type 0) (base : Base B) (steps : List (Step O)) where
  -- a list that is made longer with statements that stay
  pub prepared_filled : (first n : ℕ) (old new : List (Option (Made B))) → ArePrepared means suits base steps first old → IsFilled n old new → ((k : ℕ) → first + length old ≤ k → k < first + n → StaysAt means suits base steps k)
      → ArePrepared means suits base steps first new
  prepared_filled first n old new these filled stays i x r there is = go (filled.each i r is)
    where
      go : (slice_get old i ≡ Some r) ⊎ ((length old ≤ i) × (r ≡ None)) → IsPrepared suits (plan_of means base steps) (first + i) (kept_by base x.kept) r
      go (inl e) = these i x r there e
      go (inr e) =
          let within = slice_get_within new i r is in
          let count = filled.count in
          let past = e.0 in
          subst (λ (r : Option (Made B)). IsPrepared suits (plan_of means base steps) (first + i) (kept_by base x.kept) r) (sym e.1) (stays (first + i) (omega arith) (omega arith) x there)

  -- what was made of a statement at work
  pub made_at : (t : Task) → IsTask means formed suits base steps t → (x : Step O) → slice_get steps t.place ≡ Some x → (os : List ChangeState) → os ≡ t.operands → (r : Option (Made B))
      → IsMade suits base.extent (step_of means base x) os (kept_by base x.kept) r → IsPrepared suits (plan_of means base steps) t.place (kept_by base x.kept) r
  made_at t task x there os same r made =
      subst (λ o. IsMade suits base.extent ((plan_of means base steps).step t.place) o (kept_by base x.kept) r) (same ∙ task.is)
      (subst (λ d. IsMade suits base.extent d os (kept_by base x.kept) r) (sym (step_is means base steps t.place x there)) made)

  pub prepared_one : (k : ℕ) (x : Step O) (r : Option (Made B)) → slice_get steps k ≡ Some x → IsPrepared suits (plan_of means base steps) k (kept_by base x.kept) r → ArePrepared means suits base steps k (r ∷ [])
  prepared_one k x r there is zero y q e f =
      let at : k + 0 ≡ k = omega arith in
      let kept : x ≡ y = same_Some x y (sym (ap (slice_get steps) at ∙ there) ∙ e) in
      let same : r ≡ q = cc in
      subst (λ j. IsPrepared suits (plan_of means base steps) j (kept_by base y.kept) q) (sym at)
      (subst (λ (z : Option (Made B)). IsPrepared suits (plan_of means base steps) k (kept_by base y.kept) z) same (subst (λ (z : Step O). IsPrepared suits (plan_of means base steps) k (kept_by base z.kept) r) kept is))
  prepared_one k x r there is (suc i) y q e f = absurd (none-some q f)

  pub damage_here : (t : Task) → IsTask means formed suits base steps t → (x : Step O) → slice_get steps t.place ≡ Some x → (os : List ChangeState) → os ≡ t.operands
      → length (damage_by base.extent (means x.op) (reckoned (step_of means base x)) os) ≡ length (damage_at (plan_of means base steps) t.place)
  damage_here t task x there os same =
      ap (λ o. length (damage_by base.extent (means x.op) (reckoned (step_of means base x)) o)) (same ∙ task.is)
      ∙ ap (λ (d : StepDef). length (damage_by base.extent d.op (reckoned d) (operands_at (plan_of means base steps) t.place))) (sym (step_is means base steps t.place x there))

-- ---- one task after another

pub drop_at : {X : Type 0} (xs : List X) (i : ℕ) (x : X) → slice_get xs i ≡ Some x → drop i xs ≡ x ∷ drop (i + 1) xs
drop_at xs i x e = drop_more xs i x (slice_get_within xs i x e) ∙ ap (λ y. y ∷ drop (i + 1) xs) (get_or_from_slice_get xs i x x e)

pub take_at : {X : Type 0} (xs : List X) (i : ℕ) (x : X) → slice_get xs i ≡ Some x → take (i + 1) xs ≡ take i xs ++ x ∷ []
take_at xs i x e = take_more xs i x (slice_get_within xs i x e) ∙ ap (λ y. take i xs ++ y ∷ []) (get_or_from_slice_get xs i x x e)

-- the sum over the places of one task more
pub places_more : (f : ℕ → ℕ) (ts : List Task) (i : ℕ) (t : Task) → slice_get ts i ≡ Some t → sum_by f (places_of (take (i + 1) ts)) ≡ sum_by f (places_of (take i ts)) + f t.place
places_more f ts i t e =
    ap (sum_by f) (ap places_of (take_at ts i t e) ∙ map_push (λ (t : Task). t.place) (take i ts) t) ∙ sum_by_push f (places_of (take i ts)) t.place

module _ {O B : Type 0} (means : O → Op) (formed : O → Type 0) (suits : Size → Op → List Cells → Aside B → Type 0) (base : Base B) (steps : List (Step O)) (first end : ℕ) (ts : List Task) where
  -- the first i tasks are in the list, with all that stay before the next one
  pub record IsFinished (i : ℕ) (more : List (Option (Made B))) : Type 0 where
    pub between : AreBetween (StaysAt means suits base steps) (first + length more) end (places_of (drop i ts))
    pub prepared : ArePrepared means suits base steps first more
    pub most : first + length more ≤ end

  pub none_finished : AreTasks means formed suits base steps first end ts → first ≤ end → (more : List (Option (Made B))) → more ≡ [] → IsFinished 0 more
  none_finished tasks some more e = subst (IsFinished 0) (sym e) (record {
    between = let same : first ≡ first + 0 = omega arith in subst (λ k. AreBetween (StaysAt means suits base steps) k end (places_of ts)) same tasks.between;
    prepared = λ i x r there is. absurd cc;
    most = omega arith;
  })

  module _ (i : ℕ) (more : List (Option (Made B))) (so_far : IsFinished i more) where
    module _ (t : Task) (at : slice_get ts i ≡ Some t) where
      with_next : AreBetween (StaysAt means suits base steps) (first + length more) end (t.place ∷ places_of (drop (i + 1) ts))
      with_next = subst (λ us. AreBetween (StaysAt means suits base steps) (first + length more) end (places_of us)) (drop_at ts i t at) so_far.between

      pub place_above : first + length more ≤ t.place
      place_above = with_next.0

      -- one task more
      pub finished_more : (task : IsTask means formed suits base steps t) (x : Step O) → slice_get steps t.place ≡ Some x → (filled next : List (Option (Made B))) (m : Made B) → IsFilled (t.place - first) more filled
          → (os : List ChangeState) → os ≡ t.operands → IsMade suits base.extent (step_of means base x) os (kept_by base x.kept) (Some m) → next ≡ filled ++ Some m ∷ [] → IsFinished (i + 1) next
      finished_more task x there filled next m fill os same made is =
          let above = place_above in
          let meets : first + length filled ≡ t.place = omega (arith, above, fill.count) in
          let these = prepared_filled means formed suits base steps first (t.place - first) more filled so_far.prepared fill (λ k from below. with_next.2 k from (omega (arith, above, below))) in
          let one = prepared_one means formed suits base steps t.place x (Some m) there (made_at means formed suits base steps t task x there os same (Some m) made) in
          let all = prepared_then means suits base steps first t.place filled (Some m ∷ []) these one meets in
          let past : suc t.place ≡ first + length (filled ++ Some m ∷ []) = omega (arith, meets, length_push filled (Some m)) in
          subst (IsFinished (i + 1)) (sym is) (record {
            between = subst (λ k. AreBetween (StaysAt means suits base steps) k end (places_of (drop (i + 1) ts))) past with_next.3;
            prepared = all;
            most = omega (arith, past, with_next.1);
          })

    -- after the last task
    rest_none : length ts ≤ i → AreBetween (StaysAt means suits base steps) (first + length more) end []
    rest_none past = subst (λ us. AreBetween (StaysAt means suits base steps) (first + length more) end (places_of us)) (drop_of_length-le ts past) so_far.between

    pub finished_all : length ts ≤ i → (filled : List (Option (Made B))) → first ≤ end → IsFilled (end - first) more filled → ArePrepared means suits base steps first filled
    finished_all past filled some fill = prepared_filled means formed suits base steps first (end - first) more filled so_far.prepared fill (λ k from below. rest_none past k from (omega (arith, some, below)))

-- ---- the looks at the first tasks, within those at all

pub tally_most : (p : Plan) (i : ℕ) (ts : List Task) (a b : TallyState) → RisesBy (2 * sum_by (λ k. length (damage_at p k)) (places_of (take i ts))) 0 a b → RisesBy (2 * sum_by (λ k. length (damage_at p k)) (places_of ts)) 0 a b
tally_most p i ts a b so_far =
    let f : ℕ → ℕ = λ k. length (damage_at p k) in
    let most = subst (λ (xs : List ℕ). sum_by f xs ≤ sum_by f (places_of ts)) (take-map (λ (t : Task). t.place) i ts) (sum_by-take-le f (places_of ts) i) in
    rises_within _ _ _ _ a b (omega (arith, most)) (omega arith) so_far

pub tally_more : (p : Plan) (i : ℕ) (ts : List Task) (t : Task) (n : ℕ) (a b c : TallyState) → slice_get ts i ≡ Some t → n ≡ length (damage_at p t.place) → RisesBy (2 * sum_by (λ k. length (damage_at p k)) (places_of (take i ts))) 0 a b → RisesBy (2 * n) 0 b c
    → RisesBy (2 * sum_by (λ k. length (damage_at p k)) (places_of (take (i + 1) ts))) 0 a c
tally_more p i ts t n a b c at same so_far here =
    let more = places_more (λ k. length (damage_at p k)) ts i t at in
    rises_within _ _ _ _ a c (omega (arith, more, same)) (omega arith) (rises_then _ _ _ _ a b c so_far here)

-- ---- the turn of one task

-- what is left of the jobs, and its first
pub record IsNext {O B W : Type 0} (js later : List (JobsState O B W)) (i : ℕ) (j : JobsState O B W) : Type 0 where
  pub within : i < length js
  pub here : slice_get js i ≡ Some j
  pub rest : later ≡ drop (i + 1) js

pub next_of : {O B W : Type 0} (js queue later : List (JobsState O B W)) (i : ℕ) (j : JobsState O B W) → queue ≡ drop i js → queue ≡ j ∷ later → IsNext js later i j
next_of js queue later i j e f =
    let first = left_first i js later j (sym e ∙ f) in
    record { within = slice_get_within js i j first.0; here = first.0; rest = sym first.1 }

-- the turn of a task and its jobs among all: what is known of them, and what is left of the answers before and after
pub record IsTurn {O B W R : Type 0} (means : O → Op) (formed : O → Type 0) (suits : Size → Op → List Cells → Aside B → Type 0) (sound : JobsState O B W → Type 0) (first : JobsState O B W → ℕ) (looks picks : JobsState O B W → ℕ → ℕ)
    (pieces : JobsState O B W → ℕ → Result R KernelRefusal → Type 0) (base : Base B) (steps : List (Step O)) (ts : List Task) (js : List (JobsState O B W)) (rs : List (Result R KernelRefusal)) (i : ℕ) (t : Task) (j : JobsState O B W) : Type 0 where
  pub at : slice_get ts i ≡ Some t
  pub task : IsTask means formed suits base steps t
  pub jobs : AreJobs means sound first looks picks pieces j
  pub operands : j.operands ≡ t.operands
  pub over : (x : Step O) → slice_get steps t.place ≡ Some x → AreOver j base.extent x.op j.operands (reckoned_kept base x)
  pub faultless : (x : Step O) → slice_get steps t.place ≡ Some x → AllOk (row_of js rs i) → fault_in base.extent (means x.op) (cells_after j.operands) ≡ None
  pub some : (n : ℕ) → n + all_jobs (take i js) ≡ length rs → j.count ≤ n
  pub ok : (items : List (Result R KernelRefusal)) → items ≡ drop (all_jobs (take i js)) rs → AllOk (row_of js rs i) → AllOk (take j.count items)
  pub each : (items : List (Result R KernelRefusal)) → items ≡ drop (all_jobs (take i js)) rs → (ps : List R) → length ps ≡ j.count
      → ((k : ℕ) (p : R) → slice_get ps k ≡ Some p → slice_get items k ≡ Some (Ok p)) → (k : ℕ) (p : R) → slice_get ps k ≡ Some p → pieces j k (Ok p)
  pub rest : (items next : List (Result R KernelRefusal)) → items ≡ drop (all_jobs (take i js)) rs → next ≡ drop j.count items → next ≡ drop (all_jobs (take (i + 1) js)) rs
  pub left : (n m : ℕ) → n + all_jobs (take i js) ≡ length rs → m + j.count ≡ n → m + all_jobs (take (i + 1) js) ≡ length rs

pub turn_of : {O B W R : Type 0} (means : O → Op) (formed : O → Type 0) (suits : Size → Op → List Cells → Aside B → Type 0) (sound : JobsState O B W → Type 0) (first : JobsState O B W → ℕ) (looks picks : JobsState O B W → ℕ → ℕ)
    (pieces : JobsState O B W → ℕ → Result R KernelRefusal → Type 0) (base : Base B) (steps : List (Step O)) (ts : List Task) (js later : List (JobsState O B W)) (rs : List (Result R KernelRefusal)) (low end i : ℕ) (t : Task) (j : JobsState O B W)
    → AreTasks means formed suits base steps low end ts → AreBegun means sound first looks picks pieces base steps ts js → length js ≡ length ts → AreAnswered pieces js rs → IsNext js later i j → t ≡ get_or ts i t
    → IsTurn means formed suits sound first looks picks pieces base steps ts js rs i t j
turn_of means formed suits sound first looks picks pieces base steps ts js later rs low end i t j tasks are all answered next read =
    let here = next.here in
    let at = slice_get_read ts (length ts) i t refl (omega (arith, next.within, all)) read in
    let task = all_get (IsTask means formed suits base steps) ts tasks.each i t at in
    let begun = begun_get means formed suits sound first looks picks pieces base steps ts js i t j are at here in
    let found = some_at steps t.place task.below in
    let more = jobs_more js i j here in
    record {
      at = at;
      task = task;
      jobs = begun.jobs;
      operands = (begun.over found.0 found.1).operands;
      over = λ x there. let over = begun.over x there in record { size = over.size; op = over.op; operands = refl; kept = over.kept };
      faultless = λ x there ok.
          let over = begun.over x there in
          sym (ap (λ s. fault_in s (means j.op) (cells_after j.operands)) over.size ∙ ap (λ o. fault_in base.extent (means o) (cells_after j.operands)) over.op)
          ∙ begun.jobs.none_wide (row_of js rs i) (row_answers pieces js rs answered i j here) ok;
      some = λ n left. omega (arith, left, jobs_within js i j here, answered.count);
      ok = λ items is ok. subst AllOk (row_is pieces js rs i j here ∙ ap (take j.count) (sym is)) ok;
      each = λ items is ps all each k p e.
          answer_at pieces js rs answered i k j (Ok p) here (omega (arith, slice_get_within ps k p e, all)) (ap (λ xs. slice_get xs k) (sym is) ∙ each k p e);
      rest = λ items next is e. e ∙ ap (drop j.count) is ∙ drop-drop j.count (all_jobs (take i js)) rs ∙ ap (λ n. drop n rs) (sym more);
      left = λ n m left e. omega (arith, left, e, more);
    }

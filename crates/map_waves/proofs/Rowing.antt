-- The tickets of several statements, and their answers.
use Rattle.std.proofs.Common.{◌≡◌, ℕ, zero, suc, ◌+◌, ◌-◌, ◌<◌, ◌≤◌, nat_lt, true, false, List, [], ◌∷◌, length, get_or, take, slice_get, Some, if◌then◌else◌, ◌⊎◌, inl, inr, refl, ap, subst, ◌∙◌, arith, min, drop, map, Option, option_map, Result, sym, ◌++◌, None, Err, is_ok}
use Rattle.std.specs.List.{range_with_len}
use Rattle.std.specs.List.Sorted.{IsNonDecreasingBy, IsPartitionedBy, IsPartitionPoint}
use Rattle.std.specs.Prelude.{nat_le, slice_index, sum_by, IfSome}
use Rattle.std.proofs.lemmas.Option.{none-some, slice_get_within, slice_get-get_or, get_or_from_slice_get, slice_get_read, slice_get-map}
use Rattle.std.proofs.lemmas.List.{get_or_default, take_all, length-take, length-take-le, length-drop, get_or-take, take_more}
use Rattle.std.proofs.lemmas.List.Sorted.{IsPartitionedBy-leb, IsNonDecreasingBy-from_all_adjacent}
use Rattle.std.proofs.lemmas.List.Sums.{sum_by-cons, sum_by_more, sum_by-take-le}
use Rattle.std.proofs.lemmas.Bool.{lt-ltb, le-ltb, leb-true, leb-false, cases_lt, true≢false}
use Rattle.layer_tiles.specs.Tallies.{TallyState, RisesBy}
use Rattle.layer_tiles.specs.declared.kernels.KernelRefusal.{KernelRefusal}
use Rattle.layer_tiles.specs.declared.kernels.KernelRefusal.TheVariants.{Overflow, NoMemory}
use Rattle.map_waves.specs.Jobs.{JobsState}
use Rattle.map_waves.specs.Answers.{total_of, AreAnswers, IsLeastOverflow}
use Rattle.map_waves.specs.Seating.{all_jobs, all_rises, seat_of, rise_of, AreStarts, row_of, AreAnswered}
use Rattle.map_waves.specs.Refusals.{IsSoFar, lesser_of}
use Rattle.map_waves.proofs.Totals.{total_start, total_same, total_split}
use Rattle.map_waves.proofs.Phasing.{each_pushed}

module _ {O B W : Type 0} where
  abbrev count_of : JobsState O B W → ℕ
  count_of j = j.count

  seat_here : (j : JobsState O B W) (js : List (JobsState O B W)) (t : ℕ) → t < j.count → seat_of (j ∷ js) t ≡ Some (j, t)
  seat_here j js t less = let yes : nat_lt t j.count ≡ true = lt-ltb t j.count less in ap (λ b. if b then Some (j, t) else seat_of js (t - j.count)) yes

  seat_later : (j : JobsState O B W) (js : List (JobsState O B W)) (t : ℕ) → j.count ≤ t → seat_of (j ∷ js) t ≡ seat_of js (t - j.count)
  seat_later j js t more = let not : nat_lt t j.count ≡ false = le-ltb t j.count more in ap (λ b. if b then Some (j, t) else seat_of js (t - j.count)) not

  -- the tickets' greatest rises add up to those of the statements
  pub rises_in_turn : (rise : JobsState O B W → ℕ → ℕ) (js : List (JobsState O B W)) → total_of (λ t. rise_of rise (seat_of js t)) (all_jobs js) ≡ all_rises rise js
  rises_in_turn rise [] = total_start (λ t. rise_of rise (seat_of [] t))
  rises_in_turn rise (j ∷ js) =
      let f : ℕ → ℕ = λ t. rise_of rise (seat_of (j ∷ js) t) in
      let split = total_split f j.count (all_jobs js) in
      let own : total_of f j.count ≡ total_of (rise j) j.count = total_same f (rise j) j.count (λ t h. ap (rise_of rise) (seat_here j js t h)) in
      let later : total_of (λ i. f (j.count + i)) (all_jobs js) ≡ total_of (λ t. rise_of rise (seat_of js t)) (all_jobs js) =
      total_same (λ i. f (j.count + i)) (λ t. rise_of rise (seat_of js t)) (all_jobs js)
      (λ i h. let same : j.count + i - j.count ≡ i = omega arith in ap (rise_of rise) (seat_later j js (j.count + i) (omega arith) ∙ ap (seat_of js) same)) in
      let count : all_jobs (j ∷ js) ≡ j.count + all_jobs js = sum_by-cons count_of j js in
      let sum : all_rises rise (j ∷ js) ≡ total_of (rise j) j.count + all_rises rise js = sum_by-cons (λ (j : JobsState O B W). total_of (rise j) j.count) j js in
      ap (total_of f) count ∙ omega (arith, split, own, later, rises_in_turn rise js, sum)

  -- so a run of all tickets rises by what the statements' jobs do
  pub rises_by : (js : List (JobsState O B W)) (looks picks : JobsState O B W → ℕ → ℕ) (n : ℕ) (a b : TallyState)
      → RisesBy (sum_by (λ t. rise_of looks (seat_of js t)) (range_with_len 0 n)) (sum_by (λ t. rise_of picks (seat_of js t)) (range_with_len 0 n)) a b → n ≡ all_jobs js → RisesBy (all_rises looks js) (all_rises picks js) a b
  rises_by js looks picks n a b so_far all =
      let in_turn = λ (rise : JobsState O B W → ℕ → ℕ). ap (total_of (λ t. rise_of rise (seat_of js t))) all ∙ rises_in_turn rise js in
      subst (λ (p : ℕ). RisesBy (all_rises looks js) p a b) (in_turn picks) (subst (λ (l : ℕ). RisesBy l (total_of (λ t. rise_of picks (seat_of js t)) n) a b) (in_turn looks) so_far)

  -- job k of statement i has the ticket that follows all jobs of the statements before
  pub seat_at : (js : List (JobsState O B W)) (i k : ℕ) (j : JobsState O B W) → slice_get js i ≡ Some j → k < j.count → seat_of js (all_jobs (take i js) + k) ≡ Some (j, k)
  seat_at [] i k j is less = absurd (none-some j is)
  seat_at (o ∷ js) zero k j is less =
      let same : o ≡ j = cc in
      let count : o.count ≡ j.count = ap count_of same in
      let start : all_jobs (take 0 (o ∷ js)) + k ≡ k = omega arith in
      ap (seat_of (o ∷ js)) start ∙ seat_here o js k (omega arith) ∙ ap (λ j. Some (j, k)) same
  seat_at (o ∷ js) (suc i) k j is less =
      let rest = seat_at js i k j is less in
      let count : all_jobs (take (suc i) (o ∷ js)) ≡ o.count + all_jobs (take i js) = sum_by-cons count_of o (take i js) in
      let low : o.count ≤ all_jobs (take (suc i) (o ∷ js)) + k = omega arith in
      let left : all_jobs (take (suc i) (o ∷ js)) + k - o.count ≡ all_jobs (take i js) + k = omega arith in
      seat_later o js (all_jobs (take (suc i) (o ∷ js)) + k) low ∙ ap (seat_of js) left ∙ rest

  -- the first ticket of the next statement
  pub jobs_more : (js : List (JobsState O B W)) (i : ℕ) (j : JobsState O B W) → slice_get js i ≡ Some j → all_jobs (take (i + 1) js) ≡ all_jobs (take i js) + j.count
  jobs_more js i j is = sum_by_more count_of js i j (slice_get_within js i j is) ∙ ap (λ (k : JobsState O B W). all_jobs (take i js) + k.count) (get_or_from_slice_get js i j j is)

  pub jobs_within : (js : List (JobsState O B W)) (i : ℕ) (j : JobsState O B W) → slice_get js i ≡ Some j → all_jobs (take i js) + j.count ≤ all_jobs js
  jobs_within js i j is = let more = jobs_more js i j is in let most = sum_by-take-le count_of js (i + 1) in omega (arith, more, most)

  -- ---- the statement of a ticket

  starts_rise : (js : List (JobsState O B W)) (starts : List ℕ) → AreStarts js starts → IsNonDecreasingBy (λ (s : ℕ). s) starts
  starts_rise js starts are =
      IsNonDecreasingBy-from_all_adjacent (λ (s : ℕ). s) starts
      (λ k d l.
      let n = are.count in
      let here = are.each k (omega arith) in
      let next = are.each (k + 1) (omega arith) in
      let a = get_or_default starts k d 0 (omega arith) in
      let b = get_or_default starts (k + 1) d 0 l in
      omega (arith, here, next, a, b, rises js k (omega arith)))
    where
      rises : (js : List (JobsState O B W)) (k : ℕ) → k < length js → all_jobs (take k js) ≤ all_jobs (take (k + 1) js)
      rises [] k h = absurd (omega arith)
      rises (o ∷ js) k h = omega (arith, sum_by_more count_of (o ∷ js) k o h)

  pub starts_partitioned : (js : List (JobsState O B W)) (starts : List ℕ) (t : ℕ) → AreStarts js starts → IsPartitionedBy (λ s. nat_le s t) starts
  starts_partitioned js starts t are = IsPartitionedBy-leb (λ (s : ℕ). s) starts t (starts_rise js starts are)

-- the statement and the job of a ticket: the statement before the first of those whose first tickets are above it
pub record IsSought {O B W : Type 0} (js : List (JobsState O B W)) (starts : List ℕ) (t past : ℕ) : Type 0 where
  pub some : 0 < past
  pub within : past - 1 < length js
  pub low : slice_index starts (past - 1) ≤ t
  pub below : (d : JobsState O B W) → t - slice_index starts (past - 1) < (get_or js (past - 1) d).count
  pub seat : (d : JobsState O B W) → seat_of js t ≡ Some (get_or js (past - 1) d, t - slice_index starts (past - 1))

module _ {O B W : Type 0} (js : List (JobsState O B W)) (starts : List ℕ) (t past : ℕ) (are : AreStarts js starts) (below : t < all_jobs js) (most : past ≤ length starts)
    (point : IsPartitionPoint (λ s. nat_le s t ≡ true) (λ s. nat_le s t ≡ false) starts past) where
  some_past : 0 < past
  some_past = go (cases_lt 0 past) js refl below
    where
      go : (0 < past) ⊎ (past ≤ 0) → (ks : List (JobsState O B W)) → js ≡ ks → t < all_jobs ks → 0 < past
      go (inl h) ks same less = h
      go (inr h) [] same less = absurd (omega arith)
      go (inr h) (k ∷ ks) same less =
          let count = are.count in
          let some : 0 < length js = omega (arith, ap (λ (xs : List (JobsState O B W)). length xs) same) in
          let start = are.each 0 some in
          absurd (omega (arith, leb-false (get_or starts 0 0) t (point.1 0 0 h (omega arith)), start))

  next_above : t < all_jobs (take past js)
  next_above = go (cases_lt past (length starts))
    where
      go : (past < length starts) ⊎ (length starts ≤ past) → t < all_jobs (take past js)
      go (inl less) =
          let count = are.count in
          let above = leb-false (get_or starts past 0) t (point.1 past 0 (omega arith) less) in
          omega (arith, above, are.each past (omega arith))
      go (inr more) = let count = are.count in let all : all_jobs (take past js) ≡ all_jobs js = ap all_jobs (take_all past js (omega arith)) in omega (arith, all, below)

  pub sought : IsSought js starts t past
  sought =
      let count = are.count in
      let some = some_past in
      let within : past - 1 < length js = omega arith in
      let start = are.each (past - 1) within in
      let low : slice_index starts (past - 1) ≤ t = leb-true (get_or starts (past - 1) 0) t (point.0 (past - 1) 0 (omega arith) (omega arith)) in
      let high = next_above in
      let at : t ≡ all_jobs (take (past - 1) js) + (t - slice_index starts (past - 1)) = omega (arith, start, low) in
      let less = λ (d : JobsState O B W).
      let more = jobs_more js (past - 1) (get_or js (past - 1) d) (slice_get-get_or js (past - 1) d within) in
      let same : all_jobs (take (past - 1 + 1) js) ≡ all_jobs (take past js) = let e : past - 1 + 1 ≡ past = omega arith in ap (λ n. all_jobs (take n js)) e in
      let least : t - slice_index starts (past - 1) < (get_or js (past - 1) d).count = omega (arith, more, same, start, low, high) in
      least in
      record {
        some = some;
        within = within;
        low = low;
        below = less;
        seat = λ d. ap (seat_of js) at ∙ seat_at js (past - 1) (t - slice_index starts (past - 1)) (get_or js (past - 1) d) (slice_get-get_or js (past - 1) d within) (less d);
      }

-- ---- the answers of one statement among those of all tickets

module _ {X : Type 0} where
  pub drop_get : (a : ℕ) (xs : List X) (k : ℕ) → slice_get (drop a xs) k ≡ slice_get xs (a + k)
  drop_get zero xs k = let same : k ≡ 0 + k = omega arith in ap (slice_get xs) same
  drop_get (suc a) [] k = refl
  drop_get (suc a) (x ∷ xs) k = drop_get a xs k ∙ (let same : suc (a + k) ≡ suc a + k = omega arith in ap (slice_get (x ∷ xs)) same)

  pub take_get : (n : ℕ) (xs : List X) (k : ℕ) (d : X) → slice_get (take n xs) k ≡ Some d → slice_get xs k ≡ Some d
  take_get n xs k d e =
      let within : k < min n (length xs) = omega (arith, slice_get_within (take n xs) k d e, length-take n xs) in
      slice_get_read xs (length xs) k d refl (omega arith) (sym (get_or_from_slice_get (take n xs) k d d e) ∙ get_or-take n xs k d (omega arith))

  pub get_take : (n : ℕ) (xs : List X) (k : ℕ) (d : X) → k < n → slice_get xs k ≡ Some d → slice_get (take n xs) k ≡ Some d
  get_take n xs k d h e =
      slice_get_read (take n xs) (length (take n xs)) k d refl (omega (arith, length-take n xs, slice_get_within xs k d e)) (sym (get_or-take n xs k d h ∙ get_or_from_slice_get xs k d d e))

  pub map_get : {Y : Type 0} (f : X → Y) (xs : List X) (i : ℕ) (x : X) → slice_get xs i ≡ Some x → slice_get (map f xs) i ≡ Some (f x)
  map_get f xs i x e = slice_get-map f xs i ∙ ap (option_map f) e

  pub some_at : (xs : List X) (i : ℕ) → i < length xs → (x : X) × (slice_get xs i ≡ Some x)
  some_at [] i h = absurd (omega arith)
  some_at (x ∷ xs) zero h = (x, refl)
  some_at (x ∷ xs) (suc i) h = some_at xs i (omega arith)

module _ {O B W R : Type 0} (pieces : JobsState O B W → ℕ → Result R KernelRefusal → Type 0) (js : List (JobsState O B W)) (rs : List (Result R KernelRefusal)) where
  -- the row of a statement begins with its first ticket and has an answer for each job
  pub row_is : (i : ℕ) (j : JobsState O B W) → slice_get js i ≡ Some j → row_of js rs i ≡ take j.count (drop (all_jobs (take i js)) rs)
  row_is i j e =
      let count : all_jobs (take (i + 1) js) - all_jobs (take i js) ≡ j.count = omega (arith, jobs_more js i j e) in
      ap (λ n. take n (drop (all_jobs (take i js)) rs)) count

  module _ (answered : AreAnswered pieces js rs) where
    pub left_count : (i : ℕ) (j : JobsState O B W) → slice_get js i ≡ Some j → j.count ≤ length (drop (all_jobs (take i js)) rs)
    left_count i j e =
        omega (arith, jobs_within js i j e, answered.count, length-drop (all_jobs (take i js)) rs)

    -- an answer of a job
    pub answer_at : (i k : ℕ) (j : JobsState O B W) (d : Result R KernelRefusal) → slice_get js i ≡ Some j → k < j.count → slice_get (drop (all_jobs (take i js)) rs) k ≡ Some d → pieces j k d
    answer_at i k j d e less f =
        subst (λ (o : Option (JobsState O B W × ℕ)). IfSome o (λ q. pieces q.0 q.1 d)) (seat_at js i k j e less)
        (answered.each (all_jobs (take i js) + k) d (sym (drop_get (all_jobs (take i js)) rs k) ∙ f))

    pub row_answers : (i : ℕ) (j : JobsState O B W) → slice_get js i ≡ Some j → AreAnswers pieces j (row_of js rs i)
    row_answers i j e = subst (AreAnswers pieces j) (sym (row_is i j e)) (record {
      count = length-take-le j.count (drop (all_jobs (take i js)) rs) (left_count i j e);
      each = λ k d f.
          let count = length-take-le j.count (drop (all_jobs (take i js)) rs) (left_count i j e) in
          answer_at i k j d e (omega (arith, slice_get_within (take j.count (drop (all_jobs (take i js)) rs)) k d f, count)) (take_get j.count (drop (all_jobs (take i js)) rs) k d f);
    })

-- ---- answers that are looked through

module _ {R : Type 0} where
  put_left : (xs : List (Result R KernelRefusal)) (y d : Result R KernelRefusal) (k : ℕ) → slice_get xs k ≡ Some d → slice_get (xs ++ y ∷ []) k ≡ Some d
  put_left (x ∷ xs) y d zero e = e
  put_left (x ∷ xs) y d (suc k) e = put_left xs y d k e
  put_left [] y d k e = absurd cc

  put_last : (xs : List (Result R KernelRefusal)) (y : Result R KernelRefusal) → slice_get (xs ++ y ∷ []) (length xs) ≡ Some y
  put_last [] y = refl
  put_last (x ∷ xs) y = put_last xs y

  same_at : (a b : ℕ) → ◌≡◌ {A = Result R KernelRefusal} (Err (Overflow a)) (Err (Overflow b)) → a ≡ b
  same_at a b e = cc

  -- none of some answers wants memory
  abbrev HasEnough : List (Result R KernelRefusal) → Type 0
  HasEnough rs = (k : ℕ) → slice_get rs k ≡ Some (Err NoMemory) → ⊥

  ok_enough : (xs : List (Result R KernelRefusal)) → IsSoFar xs None → HasEnough xs
  ok_enough xs so_far k e = absurd (true≢false (sym (so_far k (Err NoMemory) e)))

  module _ (xs : List (Result R KernelRefusal)) (y : Result R KernelRefusal) where
    enough_pushed : (y ≡ Err NoMemory → ⊥) → HasEnough xs → HasEnough (xs ++ y ∷ [])
    enough_pushed other old k e = each_pushed (λ k d. d ≡ Err NoMemory → ⊥) xs y (length xs) refl (λ k d h f. old k (h ∙ ap (λ z. Some z) f)) other k (Err NoMemory) e refl

    other_than : (at : ℕ) → y ≡ Err (Overflow at) → y ≡ Err NoMemory → ⊥
    other_than at is f = let both : Err (Overflow at) ≡ y = sym is in let same : ◌≡◌ {A = Result R KernelRefusal} (Err (Overflow at)) (Err NoMemory) = both ∙ f in absurd cc

    ok_pushed : is_ok y ≡ true → (l : Option ℕ) → IsSoFar xs l → IsSoFar (xs ++ y ∷ []) l
    ok_pushed ok None so_far = each_pushed (λ k d. is_ok d ≡ true) xs y (length xs) refl so_far ok
    ok_pushed ok (Some at) so_far = record {
      place = so_far.place;
      is = put_left xs y (Err (Overflow at)) so_far.place so_far.is;
      least = λ k b e. each_pushed (λ k d. (b : ℕ) → d ≡ Err (Overflow b) → at ≤ b) xs y (length xs) refl (λ k d h b f. so_far.least k b (h ∙ ap (λ z. Some z) f))
          (λ b f. absurd (true≢false (sym ok ∙ ap is_ok f))) k (Err (Overflow b)) e b refl;
      enough = enough_pushed (λ f. absurd (true≢false (sym ok ∙ ap is_ok f))) so_far.enough;
    }

    overflow_pushed : (at : ℕ) → y ≡ Err (Overflow at) → (l : Option ℕ) → IsSoFar xs l → IsSoFar (xs ++ y ∷ []) (Some (lesser_of l at))
    overflow_pushed at is None so_far = record {
      place = length xs;
      is = put_last xs y ∙ ap (λ z. Some z) is;
      least = λ k b e. each_pushed (λ k d. (b : ℕ) → d ≡ Err (Overflow b) → at ≤ b) xs y (length xs) refl (λ k d h b f. absurd (true≢false (sym (so_far k d h) ∙ ap is_ok f)))
          (λ b f. let both : Err (Overflow at) ≡ y = sym is in let same : at ≡ b = same_at at b (both ∙ f) in omega arith) k (Err (Overflow b)) e b refl;
      enough = enough_pushed (other_than at is) (ok_enough xs so_far);
    }
    overflow_pushed at is (Some old) so_far = go (either (cases_lt old at))
      where
        either : (old < at) ⊎ (at ≤ old) → (old ≤ at) ⊎ (at ≤ old)
        either (inl h) = inl (omega arith)
        either (inr h) = inr h

        bound : (k b : ℕ) → slice_get (xs ++ y ∷ []) k ≡ Some (Err (Overflow b)) → min old at ≤ b
        bound k b e = each_pushed (λ k d. (b : ℕ) → d ≡ Err (Overflow b) → min old at ≤ b) xs y (length xs) refl
            (λ k d h b f. let low = so_far.least k b (h ∙ ap (λ z. Some z) f) in omega arith)
            (λ b f. let same : at ≡ b = same_at at b (sym is ∙ f) in omega arith) k (Err (Overflow b)) e b refl

        go : (old ≤ at) ⊎ (at ≤ old) → IsLeastOverflow (xs ++ y ∷ []) (min old at)
        go (inl h) = let same : old ≡ min old at = omega arith in
            record { place = so_far.place; is = put_left xs y (Err (Overflow old)) so_far.place so_far.is ∙ ap (λ a. Some (Err (Overflow a))) same; least = bound; enough = enough_pushed (other_than at is) so_far.enough }
        go (inr h) = let same : at ≡ min old at = omega arith in
            record { place = length xs; is = put_last xs y ∙ ap (λ z. Some z) is ∙ ap (λ a. Some (Err (Overflow a))) same; least = bound; enough = enough_pushed (other_than at is) so_far.enough }

  module _ (rs : List (Result R KernelRefusal)) (i : ℕ) (x : Result R KernelRefusal) (within : i < length rs) (read : x ≡ get_or rs i x) where
    next : take (i + 1) rs ≡ take i rs ++ x ∷ []
    next = take_more rs i x within ∙ ap (λ z. take i rs ++ z ∷ []) (sym read)

    pub so_far_ok : is_ok x ≡ true → (l : Option ℕ) → IsSoFar (take i rs) l → IsSoFar (take (i + 1) rs) l
    so_far_ok ok l so_far = subst (λ (ys : List (Result R KernelRefusal)). IsSoFar ys l) (sym next) (ok_pushed (take i rs) x ok l so_far)

    pub so_far_overflow : (at : ℕ) → x ≡ Err (Overflow at) → (l : Option ℕ) → IsSoFar (take i rs) l → IsSoFar (take (i + 1) rs) (Some (lesser_of l at))
    so_far_overflow at is l so_far = subst (λ (ys : List (Result R KernelRefusal)). IsSoFar ys (Some (lesser_of l at))) (sym next) (overflow_pushed (take i rs) x at is l so_far)

-- the first of what is left of a list
pub left_first : {X : Type 0} (k : ℕ) (xs ys : List X) (x : X) → drop k xs ≡ x ∷ ys → (slice_get xs k ≡ Some x) × (drop (k + 1) xs ≡ ys)
left_first zero xs ys x e = (ap (λ zs. slice_get zs 0) e, ap (drop 1) e)
left_first (suc k) [] ys x e = absurd cc
left_first (suc k) (z ∷ zs) ys x e =
    let rest = left_first k zs ys x e in
    let next : suc k + 1 ≡ suc (k + 1) = omega arith in
    (rest.0, ap (λ n. drop n (z ∷ zs)) next ∙ rest.1)

-- What is gathered from the shifts, one after another.
use Rattle.std.proofs.Common.{◌≡◌, ◌≢◌, ℕ, zero, suc, ◌+◌, ◌-◌, ◌*◌, ◌<◌, ◌≤◌, ◌⊎◌, inl, inr, Bool, true, false, List, [], ◌∷◌, ◌++◌, map, length, sym, refl, ap, ◌∙◌, ⊎_elim, subst, arith, length-append}
use Rattle.std.specs.Prelude.{sum_by, All, Some, option_to_list}
use Rattle.std.proofs.lemmas.List.Sums.{sum_by-append, sum_by_push}
use Rattle.std.proofs.lemmas.List.Elements.{All-append, All-pop}
use mathlib.Core.List.{map-append}
use Rattle.layer_tiles.specs.Tallies.{TallyState, absorbed}
use Rattle.atomic_table.specs.Seated.{TableId}
use Rattle.tile_workers.specs.declared.laid.Laid.{Laid}
use Rattle.tile_workers.specs.declared.shift.Shift.{Shift}
use Rattle.tile_workers.specs.declared.shift.Gathered.{Gathered}
use Rattle.tile_workers.specs.declared.seat.View.{View}
use Rattle.tile_workers.specs.Lists.{one_if, times, merged}
use Rattle.tile_workers.specs.Tickets.{both_views}
use Rattle.tile_workers.specs.Seats.{seat_view, drawn, share}
use Rattle.tile_workers.specs.Phases.{job_part, added, IsEnded, tickets, AreAnswered, AllStand, job_answers}
use Rattle.tile_workers.specs.Shifts.{IsDone, IsGathering, shift_share}
use Rattle.tile_workers.proofs.Numbers.{times_merged, length_merged, sum_merged}

ended_merged : (jobs : ℕ) (xs ys : List ℕ) → IsEnded jobs xs → IsEnded jobs (merged xs ys)
ended_merged jobs xs ys (inl h) = inl (omega (arith, length_merged xs ys))
ended_merged jobs xs ys (inr h) = inr (h.0, h.1, (let some_there = h.2 in omega (arith, times_merged h.0 xs ys)))

module _ {D : Type 0} where
  tickets_append : (a b : List (Laid D)) (x : ℕ) → times x (tickets (a ++ b)) ≡ times x (tickets a) + times x (tickets b)
  tickets_append a b x = ap (λ (l : List ℕ). times x l) (map-append (λ (t : Laid D). t.ticket) a b) ∙ sum_by-append (λ y. one_if (Rattle.std.proofs.Common.eqb y x)) (tickets a) (tickets b)

  answered_merged : (jobs : ℕ) (xs ys : List ℕ) (a b : List (Laid D)) → AreAnswered jobs xs a → AreAnswered jobs ys b → AreAnswered jobs (merged xs ys) (a ++ b)
  answered_merged jobs xs ys a b h k x less = let p = h x less in let q = k x less in omega (arith, tickets_append a b x, times_merged x xs ys)

module _ {M D : Type 0} {state : M → TallyState} {table : TableId} {jobs : ℕ} {looks picks : ℕ → ℕ} {answers : ℕ → D → Type 0} {shares workers keep : ℕ} {before : TallyState} where
  pub begins : {all : Gathered D} (s : Shift M D) {whole : List (Shift M D)} (left : List (Shift M D)) {now : TallyState} → whole ≡ left ++ option_to_list (Some s) → All (IsDone state table jobs looks picks answers) whole
      → all.seat ≡ s.seat → all.laid ≡ s.laid → all.is_short ≡ s.is_short → now ≡ absorbed before (state s.part)
      → sum_by shift_share whole ≡ shares → length whole ≡ workers → before.is_part ≡ false → before.parts_out ≡ keep + workers → IsGathering state table jobs looks picks answers shares workers keep before now all left
  begins {all} s {whole} left {now} is every seat laid short tally total count kind parts =
      let r = All-pop (IsDone state table jobs looks picks answers) whole left (Some s) is every in let d = r.1 in
      let list : drawn all.seat ≡ drawn s.seat = ap drawn seat in
      let mine : share all.seat ≡ share s.seat = ap share seat in
      let long : length whole ≡ length left + 1 = ap length is ∙ length-append left (s ∷ []) in
      let n : length (drawn all.seat) ≡ length (drawn s.seat) = ap length list in record {
        own = ap (λ (t : _). t.inner.table_id) seat ∙ d.own;
        shares_left = let e = ap (λ (l : List (Shift M D)). sum_by shift_share l) is in omega (arith, sum_by_push shift_share left s);
        few = let f = d.few in let e : workers * (jobs + 1) ≡ (length left + 1) * (jobs + 1) = ap (λ (k : ℕ). k * (jobs + 1)) (sym count ∙ long) in omega arith;
        ended = λ h. subst (λ (xs : List ℕ). IsEnded jobs xs) (sym list) (d.ended (sym short ∙ h));
        answered = λ h. subst (λ (z : List ℕ × List (Laid D)). AreAnswered jobs z.0 z.1) (λ i. (sym list i, (sym laid i).items)) (d.answered (sym short ∙ h));
        stand = subst (λ (l : List (Laid D)). AllStand (job_answers jobs answers) l) (sym (ap (λ (v : _). v.items) laid)) d.stand;
        looks_bound = let f = d.looks_bound in let e = ap (λ (t : TallyState). t.looks) tally in let a = ap (λ (xs : List ℕ). added jobs looks xs) list in omega arith;
        picks_bound = let f = d.picks_bound in let e = ap (λ (t : TallyState). t.picks) tally in let a = ap (λ (xs : List ℕ). added jobs picks xs) list in omega arith;
        parts = let e = ap (λ (t : TallyState). t.parts_out) tally in omega arith;
        kind = ap (λ (t : TallyState). t.is_part) tally ∙ kind;
        done = r.0;
      }

  pub steps : {all all' : Gathered D} (s : Shift M D) {whole : List (Shift M D)} (left : List (Shift M D)) {now now' : TallyState} → IsGathering state table jobs looks picks answers shares workers keep before now all whole → whole ≡ left ++ option_to_list (Some s)
      → all'.seat.inner.table_id ≡ all.seat.inner.table_id → seat_view all'.seat ≡ both_views (seat_view all.seat) (seat_view s.seat)
      → (all'.is_short ≡ false → (all.is_short ≡ false) × (s.is_short ≡ false) × (all'.laid.items ≡ all.laid.items ++ s.laid.items))
      → (all'.laid.items ≡ all.laid.items) ⊎ (all'.laid.items ≡ all.laid.items ++ s.laid.items)
      → now' ≡ absorbed now (state s.part) → IsGathering state table jobs looks picks answers shares workers keep before now' all' left
  steps {all} {all'} s {whole} left {now} {now'} g is own seat laid kept tally =
      let r = All-pop (IsDone state table jobs looks picks answers) whole left (Some s) is g.done in let d = r.1 in
      let list : drawn all'.seat ≡ merged (drawn all.seat) (drawn s.seat) = ap (λ (v : View). v.drawn) seat in
      let mine : share all'.seat ≡ share all.seat + share s.seat = ap (λ (v : View). v.share) seat in
      let long : length whole ≡ length left + 1 = ap length is ∙ length-append left (s ∷ []) in
      let n : length (drawn all'.seat) ≡ length (drawn all.seat) + length (drawn s.seat) = ap length list ∙ length_merged (drawn all.seat) (drawn s.seat) in record {
        own = own ∙ g.own;
        shares_left = let h = g.shares_left in let e = ap (λ (l : List (Shift M D)). sum_by shift_share l) is in omega (arith, sum_by_push shift_share left s);
        few = let f = d.few in let h = g.few in let e : length whole * (jobs + 1) ≡ (length left + 1) * (jobs + 1) = ap (λ (k : ℕ). k * (jobs + 1)) long in omega arith;
        ended = λ h. subst (λ (xs : List ℕ). IsEnded jobs xs) (sym list) (ended_merged jobs (drawn all.seat) (drawn s.seat) (g.ended (laid h).0));
        answered = λ h. subst (λ (z : List ℕ × List (Laid D)). AreAnswered jobs z.0 z.1) (λ i. (sym list i, sym (laid h).2 i))
            (answered_merged jobs (drawn all.seat) (drawn s.seat) all.laid.items s.laid.items (g.answered (laid h).0) (d.answered (laid h).1));
        stand = ⊎_elim (λ e. subst (λ (l : List (Laid D)). AllStand (job_answers jobs answers) l) (sym e) g.stand)
            (λ e. subst (λ (l : List (Laid D)). AllStand (job_answers jobs answers) l) (sym e) (All-append (λ (a : Laid D). job_answers jobs answers a.ticket a.done) all.laid.items s.laid.items g.stand d.stand)) kept;
        looks_bound = let f = d.looks_bound in let h = g.looks_bound in let e = ap (λ (t : TallyState). t.looks) tally in let a = ap (λ (xs : List ℕ). added jobs looks xs) list in
            omega (arith, sum_merged (job_part jobs looks) (drawn all.seat) (drawn s.seat));
        picks_bound = let f = d.picks_bound in let h = g.picks_bound in let e = ap (λ (t : TallyState). t.picks) tally in let a = ap (λ (xs : List ℕ). added jobs picks xs) list in
            omega (arith, sum_merged (job_part jobs picks) (drawn all.seat) (drawn s.seat));
        parts = let h = g.parts in let e = ap (λ (t : TallyState). t.parts_out) tally in omega arith;
        kind = ap (λ (t : TallyState). t.is_part) tally ∙ g.kind;
        done = r.0;
      }

  pub last_done : {now : TallyState} {all : Gathered D} (s : Shift M D) {whole : List (Shift M D)} (left : List (Shift M D)) → IsGathering state table jobs looks picks answers shares workers keep before now all whole → whole ≡ left ++ option_to_list (Some s) → IsDone state table jobs looks picks answers s
  last_done {now} {all} s {whole} left g is = (All-pop (IsDone state table jobs looks picks answers) whole left (Some s) is g.done).1

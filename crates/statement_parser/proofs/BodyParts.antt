-- The parts of statements: each operation's, a call's, and a body's.
use Rattle.std.proofs.Common.{◌≡◌, ◌+◌, ◌≤◌, ℕ, zero, suc, ℤ, pos, Bool, true, false, cond, not, ◌&&◌, List, [], ◌∷◌, ◌++◌, length, Option, Some, None, Ok, refl, sym, ap, subst, ◌∙◌, arith, length-append}
use Rattle.std.specs.Prelude.{codes, is_some, bytes_eq, IsTrue}
use Rattle.map_nums.specs.declared.Stat.{Stat}
use Rattle.map_nums.specs.declared.Stat.TheVariants as stats
use Rattle.map_nums.specs.declared.Rate.{Rate}
use Rattle.map_nums.specs.Numbers.{is_value, greatest_value}
use Rattle.map_words.specs.Bytes.{Text}
use Rattle.map_words.specs.Names.{has_name_form, is_plain}
use Rattle.grammar_core.specs.declared.Kind.{Kind}
use Rattle.grammar_core.specs.Rules.{Rule, fail, Derives, on, next, after, also, or_rule, ◌<|>◌}
use Rattle.grammar_core.specs.Refusals.{Begins, is_unknown, opens_next}
use Rattle.grammar_core.specs.Run.{run, refused}
use Rattle.grammar_core.specs.Readers.{◌>>=◌, one_at}
use Rattle.grammar_core.proofs.FirstFault.{KnownBodies, nothing}
use Rattle.grammar_core.proofs.Ends.{ends_on, ends_next, ends_or}
use Rattle.grammar_core.proofs.Parts.{Healthy, Tail, through, all_on, all_or, tail_next}
use Rattle.grammar_core.proofs.Reading.{pick, Reads, or_else, or_refused}
use Rattle.layer_tiles.specs.Cells.{IsCell}
use Rattle.map_defs.specs.Facts.{facts}
use Rattle.map_defs.specs.Ops.{Term, number_term, Head, Op, of_one, of_two, local_op, rating_op, focal_op, direction_op, flow_op, sight_op}
use Rattle.map_defs.specs.Statements.{Written, plain, call}
use Rattle.statement_parser.specs.Lines.{Manner, Line}
use Rattle.statement_parser.specs.Scopes.{Scope}
use Rattle.statement_parser.specs.Operations.{operation_of, operation_named}
use Rattle.statement_parser.specs.Syntax.{Syntax, one_term, two_terms, many_terms, rated, around, spreading, draining, syntax_of}
use Rattle.statement_parser.specs.Places.{the, maybe, value_of, disc_of, reach_of, limit_of, term_of, weights_of, cell_of, name_of, call_of, tests, reading}
use Rattle.statement_parser.specs.Bodies.{term_after, further_terms, optional_part, ignoring_part, statistic_body, single_body, pair_body, rate_part, with_rates, rating_body, radius_part, sight_part, radiates, focal_body, friction_part, spread_body, drainage_op, drainage_body, syntax_body, operation_body, call_body, body_rule}
use Rattle.statement_parser.specs.ReadParts.{term_after_at, further_at, optional_at, range_at, rate_at, with_at, friction_at}
use Rattle.statement_parser.specs.ReadBodies.{nulls_at, ignoring_at, statistic_at, pair_at, two_at, single_at, rating_at, radius_at, sight_at, reaching_at, focal_at, costs_at, spread_at, drainage_at, syntax_at, given_at, call_at, plain_at, named_at, body_at}
use Rattle.statement_parser.specs.Formed.{Each, InScope, AreInScope, IsTerm, IsRate, IsNoProduct, IsHead, IsOp, IsWritten}
use Rattle.statement_parser.specs.There.{HasRow, MayIgnore, MayBe, IsOpThere, IsWrittenThere}
use Rattle.statement_parser.specs.declared.operation.Operation.{Operation}
use Rattle.statement_parser.specs.declared.operation.Operation.TheVariants.{Local, Rating, Focal, Proximity, Neighbor, Incremental, Drainage}
use Rattle.statement_parser.proofs.FormedLines.{both_true, not_true, either_some, name_formed, AreWeights, IsTermIn, IsRow, operation_formed_row, form_again}
use Rattle.statement_parser.proofs.PlaceFacts.{IsFree, IsOpen, value_open, cell_open, term_open, disc_open, reach_open, limit_open, weights_open, the_place, call_place, operation_takes, operation_number, word_in, word_free}
use Rattle.statement_parser.proofs.Placing.{placed_k, either_place}
use Rattle.statement_parser.proofs.Parts.{IsStop, IsLocal, bind, one, IsGood, Formed, Tails, Goes, IsPart, one_part, pure_part, weaker, then_part, word_then, either_part}

pub all-push : {A : Type 0} (P : A → Type 0) (xs : List A) (y : A) → Each P xs → P y → Each P (xs ++ y ∷ [])
all-push P [] y a p = (p, tt)
all-push P (x ∷ xs) y a p = (a.0, all-push P xs y a.1 p)

-- so many at least, and with n more so many at most
abbrev pub IsRun : {A : Type 0} → (A → Type 0) → ℕ → ℕ → ℕ → List A → Type 0
IsRun P least most n xs = (least ≤ length xs) × (length xs + n ≤ most) × Each P xs

pub run-push : {A : Type 0} (P : A → Type 0) (least most n : ℕ) (xs : List A) (y : A) → IsRun P least most (suc n) xs → P y → IsRun P least most n (xs ++ y ∷ [])
run-push P least most n xs y r p = (omega (arith, length-append xs (y ∷ [])), omega (arith, length-append xs (y ∷ [])), all-push P xs y r.2 p)

pub all_left : {A : Type 0} (P Q : A → Type 0) (xs : List A) → Each (λ x. P x × Q x) xs → Each P xs
all_left P Q [] a = tt
all_left P Q (x ∷ xs) a = (a.0.0, all_left P Q xs a.1)

pub all_right : {A : Type 0} (P Q : A → Type 0) (xs : List A) → Each (λ x. P x × Q x) xs → Each Q xs
all_right P Q [] a = tt
all_right P Q (x ∷ xs) a = (a.0.1, all_right P Q xs a.1)

module _ (m : Manner) (scope : Scope) where
  abbrev IsIn : Term → Type 0
  IsIn t = IsTermIn scope t

  abbrev IsValue : ℤ → Type 0
  IsValue z = IsTrue (is_value z)

  -- ---- parts of operations

  value_part : IsPart m IsValue (one_at reading value_of true) (next value_of)
  value_part = one_part m value_of true (value_open m)

  term_part : IsPart m IsIn (one_at reading (term_of scope) true) (next (term_of scope))
  term_part = one_part m (term_of scope) true (term_open m scope)

  -- a word and a term
  after_part : (word : Text) → IsFree word → IsPart m IsIn (term_after_at scope word) (term_after scope word)
  unfolding term_after_at
  after_part word e = word_then m word e term_part

  further_part : (word : Text) → IsFree word → bytes_eq (codes ";") word ≡ false → (least most n : ℕ) (ts : List Term)
      → IsPart m (λ us. IsRun IsIn least most n ts → IsRun IsIn least most 0 us) (further_at scope word n ts) (λ r. further_terms scope word r n ts)
  unfolding further_at
  further_part word e s least most zero ts = pure_part m ts (λ run. run)
  further_part word e s least most (suc n) ts =
      let more = λ (t : Term). further_part word e s least most n (ts ++ t ∷ []) in
      either_part m true word e s
      (λ here. then_part m (after_part word e) (λ t. weaker m (more t) (λ us given p run. given (run-push IsIn least most n ts t run p))))
      (λ r tails. term_part.tail (λ t. further_terms scope word r n (ts ++ t ∷ [])) (λ t. (more t).tail r tails))
      (pure_part m ts (λ run. (run.0, omega arith, run.2)))

  -- a word and a place, which may be left out: what holds of the default
  optional_is : {A : Type 0} {P : A → Type 0} (word : Text) → IsFree word → bytes_eq (codes ";") word ≡ false → (f : Text → Option A) (default : A) → IsOpen m P f true
      → IsPart m (λ v. P default → P v) (optional_at word f default) (optional_part word f default)
  unfolding optional_at
  optional_is word e s f default o = either_part m true word e s (λ here. word_then m word e (weaker m (one_part m f true o) (λ v p d. p))) (one_part m f true o).tail (pure_part m default (λ d. d))

  -- ---- operations

  -- an operation that may stand in the scope
  abbrev IsKept : Op → Type 0
  IsKept op = IsOp op × IsOpThere m op × Each (InScope scope) op.terms

  -- a head that may be written
  abbrev IsGoodHead : Head → Type 0
  IsGoodHead head = IsHead head × HasRow m (operation_of head) × MayBe m head

  abbrev Takes : ℕ → Head → Type 0
  Takes n head = ((facts head).least ≤ n) × (n ≤ (facts head).most)

  kept : (op : Op) → IsGoodHead op.head → Takes (length op.terms) op.head → Each IsIn op.terms → IsKept op
  kept op h n p = ((h.0, n, all_left IsTerm (InScope scope) op.terms p), (h.1, h.2), all_right IsTerm (InScope scope) op.terms p)

  nulls_part : m.ignoring ≡ true → IsPart m (MayIgnore m) nulls_at (λ r. next (the (codes "ignoring")) (λ _. next (the (codes "nulls")) (λ _. r true)))
  unfolding nulls_at
  nulls_part there = word_then m (codes "ignoring") (refl, refl) (word_then m (codes "nulls") (refl, refl) (pure_part m true there))

  ignoring_is : IsPart m (MayIgnore m) (ignoring_at m) (ignoring_part m)
  unfolding ignoring_at
  ignoring_is =
      either_part m m.ignoring (codes "ignoring") (refl, refl) refl nulls_part
      (λ r tails. tail_next (tests m) (the (codes "nulls")) (λ _. r true) (codes "nulls") tt refl refl (λ u. (tails true).healthy)) (pure_part m false tt)

  statistic_part : (s : Stat) → IsPart m (λ op. HasRow m (Local s) → IsKept op) (statistic_at scope m s) (statistic_body scope m s)
  unfolding statistic_at
  statistic_part s =
      then_part m (after_part (codes "of") (refl, refl)) (λ a. then_part m (after_part (codes "and") (refl, refl)) (λ b.
      then_part m (further_part (codes "and") (refl, refl) refl 2 8 6 (a ∷ b ∷ [])) (λ ts. then_part m ignoring_is (λ ignoring.
      pure_part m (local_op s ignoring ts) (λ may given q p there. (let run = given (omega arith, omega arith, (p, (q, tt))) in kept (local_op s ignoring ts) (tt, there, may) (run.0, omega arith) run.2))))))

  single_part : (head : Head) → IsPart m (λ op. Takes 1 head → IsGoodHead head → IsKept op) (single_at scope head) (single_body scope head)
  unfolding single_at
  single_part head = then_part m (after_part (codes "of") (refl, refl)) (λ a. pure_part m (of_one head a) (λ p n good. kept (of_one head a) good n (p, tt)))

  pair_part : (word : Text) → IsFree word → IsPart m (λ p. IsIn p.0 × IsIn p.1) (pair_at scope word) (λ r. term_after scope (codes "of") (λ a. term_after scope word (λ b. r (a, b))))
  unfolding pair_at
  pair_part word e = then_part m (after_part (codes "of") (refl, refl)) (λ a. then_part m (after_part word e) (λ b. pure_part m (a, b) (λ q p. (p, q))))

  two_part : (word : Text) → IsFree word → (head : Head) → IsPart m (λ op. Takes 2 head → IsGoodHead head → IsKept op) (two_at scope word head) (pair_body scope word head)
  unfolding two_at
  two_part word e head = then_part m (pair_part word e) (λ p. pure_part m (of_two head p.0 p.1) (λ q n good. kept (of_two head p.0 p.1) good n (q.0, (q.1, tt))))

  range_part : (give : Option ℤ) → IsPart m (λ rate. IsCell give → IsRate rate) (range_at give)
      (λ r. next (the (codes "for")) (λ _. next value_of (λ low. optional_part (codes "to") value_of low (λ high. r (record { low = low; high = high; give = give })))))
  unfolding range_at
  range_part give =
      word_then m (codes "for") (refl, refl) (then_part m value_part (λ low. then_part m (optional_is (codes "to") (refl, refl) refl value_of low (value_open m)) (λ high.
      pure_part m (record { low = low; high = high; give = give }) (λ h l g. record { low = l; high = h l; give = g }))))

  rate_is : IsPart m IsRate rate_at rate_part
  unfolding rate_at
  rate_is = then_part m (one_part m cell_of true (cell_open m)) range_part

  with_part : (n : ℕ) (rs : List Rate) → IsPart m (λ us. IsRun IsRate 1 32 n rs → IsRun IsRate 1 32 0 us) (with_at n rs) (λ r. with_rates r n rs)
  unfolding with_at
  with_part zero rs = pure_part m rs (λ run. run)
  with_part (suc n) rs =
      let more = λ (one : Rate). with_part n (rs ++ one ∷ []) in
      either_part m true (codes "with") (refl, refl) refl
      (λ here. word_then m (codes "with") (refl, refl) (then_part m rate_is (λ one. weaker m (more one) (λ us given p run. given (run-push IsRate 1 32 n rs one run p)))))
      (λ r tails. rate_is.tail (λ one. with_rates r n (rs ++ one ∷ [])) (λ one. (more one).tail r tails))
      (pure_part m rs (λ run. (run.0, omega arith, run.2)))

  rating_part : IsPart m (λ op. HasRow m Rating → IsKept op) (rating_at scope) (rating_body scope)
  unfolding rating_at
  rating_part =
      then_part m (after_part (codes "of") (refl, refl)) (λ a. word_then m (codes "with") (refl, refl) (then_part m rate_is (λ one. then_part m (with_part 31 (one ∷ [])) (λ rs.
      pure_part m (rating_op a rs) (λ given q p there. (let run = given (omega arith, omega arith, (q, tt)) in kept (rating_op a rs) (((run.0, omega arith), run.2), there, tt) (omega arith, omega arith) (p, tt)))))))

  -- what follows the term of a Focal statistic
  abbrev IsNear : Stat → Term → Op → Type 0
  IsNear s a op = IsIn a → IsNoProduct s → HasRow m (Focal s) → IsKept op

  radius_is : (s : Stat) (a : Term) → IsPart m (IsNear s a) (radius_at s a) (radius_part s a)
  unfolding radius_at
  radius_is s a =
      then_part m (optional_is (codes "at") (refl, refl) refl disc_of None (disc_open m)) (λ d.
      pure_part m (focal_op s d a) (λ r p row there. kept (focal_op s d a) ((row, r tt), there, tt) (omega arith, omega arith) (p, tt)))

  sight_is : (a : Term) → m.sight ≡ true → IsPart m (IsNear stats.Sum a) (sight_at scope a) (λ r. next (the (codes "radiating")) (λ _. sight_part scope a r))
  unfolding sight_at
  sight_is a seen =
      word_then m (codes "radiating") (refl, refl) (then_part m (after_part (codes "on") (refl, refl)) (λ u.
      then_part m (optional_is (codes "from") (refl, refl) refl value_of (pos 0) (value_open m)) (λ from.
      then_part m (optional_is (codes "to") (refl, refl) refl value_of (pos 0) (value_open m)) (λ to.
      then_part m (optional_is (codes "within") (refl, refl) refl reach_of 64 (reach_open m)) (λ reach.
      pure_part m (sight_op (record { from = from; to = to; reach = reach }) a u) (λ l t f q p row there.
      kept (sight_op (record { from = from; to = to; reach = reach }) a u) (record { from = f refl; to = t refl; reach = l (omega arith, omega arith) }, there, seen) (omega arith, omega arith) (p, (q, tt))))))))

  -- only a sum radiates, where it may
  radiating_is : (s : Stat) (a : Term) → radiates m s ≡ true → IsPart m (IsNear s a) (sight_at scope a) (λ r. next (the (codes "radiating")) (λ _. sight_part scope a r))
  radiating_is stats.Sum a seen = sight_is a seen
  radiating_is s a seen = absurd cc

  reaching_part : (s : Stat) (a : Term) → IsPart m (IsNear s a) (reaching_at scope m s a) (λ r. also (on (maybe (radiates m s) (the (codes "radiating"))) (λ _. sight_part scope a r)) (radius_part s a r))
  unfolding reaching_at
  reaching_part s a = either_part m {l = radius_part s a} (radiates m s) (codes "radiating") (refl, refl) refl (radiating_is s a) (sight_tail a) (radius_is s a)
    where
      sight_tail : (a : Term) (r : Op → Rule Text Line) → Tails m r → Tail (tests m) (sight_part scope a r)
      sight_tail a r tails =
          (after_part (codes "on") (refl, refl)).tail _ (λ u. (optional_is (codes "from") (refl, refl) refl value_of (pos 0) (value_open m)).tail _ (λ from.
          (optional_is (codes "to") (refl, refl) refl value_of (pos 0) (value_open m)).tail _ (λ to.
          (optional_is (codes "within") (refl, refl) refl reach_of 64 (reach_open m)).tail _ (λ reach. tails (sight_op (record { from = from; to = to; reach = reach }) a u)))))

  focal_part : (s : Stat) → IsPart m (λ op. IsNoProduct s → HasRow m (Focal s) → IsKept op) (focal_at scope m s) (focal_body scope m s)
  unfolding focal_at
  focal_part s = then_part m (after_part (codes "of") (refl, refl)) (reaching_part s)

  friction_is : IsPart m IsIn (friction_at scope) (friction_part scope)
  unfolding friction_at
  friction_is =
      either_part m true (codes "spreading") (refl, refl) refl (λ here. word_then m (codes "spreading") (refl, refl) (after_part (codes "in") (refl, refl))) (after_part (codes "in") (refl, refl)).tail
      (pure_part m (number_term (pos 1)) (refl, tt))

  -- sources, friction and limit
  costs_part : IsPart m (λ c. IsIn c.0 × IsIn c.1 × (c.2 ≤ greatest_value)) (costs_at scope)
      (λ r. term_after scope (codes "of") (λ a. friction_part scope (λ friction. optional_part (codes "within") limit_of greatest_value (λ limit. r (a, friction, limit)))))
  unfolding costs_at
  costs_part =
      then_part m (after_part (codes "of") (refl, refl)) (λ a. then_part m friction_is (λ friction.
      then_part m (optional_is (codes "within") (refl, refl) refl limit_of greatest_value (limit_open m)) (λ limit.
      pure_part m (a, friction, limit) (λ l q p. (p, q, (l (omega arith, omega arith)).1)))))

  abbrev AreGoodHeads : (ℕ → Head) → Type 0
  AreGoodHeads make = (limit : ℕ) → limit ≤ greatest_value → Takes 2 (make limit) × IsGoodHead (make limit)

  spread_part : (make : ℕ → Head) → IsPart m (λ op. AreGoodHeads make → IsKept op) (spread_at scope make) (spread_body scope make)
  unfolding spread_at
  spread_part make = then_part m costs_part (λ c. pure_part m (of_two (make c.2) c.0 c.1) (λ p good. (let g = good c.2 p.2 in kept (of_two (make c.2) c.0 c.1) g.1 g.0 (p.0, (p.1, tt)))))

  drainage_part : IsPart m (λ op. HasRow m Drainage → IsKept op) (drainage_at scope) (drainage_body scope)
  unfolding drainage_at
  drainage_part =
      then_part m (after_part (codes "of") (refl, refl)) (λ a. then_part m (optional_is (codes "carrying") (refl, refl) refl (weights_of scope) None (weights_open m scope)) (λ w.
      pure_part m (drainage_op a w) (drained a w)))
    where
      drained : (a : Term) (w : Option Term) → (AreWeights scope None → AreWeights scope w) → IsIn a → HasRow m Drainage → IsKept (drainage_op a w)
      drained a None q p there = kept (direction_op a) (tt, there, tt) (omega arith, omega arith) (p, tt)
      drained a (Some t) q p there = kept (flow_op a t) (tt, there, tt) (omega arith, omega arith) (p, (q tt, tt))

  -- what a syntax asks of the heads that it makes
  abbrev IsGoodForm : Syntax → Type 0
  IsGoodForm (one_term head) = Takes 1 head × IsGoodHead head
  IsGoodForm (two_terms word head) = Takes 2 head × IsGoodHead head
  IsGoodForm (many_terms s) = HasRow m (Local s)
  IsGoodForm rated = HasRow m Rating
  IsGoodForm (around s) = IsNoProduct s × HasRow m (Focal s)
  IsGoodForm (spreading make) = AreGoodHeads make
  IsGoodForm draining = HasRow m Drainage

  good_form : (o : Operation) → HasRow m o → IsRow o → IsGoodForm (syntax_of o)
  good_form (Local s) there row = there
  good_form Rating there row = there
  good_form (Focal s) there row = (row, there)
  good_form Proximity there row = λ limit most. ((omega arith, omega arith), (most, there, tt))
  good_form Neighbor there row = λ limit most. ((omega arith, omega arith), (most, there, tt))
  good_form (Incremental form) there row = ((omega arith, omega arith), (tt, subst (λ g. HasRow m (Incremental g)) (form_again form) there, tt))
  good_form Drainage there row = there
  good_form o there row = ((omega arith, omega arith), (row, there, tt))

  syntax_part : (s : Syntax) → IsFree (word_in s) → IsPart m (λ op. IsGoodForm s → IsKept op) (syntax_at scope m s) (λ r. syntax_body scope m r s)
  syntax_part (one_term head) e = weaker m (single_part head) (λ op h good. h good.0 good.1)
  syntax_part (two_terms word head) e = weaker m (two_part word e head) (λ op h good. h good.0 good.1)
  syntax_part (many_terms s) e = statistic_part s
  syntax_part rated e = rating_part
  syntax_part (around s) e = weaker m (focal_part s) (λ op h good. h good.0 good.1)
  syntax_part (spreading make) e = spread_part make
  syntax_part draining e = drainage_part

  -- ---- bodies

  -- a statement that may stand in the scope
  abbrev pub IsKeptBody : Written → Type 0
  IsKeptBody w = IsWritten w × IsWrittenThere m w × AreInScope scope w

  plain_part : (o : Operation) → IsPart m (λ w. HasRow m o → IsRow o → IsKeptBody w) (plain_at scope m o) (λ r. operation_body scope m (λ op. r (plain op)) o)
  unfolding plain_at
  plain_part o = then_part m (syntax_part (syntax_of o) (word_free o)) (λ op. pure_part m (plain op) (λ k there row. k (good_form o there row)))

  given_part : IsPart m (IsRun IsIn 1 8 0) (given_at scope) (call_body scope)
  unfolding given_at
  given_part =
      then_part m (after_part (codes "(") (refl, refl)) (λ a. then_part m (further_part (codes ",") (refl, refl) refl 1 8 7 (a ∷ [])) (λ ts.
      word_then m (codes ")") (refl, refl) (pure_part m ts (λ given p. given (omega arith, omega arith, (p, tt))))))

  call_part : (q : Text) → IsPart m (λ w. IsTrue (is_plain q) → IsTrue m.calls → IsKeptBody w) (call_at scope q) (λ r. call_body scope (λ ts. r (call q ts)))
  unfolding call_at
  call_part q = then_part m given_part (λ ts. pure_part m (call q ts) (λ run p there. ((p, run.0, omega arith, all_left IsTerm (InScope scope) ts run.2), there, all_right IsTerm (InScope scope) ts run.2)))

  named_local : (us : List Text) → IsStop us → (o : Option Operation) (q : Option Text) → IsLocal us (named_at scope m o q)
  named_local us stop None None ws v rest e = absurd cc
  named_local us stop None (Some q) ws v rest e = (call_part q).local us stop ws v rest e
  named_local us stop (Some o) q ws v rest e = (plain_part o).local us stop ws v rest e

  opens_same : (us ws : List Text) → IsStop us → opens_next (tests m) (ws ++ us) ≡ opens_next (tests m) ws
  opens_same us (w ∷ ws) stop = refl
  opens_same [] [] stop = refl
  opens_same (u ∷ us) [] stop = ap (tests m).opens stop

  -- whatever follows a semicolon
  pub body_local : (us : List Text) → IsStop us → IsLocal us (body_at scope m)
  unfolding body_at
  body_local us stop [] v rest e = absurd cc
  body_local us stop (w ∷ ws) v rest e = go _ _ _ _ (is_unknown (tests m) (w ∷ ws)) refl e
    where
      same : is_unknown (tests m) (w ∷ (ws ++ us)) ≡ is_unknown (tests m) (w ∷ ws)
      same = ap (λ b. (tests m).is_stranger w && not b) (opens_same us ws stop)

      go : (j k : Kind) (l n : ℕ) (b : Bool) → is_unknown (tests m) (w ∷ ws) ≡ b → cond b (refused j l) (named_at scope m (operation_named m w) (call_of m w) ws) ≡ Ok (v, rest)
          → cond (is_unknown (tests m) (w ∷ (ws ++ us))) (refused k n) (named_at scope m (operation_named m w) (call_of m w) (ws ++ us)) ≡ Ok (v, rest ++ us)
      go j k l n true u e = absurd cc
      go j k l n false u e = rw (same ∙ u) (named_local us stop (operation_named m w) (call_of m w) ws v rest e)

  named_then : (o : Option Operation) (p : Option Text) (k : Goes m Written) (ws : List Text)
      → (named_at scope m o p ws >>= λ w. k w.0 w.1) ≡ or_else (tests m) o (or_refused (tests m) p (suc (length ws)) (λ p. call_at scope p ws >>= λ w. k w.0 w.1)) (λ o. plain_at scope m o ws >>= λ w. k w.0 w.1)
  named_then None None k ws = refl
  named_then None (Some p) k ws = refl
  named_then (Some o) p k ws = refl

  pub body_reads : (k : Goes m Written) (r : Written → Rule Text Line) → Tails m r → Reads (tests m) k r → (ws : List Text) → (body_at scope m ws >>= λ w. k w.0 w.1) ≡ run (tests m) (body_rule scope m r) ws
  unfolding body_at run
  body_reads k r tails reads [] = refl
  body_reads k r tails reads (w ∷ ws) =
      pick (is_unknown (tests m) (w ∷ ws)) (suc (length ws)) (named_at scope m (operation_named m w) (call_of m w) ws) _ (λ w. k w.0 w.1) (named_then (operation_named m w) (call_of m w) k ws)
      ∙ either_place m (operation_named m) (call_of m) (λ o ws. plain_at scope m o ws >>= λ w. k w.0 w.1) (λ p ws. call_at scope p ws >>= λ w. k w.0 w.1)
      (operation_body scope m (λ op. r (plain op))) (λ p. call_body scope (λ ts. r (call p ts)))
      (ap is_some (operation_takes m)) (operation_number m) (call_place m) (λ o. ((plain_part o).tail r tails).node) (λ p. refl) (λ o. (plain_part o).reads k r tails reads) (λ p. (call_part p).reads k r tails reads) w ws

  no_operation : (form : Bool) (o : Option Operation) → (form && not (is_some o)) ≡ true → o ≡ None
  no_operation true None e = refl
  no_operation true (Some o) e = absurd cc
  no_operation false o e = absurd cc

  -- a call doesn't go on without its sign
  not_called : (f : List Term → Rule Text Line) (ws : List Text) (x : Line) → opens_next (tests m) ws ≡ false → Derives (call_body scope f) ws x → ⊥
  not_called f [] x e d = absurd cc
  not_called f (w ∷ ws) x e d = go (the (codes "(") w) (rw e refl) d
    where
      go : (o : Option (Unit {0})) → o ≡ None → Derives (after o (λ _. next (term_of scope) (λ a. further_terms scope (codes ",") (λ ts. next (the (codes ")")) (λ _. f ts)) 7 (a ∷ [])))) ws x → ⊥
      go None e d = nothing fail ws x refl d
      go (Some u) e d = absurd cc

  -- no unknown word begins a body
  known_body : (r : Operation → Rule Text Line) (f : Text → List Term → Rule Text Line) → KnownBodies (tests m) (on (operation_named m) r <|> on (call_of m) (λ p. call_body scope (f p)))
  known_body r f b w ws x u d =
      let stranger = both_true (has_name_form w && not (is_some (operation_named m w))) (not (opens_next (tests m) ws)) u in
      go (operation_named m w) (call_of m w) (no_operation (has_name_form w) (operation_named m w) stranger.0) (not_true (opens_next (tests m) ws) stranger.1) d
    where
      go : (o : Option Operation) (p : Option Text) → o ≡ None → opens_next (tests m) ws ≡ false → Derives (or_rule (after o r) (after p (λ p. call_body scope (f p)))) ws x → ⊥
      go None None e n d = nothing fail ws x refl d
      go None (Some p) e n d = not_called (f p) ws x n d
      go (Some o) p e n d = absurd cc

  pub healthy_body : (f : Written → Rule Text Line) → Tails m f → Healthy (tests m) (body_rule scope m f)
  healthy_body f h =
      let operations = operation_body scope m (λ op. f (plain op)) in
      let calls = λ (p : Text). call_body scope (λ ts. f (call p ts)) in
      let begins : Begins (body_rule scope m f) [] = through None (on (operation_named m) operations <|> on (call_of m) calls) (codes "LocalSum")
      (subst (λ o. Begins (or_rule (after o operations) (after (call_of m (codes "LocalSum")) calls)) []) (sym (operation_takes m)) ((plain_part (Local stats.Sum)).tail f h).healthy.begins) in
      record {
        begins = begins;
        sound = (
          begins,
          known_body operations (λ p ts. f (call p ts)),
          all_or (tests m) (on (operation_named m) operations) (on (call_of m) calls)
              (all_on (tests m) (operation_named m) operations (λ o. ((plain_part o).tail f h).healthy)) (all_on (tests m) (call_of m) calls (λ p. ((call_part p).tail f h).healthy)),
        );
      }

  body_formed : (f : Written → Rule Text Line) → ((w : Written) → IsKeptBody w → Formed m (f w)) → Formed m (body_rule scope m f)
  body_formed f h =
      let operations = operation_body scope m (λ op. f (plain op)) in
      let calls = λ (p : Text). call_body scope (λ ts. f (call p ts)) in (
        tt,
        ends_or (IsGood m) (on (operation_named m) operations) (on (call_of m) calls)
            (ends_on (IsGood m) (operation_named m) operations (λ w o e. (let row = operation_formed_row m w o e in (plain_part o).formed f (λ v k. h v (k row.0 row.1)))))
            (ends_on (IsGood m) (call_of m) calls (λ w q e. (let there = either_some m.calls (name_of w) q e in (call_part q).formed f (λ v k. h v (k (name_formed w q there.1) there.0))))),
      )

  -- "=" and a body
  pub equals_body : IsPart m IsKeptBody (λ ws. one_at reading (the (codes "=")) false ws >>= λ u. body_at scope m u.1) (λ r. next (the (codes "=")) (λ _. body_rule scope m r))
  equals_body = record {
    local = λ us stop. bind us (one_at reading (the (codes "=")) false) (λ u. body_at scope m) (one us (the (codes "=")) false) (λ u. body_local us stop);
    reads = λ k r tails reads. placed_k m (the (codes "=")) false (λ u ws. body_at scope m ws) k (λ _. body_rule scope m r) (the_place m (codes "=") (refl, refl)) (λ u. refl) (λ u. body_reads k r tails reads);
    tail = λ r tails. tail_next (tests m) (the (codes "=")) (λ _. body_rule scope m r) (codes "=") tt refl refl (λ u. healthy_body r tails);
    formed = λ r h. ends_next (IsGood m) (the (codes "=")) (λ _. body_rule scope m r) (λ w v e. body_formed r h);
  }

-- A flow is written into a working layer place by place.
use Rattle.std.proofs.Common.{◌≡◌, ◌≢◌, ℕ, zero, suc, ◌+◌, ◌-◌, ◌<◌, ◌≤◌, Bool, true, false, cond, List, [], ◌∷◌, ◌++◌, length, get_or, set, take, Option, Some, None, refl, sym, ◌∙◌, ap, subst, arith, inl, inr, ℤ, pos, negsuc, FitsSigned}
use mir.Syntax.{w128}
use Rattle.map_nums.specs.Widths.{value_width}
use Rattle.std.specs.Prelude.{◌⊎◌, filter, not}
use Rattle.std.specs.List.{range_with_len, Contains}
use Rattle.std.proofs.lemmas.Bool.{cases_lt, cases_Bool}
use Rattle.std.proofs.lemmas.List.{get_or-set_same, get_or-set_other, get_or_default, length-set, take_more}
use Rattle.std.proofs.lemmas.List.Elements.{Contains-get_or}
use Rattle.std.proofs.lemmas.List.FromFn.{length-range_with_len}
use Rattle.layer_tiles.specs.Tallies.{TallyState, RisesBy, picked}
use Rattle.layer_tiles.proofs.Rising.{rises_none, rises_picked, rises_then, rises_within}
use Rattle.map_nums.specs.Grids.{Size, IsSize, Cells, cell_at, cells_in, places}
use Rattle.map_nums.specs.Numbers.{is_value}
use Rattle.map_nums.proofs.Ranges.{magnitude_in_range}
use Rattle.map_defs.specs.Cells.{same_cell}
use Rattle.map_defs.specs.Differences.{differs}
use Rattle.layer_tiles.specs.Tiles.{tile_of}
use Rattle.tile_work.specs.Working.{WorkState, written, IsSameWork}
use Rattle.tile_work.proofs.Slots.{copied_for}
use Rattle.changed_cells.proofs.Joining.{differs_so, differs_is, differs_not, filter_most}
use Rattle.drainage_flow.specs.FlowNets.{number_of}
use Rattle.drainage_flow.specs.Settling.{number_at}
use Rattle.drainage_flow.specs.Mending.{now_at}
use Rattle.drainage_flow.specs.Showing.{shown, shown_at, changes, IsWorked, AreCopiedFor, IsForward, AreGrounded, ArePlaced}
use Rattle.drainage_flow.proofs.Mending.{same_or_not, put_here, put_other}

-- ---- how many places pass

both : (b c : Bool) (x : ℕ) (xs ys : List ℕ) → b ≡ c → length xs ≡ length ys → length (cond b (x ∷ xs) xs) ≡ length (cond c (x ∷ ys) ys)
both true true x xs ys e l = omega (arith, l)
both true false x xs ys e l = absurd (cc)
both false true x xs ys e l = absurd (cc)
both false false x xs ys e l = l

filter_same : (p q : ℕ → Bool) (a n : ℕ) → ((i : ℕ) → a ≤ i → p i ≡ q i) → length (filter p (range_with_len a n)) ≡ length (filter q (range_with_len a n))
filter_same p q a zero h = refl
filter_same p q a (suc n) h = both (p a) (q a) a (filter p (range_with_len (a + 1) n)) (filter q (range_with_len (a + 1) n)) (h a (omega arith)) (filter_same p q (a + 1) n (λ i l. h i (omega (arith, l))))

here_more : (b c : Bool) (x : ℕ) (xs ys : List ℕ) → b ≡ false → c ≡ true → length xs ≡ length ys → length (cond c (x ∷ ys) ys) ≡ length (cond b (x ∷ xs) xs) + 1
here_more true c x xs ys e f l = absurd (cc)
here_more false true x xs ys e f l = omega (arith, l)
here_more false false x xs ys e f l = absurd (cc)

rest_more : (b c : Bool) (x : ℕ) (xs ys : List ℕ) → b ≡ c → length ys ≡ length xs + 1 → length (cond c (x ∷ ys) ys) ≡ length (cond b (x ∷ xs) xs) + 1
rest_more true true x xs ys e l = omega (arith, l)
rest_more true false x xs ys e l = absurd (cc)
rest_more false true x xs ys e l = absurd (cc)
rest_more false false x xs ys e l = l

-- one place more passes
filter_one : (p q : ℕ → Bool) (at a n : ℕ) → a ≤ at → at < a + n → p at ≡ false → q at ≡ true → ((i : ℕ) → i ≢ at → p i ≡ q i) → length (filter q (range_with_len a n)) ≡ length (filter p (range_with_len a n)) + 1
filter_one p q at a zero l m e f h = absurd (omega (arith, l, m))
filter_one p q at a (suc n) l m e f h = elim (same_or_not a at) as (λ _. length (filter q (range_with_len a (suc n))) ≡ length (filter p (range_with_len a (suc n))) + 1) [
  | inl r ↦ here_more (p a) (q a) a (filter p (range_with_len (a + 1) n)) (filter q (range_with_len (a + 1) n)) (ap p r ∙ e) (ap q r ∙ f) (filter_same p q (a + 1) n (λ i k. h i (omega (arith, k, r))))
  | inr r ↦ rest_more (p a) (q a) a (filter p (range_with_len (a + 1) n)) (filter q (range_with_len (a + 1) n)) (h a r) (filter_one p q at (a + 1) n (omega (arith, l, r)) (omega (arith, m)) e f h)
]

module _ (s : Size) (old cells : Cells) (at : ℕ) (cell : Option ℤ) (within : at < cells_in s) (count : length cells ≡ cells_in s) (other : cell ≢ cell_at old at) where
  set_differs : differs old (set cells at cell) at ≡ true
  set_differs = differs_so old (set cells at cell) at (λ e. other (sym (get_or-set_same cells at cell None (omega (arith, count, within))) ∙ sym e))

  set_others : (i : ℕ) → i ≢ at → differs old cells i ≡ differs old (set cells at cell) i
  set_others i n = ap (λ o. not (same_cell (cell_at old i) o)) (sym (get_or-set_other cells at i cell None n))

  changes_fresh : cell_at old at ≡ cell_at cells at → changes s old (set cells at cell) ≡ changes s old cells + 1
  changes_fresh e = filter_one (differs old cells) (differs old (set cells at cell)) at 0 (cells_in s) (omega arith) (omega (arith, within)) same set_differs set_others
    where
      same : differs old cells at ≡ false
      same = elim (cases_Bool (differs old cells at)) as (λ _. differs old cells at ≡ false) [ inl t ↦ absurd (differs_is old cells at t e) | inr f ↦ f ]

  changes_again : cell_at old at ≢ cell_at cells at → changes s old (set cells at cell) ≡ changes s old cells
  changes_again n = sym (filter_same (differs old cells) (differs old (set cells at cell)) 0 (cells_in s) (λ i l. elim (same_or_not i at) as (λ _. differs old cells i ≡ differs old (set cells at cell) i) [
    | inl r ↦ rw (r) (differs_so old cells at n ∙ sym set_differs)
    | inr r ↦ set_others i r
  ]))

-- ---- one place is written

module _ (s : Size) (surface old : Cells) (flow : ℕ → ℤ) (w new : WorkState) (at : ℕ) (z : ℤ) (forward : IsForward surface old flow w at z) (within : at < cells_in s) (size : w.size ≡ s) (differs_now : cell_at w.cells at ≢ shown (cell_at surface at) z) (is : new ≡ written w at (shown (cell_at surface at) z)) where
  pub show_worked : (worked count : ℕ) → IsWorked s old w worked → (cell_at w.cells at ≡ cell_at old at → count ≡ worked + 1) → (cell_at w.cells at ≢ cell_at old at → count ≡ worked) → IsWorked s old new count
  show_worked worked count h more same = rw (is)
      record {
        size = h.size;
        before = h.before;
        count = length-set w.cells at (shown (cell_at surface at) z) ∙ h.count;
        worked = elim (cases_Bool (differs old w.cells at)) as (λ _. count ≡ changes s old (set w.cells at (shown (cell_at surface at) z))) [
          | inl t ↦ (let n : cell_at w.cells at ≢ cell_at old at = λ e. differs_is old w.cells at t (sym e) in
              same n ∙ h.worked ∙ sym (changes_again s old w.cells at (shown (cell_at surface at) z) within h.count (forward.progress n) (λ e. n (sym e))))
          | inr f ↦ (let e : cell_at old at ≡ cell_at w.cells at = differs_not old w.cells at f in
              more (sym e) ∙ ap (λ n. n + 1) h.worked ∙ sym (changes_fresh s old w.cells at (shown (cell_at surface at) z) within h.count (λ q. differs_now (sym e ∙ sym q)) e))
        ];
      }

  pub show_copied : AreCopiedFor s surface old flow w → AreCopiedFor s surface old flow new
  show_copied h = rw (is)
      record {
        each = λ t e. elim (copied_for w.copied (tile_of w.size at) t e) as (λ _. (c : ℕ) × (c < cells_in s) × (tile_of s c ≡ t) × (cell_at old c ≢ shown_at surface flow c)) [
          | inl q ↦ h.each t q
          | inr q ↦ (at, within, ap (λ (x : Size). tile_of x at) (sym size) ∙ sym q, forward.changes differs_now)
        ];
      }

-- ---- grounds

ground_differs : (height o : Option ℤ) (x : ℤ) → o ≢ shown height (number_of o) → o ≢ shown height x
ground_differs None o x n e = n e
ground_differs (Some g) None x n e = absurd (cc)
ground_differs (Some g) (Some y) x n e = absurd (n refl)

pub forward_ground : (s : Size) (surface old : Cells) (changed : List ℕ) (k : ℕ) (w : WorkState) (at : ℕ) (z : ℤ) → AreGrounded s surface old changed k w.cells → at < cells_in s → z ≡ number_at old at → (flow : ℕ → ℤ) → IsForward surface old flow w at z
forward_ground s surface old changed k w at z g l e flow = record {
  changes = λ n. elim (g.each at l) as (λ _. cell_at old at ≢ shown_at surface flow at) [
    | inl q ↦ absurd (n (q ∙ ap (shown (cell_at surface at)) (sym e)))
    | inr q ↦ ground_differs (cell_at surface at) (cell_at old at) (flow at) (λ r. n (q ∙ r ∙ ap (shown (cell_at surface at)) (sym e)))
  ];
  progress = λ m. elim (g.each at l) as (λ _. shown (cell_at surface at) z ≢ cell_at old at) [
    | inl q ↦ (λ r. m (q ∙ ap (shown (cell_at surface at)) (sym e) ∙ r))
    | inr q ↦ absurd (m q)
  ];
}

-- a place that is to differ, whatever the flow
pub ground_at : (s : Size) (surface old : Cells) (changed : List ℕ) (k : ℕ) (w : WorkState) (at : ℕ) (z : ℤ) → AreGrounded s surface old changed k w.cells → at < cells_in s → z ≡ number_at old at → cell_at w.cells at ≢ shown (cell_at surface at) z → (c : ℕ) × (c < cells_in s) × ((flow : ℕ → ℤ) → cell_at old c ≢ shown_at surface flow c)
ground_at s surface old changed k w at z g l e n = (at, l, λ flow. (forward_ground s surface old changed k w at z g l e flow).changes n)

pub grounded_more : (s : Size) (surface old : Cells) (changed : List ℕ) (k : ℕ) (cells new : Cells) (at : ℕ) (z : ℤ) → AreGrounded s surface old changed k cells → length cells ≡ cells_in s → at < cells_in s → at ≡ get_or changed k 0 → z ≡ number_at old at → new ≡ set cells at (shown (cell_at surface at) z) → AreGrounded s surface old changed (k + 1) new
grounded_more s surface old changed k cells new at z g count within is e q = rw (q)
    record {
      each = λ c l. elim (same_or_not c at) as (λ _. (cell_at (set cells at (shown (cell_at surface at) z)) c ≡ shown_at surface (number_at old) c) ⊎ (cell_at (set cells at (shown (cell_at surface at) z)) c ≡ cell_at old c)) [
        | inl r ↦ inl (right c r)
        | inr r ↦ elim (g.each c l) as (λ _. (cell_at (set cells at (shown (cell_at surface at) z)) c ≡ shown_at surface (number_at old) c) ⊎ (cell_at (set cells at (shown (cell_at surface at) z)) c ≡ cell_at old c)) [
          | inl m ↦ inl (get_or-set_other cells at c (shown (cell_at surface at) z) None r ∙ m)
          | inr m ↦ inr (get_or-set_other cells at c (shown (cell_at surface at) z) None r ∙ m)
        ]
      ];
      done = λ j l. elim (same_or_not (get_or changed j 0) at) as (λ _. cell_at (set cells at (shown (cell_at surface at) z)) (get_or changed j 0) ≡ shown_at surface (number_at old) (get_or changed j 0)) [
        | inl r ↦ right (get_or changed j 0) r
        | inr r ↦ elim (cases_lt j k) as (λ _. cell_at (set cells at (shown (cell_at surface at) z)) (get_or changed j 0) ≡ shown_at surface (number_at old) (get_or changed j 0)) [
          | inl m ↦ get_or-set_other cells at (get_or changed j 0) (shown (cell_at surface at) z) None r ∙ g.done j m
          | inr m ↦ (let f : j ≡ k = omega (arith, l, m) in absurd (r (ap (λ i. get_or changed i 0) f ∙ sym is)))
        ]
      ];
    }
  where
    right : (c : ℕ) → c ≡ at → cell_at (set cells at (shown (cell_at surface at) z)) c ≡ shown_at surface (number_at old) c
    right c r = rw (r) (get_or-set_same cells at (shown (cell_at surface at) z) None (omega (arith, count, within)) ∙ ap (shown (cell_at surface at)) e)

pub grounded_all : (s : Size) (surface old : Cells) (changed : List ℕ) (cells : Cells) → AreGrounded s surface old changed (length changed) cells → ((c : ℕ) → c < cells_in s → Contains changed c ⊎ (cell_at old c ≡ shown_at surface (number_at old) c)) → (c : ℕ) → c < cells_in s → cell_at cells c ≡ shown_at surface (number_at old) c
grounded_all s surface old changed cells g listed c l = elim (listed c l) as (λ _. cell_at cells c ≡ shown_at surface (number_at old) c) [
  | inl h ↦ (let e : get_or changed h.0 0 ≡ c = get_or_default changed h.0 0 c h.1 ∙ h.2 in
      subst (λ (x : ℕ). cell_at cells x ≡ shown_at surface (number_at old) x) e (g.done h.0 h.1))
  | inr h ↦ elim (g.each c l) as (λ _. cell_at cells c ≡ shown_at surface (number_at old) c) [ inl m ↦ m | inr m ↦ m ∙ h ]
]

-- ---- flows

some_number : (o : Option ℤ) (x : ℤ) → o ≡ Some x → number_of o ≡ x
some_number o x e = ap number_of e

put_changes : (height o now : Option ℤ) (x y z : ℤ) → now ≡ shown height y → z ≡ x → number_of o ≢ x → now ≢ shown height z → o ≢ shown height x
put_changes None o now x y z e f n m q = absurd (m e)
put_changes (Some g) o now x y z e f n m q = n (some_number o x q)

put_progress : (height o now : Option ℤ) (x y z : ℤ) → now ≡ shown height y → z ≡ x → number_of o ≢ x → now ≢ o → shown height z ≢ o
put_progress None o now x y z e f n m q = m (e ∙ q)
put_progress (Some g) o now x y z e f n m q = n (some_number o z (sym q) ∙ f)

pub forward_flow : (s : Size) (surface old : Cells) (puts shown_puts : List (ℕ × ℤ)) (w : WorkState) (p : ℕ × ℤ) (flow : ℕ → ℤ) → ((c : ℕ) → c < cells_in s → cell_at w.cells c ≡ shown_at surface (now_at (number_at old) shown_puts) c) → ArePlaced s old puts flow → Contains puts p → IsForward surface old flow w p.0 p.1
forward_flow s surface old puts shown_puts w p flow same placed h =
    let q = placed.each p h in
    record {
      changes = put_changes (cell_at surface p.0) (cell_at old p.0) (cell_at w.cells p.0) (flow p.0) (now_at (number_at old) shown_puts p.0) p.1 (same p.0 q.0) q.1 q.2;
      progress = put_progress (cell_at surface p.0) (cell_at old p.0) (cell_at w.cells p.0) (flow p.0) (now_at (number_at old) shown_puts p.0) p.1 (same p.0 q.0) q.1 q.2;
    }

pub flows_more : (s : Size) (surface old : Cells) (puts more : List (ℕ × ℤ)) (cells new : Cells) (p : ℕ × ℤ) → ((c : ℕ) → c < cells_in s → cell_at cells c ≡ shown_at surface (now_at (number_at old) puts) c) → length cells ≡ cells_in s → p.0 < cells_in s → new ≡ set cells p.0 (shown (cell_at surface p.0) p.1) → more ≡ puts ++ p ∷ [] → (c : ℕ) → c < cells_in s → cell_at new c ≡ shown_at surface (now_at (number_at old) more) c
flows_more s surface old puts more cells new (at, z) same count within q m c l = rw (q, m) (elim (same_or_not c at) as (λ _. cell_at (set cells at (shown (cell_at surface at) z)) c ≡ shown_at surface (now_at (number_at old) (puts ++ (at, z) ∷ [])) c) [
  | inl r ↦ rw (r) (get_or-set_same cells at (shown (cell_at surface at) z) None (omega (arith, count, within)) ∙ ap (shown (cell_at surface at)) (sym (put_here (number_at old) puts at z)))
  | inr r ↦ get_or-set_other cells at c (shown (cell_at surface at) z) None r ∙ same c l ∙ ap (shown (cell_at surface c)) (sym (put_other (number_at old) puts at z c (λ e. r (sym e))))
])

pub forward_put : (s : Size) (surface old : Cells) (puts : List (ℕ × ℤ)) (k : ℕ) (d : ℕ × ℤ) (z : ℤ) (w : WorkState) (flow : ℕ → ℤ) → z ≡ (get_or puts k d).1 → ((c : ℕ) → c < cells_in s → cell_at w.cells c ≡ shown_at surface (now_at (number_at old) (take k puts)) c) → ArePlaced s old puts flow → k < length puts → IsForward surface old flow w (get_or puts k d).0 z
forward_put s surface old puts k d z w flow is same placed l = subst (λ (y : ℤ). IsForward surface old flow w (get_or puts k d).0 y) (sym is) (forward_flow s surface old puts (take k puts) w (get_or puts k d) flow same placed (Contains-get_or puts k d l))

pub flows_next : (s : Size) (surface old : Cells) (puts : List (ℕ × ℤ)) (k : ℕ) (d : ℕ × ℤ) (z : ℤ) (cells new : Cells) → z ≡ (get_or puts k d).1 → ((c : ℕ) → c < cells_in s → cell_at cells c ≡ shown_at surface (now_at (number_at old) (take k puts)) c) → length cells ≡ cells_in s → (get_or puts k d).0 < cells_in s → k < length puts → new ≡ set cells (get_or puts k d).0 (shown (cell_at surface (get_or puts k d).0) z) → (c : ℕ) → c < cells_in s → cell_at new c ≡ shown_at surface (now_at (number_at old) (take (k + 1) puts)) c
flows_next s surface old puts k d z cells new is same count within l e =
    flows_more s surface old (take k puts) (take (k + 1) puts) cells new (get_or puts k d) same count within (e ∙ ap (λ (y : ℤ). set cells (get_or puts k d).0 (shown (cell_at surface (get_or puts k d).0) y)) is) (take_more puts k d l)

-- a number that a cell may hold fits the word of a value, and one of 128 bits
pub value_fits : (z : ℤ) → is_value z ≡ true → FitsSigned value_width z
value_fits (pos n) e = record { sfits = omega (arith, magnitude_in_range (pos n) e) }
value_fits (negsuc n) e = record { sfits = omega (arith, magnitude_in_range (negsuc n) e) }

pub value_wide : (z : ℤ) → is_value z ≡ true → FitsSigned w128 z
value_wide (pos n) e = record { sfits = omega (arith, magnitude_in_range (pos n) e) }
value_wide (negsuc n) e = record { sfits = omega (arith, magnitude_in_range (negsuc n) e) }

-- ---- bounds

pub worked_few : (s : Size) (old : Cells) (w : WorkState) (n : ℕ) → IsSize s → IsWorked s old w n → n < 4294967296
worked_few s old w n size h = omega (arith, h.worked, filter_most (differs old w.cells) (places s), length-range_with_len 0 (cells_in s), size.most_cells)

pub same_then : (a b c : WorkState) → IsSameWork a b → IsSameWork b c → IsSameWork a c
same_then a b c h k = record { size = k.size ∙ h.size; before = k.before ∙ h.before; count = k.count ∙ h.count }

pub rises_on : (x y z p q r : ℕ) (a b c : TallyState) → x ≤ y → y ≤ z → p + q ≡ r → RisesBy (y - x) p a b → RisesBy (z - y) q b c → RisesBy (z - x) r a c
rises_on x y z p q r a b c l m e h k = rises_within (y - x + (z - y)) (p + q) (z - x) r a c (omega (arith, l, m)) (omega (arith, e)) (rises_then (y - x) p (z - y) q a b c h k)

pub one_pick : (l : ℕ) (a b c : TallyState) → b ≡ picked 1 a → RisesBy l 3 b c → RisesBy l 4 a c
one_pick l a b c e h = rises_within (0 + l) (1 + 3) l 4 a c (omega arith) (omega arith) (rises_then 0 1 l 3 a b c (rises_within 0 (0 + 1) 0 1 a b (omega arith) (omega arith) (rises_picked 0 0 1 a a b (rises_none a) e)) h)

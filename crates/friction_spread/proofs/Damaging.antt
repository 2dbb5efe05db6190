-- Copied and touched tiles are damaged.
use Rattle.std.proofs.Common.{◌≡◌, ◌≢◌, inl, inr, ℕ, zero, suc, ◌+◌, ◌*◌, ◌<◌, ◌≤◌, Bool, true, false, cond, List, [], ◌∷◌, length, get_or, Option, Some, None, IsSome, refl, sym, ◌∙◌, ap, subst, arith, ℤ}
use Rattle.std.specs.Prelude.{◌||◌, ◌==◌, filter}
use Rattle.std.specs.List.{list_any}
use Rattle.std.proofs.lemmas.Bool.{both_ways, or_cases, or_left, or_right}
use Rattle.std.proofs.lemmas.List.FromFn.{length-range_with_len, get_or-range_with_len}
use Rattle.map_nums.specs.Grids.{Size, IsSize, Cells, cells_in, places}
use Rattle.map_nums.specs.Tiles.{tiles}
use Rattle.map_defs.specs.Damage.{differs, has_changed, tile_has, square_has, op_damage}
use Rattle.map_defs.specs.Ops.{Term, spread_op}
use Rattle.map_defs.specs.Spread.{IsSpread}
use Rattle.map_defs.proofs.Squares.{reach_nought}
use Rattle.layer_tiles.specs.Tiles.{tiles_in, tile_of}
use Rattle.layer_tiles.specs.Changes.{ChangeState, cells_before}
use Rattle.layer_tiles.specs.ChangeFacts.{IsChange, HoldsNoUnchanged}
use Rattle.layer_tiles.proofs.Rounds.{back}
use Rattle.tile_work.specs.Working.{WorkState, copies, base_of}
use Rattle.tile_work.proofs.Copies.{copies_few}
use Rattle.changed_cells.proofs.Joining.{fewer, differs_so}
use Rattle.changed_cells.proofs.Touching.{touched_few, has_so, changed_has}
use Rattle.friction_spread.specs.Costs.{GroundState, cost_of, values}
use Rattle.friction_spread.specs.Copied.{IsMoved, HasMoved, IsCaused}
use Rattle.friction_spread.proofs.Shown.{least_all}

-- ---- counts of tiles

one_kept : (v : Bool) (x : ℕ) (xs : List ℕ) → v ≡ true → 1 ≤ length (cond v (x ∷ xs) xs)
one_kept true x xs e = omega arith
one_kept false x xs e = absurd (both_ways false refl e)

still_kept : (v : Bool) (x : ℕ) (xs : List ℕ) → 1 ≤ length xs → 1 ≤ length (cond v (x ∷ xs) xs)
still_kept true x xs l = omega (arith, l)
still_kept false x xs l = l

some_kept : (p : ℕ → Bool) (xs : List ℕ) (k : ℕ) → k < length xs → p (get_or xs k 0) ≡ true → 1 ≤ length (filter p xs)
some_kept p [] k l e = absurd (omega (arith, l))
some_kept p (x ∷ xs) zero l e = one_kept (p x) x (filter p xs) e
some_kept p (x ∷ xs) (suc k) l e = still_kept (p x) x (filter p xs) (some_kept p xs k (omega (arith, l)) e)

-- ---- tiles with a place whose least cost is another one

module _ (g : GroundState) (cells : Cells) (h : IsSize g.size) (right : IsSpread g.size g.sources g.friction g.limit cells) where
  moved_has : (before : Option (List (Option ℤ))) (old : Cells) (t i : ℕ) → base_of before ≡ old → i < cells_in g.size → t ≡ tile_of g.size i → IsMoved g before i → tile_has g.size (differs old cells) t ≡ true
  moved_has before old t i e l at moved =
      let n = moved (values g.limit cells) (least_all g cells right) in
      let P : Cells → Type 0 = λ xs. values g.limit xs i ≢ values g.limit cells i in
      let m = subst P e n in
      has_so g.size (differs old cells) t i l (differs_so old cells i (λ q. m (ap (cost_of (suc g.limit)) q))) (sym at)

  -- copied tiles have one
  pub copied_few : (w : WorkState) (old : Cells) → base_of w.before ≡ old → IsCaused g w → copies w.copied ≤ length (filter (tile_has g.size (differs old cells)) (tiles g.size))
  copied_few w old e caused =
      copies_few w.copied (tile_has g.size (differs old cells)) 0 (tiles_in g.size)
      (λ t c.
      let r = caused t c in
      let z : 0 + t ≡ t = omega arith in
      (omega (arith, r.2, (back g.size r.0 h r.1).tile), ap (tile_has g.size (differs old cells)) z ∙ moved_has w.before old t r.0 e r.1 r.2 r.3))

  pub some_tile : (w : WorkState) (old : Cells) → base_of w.before ≡ old → HasMoved g w → 1 ≤ length (filter (tile_has g.size (differs old cells)) (tiles g.size))
  some_tile w old e (i, l, moved) =
      let t = tile_of g.size i in
      let b = (back g.size i h l).tile in
      let z : get_or (tiles g.size) t 0 ≡ t = get_or-range_with_len 0 (tiles_in g.size) t 0 b ∙ omega arith in
      some_kept (tile_has g.size (differs old cells)) (tiles g.size) t (omega (arith, b, length-range_with_len 0 (tiles_in g.size))) (ap (tile_has g.size (differs old cells)) z ∙ moved_has w.before old t i e l refl moved)

-- ---- touched tiles

wider_step : (f : ℕ → Bool) (v w : Bool) (x : ℕ) (xs ys : List ℕ) → (v ≡ true → w ≡ true) → (list_any f xs ≡ true → list_any f ys ≡ true) → list_any f (cond v (x ∷ xs) xs) ≡ true → list_any f (cond w (x ∷ ys) ys) ≡ true
wider_step f true true x xs ys h k e = elim (or_cases (f x) (list_any f xs) e) as (λ _. (f x || list_any f ys) ≡ true) [ inl q ↦ or_left (f x) (list_any f ys) q | inr q ↦ or_right (f x) (list_any f ys) (k q) ]
wider_step f true false x xs ys h k e = absurd (both_ways false refl (h refl))
wider_step f false true x xs ys h k e = or_right (f x) (list_any f ys) (k e)
wider_step f false false x xs ys h k e = k e

any_wider : (f p q : ℕ → Bool) (xs : List ℕ) → ((i : ℕ) → p i ≡ true → q i ≡ true) → list_any f (filter p xs) ≡ true → list_any f (filter q xs) ≡ true
any_wider f p q [] h e = e
any_wider f p q (x ∷ xs) h e = wider_step f (p x) (q x) x (filter p xs) (filter q xs) (h x) (any_wider f p q xs h) e

has_wider : (s : Size) (p q : ℕ → Bool) (t : ℕ) → ((i : ℕ) → p i ≡ true → q i ≡ true) → tile_has s p t ≡ true → tile_has s q t ≡ true
has_wider s p q t h e = any_wider (λ i. tile_of s i == t) p q (places s) h e

looks_few : (c : ChangeState) (s : Size) (test p : ℕ → Bool) → c.size ≡ s → IsChange c → IsSome c.before → HoldsNoUnchanged c → ((i : ℕ) → differs (cells_before c) c.cells i ≡ true → test i ≡ true) → ((t : ℕ) → tile_has s test t ≡ true → p t ≡ true) → length c.touched ≤ length (filter p (tiles s))
looks_few c s test p e change there holds changes wider =
    let P : Size → Type 0 = λ z. length c.touched ≤ length (filter p (tiles z)) in
    let Q : Size → ℕ → Type 0 = λ z t. tile_has z test t ≡ true in
    subst P e (touched_few c p change (λ t m.
    let l = change.within t m in
    wider t (subst (λ z. Q z t) e (has_wider c.size (differs (cells_before c) c.cells) test t changes (changed_has c.size (cells_before c) c.cells t change.size l (holds there t m))))))

-- ---- looks of a whole repair

pub repair_looks : (s : Size) (limit : ℕ) (sources friction : ChangeState) (old now : Cells) (t u : Term) → sources.size ≡ s → friction.size ≡ s → IsChange sources → IsChange friction → IsSome sources.before → IsSome friction.before → HoldsNoUnchanged sources → HoldsNoUnchanged friction →
    2 * length sources.touched + 2 * length friction.touched + 3 * length (filter (tile_has s (differs old now)) (tiles s)) ≤ 7 * length (op_damage (spread_op limit t u) s (cells_before sources ∷ cells_before friction ∷ []) (sources.cells ∷ friction.cells ∷ []) (Some old) now)
unfolding op_damage
repair_looks s limit sources friction old now t u e f a b m n holds also =
    let test : ℕ → Bool = has_changed (cells_before sources ∷ cells_before friction ∷ []) (sources.cells ∷ friction.cells ∷ []) in
    let p : ℕ → Bool = λ t. square_has 0 s test t || tile_has s (differs old now) t in
    let w : (t : ℕ) → tile_has s test t ≡ true → p t ≡ true = λ t h. or_left (square_has 0 s test t) (tile_has s (differs old now) t) (reach_nought s test t ∙ h) in
    let x = looks_few sources s test p e a m holds (λ i q. or_left (differs (cells_before sources) sources.cells i) (differs (cells_before friction) friction.cells i || false) q) w in
    let y = looks_few friction s test p f b n also (λ i q. or_right (differs (cells_before sources) sources.cells i) (differs (cells_before friction) friction.cells i || false) (or_left (differs (cells_before friction) friction.cells i) false q)) w in
    let z = fewer (tile_has s (differs old now)) p (tiles s) (λ t h. or_right (square_has 0 s test t) (tile_has s (differs old now) t) h) in
    omega (arith, x, y, z)

-- a look at each tile of both operands
pub first_looks : (s : Size) (limit : ℕ) (before after : List Cells) (now : Cells) (t u : Term) → 2 * tiles_in s ≤ 7 * length (op_damage (spread_op limit t u) s before after None now)
unfolding op_damage
first_looks s limit before after now t u = omega (arith, length-range_with_len 0 (tiles_in s))

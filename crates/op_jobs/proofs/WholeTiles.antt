-- The tiles of a layer that is repaired whole: those that its patch holds, and its damage.
use Rattle.std.proofs.Common.{◌≡◌, ◌≢◌, inl, inr, ℕ, zero, suc, ◌+◌, ◌<◌, ◌≤◌, Bool, true, false, cond, List, [], ◌∷◌, length, get_or, Option, Some, None, IsSome, refl, sym, ◌∙◌, ap, subst, arith, ◌||◌, IsTrue, IsFalse}
use Rattle.std.specs.Prelude.{◌↔◌, filter, is_some, unwrap_or}
use Rattle.std.specs.List.{Contains, range_with_len}
use Rattle.std.specs.List.Sorted.{IsStrictlyIncreasing}
use Rattle.std.proofs.lemmas.Bool.{cases_eq, both_ways, false_from_ne_true, or_cases, or_left, or_right}
use Rattle.std.proofs.lemmas.List.{get_or_default, get_or-replicate}
use Rattle.std.proofs.lemmas.List.FromFn.{get_or-map-range_with_len}
use Rattle.map_nums.specs.Grids.{Size, IsSize, Cells}
use Rattle.map_nums.specs.Tiles.{tiles}
use Rattle.map_defs.specs.Damage.{changed_tiles, has_work, is_damaged, is_damaged_in, is_damaged_at, op_damage}
use Rattle.map_defs.specs.Differences.{differs, tile_has, has_changed, square_has}
use Rattle.map_defs.specs.Facts.{Class, near_class, sight_class, path_class, nearest_class, region_class, class_of, reach_in, is_repaired}
use Rattle.map_defs.specs.Ops.{Op}
use Rattle.layer_tiles.specs.Tiles.{Block, tiles_in, tile_cells}
use Rattle.layer_tiles.specs.Layers.{IsChangedTile, LayerState}
use Rattle.layer_tiles.specs.Patches.{PatchState, IsPatch, HoldsAll, patch_get, patched, numbers_of}
use Rattle.layer_tiles.proofs.ChangeLaws.{numbers_within}
use Rattle.layer_tiles.proofs.Found.{Contains-from_get, get-from_Contains}
use Rattle.layer_tiles.specs.Changes.{ChangeState, cells_before}
use Rattle.layer_tiles.specs.ChangeFacts.{HoldsNoUnchanged}
use Rattle.layer_tiles.specs.Operands.{cells_after}
use Rattle.changed_cells.proofs.Touching.{changed_has, has_so}
use Rattle.changed_cells.proofs.Joining.{same_test}
use Rattle.tile_work.specs.Working.{IsPatchTo, base_of, before_of}
use Rattle.tile_work.proofs.Numbers.{rises_far}
use Rattle.damage_sets.specs.Sets.{TileSetState, has_tile}
use Rattle.damage_sets.specs.Counted.{has_in, count_any}
use Rattle.friction_spread.specs.Repairs.{IsPatchFor}
use Rattle.map_waves.specs.Operands.{IsOperand}
use Rattle.map_waves.specs.Statements.{cells_were, made, damage_by}
use Rattle.op_jobs.specs.Classes.{is_nearest_in}
use Rattle.op_jobs.specs.Owning.{reached}
use Rattle.op_jobs.proofs.Listing.{filter_all, in_all, nothing_in, filter_has, passes, tests_same}
use Rattle.op_jobs.proofs.Quiet.{quiet_of_same, has_one}

-- ---- ascending numbers

rest_up : (x : ℕ) (xs : List ℕ) → IsStrictlyIncreasing (x ∷ xs) → IsStrictlyIncreasing xs
rest_up x xs up k l = let e : suc k + 1 ≡ suc (k + 1) = omega arith in let h = up (suc k) (omega (arith, l)) in omega (arith, h, ap (λ i. get_or (x ∷ xs) i 0) e)

above_head : (x : ℕ) (xs : List ℕ) (t : ℕ) → IsStrictlyIncreasing (x ∷ xs) → Contains xs t → x < t
above_head x xs t up c = omega (arith, rises_far (x ∷ xs) up 0 (suc c.0) (omega arith) (omega (arith, c.1)), get_or_default xs c.0 t 0 c.1, c.2)

in_rest_at : (x : ℕ) (xs : List ℕ) (t : ℕ) → x ≢ t → (k : ℕ) → k < length (x ∷ xs) → get_or (x ∷ xs) k t ≡ t → Contains xs t
in_rest_at x xs t n zero l e = absurd (n e)
in_rest_at x xs t n (suc k) l e = (k, omega (arith, l), e)

in_rest : (x : ℕ) (xs : List ℕ) (t : ℕ) → x ≢ t → Contains (x ∷ xs) t → Contains xs t
in_rest x xs t n c = in_rest_at x xs t n c.0 c.1 c.2

least_head : (x : ℕ) (xs : List ℕ) (t : ℕ) → IsStrictlyIncreasing (x ∷ xs) → Contains (x ∷ xs) t → x ≤ t
least_head x xs t up c = elim (cases_eq x t) as (λ _. x ≤ t) [ inl e ↦ omega (arith, e) | inr n ↦ omega (arith, above_head x xs t up (in_rest x xs t n c)) ]

kept : (v : Bool) (x k : ℕ) (xs ys : List ℕ) → v ≡ true → x ≡ k → xs ≡ ys → x ∷ xs ≡ cond v (k ∷ ys) ys
kept true x k xs ys e f g = ap (λ y. y ∷ xs) f ∙ ap (λ zs. k ∷ zs) g
kept false x k xs ys e f g = absurd (both_ways false refl e)

passed : (v : Bool) (k : ℕ) (xs ys : List ℕ) → v ≡ false → xs ≡ ys → xs ≡ cond v (k ∷ ys) ys
passed true k xs ys e g = absurd (both_ways true e refl)
passed false k xs ys e g = g

-- ascending numbers that are just those from k up to k + n that pass
pub increasing_filter : (p : ℕ → Bool) (n k : ℕ) (xs : List ℕ) → IsStrictlyIncreasing xs → ((t : ℕ) → Contains xs t → (k ≤ t) × (t < k + n) × (p t ≡ true)) → ((t : ℕ) → k ≤ t → t < k + n → p t ≡ true → Contains xs t) → xs ≡ filter p (range_with_len k n)
increasing_filter p zero k [] up each all = refl
increasing_filter p zero k (x ∷ xs) up each all = let s = each x (0, omega arith, refl) in absurd (omega (arith, s.0, s.1))
increasing_filter p (suc n) k [] up each all =
    let r = increasing_filter p n (k + 1) [] up (λ t c. absurd (nothing_in t c)) (λ t a b e. absurd (nothing_in t (all t (omega (arith, a)) (omega (arith, b)) e))) in
    passed (p k) k [] (filter p (range_with_len (k + 1) n)) (false_from_ne_true (p k) (λ e. nothing_in k (all k (omega arith) (omega arith) e))) r
increasing_filter p (suc n) k (x ∷ xs) up each all = elim (cases_eq x k) as (λ _. x ∷ xs ≡ filter p (range_with_len k (suc n))) [
  | inl f ↦ (let head = each x (0, omega arith, refl) in
      let r = increasing_filter p n (k + 1) xs (rest_up x xs up)
      (λ t c. let s = each t (in_all x xs t c) in (omega (arith, above_head x xs t up c, f), omega (arith, s.1), s.2))
      (λ t a b e. in_rest x xs t (omega (arith, a, f)) (all t (omega (arith, a)) (omega (arith, b)) e)) in
      kept (p k) x k xs (filter p (range_with_len (k + 1) n)) (ap p (sym f) ∙ head.2) f r)
  | inr m ↦ (let head = each x (0, omega arith, refl) in
      let r = increasing_filter p n (k + 1) (x ∷ xs) up
      (λ t c. let s = each t c in (omega (arith, least_head x xs t up c, head.0, m), omega (arith, s.1), s.2))
      (λ t a b e. all t (omega (arith, a)) (omega (arith, b)) e) in
      passed (p k) k (x ∷ xs) (filter p (range_with_len (k + 1) n)) (false_from_ne_true (p k) (λ e. omega (arith, least_head x xs k up (all k (omega arith) (omega arith) e), head.0, m))) r)
]

-- ---- tiles with a changed cell

-- a tile with a changed cell has other cells
pub has_changed_tile : (s : Size) (before after : Cells) (t : ℕ) → IsSize s → tile_has s (differs before after) t ≡ true → IsChangedTile s before after t
has_changed_tile s before after t h e same = both_ways (tile_has s (differs before after) t) (quiet_of_same s before after h t same) e

-- ---- the numbers of a patch

module _ (s : Size) (now : Cells) (held : List (ℕ × Block)) (p : IsPatch (record { size = s; tiles = held })) where
  -- a patch of all tiles
  pub numbers_all : HoldsAll (record { size = s; tiles = held }) → numbers_of held ≡ changed_tiles s None now
  unfolding changed_tiles
  numbers_all all =
      increasing_filter (λ (t : ℕ). true) (tiles_in s) 0 (numbers_of held) p.ascends
      (λ t c. (omega arith, omega (arith, numbers_within (record { size = s; tiles = held }) p t c), refl))
      (λ t a b e. Contains-from_get held t (all t (omega (arith, b))))
      ∙ filter_all (λ t. true) (tiles s) (λ k d l. refl)

  -- a patch of exactly the changed tiles
  pub numbers_changed : (was : Cells) → ((t : ℕ) → t < tiles_in s → IsSome (patch_get held t) ↔ (tile_cells s now t ≢ tile_cells s was t)) → numbers_of held ≡ changed_tiles s (Some was) now
  unfolding changed_tiles
  numbers_changed was exact =
      increasing_filter (tile_has s (differs was now)) (tiles_in s) 0 (numbers_of held) p.ascends
      (λ t c.
      let l = numbers_within (record { size = s; tiles = held }) p t c in
      (omega arith, omega (arith, l), changed_has s was now t p.size l (λ e. (exact t l).0 (get-from_Contains held t c) (sym e))))
      (λ t a b e.
      Contains-from_get held t ((exact t (omega (arith, b))).1 (λ q. has_changed_tile s was now t p.size e (sym q))))

-- ---- patches

pub patch_of : (s : Size) (patch : PatchState) → patch.size ≡ s → IsPatch patch → IsPatch (record { size = s; tiles = patch.tiles })
patch_of s patch e p = subst (λ (z : Size). IsPatch (record { size = z; tiles = patch.tiles })) e p

pub numbers_exact : (s : Size) (was : Option Cells) (now : Cells) (held : List (ℕ × Block)) → IsPatch (record { size = s; tiles = held }) → IsPatchTo s was now held → numbers_of held ≡ changed_tiles s was now
numbers_exact s None now held p to = numbers_all s now held p (to.all refl)
numbers_exact s (Some was) now held p to = numbers_changed s now held p was (λ t l. to.exact t l refl)

pub patch_to : (s : Size) (old : Option LayerState) (now : Cells) (held : List (ℕ × Block)) → patched s (base_of (before_of old)) held ≡ now → IsPatchFor s old held → IsPatchTo s (before_of old) now held
patch_to s None now held e all = record { makes = e; exact = λ t l some. absurd (both_ways false refl some); all = λ _. all }
patch_to s (Some was) now held e exact = record {
  makes = e;
  exact = λ t l some. subst (λ (xs : Cells). IsSome (patch_get held t) ↔ (tile_cells s xs t ≢ tile_cells s was.cells t)) e (exact t l);
  all = λ q. (let f : Some was.cells ≡ None = q in absurd (cc));
}

-- ---- an operand's patch

-- it holds no tile that stayed
pub holds_changed : (s : Size) (c : ChangeState) → IsSize s → IsOperand s c → HoldsNoUnchanged c
unfolding changed_tiles
holds_changed s c h is there t held = which c.before refl there
  where
    which : (o : Option Cells) → c.before ≡ o → IsSome o → IsChangedTile c.size (cells_before c) c.cells t
    which None e some = absurd (both_ways false refl some)
    which (Some was) e some =
        let passing = passes (tile_has s (differs was c.cells)) (tiles s) t (subst (λ (xs : List ℕ). Contains xs t) (is.exact was e) held) in
        let before : cells_before c ≡ was = ap (λ (o : Option Cells). unwrap_or o []) e in
        let P : Size → Cells → Type 0 = λ z xs. IsChangedTile z xs c.cells t in
        subst (λ z. P z (cells_before c)) (sym is.size) (subst (λ xs. P s xs) (sym before) (has_changed_tile s was c.cells t h passing))

-- ---- the damage

-- what is repaired place by place isn't felt farther off
no_reach : (class : Class) → IsTrue (is_repaired class) → reach_in class ≡ 0
no_reach (near_class r) e = absurd (both_ways false refl e)
no_reach (sight_class r) e = absurd (both_ways false refl e)
no_reach class e = refl

-- the layer alone tells it where nothing stands beside it
pub alone_damaged : (class : Class) (s : Size) (before after : List Cells) (was now : Cells) (t : ℕ) → IsTrue (is_repaired class) → IsFalse (is_nearest_in class) → (false || tile_has s (differs was now) t) ≡ tile_has s (is_damaged_in class s before after was now) t
alone_damaged path_class s before after was now t e f = refl
alone_damaged region_class s before after was now t e f = refl
alone_damaged (nearest_class limit) s before after was now t e f = absurd (both_ways true f refl)
alone_damaged class s before after was now t e f = absurd (both_ways false refl e)

-- a tile has a place that passes one of two tests
pub tile_either : (s : Size) (p q : ℕ → Bool) (t : ℕ) → (tile_has s p t || tile_has s q t) ≡ tile_has s (λ i. p i || q i) t
tile_either s p q t =
    same_test (tile_has s p t || tile_has s q t) (tile_has s (λ i. p i || q i) t)
    (λ e. elim (or_cases (tile_has s p t) (tile_has s q t) e) as (λ _. tile_has s (λ i. p i || q i) t ≡ true) [
      | inl h ↦ (let a = has_one s p t h in has_so s (λ i. p i || q i) t a.0 a.1 (or_left (p a.0) (q a.0) a.2) a.3)
      | inr h ↦ (let a = has_one s q t h in has_so s (λ i. p i || q i) t a.0 a.1 (or_right (p a.0) (q a.0) a.2) a.3)
    ])
    (λ e. let a = has_one s (λ i. p i || q i) t e in
    elim (or_cases (p a.0) (q a.0) a.2) as (λ _. (tile_has s p t || tile_has s q t) ≡ true) [
      | inl h ↦ or_left (tile_has s p t) (tile_has s q t) (has_so s p t a.0 a.1 h a.3)
      | inr h ↦ or_right (tile_has s p t) (tile_has s q t) (has_so s q t a.0 a.1 h a.3)
    ])

-- a patch of the changed tiles has a tile that changed
pub held_is : (s : Size) (was now : Cells) (held : List (ℕ × Block)) (t : ℕ) → numbers_of held ≡ changed_tiles s (Some was) now → t < tiles_in s → is_some (patch_get held t) ≡ tile_has s (differs was now) t
unfolding changed_tiles
held_is s was now held t e l =
    same_test (is_some (patch_get held t)) (tile_has s (differs was now) t)
    (λ q. passes (tile_has s (differs was now)) (tiles s) t (subst (λ (xs : List ℕ). Contains xs t) e (Contains-from_get held t q)))
    (λ q. (get-from_Contains held t (subst (λ (xs : List ℕ). Contains xs t) (sym e) (filter_has (tile_has s (differs was now)) (tiles_in s) 0 t (omega arith) (omega (arith, l)) q))))

-- the tiles in which an operand changed, and those that the patches have, are the damage, where a further patch tells what does beside the layer
module _ (s : Size) (op : Op) (operands : List ChangeState) (set : TileSetState) (patch : PatchState) (further : Option PatchState) where
  abbrev now : Cells
  now = made s op (cells_after operands)

  abbrev has_any : ℕ → Bool
  has_any t = has_tile set t || (has_in further t || is_some (patch_get patch.tiles t))

  pub damage_counted : (was : Option Cells) → IsTrue (has_work op) → patch.size ≡ s → set ≡ reached 0 s was operands → numbers_of patch.tiles ≡ changed_tiles s was now
      → ((w : Cells) → was ≡ Some w → (t : ℕ) → t < tiles_in s → (has_in further t || tile_has s (differs w now) t) ≡ tile_has s (is_damaged_at op s (cells_were operands) (cells_after operands) w now) t)
      → count_any set patch further ≡ length (damage_by s op was operands)
  unfolding op_damage
  damage_counted None works size e exact beside =
      ap (λ (z : Size). length (filter has_any (tiles z))) size
      ∙ ap (λ (ts : List ℕ). length ts)
      (tests_same has_any (λ (t : ℕ). true) (tiles_in s)
      (λ t l. or_left (has_tile set t) (has_in further t || is_some (patch_get patch.tiles t)) (ap (λ (d : TileSetState). has_tile d t) e ∙ get_or-replicate (tiles_in s) t true false l))
      ∙ filter_all (λ t. true) (tiles s) (λ k d l. refl))
  damage_counted (Some was) works size e exact beside =
      let test = has_changed (cells_were operands) (cells_after operands) in
      let damaged = is_damaged_at op s (cells_were operands) (cells_after operands) was now in
      ap (λ (z : Size). length (filter has_any (tiles z))) size
      ∙ ap (λ (ts : List ℕ). length ts)
      (tests_same has_any (is_damaged op s (cells_were operands) (cells_after operands) was now) (tiles_in s)
      (λ t l.
      ap (λ v. v || (has_in further t || is_some (patch_get patch.tiles t))) (ap (λ (d : TileSetState). has_tile d t) e ∙ get_or-map-range_with_len (square_has 0 s test) 0 (tiles_in s) t t false l (omega arith))
      ∙ ap (λ v. square_has 0 s test t || (has_in further t || v)) (held_is s was now patch.tiles t exact l)
      ∙ ap (λ v. square_has 0 s test t || v) (beside was refl t l)
      ∙ ap (λ r. square_has r s test t || tile_has s damaged t) (sym (no_reach (class_of op) works))))

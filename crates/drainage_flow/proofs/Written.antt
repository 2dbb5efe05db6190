-- A flow written over the one before: how many cells and tiles that changes, and what it reads.
use Rattle.std.proofs.Common.{◌≡◌, ◌≢◌, ℕ, zero, suc, ◌+◌, ◌*◌, ◌-◌, ◌<◌, ◌≤◌, Bool, true, false, cond, List, [], ◌∷◌, length, get_or, map, Option, Some, None, refl, sym, ◌∙◌, ap, subst, arith, inl, inr, ℤ}
use Rattle.std.specs.Prelude.{filter, if◌then◌else◌}
use Rattle.std.proofs.lemmas.Bool.{cases_Bool, both_ways}
use Rattle.std.proofs.lemmas.List.{ext_get_or}
use Rattle.std.proofs.lemmas.List.Sums.{sum_by-cons}
use Rattle.std.proofs.lemmas.List.FromFn.{get_or-map-range_with_len, length-map-range_with_len, length-range_with_len, get_or-range_with_len}
use Rattle.map_nums.specs.Grids.{Size, IsSize, Cells, cell_at, cells_in, places, grid_by}
use Rattle.map_nums.specs.Tiles.{tiles}
use Rattle.map_defs.specs.Differences.{differs, tile_has}
use Rattle.layer_tiles.specs.Tiles.{Block, tiles_in, tile_of}
use Rattle.layer_tiles.specs.Tallies.{TallyState, RisesBy}
use Rattle.layer_tiles.proofs.Rising.{rises_then, rises_within}
use Rattle.layer_tiles.proofs.Rounds.{back}
use Rattle.tile_work.specs.Working.{WorkState, IsPatchTo, begun_cells, copies}
use Rattle.tile_work.proofs.Copies.{copies_few}
use Rattle.changed_cells.proofs.Joining.{differs_so, differs_is}
use Rattle.changed_cells.proofs.Touching.{has_so}
use Rattle.drainage_flow.specs.Showing.{shown_at, changes, changed_count, IsWorked, AreCopiedFor}

-- ---- a working layer at its beginning

begun_same : (s : Size) (cells : Cells) → length cells ≡ cells_in s → begun_cells s (Some cells) ≡ cells
unfolding begun_cells
begun_same s cells n =
    ext_get_or None (map (cell_at cells) (places s)) cells (length-map-range_with_len (cell_at cells) 0 (cells_in s) ∙ sym n)
    (λ i l. let m : i < cells_in s = omega (arith, l, length-map-range_with_len (cell_at cells) 0 (cells_in s)) in get_or-map-range_with_len (cell_at cells) 0 (cells_in s) i i None m (omega arith))

pub begins : (s extent : Size) (old : Cells) (cells : Cells) → extent ≡ s → length old ≡ cells_in s → cells ≡ begun_cells extent (Some old) → cells ≡ old
begins s extent old cells e n c = c ∙ begun_same extent old (n ∙ ap cells_in (sym e))

differs_none : (cells : Cells) (i : ℕ) → differs cells cells i ≡ false
differs_none cells i = elim (cases_Bool (differs cells cells i)) as (λ _. differs cells cells i ≡ false) [
  | inl t ↦ absurd (differs_is cells cells i t refl)
  | inr f ↦ f
]

none_kept : (b : Bool) (x : ℕ) (xs : List ℕ) → b ≡ false → length xs ≡ 0 → length (cond b (x ∷ xs) xs) ≡ 0
none_kept true x xs e n = absurd (both_ways true e refl)
none_kept false x xs e n = n

none_differ : (cells : Cells) (xs : List ℕ) → length (filter (differs cells cells) xs) ≡ 0
none_differ cells [] = refl
none_differ cells (x ∷ xs) = none_kept (differs cells cells x) x (filter (differs cells cells) xs) (differs_none cells x) (none_differ cells xs)

pub begun_worked : (s extent : Size) (old : Cells) (w : WorkState) → extent ≡ s → length old ≡ cells_in s → w.size ≡ extent → w.before ≡ Some old → w.cells ≡ begun_cells extent (Some old) → IsWorked s old w 0
begun_worked s extent old w e n size before cells =
    let is = begins s extent old w.cells e n cells in
    record {
      size = size ∙ e;
      before = before;
      count = ap length is ∙ n;
      worked = sym (ap (λ (xs : Cells). changes s old xs) is ∙ none_differ old (places s));
    }

one_here : (b : Bool) → b ≡ true → ◌≡◌ {A = ℕ} (if b then 1 else 0) 1
one_here true e = refl
one_here false e = absurd (both_ways false refl e)

copied_some : (copied : List Bool) (t : ℕ) → get_or copied t false ≡ true → 1 ≤ copies copied
copied_some [] t e = absurd (both_ways false refl e)
copied_some (b ∷ bs) zero e = let q = one_here b e in omega (arith, sum_by-cons (λ b. if b then 1 else 0) b bs, q)
copied_some (b ∷ bs) (suc t) e = omega (arith, sum_by-cons (λ b. if b then 1 else 0) b bs, copied_some bs t e)

-- ---- tiles with a changed cell

one_kept : (v : Bool) (x : ℕ) (xs : List ℕ) → v ≡ true → 1 ≤ length (cond v (x ∷ xs) xs)
one_kept true x xs e = omega arith
one_kept false x xs e = absurd (both_ways false refl e)

still_kept : (v : Bool) (x : ℕ) (xs : List ℕ) → 1 ≤ length xs → 1 ≤ length (cond v (x ∷ xs) xs)
still_kept true x xs l = omega (arith, l)
still_kept false x xs l = l

some_kept : (p : ℕ → Bool) (xs : List ℕ) (k : ℕ) → k < length xs → p (get_or xs k 0) ≡ true → 1 ≤ length (filter p xs)
some_kept p [] k l e = absurd (omega (arith, l))
some_kept p (x ∷ xs) zero l e = one_kept (p x) x (filter p xs) e
some_kept p (x ∷ xs) (suc k) l e = still_kept (p x) x (filter p xs) (some_kept p xs k (omega (arith, l)) e)

grid_at : (s : Size) (f : ℕ → Option ℤ) (c : ℕ) → c < cells_in s → cell_at (grid_by s f).cells c ≡ f c
grid_at s f c l = get_or-map-range_with_len f 0 (cells_in s) c c None l (omega arith)

module _ (s : Size) (surface old : Cells) (flow : ℕ → ℤ) (h : IsSize s) where
  abbrev test : ℕ → Bool
  test = differs old (grid_by s (shown_at surface flow)).cells

  changed_here : (c : ℕ) → c < cells_in s → cell_at old c ≢ shown_at surface flow c → tile_has s test (tile_of s c) ≡ true
  changed_here c l n = has_so s test (tile_of s c) c l (differs_so old (grid_by s (shown_at surface flow)).cells c (λ e. n (e ∙ grid_at s (shown_at surface flow) c l))) refl

  copied_few : (w : WorkState) → AreCopiedFor s surface old flow w → copies w.copied ≤ changed_count s surface old flow
  copied_few w a =
      copies_few w.copied (tile_has s test) 0 (tiles_in s)
      (λ t e.
      let r = a.each t e in
      let z : 0 + t ≡ t = omega arith in
      let b = (back s r.0 h r.1).tile in
      let i : tile_of s r.0 ≡ t = r.2 in
      (omega (arith, i, b), ap (tile_has s test) (z ∙ sym i) ∙ changed_here r.0 r.1 r.3))

  some_changed : (c : ℕ) → c < cells_in s → cell_at old c ≢ shown_at surface flow c → 1 ≤ changed_count s surface old flow
  some_changed c l n =
      let t = tile_of s c in
      let b = (back s c h l).tile in
      let z : get_or (tiles s) t 0 ≡ t = get_or-range_with_len 0 (tiles_in s) t 0 b ∙ omega arith in
      some_kept (tile_has s test) (tiles s) t (omega (arith, b, length-range_with_len 0 (tiles_in s))) (ap (tile_has s test) z ∙ changed_here c l n)

  pub copied_none : (w : WorkState) → copies w.copied ≡ 0 → AreCopiedFor s surface old flow w
  copied_none w none = record { each = λ t e. absurd (omega (arith, none, copied_some w.copied t e)) }

  -- what writing reads, where memory is wanted on the way, and where it is done
  module _ (was mid now : WorkState) (none : copies was.copied ≡ 0) (n m : ℕ) (a b d : TallyState) where
    pub grounds_wanted : AreCopiedFor s surface old flow mid → (c : ℕ) → c < cells_in s → cell_at old c ≢ shown_at surface flow c → RisesBy (copies mid.copied - copies was.copied + 1) (4 * n) a b → RisesBy (3 * changed_count s surface old flow) (4 * n + 3 * m) a b
    grounds_wanted k c l e r =
        let few = copied_few mid k in
        let some = some_changed c l e in
        rises_within (copies mid.copied - copies was.copied + 1) (4 * n) (3 * changed_count s surface old flow) (4 * n + 3 * m) a b (omega (arith, few, some)) (omega arith) r

    pub flows_wanted : copies mid.copied ≤ copies now.copied → AreCopiedFor s surface old flow now → (c : ℕ) → c < cells_in s → cell_at old c ≢ shown_at surface flow c → RisesBy (copies mid.copied - copies was.copied) (4 * n) a b → RisesBy (copies now.copied - copies mid.copied + 1) (3 * m) b d → RisesBy (3 * changed_count s surface old flow) (4 * n + 3 * m) a d
    flows_wanted more k c l e r q =
        let few = copied_few now k in
        let some = some_changed c l e in
        rises_within (copies mid.copied - copies was.copied + (copies now.copied - copies mid.copied + 1)) (4 * n + 3 * m) (3 * changed_count s surface old flow) (4 * n + 3 * m) a d (omega (arith, few, some, more)) (omega arith)
        (rises_then (copies mid.copied - copies was.copied) (4 * n) (copies now.copied - copies mid.copied + 1) (3 * m) a b d r q)

    pub flows_written : (e : TallyState) → copies mid.copied ≤ copies now.copied → AreCopiedFor s surface old flow now → RisesBy (copies mid.copied - copies was.copied) (4 * n) a b → RisesBy (copies now.copied - copies mid.copied) (3 * m) b d → RisesBy (copies now.copied) 0 d e → RisesBy (3 * changed_count s surface old flow) (4 * n + 3 * m) a e
    flows_written e more k r q z =
        let few = copied_few now k in
        rises_within (copies mid.copied - copies was.copied + (copies now.copied - copies mid.copied) + copies now.copied) (4 * n + 3 * m + 0) (3 * changed_count s surface old flow) (4 * n + 3 * m) a e (omega (arith, few, more)) (omega arith)
        (rises_then (copies mid.copied - copies was.copied + (copies now.copied - copies mid.copied)) (4 * n + 3 * m) (copies now.copied) 0 a d e
        (rises_then (copies mid.copied - copies was.copied) (4 * n) (copies now.copied - copies mid.copied) (3 * m) a b d r q) z)

-- ---- what was written

pub cells_shown : (s : Size) (f : ℕ → Option ℤ) (cells : Cells) → length cells ≡ cells_in s → ((c : ℕ) → c < cells_in s → cell_at cells c ≡ f c) → cells ≡ (grid_by s f).cells
cells_shown s f cells n h =
    ext_get_or None cells (map f (places s)) (n ∙ sym (length-map-range_with_len f 0 (cells_in s)))
    (λ i l. let m : i < cells_in s = omega (arith, l, n) in h i m ∙ sym (grid_at s f i m))

pub patch_shown : (s : Size) (old : Cells) (f : ℕ → Option ℤ) (w : WorkState) (patch : List (ℕ × Block)) → w.size ≡ s → w.before ≡ Some old → length w.cells ≡ cells_in s → ((c : ℕ) → c < cells_in s → cell_at w.cells c ≡ f c) → IsPatchTo w.size w.before w.cells patch → IsPatchTo s (Some old) (grid_by s f).cells patch
patch_shown s old f w patch size before n h p =
    subst (λ (z : Size). IsPatchTo z (Some old) (grid_by s f).cells patch) size
    (subst (λ (b : Option (List (Option ℤ))). IsPatchTo w.size b (grid_by s f).cells patch) before
    (subst (λ (xs : Cells). IsPatchTo w.size w.before xs patch) (cells_shown s f w.cells n h) p))

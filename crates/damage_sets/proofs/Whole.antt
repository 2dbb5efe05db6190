-- From the changed cells of all operands to the damage.
use Rattle.std.proofs.Common.{◌≡◌, ◌≢◌, ◌⊎◌, inl, inr, ℕ, ◌+◌, ◌*◌, ◌<◌, ◌≤◌, Bool, true, false, not, ◌&&◌, ◌||◌, cond, List, [], ◌∷◌, length, get_or, take, map, replicate, Option, Some, None, ℤ, refl, sym, ◌∙◌, ap, subst, arith, ⊎_elim, slice_get}
use Rattle.std.specs.List.{All, range_with_len, filter, list_any, zip}
use Rattle.std.specs.Cmp.{both_ways}
use Rattle.std.proofs.lemmas.Bool.{cases_lt, and_parts, and_from}
use Rattle.std.proofs.lemmas.Bool.Decides.{Decides-int_eq}
use Rattle.std.proofs.lemmas.List.{get_or-replicate}
use Rattle.std.proofs.lemmas.List.Folds.{list_any_at, Any-from_list_any}
use Rattle.std.proofs.lemmas.List.FromFn.{fill_by_all, get_or-range_with_len, length-range_with_len}
use Rattle.std.proofs.lemmas.List.Sums.{sum_by_more}
use Rattle.std.proofs.lemmas.Option.{slice_get-get_or, slice_get_within}
use Rattle.map_nums.specs.Grids.{Size, Cells, cells_in}
use Rattle.map_nums.specs.Tiles.{tiles_in, tiles}
use Rattle.map_defs.specs.Cells.{same_cell}
use Rattle.map_defs.specs.Differences.{differs, has_changed, square_has}
use Rattle.map_defs.specs.Tiles.{is_in_square}
use Rattle.layer_tiles.specs.Changes.{ChangeState, cells_before}
use Rattle.layer_tiles.specs.Operands.{cells_after}
use Rattle.layer_tiles.specs.Tallies.{TallyState, RisesBy}
use Rattle.layer_tiles.proofs.Rising.{rises_then, rises_within}
use Rattle.damage_sets.specs.Damage.{touched_in}
use Rattle.damage_sets.specs.Sets.{TileSetState}
use Rattle.damage_sets.specs.Seen.{IsChangedCell, IsChangedOne}
use Rattle.damage_sets.specs.Widened.{IsWidened, HasOne}
use Rattle.damage_sets.proofs.Widening.{widened_then}

-- ---- tests of cells

same_cell_so : (x y : Option ℤ) → same_cell x y ≡ true → x ≡ y
same_cell_so None None e = refl
same_cell_so None (Some y) e = cc
same_cell_so (Some x) None e = cc
same_cell_so (Some x) (Some y) e = ap Some (sym ((Decides-int_eq y x).0 e))

same_cell_itself : (x : Option ℤ) → same_cell x x ≡ true
same_cell_itself None = refl
same_cell_itself (Some x) = (Decides-int_eq x x).1 refl

other_cell : (x y : Option ℤ) → x ≢ y → not (same_cell x y) ≡ true
other_cell x y n = which (same_cell x y) refl
  where
    which : (v : Bool) → v ≡ same_cell x y → not v ≡ true
    which true e = absurd (n (same_cell_so x y (sym e)))
    which false e = refl

cells_differ : (x y : Option ℤ) → not (same_cell x y) ≡ true → x ≢ y
cells_differ x y e f = let g : same_cell x y ≡ true = ap (λ z. same_cell z y) f ∙ same_cell_itself y in let h : not (same_cell x y) ≡ false = ap not g in cc

-- ---- one of several operands changed

zipped : {X : Type 0} (test : Cells → Cells → Bool) (f g : X → Cells) (xs : List X) → list_any (λ p. test p.0 p.1) (zip (map f xs) (map g xs)) ≡ list_any (λ x. test (f x) (g x)) xs
zipped test f g [] = refl
zipped test f g (x ∷ xs) = ap (λ b. test (f x) (g x) || b) (zipped test f g xs)

changed_is : (operands : List ChangeState) (i : ℕ) → has_changed (map cells_before operands) (cells_after operands) i ≡ list_any (λ (c : ChangeState). differs (cells_before c) c.cells i) operands
changed_is operands i = zipped (λ b a. differs b a i) (λ (c : ChangeState). cells_before c) (λ (c : ChangeState). c.cells) operands

some_is : (x y : ChangeState) → Some x ≡ Some y → x ≡ y
some_is x y e = cc

changed_so : (operands : List ChangeState) (n i : ℕ) → IsChangedOne operands n i → has_changed (map cells_before operands) (cells_after operands) i ≡ true
changed_so operands n i d =
    let k = d.0 in
    let c = d.1 in
    let l = slice_get_within operands k c d.3 in
    let is : get_or operands k c ≡ c = some_is (get_or operands k c) c (sym (slice_get-get_or operands k c l) ∙ d.3) in
    changed_is operands i
    ∙ list_any_at (λ (c : ChangeState). differs (cells_before c) c.cells i) operands k c l
    (ap (λ (x : ChangeState). differs (cells_before x) x.cells i) is ∙ other_cell (get_or (cells_before c) i None) (get_or c.cells i None) d.4)

changed_one : (operands : List ChangeState) (n i : ℕ) → length operands ≤ n → has_changed (map cells_before operands) (cells_after operands) i ≡ true → IsChangedOne operands n i
changed_one operands n i m e =
    let a = Any-from_list_any (λ (c : ChangeState). differs (cells_before c) c.cells i) operands (sym (changed_is operands i) ∙ e) in
    let k = a.0 in
    let c = a.1 in
    (k, c, omega (arith, a.2, m), slice_get-get_or operands k c a.2 ∙ ap Some a.3, cells_differ (get_or (cells_before c) i None) (get_or c.cells i None) a.4)

-- ---- a place that passes two tests

any_filter : (p q : ℕ → Bool) (xs : List ℕ) → list_any p (filter q xs) ≡ list_any (λ x. q x && p x) xs
any_filter p q [] = refl
any_filter p q (x ∷ xs) = which (q x) (any_filter p q xs)
  where
    which : (v : Bool) → list_any p (filter q xs) ≡ list_any (λ x. q x && p x) xs → list_any p (cond v (x ∷ filter q xs) (filter q xs)) ≡ ((v && p x) || list_any (λ x. q x && p x) xs)
    which true e = ap (λ b. p x || b) e
    which false e = e

pub any_so : (p q : ℕ → Bool) (n i : ℕ) → i < n → q i ≡ true → p i ≡ true → list_any p (filter q (range_with_len 0 n)) ≡ true
any_so p q n i l a b =
    let here : get_or (range_with_len 0 n) i i ≡ i = get_or-range_with_len 0 n i i l ∙ omega arith in
    any_filter p q (range_with_len 0 n)
    ∙ list_any_at (λ x. q x && p x) (range_with_len 0 n) i i (omega (arith, l, length-range_with_len 0 n)) (ap (λ x. q x && p x) here ∙ and_from (q i) (p i) a b)

pub any_one : (p q : ℕ → Bool) (n : ℕ) → list_any p (filter q (range_with_len 0 n)) ≡ true → (i : ℕ) × (i < n) × (q i ≡ true) × (p i ≡ true)
any_one p q n e =
    let a = Any-from_list_any (λ x. q x && p x) (range_with_len 0 n) (sym (any_filter p q (range_with_len 0 n)) ∙ e) in
    let l : a.0 < n = omega (arith, a.2, length-range_with_len 0 n) in
    let is : a.1 ≡ a.0 = sym a.3 ∙ get_or-range_with_len 0 n a.0 a.1 l ∙ omega arith in
    let b = and_parts (q a.1) (p a.1) a.4 in
    (a.1, omega (arith, is, l), b.0, b.1)

-- ---- the operands one after another

pub ones_more : (s : Size) (r k : ℕ) (operands : List ChangeState) (c : ChangeState) (old mid new : List Bool) → slice_get operands k ≡ Some c → IsWidened s r (IsChangedOne operands k) old mid → IsWidened s r (IsChangedCell c) mid new → IsWidened s r (IsChangedOne operands (k + 1)) old new
ones_more s r k operands c old mid new e p q =
    widened_then s r (IsChangedOne operands k) (IsChangedCell c) (IsChangedOne operands (k + 1)) old mid new p q
    (λ i l d. ⊎_elim
    (λ (m : d.0 < k). inl (d.0, d.1, m, d.3, d.4))
    (λ (m : k ≤ d.0).
    let f : d.0 ≡ k = omega (arith, m, d.2) in
    let same : d.1 ≡ c = some_is d.1 c (sym d.3 ∙ ap (slice_get operands) f ∙ e) in
    inr (subst (λ (x : ChangeState). IsChangedCell x i) same d.4))
    (cases_lt d.0 k))
    (λ i l d. (d.0, d.1, omega (arith, d.2), d.3, d.4))
    (λ i l d. (k, c, omega arith, e, d))

-- the marks of all operands are the damage
pub ones_all : (s : Size) (r n : ℕ) (operands : List ChangeState) (marks : List Bool) → length operands ≤ n → length marks ≡ tiles_in s → IsWidened s r (IsChangedOne operands n) (replicate (tiles_in s) false) marks → marks ≡ map (square_has r s (has_changed (map cells_before operands) (cells_after operands))) (tiles s)
ones_all s r n operands marks m count w =
    fill_by_all (square_has r s (has_changed (map cells_before operands) (cells_after operands))) marks (tiles_in s) false count
    (λ t l. both_ways (get_or marks t false) (square_has r s (has_changed (map cells_before operands) (cells_after operands)) t)
    (λ e. seen t l (w.only t l e))
    (λ e.
    let a = any_one (is_in_square r s t) (has_changed (map cells_before operands) (cells_after operands)) (cells_in s) e in
    w.added t l (a.0, a.1, changed_one operands n a.0 m a.2, a.3)))
  where
    seen : (t : ℕ) → t < tiles_in s → (get_or (replicate (tiles_in s) false) t false ≡ true) ⊎ HasOne s r (IsChangedOne operands n) t → square_has r s (has_changed (map cells_before operands) (cells_after operands)) t ≡ true
    seen t l (inl a) = let f : get_or (replicate (tiles_in s) false) t false ≡ false = get_or-replicate (tiles_in s) t false false l in cc
    seen t l (inr h) = any_so (is_in_square r s t) (has_changed (map cells_before operands) (cells_after operands)) (cells_in s) h.0 h.1 (changed_so operands n h.0 h.2) h.3

pub same_set : (d : TileSetState) (s : Size) (marks : List Bool) → d.size ≡ s → d.marks ≡ marks → d ≡ record { size = s; marks = marks }
same_set d s marks e f = rw (← e, ← f) refl

-- the operand at a place
read_is : (operands : List ChangeState) (k : ℕ) (c : ChangeState) → slice_get operands k ≡ Some c → get_or operands k c ≡ c
read_is operands k c e = some_is (get_or operands k c) c (sym (slice_get-get_or operands k c (slice_get_within operands k c e)) ∙ e)

-- has the size of all
pub size_at : (operands : List ChangeState) (s : Size) (k : ℕ) (c : ChangeState) → All (λ (x : ChangeState). x.size ≡ s) operands → slice_get operands k ≡ Some c → c.size ≡ s
size_at operands s k c all e = subst (λ (x : ChangeState). x.size ≡ s) (read_is operands k c e) (all k c (slice_get_within operands k c e))

-- and adds its looks
pub operand_looks : (operands : List ChangeState) (k : ℕ) (c : ChangeState) (a b d : TallyState) → slice_get operands k ≡ Some c → RisesBy (2 * touched_in (take k operands)) 0 a b → RisesBy (2 * length c.touched) 0 b d → RisesBy (2 * touched_in (take (k + 1) operands)) 0 a d
operand_looks operands k c a b d e p q =
    let l = slice_get_within operands k c e in
    let more = sum_by_more (λ (x : ChangeState). length x.touched) operands k c l in
    let same = ap (λ (x : ChangeState). length x.touched) (read_is operands k c e) in
    rises_within (2 * touched_in (take k operands) + 2 * length c.touched) 0 (2 * touched_in (take (k + 1) operands)) 0 a d (omega (arith, more, same)) (omega arith)
    (rises_then (2 * touched_in (take k operands)) 0 (2 * length c.touched) 0 a b d p q)

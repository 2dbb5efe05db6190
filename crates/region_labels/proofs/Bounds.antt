-- How many places and tiles a repair can have worked on, by the labels that it comes to.
use Rattle.std.proofs.Common.{◌≡◌, inl, inr, ℕ, ◌+◌, ◌*◌, ◌<◌, ◌≤◌, min, Bool, true, false, List, [], ◌∷◌, length, get_or, replicate, Some, None, IsSome, sym, ◌∙◌, ap, subst, arith}
use Rattle.std.specs.Prelude.{filter}
use Rattle.std.proofs.lemmas.Bool.{cases_lt, cases_Bool, both_ways, or_left, or_right}
use Rattle.map_nums.specs.Grids.{Size, IsSize, Cells, cell_at, cells_in, places}
use Rattle.map_nums.specs.Tiles.{tiles}
use Rattle.map_defs.specs.Differences.{differs, has_changed, tile_has, square_has}
use Rattle.map_defs.specs.Damage.{op_damage, is_damaged}
use Rattle.map_defs.specs.Ops.{Term, region_op}
use Rattle.map_defs.specs.Regions.{AreRegions}
use Rattle.map_defs.specs.Work.{is_touched}
use Rattle.map_defs.proofs.Squares.{reach_nought}
use Rattle.layer_tiles.specs.Tiles.{tiles_in, tile_of, tile_start}
use Rattle.layer_tiles.specs.Layers.{IsChangedTile}
use Rattle.layer_tiles.specs.Changes.{ChangeState, cells_before}
use Rattle.layer_tiles.specs.ChangeFacts.{IsChange, HoldsNoUnchanged}
use Rattle.layer_tiles.proofs.ChangeLaws.{untouched_place, Contains-or}
use Rattle.layer_tiles.proofs.Rounds.{here, back}
use Rattle.layer_tiles.proofs.Strides.{same_tile}
use Rattle.std.proofs.lemmas.Nat.{mul-le}
use Rattle.std.proofs.lemmas.List.FromFn.{length-range_with_len}
use Rattle.tile_work.specs.Working.{WorkState, copies, begun_cells}
use Rattle.tile_work.proofs.Copies.{copies_few}
use Rattle.changed_cells.specs.Changed.{AreChanged}
use Rattle.changed_cells.proofs.Joining.{differs_not, fewer}
use Rattle.changed_cells.proofs.Touching.{has_so, touched_few}
use Rattle.region_labels.specs.Flood.{is_marked, marks_in, FloodState}
use Rattle.region_labels.specs.Repairs.{IsLabelling, IsCleared}
use Rattle.region_labels.specs.Copies.{IsWitness, IsCopiedWith, CopiesWith}
use Rattle.region_labels.specs.Touched.{IsMarkedFor, IsTouchedBy}
use Rattle.region_labels.proofs.Results.{no_marks, labelling_begun, begun_same}
use Rattle.region_labels.proofs.Walks.{ends}
use Rattle.region_labels.proofs.Copying.{from_then, from_wider, copied_few, witness_lt, witness_has, witness_old}
use Rattle.region_labels.proofs.Touched.{touched_so}

-- ---- marks

pub marks_few : (s : Size) (marks : List Bool) (p : ℕ → Bool) → ((i : ℕ) → is_marked marks i ≡ true → (i < cells_in s) × (p i ≡ true)) → marks_in marks ≤ length (filter p (places s))
marks_few s marks p h = copies_few marks p 0 (cells_in s) (λ t e. let r = h t e in let z : 0 + t ≡ t = omega arith in (r.0, ap p z ∙ r.1))

-- ---- touched tiles

-- a tile whose cells are others has a place that passes what each changed place passes
pub changed_passes : (s : Size) (before after : Cells) (t : ℕ) (test : ℕ → Bool) → IsSize s → t < tiles_in s → ((i : ℕ) → differs before after i ≡ true → test i ≡ true) → IsChangedTile s before after t → tile_has s test t ≡ true
changed_passes s before after t test h l wider d = elim (cases_Bool (tile_has s test t)) as (λ _. tile_has s test t ≡ true) [
  | inl e ↦ e
  | inr e ↦ absurd (d (same_tile s before after t
      (λ r c p q. let w = here s t r c h l p q in
      let i = tile_start s t + r * s.columns + c in
      elim (cases_Bool (differs before after i)) as (λ _. cell_at before i ≡ cell_at after i) [
        | inl f ↦ absurd (both_ways (tile_has s test t) e (has_so s test t i w.within (wider i f) w.tile))
        | inr f ↦ differs_not before after i f
      ])))
]

-- where a place changed a tile is touched
pub some_touched : (c : ChangeState) (found : List ℕ) → IsChange c → AreChanged c.size (cells_before c) c.cells found → min 1 (length found) ≤ length c.touched
some_touched c found h a = elim (cases_lt 0 (length found)) as (λ _. min 1 (length found) ≤ length c.touched) [
  | inl l ↦ (let i = get_or found 0 0 in
      let w = a.within 0 l in
      elim (Contains-or c.touched (tile_of c.size i)) as (λ _. min 1 (length found) ≤ length c.touched) [
        | inl m ↦ omega (arith, m.1)
        | inr n ↦ absurd (a.differ 0 l (untouched_place c h i w n))
      ])
  | inr l ↦ omega (arith, l)
]

-- touched tiles and tiles with another label are damaged
pub damage_many : (c : ChangeState) (old labels : Cells) (t : Term) (touched changed extra : ℕ) → IsChange c → IsSome c.before → HoldsNoUnchanged c → touched ≤ length c.touched → changed ≤ length (filter (tile_has c.size (differs old labels)) (tiles c.size)) → extra ≤ length c.touched → 2 * touched + 2 * changed + extra ≤ 5 * length (op_damage (region_op t) c.size (cells_before c ∷ []) (c.cells ∷ []) (Some old) labels)
unfolding op_damage
damage_many c old labels t touched changed extra h there holds a b d =
    let s = c.size in
    let test : ℕ → Bool = has_changed (cells_before c ∷ []) (c.cells ∷ []) in
    let p : ℕ → Bool = is_damaged (region_op t) s (cells_before c ∷ []) (c.cells ∷ []) old labels in
    let x = touched_few c p h (λ u m.
    or_left (square_has 0 s test u) (tile_has s (differs old labels) u)
    (reach_nought s test u ∙ changed_passes s (cells_before c) c.cells u test h.size (h.within u m) (λ i e. or_left (differs (cells_before c) c.cells i) false e) (holds there u m))) in
    let y = fewer (tile_has s (differs old labels)) p (tiles s) (λ u e. or_right (square_has 0 s test u) (tile_has s (differs old labels) u) e) in
    omega (arith, x, y, a, b, d)

pub some_tile : (s : Size) → IsSize s → 0 < tiles_in s
some_tile s h = let b = back s 0 h (omega (arith, mul-le 1 1 s.rows s.columns (omega (arith, h.some_row)) (omega (arith, h.some_column)))) in omega (arith, b.tile)

pub first_damage : (s : Size) (before after : List Cells) (labels : Cells) (t : Term) → IsSize s → 2 * tiles_in s + 1 ≤ 3 * length (op_damage (region_op t) s before after None labels)
unfolding op_damage
first_damage s before after labels t h = omega (arith, some_tile s h, length-range_with_len 0 (tiles_in s))

-- ---- copied tiles

pub few_copied : (s : Size) (now old labels : Cells) (begun copied : List Bool) → IsSize s → AreRegions s now labels → copies begun ≡ 0 → IsCopiedWith s now old begun copied → copies copied ≤ length (filter (tile_has s (differs old labels)) (tiles s))
few_copied s now old labels begun copied h r none from = copied_few s (IsWitness s now old) (tile_has s (differs old labels)) begun copied none from (λ t w. (witness_lt s now old t h w, witness_has s now old labels t r w))

module _ (s extent : Size) (now old : Cells) (changed : List ℕ) (la lb : WorkState) (full : length old ≡ cells_in s) (e : extent ≡ s) (cells : la.cells ≡ begun_cells extent (Some old)) where
  begun_is : la.cells ≡ old
  begun_is = cells ∙ ap (λ (z : Size). begun_cells z (Some old)) e ∙ begun_same s old full

  pub clear_copied : IsCopiedWith s now la.cells la.copied lb.copied → IsCopiedWith s now old la.copied lb.copied
  clear_copied c = subst (λ (xs : Cells). IsCopiedWith s now xs la.copied lb.copied) begun_is c

  pub rounds_copied : (fa : FloodState) (n : ℕ) (copied : List Bool) → fa ≡ record { size = extent; marks = replicate n false; found = [] } → n ≡ cells_in extent → IsCleared now changed la.cells lb.cells → IsCopiedWith s now la.cells la.copied lb.copied → CopiesWith s now lb.cells fa.marks lb.copied copied → IsCopiedWith s now old la.copied copied
  rounds_copied fa n copied flood count clear c d =
      let clear' : IsCleared now changed old lb.cells = subst (λ (xs : Cells). IsCleared now changed xs lb.cells) begun_is clear in
      let begun : IsLabelling s now lb.cells lb.cells fa.marks = subst (λ (f : FloodState). IsLabelling s now lb.cells lb.cells f.marks) (sym flood) (labelling_begun s now lb.cells n (count ∙ ap cells_in e)) in
      from_then (IsWitness s now old) la.copied lb.copied copied (clear_copied c)
      (from_wider (IsWitness s now lb.cells) (IsWitness s now old) lb.copied copied (λ t w. witness_old s now changed old lb.cells t clear' w) (d lb.cells begun))

-- ---- reached places

pub few_touched : (s : Size) (now labels : Cells) (changed : List ℕ) (fa : FloodState) (extent : Size) (n : ℕ) (marks : List Bool) → AreRegions s now labels → fa ≡ record { size = extent; marks = replicate n false; found = [] } → IsMarkedFor (IsTouchedBy s now changed) fa.marks marks → marks_in marks ≤ length (filter (is_touched s labels changed) (places s))
few_touched s now labels changed fa extent n marks r flood caused =
    marks_few s marks (is_touched s labels changed)
    (λ i m. let t : IsTouchedBy s now changed i = elim (caused i m) as (λ _. IsTouchedBy s now changed i) [ inl h ↦ absurd (both_ways (is_marked fa.marks i) (ap (λ (f : FloodState). is_marked f.marks i) flood ∙ no_marks n i) h) | inr t ↦ t ] in
    ((ends s now t.from.number t.from.root i t.from.joined.0 t.from.joined.1).0, touched_so s now labels r changed i t))

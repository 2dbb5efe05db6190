-- Layers that are repaired whole, in the words of operations: a flow, least costs, nearest sources, region labels.
use Rattle.std.proofs.Common.{◌≡◌, ℕ, ◌*◌, ◌^◌, ◌<◌, ◌≤◌, List, [], ◌∷◌, length, Option, Some, None, sym, ◌∙◌, ap, subst, arith, Err, ◌||◌, refl}
use Rattle.std.specs.Prelude.{nat_abs, is_some}
use Rattle.std.specs.Int.{cast_signed}
use Rattle.std.specs.List.{position}
use Rattle.std.proofs.lemmas.Int.{to_z_pos}
use Rattle.map_nums.specs.Answers.{is_wide}
use Rattle.map_nums.specs.Grids.{Size, IsSize, Cells}
use Rattle.map_nums.specs.Numbers.{greatest_value}
use Rattle.map_nums.specs.Widths.{value_width}
use Rattle.map_defs.specs.Damage.{op_damage}
use Rattle.map_defs.specs.Operate.{operate}
use Rattle.map_defs.specs.Ops.{Op, Term, flow_op, spread_op, region_op, nearest_op}
use Rattle.map_defs.specs.Regions.{AreRegions}
use Rattle.map_defs.specs.Rounds.{region_grid}
use Rattle.map_defs.specs.Spread.{IsSpread}
use Rattle.map_defs.specs.Work.{op_work}
use Rattle.map_defs.proofs.RegionCells.{regions_are, regions_only}
use Rattle.map_defs.proofs.SpreadCells.{spread_is, spread_only}
use Rattle.map_defs.specs.Differences.{differs, tile_has, changed_tiles, costs_by, cost_or_cell_differs}
use Rattle.map_defs.specs.Nearest.{AreNearest, nearest_grid}
use Rattle.map_defs.proofs.NearestCells.{nearest_is, nearest_only}
use Rattle.layer_tiles.specs.Changes.{ChangeState, cells_before}
use Rattle.layer_tiles.specs.ChangeFacts.{HoldsNoUnchanged}
use Rattle.layer_tiles.specs.Layers.{LayerState}
use Rattle.layer_tiles.specs.Operands.{cells_after}
use Rattle.layer_tiles.specs.Patches.{PatchState, IsPatch, patched, HoldsAll, patch_get, numbers_of}
use Rattle.layer_tiles.specs.Tallies.{TallyState, KeepsParts, RisesBy}
use Rattle.layer_tiles.specs.declared.kernels.KernelRefusal.{KernelRefusal}
use Rattle.layer_tiles.specs.declared.kernels.KernelRefusal.TheVariants.{Overflow, NoMemory}
use Rattle.layer_tiles.specs.Cells.{AreCells}
use Rattle.layer_tiles.specs.Tiles.{Block, tiles_in}
use Rattle.tile_work.specs.Working.{IsPatchTo, base_of, before_of}
use Rattle.damage_sets.specs.Sets.{TileSetState}
use Rattle.friction_spread.specs.Repairs.{IsBaseFor, IsPatchFor, ReadsWithin}
use Rattle.friction_neighbor.specs.Results.{costs_of, values_of, AreOldFor, befores, afters, NearestReadsWithin}
use Rattle.friction_neighbor.specs.declared.repair.Nearest.{Nearest}
use Rattle.friction_neighbor.specs.declared.repair.NearestRepair.{NearestRepair}
use Rattle.drainage_flow.specs.Repairs.{flow_damage, flow_work, IsFlowBefore, IsFlowRepair, IsFlowRefusal}
use Rattle.region_labels.specs.Repairs.{IsLookedBy, IsPickedBy}
use Rattle.region_labels.specs.Repairs as region_repairs
use Rattle.map_waves.specs.Operands.{IsOperand}
use Rattle.map_waves.specs.Statements.{cells_were, made, damage_by, work_by}
use Rattle.map_waves.specs.declared.keeping.Made.{Made}
use Rattle.map_waves.specs.Keeping.{CanPut, IsPut}
use Rattle.map_waves.specs.declared.keeping.Renewal.{Renewal}
use Rattle.map_waves.specs.declared.keeping.Aside.{Aside}
use Rattle.op_jobs.specs.Pieces.{IsWholeMade, IsWholeRepaired}
use Rattle.op_jobs.specs.Whole.{IsRightBefore, IsWholeAnswer}
use Rattle.op_jobs.specs.Beside.{AreCosts, costs_aside}
use Rattle.op_jobs.specs.Nearest.{CanTake, costs_made, IsNearestMade}
use Rattle.op_jobs.specs.Owning.{reached}
use Rattle.op_jobs.specs.declared.beside.Beside.{Beside}
use Rattle.op_jobs.proofs.WholeRanges.{flow_narrow, flow_wide, regions_narrow, spread_narrow, work_little, nearest_narrow}
use Rattle.op_jobs.proofs.WholeTiles.{numbers_exact, patch_of, patch_to, holds_changed, held_is, tile_either, damage_counted}

-- at most 32 looks for each tile of the damage, and 1000 picks for each unit of work
abbrev pub RisesWhole : Size → Op → Option Cells → List ChangeState → TallyState → TallyState → Type 0
RisesWhole s op was operands a b = RisesBy (32 * length (damage_by s op was operands)) (1000 * work_by s op was operands) a b

-- a patch that makes the operation's cells, none of them out of range
pub whole_made : (s : Size) (op : Op) (was : Option Cells) (operands : List ChangeState) (patch : PatchState) (n : ℕ) → IsSize s → IsPatch patch → patch.size ≡ s → IsPatchTo s was (made s op (cells_after operands)) patch.tiles → n ≡ work_by s op was operands → position is_wide (made s op (cells_after operands)) ≡ None → IsWholeMade s op was operands patch n
whole_made s op was operands patch n h p size to worked narrow = record {
  size = size;
  cells = to.makes;
  exact = numbers_exact s was (made s op (cells_after operands)) patch.tiles (patch_of s patch size p) to;
  work_is = worked;
  little = subst (λ k. k < 2 ^ 32) (sym worked) (work_little s (cells_were operands) (cells_after operands) op was (made s op (cells_after operands)) h);
  narrow = narrow;
}

-- ---- a flow

module _ (surface weights : ChangeState) (t u : Term) where
  -- the layer from before
  pub flow_before : (old : Option LayerState) → IsRightBefore surface.size (flow_op t u) (surface ∷ weights ∷ []) old → IsFlowBefore surface weights old
  unfolding operate
  flow_before None r = tt
  flow_before (Some l) r = (r.size, r.there 0 surface (omega arith), r.there 1 weights (omega arith), r.right)

  module _ (h : IsSize surface.size) (was : Option Cells) where
    pub flow_made : (patch : PatchState) (n : ℕ) → IsPatch patch → IsFlowRepair surface weights was patch n → IsWholeMade surface.size (flow_op t u) was (surface ∷ weights ∷ []) patch n
    unfolding operate
    flow_made patch n p r = whole_made surface.size (flow_op t u) was (surface ∷ weights ∷ []) patch n h p r.size r.flow (r.worked t u) (flow_narrow surface.size surface.cells weights.cells h r.in_range)

    pub flow_refused : (e : KernelRefusal) → IsFlowRefusal surface weights e → IsWholeAnswer surface.size (flow_op t u) was (surface ∷ weights ∷ []) (Err e)
    unfolding operate
    flow_refused (Overflow at) r = flow_wide surface.size surface.cells weights.cells h at r
    flow_refused NoMemory r = tt

    pub flow_rises : (a b : TallyState) → IsOperand surface.size surface → IsOperand surface.size weights → (HoldsNoUnchanged surface → HoldsNoUnchanged weights → RisesBy (32 * length (flow_damage t u surface weights was)) (1000 * flow_work t u surface weights was) a b)
        → RisesWhole surface.size (flow_op t u) was (surface ∷ weights ∷ []) a b
    unfolding operate
    flow_rises a b one other r = r (holds_changed surface.size surface h one) (holds_changed surface.size weights h other)

-- ---- least costs, and the nearest sources that stand on them

-- the limit fits a value
pub limit_fits : (n : ℕ) → n ≤ greatest_value → nat_abs (cast_signed value_width n) ≡ n
limit_fits n l = ap nat_abs (to_z_pos value_width n (omega (arith, l)))

-- a patch of all tiles, or of the changed ones of a layer, can be put in
pub can_take : (s : Size) (old : Option LayerState) (patch : PatchState) → patch.size ≡ s → ((l : LayerState) → old ≡ Some l → l.size ≡ s) → IsPatchFor s old patch.tiles → CanTake old patch
can_take s None patch size is all = subst (λ (z : Size). HoldsAll (record { size = z; tiles = patch.tiles })) (sym size) all
can_take s (Some l) patch size is exact = size ∙ sym (is l refl)

-- what comes of the costs' tiles are the costs
can_put_costs : (old : Option LayerState) (patch : PatchState) → CanTake old patch → CanPut (costs_aside old) (costs_made old patch)
can_put_costs None patch can = tt
can_put_costs (Some l) patch can = can

put_costs : (old : Option LayerState) (patch : PatchState) → CanTake old patch → (b : Aside Beside) → IsPut (costs_aside old) (costs_made old patch) b → AreCosts patch.size (patched patch.size (base_of (before_of old)) patch.tiles) b
put_costs None patch can b is = subst (AreCosts patch.size (patched patch.size [] patch.tiles)) (sym is) (refl, refl)
put_costs (Some l) patch can b put =
    let n : LayerState = put.0 in
    let cells : n.cells ≡ patched patch.size l.cells patch.tiles = put.3 ∙ ap (λ (z : Size). patched z l.cells patch.tiles) (sym can) in
    subst (AreCosts patch.size (patched patch.size l.cells patch.tiles)) (sym put.1) (put.2 ∙ sym can, cells)

pub nearest_rises : (sources friction : ChangeState) (k limit : ℕ) (was : Option Cells) (t u : Term) (a b : TallyState) → k ≡ limit → IsSize sources.size → IsOperand sources.size sources → IsOperand sources.size friction → NearestReadsWithin 32 1000 sources friction k was a b
    → RisesWhole sources.size (nearest_op limit t u) was (sources ∷ friction ∷ []) a b
unfolding operate
nearest_rises sources friction k limit was t u a b e size first second reads =
    let read : NearestReadsWithin 32 1000 sources friction limit was a b = subst (λ (n : ℕ). NearestReadsWithin 32 1000 sources friction n was a b) e reads in
    read (holds_changed sources.size sources size first) (holds_changed sources.size friction size second) t u (nearest_grid limit sources.size sources.cells friction.cells).cells (nearest_is sources.size sources.cells friction.cells limit)

module _ (sources friction : ChangeState) (limit : ℕ) where
  abbrev s : Size
  s = sources.size

  abbrev costs : Cells
  costs = costs_by limit s (afters sources friction)

  abbrev values : Cells
  values = (nearest_grid limit s sources.cells friction.cells).cells

  module _ (t u : Term) where
    -- the layer from before
    pub spread_before : (old : Option LayerState) → IsRightBefore s (spread_op limit t u) (sources ∷ friction ∷ []) old → IsBaseFor sources friction limit old
    unfolding operate
    spread_before None r = tt
    spread_before (Some l) r = record {
      size = r.size;
      sources_there = r.there 0 sources (omega arith);
      friction_there = r.there 1 friction (omega arith);
      right = subst (λ (xs : Cells). IsSpread s (cells_before sources) (cells_before friction) limit xs) (sym r.right) (spread_is s (cells_before sources) (cells_before friction) limit);
    }

    -- of a limit that may have another form
    module _ (h : IsSize s) (m : ℕ) (q : m ≡ limit) where
      pub spread_made : (old : Option LayerState) (patch : PatchState) (n : ℕ) → limit ≤ greatest_value → IsPatch patch → patch.size ≡ s → IsSpread s sources.cells friction.cells m (patched s (base_of (before_of old)) patch.tiles) → IsPatchFor s old patch.tiles
          → n ≡ op_work (spread_op m t u) s (cells_before sources ∷ cells_before friction ∷ []) (sources.cells ∷ friction.cells ∷ []) (before_of old) (patched s (base_of (before_of old)) patch.tiles) → IsWholeMade s (spread_op limit t u) (before_of old) (sources ∷ friction ∷ []) patch n
      unfolding operate
      spread_made old patch n low p size spread exact worked =
          let work : ℕ → Cells → ℕ = λ k xs. op_work (spread_op k t u) s (cells_before sources ∷ cells_before friction ∷ []) (sources.cells ∷ friction.cells ∷ []) (before_of old) xs in
          let cells : Cells = patched s (base_of (before_of old)) patch.tiles in
          let is : IsSpread s sources.cells friction.cells limit costs = spread_is s sources.cells friction.cells limit in
          let e : cells ≡ costs = spread_only s sources.cells friction.cells limit cells costs (subst (λ (k : ℕ). IsSpread s sources.cells friction.cells k cells) q spread) is in
          whole_made s (spread_op limit t u) (before_of old) (sources ∷ friction ∷ []) patch n h p size (patch_to s old costs patch.tiles e exact) (worked ∙ ap (λ k. work k cells) q ∙ ap (work limit) e) (spread_narrow s sources.cells friction.cells limit costs h low is)

      pub spread_rises : (was : Option Cells) (a b : TallyState) → IsOperand s sources → IsOperand s friction → ReadsWithin 32 1000 sources friction m was a b → RisesWhole s (spread_op limit t u) was (sources ∷ friction ∷ []) a b
      unfolding operate
      spread_rises was a b one other reads =
          let here : ReadsWithin 32 1000 sources friction limit was a b = subst (λ (k : ℕ). ReadsWithin 32 1000 sources friction k was a b) q reads in
          here (holds_changed s sources h one) (holds_changed s friction h other) t u costs (spread_is s sources.cells friction.cells limit)

  -- the old costs have the map's size
  pub costs_size : (old : Option Nearest) → AreOldFor sources friction limit old → (l : LayerState) → costs_of old ≡ Some l → l.size ≡ s
  costs_size None are l e = absurd cc
  costs_size (Some n) are l e = let same : l ≡ n.cost.now = cc in ap (λ (x : LayerState). x.size) same ∙ are.costs.size

  -- a patch of the costs has the tiles in which one differs, beside those in which a number does
  beside_damaged : (old : Option Nearest) → AreOldFor sources friction limit old → (held : List (ℕ × Block)) → numbers_of held ≡ changed_tiles s (before_of (costs_of old)) costs → (w : Cells) → before_of (values_of old) ≡ Some w → (k : ℕ) → k < tiles_in s
      → (is_some (patch_get held k) || tile_has s (differs w values) k) ≡ tile_has s (cost_or_cell_differs limit s (befores sources friction) (afters sources friction) w values) k
  beside_damaged None are held n w e k l = absurd cc
  beside_damaged (Some o) are held n w e k l =
      let before : o.cost.now.cells ≡ costs_by limit s (befores sources friction) = spread_only s (cells_before sources) (cells_before friction) limit _ _ are.costs.right (spread_is s (cells_before sources) (cells_before friction) limit) in
      ap (λ v. v || tile_has s (differs w values) k) (held_is s o.cost.now.cells costs held k n l ∙ ap (λ (xs : Cells). tile_has s (differs xs costs) k) before)
      ∙ tile_either s (differs (costs_by limit s (befores sources friction)) costs) (differs w values) k

  -- what was repaired, of a limit that may have another form
  module _ (old : Option Nearest) (are : AreOldFor sources friction limit old) (t u : Term) (h : IsSize s) (m : ℕ) (q : m ≡ limit) (r : NearestRepair) (sizes : (r.cost.size ≡ s) × (r.value.size ≡ s)) (cost_patch : IsPatch r.cost) (value_patch : IsPatch r.value) (exact : IsPatchFor s (costs_of old) r.cost.tiles × IsPatchFor s (values_of old) r.value.tiles) (spread : IsSpread s sources.cells friction.cells m (patched s (base_of (before_of (costs_of old))) r.cost.tiles)) (nearest : AreNearest s sources.cells friction.cells m (patched s (base_of (before_of (values_of old))) r.value.tiles)) where
    pub nearest_repaired : (touched : TileSetState) (new : Made Beside) → AreCells sources.cells → r.worked ≡ op_work (nearest_op m t u) s (befores sources friction) (afters sources friction) (before_of (values_of old)) (patched s (base_of (before_of (values_of old))) r.value.tiles)
        → touched ≡ reached 0 s (before_of (values_of old)) (sources ∷ friction ∷ []) → IsNearestMade touched (costs_of old) r new → IsWholeRepaired s (nearest_op limit t u) (before_of (values_of old)) (costs_aside (costs_of old)) (sources ∷ friction ∷ []) new
    unfolding operate
    nearest_repaired touched new cells work set made =
        let op = nearest_op limit t u in
        let was : Option Cells = before_of (values_of old) in
        let old_costs : Option Cells = before_of (costs_of old) in
        let costs_are : patched s (base_of old_costs) r.cost.tiles ≡ costs = spread_only s sources.cells friction.cells limit _ costs (subst (λ (k : ℕ). IsSpread s sources.cells friction.cells k (patched s (base_of old_costs) r.cost.tiles)) q spread) (spread_is s sources.cells friction.cells limit) in
        let values_are : patched s (base_of was) r.value.tiles ≡ values = nearest_only s sources.cells friction.cells limit _ values (subst (λ (k : ℕ). AreNearest s sources.cells friction.cells k (patched s (base_of was) r.value.tiles)) q nearest) (nearest_is s sources.cells friction.cells limit) in
        let can : CanTake (costs_of old) r.cost = can_take s (costs_of old) r.cost sizes.0 (costs_size old are) exact.0 in
        let work_of : ℕ → Cells → ℕ = λ k xs. op_work (nearest_op k t u) s (befores sources friction) (afters sources friction) was xs in
        let worked = work ∙ ap (λ k. work_of k (patched s (base_of was) r.value.tiles)) q ∙ ap (work_of limit) values_are in
        let narrow = nearest_narrow s sources.cells friction.cells limit values h cells (nearest_is s sources.cells friction.cells limit) in
        let whole = whole_made s op was (sources ∷ friction ∷ []) r.value r.worked h value_patch sizes.1 (patch_to s (values_of old) values r.value.tiles values_are exact.1) worked narrow in
        let numbers = numbers_exact s old_costs costs r.cost.tiles (patch_of s r.cost sizes.0 cost_patch) (patch_to s (costs_of old) costs r.cost.tiles costs_are exact.0) in
        record {
          repaired = record {
            size = ap (λ (p : PatchState). p.size) made.patch ∙ whole.size;
            cells = ap (λ (p : PatchState). patched s (base_of was) p.tiles) made.patch ∙ whole.cells;
            exact = ap (λ (p : PatchState). numbers_of p.tiles) made.patch ∙ whole.exact;
            can_put = subst (CanPut (costs_aside (costs_of old))) (sym made.beside) (can_put_costs (costs_of old) r.cost can);
            beside = λ b put.
                let is : AreCosts r.cost.size (patched r.cost.size (base_of old_costs) r.cost.tiles) b = put_costs (costs_of old) r.cost can b (subst (λ (x : Renewal Beside). IsPut (costs_aside (costs_of old)) x b) made.beside put) in
                subst (λ (xs : Cells). AreCosts s xs b) costs_are (subst (λ (z : Size). AreCosts z (patched z (base_of old_costs) r.cost.tiles) b) sizes.0 is);
            evaluated = made.evaluated ∙ damage_counted s op (sources ∷ friction ∷ []) touched r.value (Some r.cost) was refl sizes.1 set whole.exact (beside_damaged old are r.cost.tiles numbers);
            worked = made.worked ∙ whole.work_is;
            little = subst (λ k. k < 2 ^ 32) (sym made.worked) whole.little;
          };
          narrow = whole.narrow;
        }

-- ---- region labels

module _ (of : ChangeState) (t : Term) where
  abbrev regions : Cells
  regions = (region_grid of.size of.cells).cells

  pub regions_before : (old : Option LayerState) → IsRightBefore of.size (region_op t) (of ∷ []) old → region_repairs.IsBaseFor of old
  unfolding operate
  regions_before None r = tt
  regions_before (Some l) r = (r.size, r.there 0 of (omega arith), subst (λ (xs : Cells). AreRegions of.size (cells_before of) xs) (sym r.right) (regions_are of.size (cells_before of)))

  module _ (h : IsSize of.size) (old : Option LayerState) where
    pub regions_made : (patch : PatchState) (n : ℕ) → IsPatch patch → patch.size ≡ of.size → AreRegions of.size of.cells (patched of.size (base_of (before_of old)) patch.tiles) → region_repairs.IsPatchFor of.size old patch.tiles
        → n ≡ op_work (region_op t) of.size (cells_before of ∷ []) (of.cells ∷ []) (before_of old) (patched of.size (base_of (before_of old)) patch.tiles) → IsWholeMade of.size (region_op t) (before_of old) (of ∷ []) patch n
    unfolding operate
    regions_made patch n p size right exact worked =
        let s = of.size in
        let is : AreRegions s of.cells regions = regions_are s of.cells in
        let e : patched s (base_of (before_of old)) patch.tiles ≡ regions = regions_only s of.cells _ regions right is in
        whole_made s (region_op t) (before_of old) (of ∷ []) patch n h p size (patch_to s old regions patch.tiles e exact) (worked ∙ ap (λ (xs : Cells). op_work (region_op t) s (cells_before of ∷ []) (of.cells ∷ []) (before_of old) xs) e) (regions_narrow s of.cells regions h is)

    pub regions_rise : (a b : TallyState) → IsOperand of.size of → ((labels : Cells) → AreRegions of.size of.cells labels → HoldsNoUnchanged of → (v : Term) → IsLookedBy (5 * length (op_damage (region_op v) of.size (cells_before of ∷ []) (of.cells ∷ []) (before_of old) labels)) a b)
        → ((labels : Cells) → AreRegions of.size of.cells labels → (v : Term) → IsPickedBy (11 * op_work (region_op v) of.size (cells_before of ∷ []) (of.cells ∷ []) (before_of old) labels) a b) → KeepsParts a b → RisesWhole of.size (region_op t) (before_of old) (of ∷ []) a b
    unfolding operate
    regions_rise a b operand looks picks parts =
        let l = looks regions (regions_are of.size of.cells) (holds_changed of.size of h operand) t in
        let p = picks regions (regions_are of.size of.cells) t in
        record { looks_rise = omega (arith, l); picks_rise = omega (arith, p); parts_out_stay = parts.0; is_part_stays = parts.1 }

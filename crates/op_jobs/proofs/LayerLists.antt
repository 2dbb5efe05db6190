-- Layers that were not there, place by place, in the words of operations.
use Rattle.std.proofs.Common.{◌≡◌, ℕ, ◌^◌, ◌<◌, List, None, refl, sym, ◌∙◌, ap, subst, IsTrue, IsFalse}
use Rattle.map_nums.specs.Grids.{Size, IsSize, Cells}
use Rattle.map_nums.specs.Tiles.{tiles}
use Rattle.map_defs.specs.Damage.{op_damage, has_work}
use Rattle.map_defs.specs.Flow.{flow_grid}
use Rattle.map_defs.specs.Operate.{operate, operand}
use Rattle.map_defs.specs.Differences.{costs_by}
use Rattle.map_defs.specs.Facts.{class_of}
use Rattle.map_defs.specs.Nearest.{AreNearest, nearest_grid}
use Rattle.map_defs.specs.Ops.{Op, Term, flow_op, spread_op, nearest_op, region_op}
use Rattle.map_defs.specs.Regions.{AreRegions}
use Rattle.map_defs.specs.Rounds.{spread_grid, region_grid}
use Rattle.map_defs.specs.Spread.{IsSpread}
use Rattle.map_defs.specs.Work.{op_work, first_work}
use Rattle.map_defs.proofs.NearestCells.{nearest_is, nearest_only}
use Rattle.map_defs.proofs.RegionCells.{regions_are, regions_only}
use Rattle.map_defs.proofs.SpreadCells.{spread_is, spread_only}
use Rattle.layer_tiles.specs.Changes.{ChangeState}
use Rattle.layer_tiles.specs.Operands.{cells_after}
use Rattle.friction_spread.specs.Bands.{ground_of}
use Rattle.friction_spread.specs.Lists.{IsCostList, list_cells as cost_cells}
use Rattle.friction_spread.specs.declared.lists.CostList.{CostList}
use Rattle.friction_neighbor.specs.Bands.{list_cells as value_cells}
use Rattle.region_labels.specs.Provisional.{IsLabelList}
use Rattle.region_labels.specs.declared.shows.ProvisionalLabels.{ProvisionalLabels}
use Rattle.map_waves.specs.Statements.{made, damage_by, work_by, cells_were}
use Rattle.map_waves.specs.declared.keeping.Aside.TheVariants.{Other}
use Rattle.op_jobs.specs.Beside.{AreCosts}
use Rattle.op_jobs.specs.Classes.{is_nearest}
use Rattle.op_jobs.specs.Lists.{IsList, list_cells, IsListMade, IsFreshMade}
use Rattle.op_jobs.specs.Nearest.{IsNearestFresh}
use Rattle.op_jobs.specs.declared.beside.Beside.TheVariants.{Nothing}
use Rattle.op_jobs.specs.declared.lists.FreshLayer.{FreshLayer}
use Rattle.op_jobs.specs.declared.lists.LayerList.{LayerList}
use Rattle.op_jobs.specs.declared.lists.LayerList.TheVariants.{Costs, Nearest, Labels}
use Rattle.op_jobs.proofs.Kept.{work_beside}
use Rattle.op_jobs.proofs.WholeRanges.{nearest_work, work_little}

-- ---- operations that take work where there was no layer

pub all_damaged : (s : Size) (op : Op) (operands : List ChangeState) → tiles s ≡ damage_by s op None operands
unfolding op_damage
all_damaged s op operands = refl

work_fresh : (s : Size) (op : Op) (operands : List ChangeState) → IsTrue (has_work op) → work_by s op None operands ≡ first_work s (made s op (cells_after operands))
unfolding op_work
work_fresh s op operands e = rw (e) refl

listed : (s : Size) (op : Op) (operands : List ChangeState) (list : LayerList) (n : ℕ) → IsSize s → IsTrue (has_work op) → IsList s list → list_cells s list ≡ made s op (cells_after operands) → n ≡ first_work s (list_cells s list) → IsListMade s op operands list n
listed s op operands list n h works is cells work =
    let w : n ≡ work_by s op None operands = work ∙ ap (first_work s) cells ∙ sym (work_fresh s op operands works) in
    record {
      class = works;
      list_is = is;
      cells = cells;
      work_is = w;
      little = subst (λ k. k < 2 ^ 32) (sym w) (work_little s (cells_were operands) (cells_after operands) op None (made s op (cells_after operands)) h);
    }

-- a layer beside which nothing stands
abbrev pub alone : LayerList → ℕ → FreshLayer
alone list n = record { list = list; beside = Other Nothing; worked = n }

alone_listed : (s : Size) (op : Op) (operands : List ChangeState) (list : LayerList) (n : ℕ) → IsSize s → IsTrue (has_work op) → IsFalse (is_nearest op) → IsList s list → list_cells s list ≡ made s op (cells_after operands) → n ≡ first_work s (list_cells s list) → IsFreshMade s op operands (alone list n)
alone_listed s op operands list n h works none is cells work = record {
  made_is = listed s op operands list n h works is cells work;
  beside_is = work_beside (class_of op) s (cells_after operands) works none;
}

module _ (s : Size) (h : IsSize s) (operands : List ChangeState) (one other : Cells) (e : one ≡ operand (cells_after operands) 0) (f : other ≡ operand (cells_after operands) 1) (t u : Term) where
  at_operands : (P : Cells → Cells → Type 0) → P one other → P (operand (cells_after operands) 0) (operand (cells_after operands) 1)
  at_operands P p = subst (λ (xs : Cells). P xs (operand (cells_after operands) 1)) e (subst (P one) f p)

  pub flow_listed : (op : Op) (fresh : FreshLayer) (list : LayerList) (n : ℕ) → op ≡ flow_op t u → fresh ≡ alone list n → IsList s list → list_cells s list ≡ (flow_grid s one other).cells → n ≡ first_work s (flow_grid s one other).cells → IsFreshMade s op operands fresh
  unfolding operate
  flow_listed op fresh list n o alone_is is cells work =
      let here : list_cells s list ≡ made s (flow_op t u) (cells_after operands) = at_operands (λ xs ys. list_cells s list ≡ (flow_grid s xs ys).cells) cells in
      rw (o, alone_is) (alone_listed s (flow_op t u) operands list n h refl refl is here (work ∙ ap (first_work s) (sym cells)))

  pub spread_listed : (op : Op) (limit : ℕ) (fresh : FreshLayer) (list : CostList) → op ≡ spread_op limit t u → fresh ≡ alone (Costs list) list.worked → IsCostList (ground_of s one other limit) list → IsFreshMade s op operands fresh
  unfolding operate
  spread_listed op limit fresh list o alone_is is =
      let a = operand (cells_after operands) 0 in
      let b = operand (cells_after operands) 1 in
      let here : IsSpread s a b limit (list_cells s (Costs list)) = at_operands (λ xs ys. IsSpread s xs ys limit (list_cells s (Costs list))) is.spread in
      let cells : list_cells s (Costs list) ≡ (spread_grid limit s a b).cells = spread_only s a b limit _ _ here (spread_is s a b limit) in
      rw (o, alone_is) (alone_listed s (spread_op limit t u) operands (Costs list) list.worked h refl refl (is.limit, is.count) cells is.worked)

  pub nearest_listed : (op : Op) (limit : ℕ) (fresh : FreshLayer) → op ≡ nearest_op limit t u → IsNearestFresh (ground_of s one other limit) fresh → IsFreshMade s op operands fresh
  unfolding operate
  nearest_listed op limit fresh o is =
      let a = operand (cells_after operands) 0 in
      let b = operand (cells_after operands) 1 in
      let list = is.numbers in
      let spread : IsSpread s a b limit (cost_cells s list.costs) = at_operands (λ xs ys. IsSpread s xs ys limit (cost_cells s list.costs)) is.are.costs.spread in
      let nearest : AreNearest s a b limit (value_cells s list) = at_operands (λ xs ys. AreNearest s xs ys limit (value_cells s list)) is.are.nearest in
      let cells : value_cells s list ≡ (nearest_grid limit s a b).cells = nearest_only s a b limit _ _ nearest (nearest_is s a b limit) in
      let costs : cost_cells s list.costs ≡ costs_by limit s (cells_after operands) = spread_only s a b limit _ _ spread (spread_is s a b limit) in
      let work = is.work_is ∙ is.are.costs.worked ∙ nearest_work s a b limit _ _ spread nearest in
      let made : IsListMade s (nearest_op limit t u) operands (Nearest list) fresh.worked = listed s (nearest_op limit t u) operands (Nearest list) fresh.worked h refl is.are.count cells work in
      subst (λ (x : Op). IsFreshMade s x operands fresh) (sym o) (record {
        made_is = subst (λ (l : LayerList). IsListMade s (nearest_op limit t u) operands l fresh.worked) (sym is.list_is) made;
        beside_is = subst (λ (xs : Cells). AreCosts s xs fresh.beside) costs is.beside_is;
      })

module _ (s : Size) (h : IsSize s) (operands : List ChangeState) (one : Cells) (e : one ≡ operand (cells_after operands) 0) (list : ProvisionalLabels) (is : IsLabelList s one list) where
  pub labels_listed : (op : Op) (t : Term) (fresh : FreshLayer) → op ≡ region_op t → fresh ≡ alone (Labels list) list.worked → IsFreshMade s op operands fresh
  unfolding operate
  labels_listed op t fresh o alone_is =
      let of = operand (cells_after operands) 0 in
      let here : AreRegions s of (list_cells s (Labels list)) = subst (λ (xs : Cells). AreRegions s xs (list_cells s (Labels list))) e is.regions in
      let cells : list_cells s (Labels list) ≡ (region_grid s of).cells = regions_only s of _ _ here (regions_are s of) in
      rw (o, alone_is) (alone_listed s (region_op t) operands (Labels list) list.worked h refl refl (is.back, is.count) cells is.worked)

-- The one job of a statement that is repaired whole, to its kernel and back.
use Rattle.std.proofs.Common.{◌≡◌, ℕ, ◌*◌, List, [], ◌∷◌, Option, Some, None, Result, refl, sym, ◌∙◌, ap, subst, arith}
use Rattle.std.specs.List.{All}
use Rattle.std.specs.Option.{IsSome}
use Rattle.map_nums.specs.Grids.{Size, Cells}
use Rattle.map_defs.specs.Differences.{costs_by}
use Rattle.map_defs.specs.Nearest.{AreNearest}
use Rattle.map_defs.specs.Operate.{operate}
use Rattle.map_defs.specs.Ops.{Op, Term, nearest_op}
use Rattle.map_defs.specs.Spread.{IsSpread}
use Rattle.map_defs.proofs.NearestCells.{nearest_is}
use Rattle.map_defs.proofs.SpreadCells.{spread_is}
use Rattle.layer_tiles.specs.Changes.{ChangeState, cells_before}
use Rattle.layer_tiles.specs.Layers.{LayerState}
use Rattle.layer_tiles.specs.Operands.{size_of}
use Rattle.layer_tiles.specs.Patches.{PatchState}
use Rattle.layer_tiles.specs.Tallies.{TallyState, RisesBy}
use Rattle.layer_tiles.specs.declared.kernels.KernelRefusal.{KernelRefusal}
use Rattle.tile_work.specs.Working.{before_of}
use Rattle.friction_neighbor.specs.Results.{costs_of, values_of, AreRightBefore, AreOldFor}
use Rattle.friction_neighbor.specs.declared.repair.Nearest.{Nearest}
use Rattle.statement_parser.specs.Views.{op_view}
use Rattle.map_waves.specs.Jobs.{was_in, aside_in}
use Rattle.map_waves.specs.Keeping.{IsRightKept, aside_of}
use Rattle.map_waves.specs.Operands.{IsOperand}
use Rattle.map_waves.specs.Statements.{cells_were, work_by}
use Rattle.map_waves.specs.declared.keeping.Kept.{Kept}
use Rattle.map_waves.specs.declared.keeping.Made.{Made}
use Rattle.map_waves.specs.declared.keeping.Aside.{Aside}
use Rattle.map_waves.specs.declared.keeping.Aside.TheVariants.{Layer, Other}
use Rattle.op_jobs.specs.Beside.{suits, AreCosts, costs_at, costs_in, costs_aside, layer_in}
use Rattle.op_jobs.specs.Nearest.{HasCosts, AreHanded}
use Rattle.op_jobs.specs.Operands.{AreOperandsOf}
use Rattle.op_jobs.specs.Owning.{reached}
use Rattle.op_jobs.specs.Pieces.{IsWholeRepaired}
use Rattle.op_jobs.specs.Ranges.{HasRanges}
use Rattle.op_jobs.specs.Repairs.{IsRepairOf}
use Rattle.op_jobs.specs.Sound.{StatementJobs, IsSound, damage_in}
use Rattle.op_jobs.specs.Whole.{IsRightBefore, IsWholeAnswer}
use Rattle.op_jobs.specs.declared.beside.Beside.{Beside}
use Rattle.op_jobs.specs.declared.own.Lone.{Lone}
use Rattle.op_jobs.specs.declared.own.Own.TheVariants as an_own
use Rattle.op_jobs.specs.declared.own.Repair.{Repair}
use Rattle.op_jobs.specs.declared.own.Repair.TheVariants as a_repair
use Rattle.op_jobs.specs.declared.own.WholeJob.{WholeJob}
use Rattle.op_jobs.proofs.Kept.{before_is, right_layer, whole_own}
use Rattle.op_jobs.proofs.Repairing.{nearest_is as nearest_op_is}
use Rattle.op_jobs.proofs.Sharing.{extent_is}
use Rattle.op_jobs.proofs.WholeLayers.{RisesWhole}

-- ---- what is kept

costs_there : (limit : ℕ) (s : Size) (cells : List Cells) (b : Aside Beside) → AreCosts s (costs_by limit s cells) b → IsSome (costs_at b)
costs_there limit s cells (Layer l) is = refl
costs_there limit s cells b is = absurd is

has_costs : (s : Size) (op : Op) (operands : List ChangeState) (kept : Option (Kept Beside)) (limit : ℕ) (t u : Term) → op ≡ nearest_op limit t u → IsRightKept suits s op operands kept → HasCosts kept
has_costs s op operands None limit t u e is = tt
has_costs s op operands (Some k) limit t u e is = costs_there limit s (cells_were operands) k.beside (subst (λ (o : Op). suits s o (cells_were operands) k.beside) e is.beside)

right_before : (sources friction : ChangeState) (limit : ℕ) (t u : Term) (kept : Option (Kept Beside)) (old : Option Nearest) → costs_of old ≡ costs_in kept → values_of old ≡ layer_in kept → IsRightKept suits sources.size (nearest_op limit t u) (sources ∷ friction ∷ []) kept → AreOldFor sources friction limit old
unfolding operate
right_before sources friction limit t u kept None e f is = tt
right_before sources friction limit t u None (Some n) e f is = absurd cc
right_before sources friction limit t u (Some k) (Some n) e f is = at k.beside e is.beside
  where
    at : (b : Aside Beside) → costs_of (Some n) ≡ costs_at b → AreCosts sources.size (costs_by limit sources.size (cells_were (sources ∷ friction ∷ []))) b → AreRightBefore sources friction limit n
    at (Layer l) g q =
        let cost : l ≡ n.cost.now = cc in
        let value : k.layer ≡ n.value.now = cc in
        record {
          costs = record {
            size = ap (λ (x : LayerState). x.size) (sym cost) ∙ q.0;
            sources_there = is.there 0 sources (omega arith);
            friction_there = is.there 1 friction (omega arith);
            right = subst (λ (xs : Cells). IsSpread sources.size (cells_before sources) (cells_before friction) limit xs) (sym q.1 ∙ ap (λ (x : LayerState). x.cells) cost) (spread_is sources.size (cells_before sources) (cells_before friction) limit);
          };
          size = ap (λ (x : LayerState). x.size) (sym value) ∙ is.size;
          values = subst (λ (xs : Cells). AreNearest sources.size (cells_before sources) (cells_before friction) limit xs) (sym is.right ∙ ap (λ (x : LayerState). x.cells) value) (nearest_is sources.size (cells_before sources) (cells_before friction) limit);
        }
    at b g q = absurd q

-- the costs are what stands beside the layer
costs_are_aside : (kept : Option (Kept Beside)) → HasCosts kept → costs_aside (costs_in kept) ≡ aside_of kept
costs_are_aside None has = refl
costs_are_aside (Some k) has = at k.beside has
  where
    at : (b : Aside Beside) → IsSome (costs_at b) → costs_aside (costs_at b) ≡ Some b
    at (Layer l) is = refl
    at (Other b) is = absurd cc

-- ---- the job

-- what holds of one statement holds of another that is the same
carried : (P : Size → Op → Option Cells → List ChangeState → Type 0) (s z : Size) (op o : Op) (was w : Option Cells) (xs ys : List ChangeState) → s ≡ z → op ≡ o → was ≡ w → xs ≡ ys → P s op was xs → P z o w ys
carried P s z op o was w xs ys e f g h p = subst (λ x. P x o w ys) e (subst (λ x. P s x w ys) f (subst (λ x. P s op x ys) g (subst (P s op was) h p)))

-- the jobs as they are seen, their operands and operation by other names, and the layer that is kept
module _ (j : StatementJobs) (is : IsSound j) (x : StatementJobs) (seen : x ≡ j) (xs : List ChangeState) (these : x.operands ≡ xs) (o : Op) (view : op_view j.op ≡ o) (old : Option LayerState) (kept : old ≡ layer_in x.kept) where
  operands : j.operands ≡ xs
  operands = ap (λ (y : StatementJobs). y.operands) (sym seen) ∙ these

  extent : j.size ≡ size_of xs
  extent = sym (extent_is j.size (op_view j.op) j.operands is.edited.operands_are) ∙ ap size_of operands

  layer : old ≡ layer_in j.kept
  layer = kept ∙ ap (λ (y : StatementJobs). layer_in y.kept) seen

  was : was_in j ≡ before_of old
  was = sym (before_is j.kept old layer)

  to_kernel : (P : Size → Op → Option Cells → List ChangeState → Type 0) → P j.size (op_view j.op) (was_in j) j.operands → P (size_of xs) o (before_of old) xs
  to_kernel P = carried P j.size (size_of xs) (op_view j.op) o (was_in j) (before_of old) j.operands xs extent view was operands

  from_kernel : (P : Size → Op → Option Cells → List ChangeState → Type 0) → P (size_of xs) o (before_of old) xs → P j.size (op_view j.op) (was_in j) j.operands
  from_kernel P = carried P (size_of xs) j.size o (op_view j.op) (before_of old) (was_in j) xs j.operands (sym extent) (sym view) (sym was) (sym operands)

-- ---- nothing beside the layer

module _ (j : StatementJobs) (job : WholeJob) (is : IsSound j) (own : j.own ≡ an_own.Whole job) (lone : Lone) (repair : job.repair ≡ a_repair.Alone lone) (x : StatementJobs) (seen : x ≡ j) (old : Option LayerState) (kept : old ≡ layer_in x.kept) where
  of : IsRepairOf (op_view j.op) (a_repair.Alone lone)
  of = subst (λ (r : Repair). IsRepairOf (op_view j.op) r) repair (whole_own j job is own).repair_is

  pub alone_right : (o : Op) × IsRepairOf o (a_repair.Alone lone) × AreOperandsOf (size_of x.operands) o x.operands × IsRightBefore (size_of x.operands) o x.operands old
  alone_right =
      let op = op_view j.op in
      let right : IsRightBefore j.size op j.operands old = right_layer j.size j.size op j.operands j.kept old refl (kept ∙ ap (λ (y : StatementJobs). layer_in y.kept) seen) is.edited.right in (
        op,
        of,
        to_kernel j is x seen x.operands refl op refl old kept (λ s o w xs. AreOperandsOf s o xs) is.edited.operands_are,
        to_kernel j is x seen x.operands refl op refl old kept (λ s o w xs. IsRightBefore s o xs old) right,
      )

  pub alone_answer : (r : Result (PatchState × ℕ) KernelRefusal) → ((o : Op) → IsRepairOf o (a_repair.Alone lone) → HasRanges o → IsWholeAnswer (size_of x.operands) o (before_of old) x.operands r) → IsWholeAnswer j.size (op_view j.op) (was_in j) j.operands r
  alone_answer r each = from_kernel j is x seen x.operands refl (op_view j.op) refl old kept (λ s o w xs. IsWholeAnswer s o w xs r) (each (op_view j.op) of is.edited.operands_are.formed)

  pub alone_tally : (from to : TallyState) → ((o : Op) → IsRepairOf o (a_repair.Alone lone) → HasRanges o → RisesWhole (size_of x.operands) o (before_of old) x.operands from to) → RisesBy (32 * damage_in j) (1000 * work_by j.size (op_view j.op) (was_in j) j.operands) from to
  alone_tally from to each = from_kernel j is x seen x.operands refl (op_view j.op) refl old kept (λ s o w xs. RisesWhole s o w xs from to) (each (op_view j.op) of is.edited.operands_are.formed)

-- ---- costs beside it

module _ (j : StatementJobs) (job : WholeJob) (is : IsSound j) (own : j.own ≡ an_own.Whole job) (limit : ℕ) (repair : job.repair ≡ a_repair.Nearest limit) (x : StatementJobs) (seen : x ≡ j) where
  view : (t : Term) × (u : Term) × (op_view j.op ≡ nearest_op limit t u)
  view = nearest_op_is (op_view j.op) limit (subst (λ (r : Repair). IsRepairOf (op_view j.op) r) repair (whole_own j job is own).repair_is) is.edited.operands_are.formed

  abbrev op : Op
  op = nearest_op limit view.0 view.1

  there : HasCosts j.kept
  there = has_costs j.size (op_view j.op) j.operands j.kept limit view.0 view.1 view.2 is.edited.right

  pub costs_kept : HasCosts x.kept
  costs_kept = subst (λ (y : StatementJobs). HasCosts y.kept) (sym seen) there

  -- both operands, and what is kept
  module _ (a b : ChangeState) (both : x.operands ≡ a ∷ b ∷ []) (old : Option Nearest) (costs : costs_of old ≡ costs_in x.kept) (values : values_of old ≡ layer_in x.kept) where
    to_nearest : (P : Size → Op → Option Cells → List ChangeState → Type 0) → P j.size (op_view j.op) (was_in j) j.operands → P a.size op (before_of (values_of old)) (a ∷ b ∷ [])
    to_nearest = to_kernel j is x seen (a ∷ b ∷ []) both op view.2 (values_of old) values

    from_nearest : (P : Size → Op → Option Cells → List ChangeState → Type 0) → P a.size op (before_of (values_of old)) (a ∷ b ∷ []) → P j.size (op_view j.op) (was_in j) j.operands
    from_nearest = from_kernel j is x seen (a ∷ b ∷ []) both op view.2 (values_of old) values

    kept_costs : costs_of old ≡ costs_in j.kept
    kept_costs = costs ∙ ap (λ (y : StatementJobs). costs_in y.kept) seen

    pub handed : AreHanded a b limit old job.touched
    handed =
        let each = to_nearest (λ s o w xs. All (IsOperand s) xs) is.edited.operands_are.each in
        let formed : HasRanges op = to_nearest (λ s o w xs. HasRanges o) is.edited.operands_are.formed in
        record {
          first = each 0 a (omega arith);
          second = each 1 b (omega arith);
          low = formed.0;
          right = right_before a b limit view.0 view.1 j.kept old kept_costs (values ∙ ap (λ (y : StatementJobs). layer_in y.kept) seen) (to_nearest (λ s o w xs. IsRightKept suits s o xs j.kept) is.edited.right);
          tiles = to_nearest (λ s o w xs. job.touched ≡ reached 0 s w xs) (whole_own j job is own).set_is;
        }

    pub nearest_piece : (m : Made Beside) → ((t u : Term) → IsWholeRepaired a.size (nearest_op limit t u) (before_of (values_of old)) (costs_aside (costs_of old)) (a ∷ b ∷ []) m) → IsWholeRepaired j.size (op_view j.op) (was_in j) (aside_in j) j.operands m
    nearest_piece m h =
        let aside : costs_aside (costs_of old) ≡ aside_in j = ap costs_aside kept_costs ∙ costs_are_aside j.kept there in
        from_nearest (λ s o w xs. IsWholeRepaired s o w (aside_in j) xs m) (subst (λ (y : Option (Aside Beside)). IsWholeRepaired a.size op (before_of (values_of old)) y (a ∷ b ∷ []) m) aside (h view.0 view.1))

    pub nearest_tally : (from to : TallyState) → ((t u : Term) → RisesWhole a.size (nearest_op limit t u) (before_of (values_of old)) (a ∷ b ∷ []) from to) → RisesBy (32 * damage_in j) (1000 * work_by j.size (op_view j.op) (was_in j) j.operands) from to
    nearest_tally from to h = from_nearest (λ s o w xs. RisesWhole s o w xs from to) (h view.0 view.1)

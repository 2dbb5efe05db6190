-- Layers that were not there, in the words of operations.
use Rattle.std.proofs.Common.{◌≡◌, ℕ, ◌+◌, ◌*◌, ◌≤◌, List, [], ◌∷◌, length, Option, Some, None, sym, ap, subst, ◌∙◌, arith}
use Rattle.std.specs.List.{All}
use Rattle.std.proofs.lemmas.List.FromFn.{length-range_with_len}
use Rattle.map_nums.specs.Grids.{Size, Cells, cells_in}
use Rattle.map_nums.specs.Numbers.{greatest_value}
use Rattle.map_nums.specs.Tiles.{tiles_in}
use Rattle.map_defs.specs.Damage.{op_damage}
use Rattle.map_defs.specs.Operate.{operand}
use Rattle.map_defs.specs.Ops.{Op}
use Rattle.layer_tiles.specs.Changes.{ChangeState}
use Rattle.layer_tiles.specs.Operands.{cells_after}
use Rattle.layer_tiles.specs.Tallies.{TallyState, RisesBy}
use Rattle.layer_tiles.proofs.Rising.{rises_then, rises_within}
use Rattle.map_waves.specs.Found.{AreFound}
use Rattle.map_waves.specs.Operands.{IsOperand}
use Rattle.map_waves.specs.Statements.{damage_by}
use Rattle.op_jobs.specs.Grounds.{FillPaths, ArePathCells, AreFlowCells, IsPart, IsGroundOf, IsGrounded, IsGroundPart, AreGrounded, grounding}
use Rattle.op_jobs.specs.Sound.{first_by}
use Rattle.op_jobs.specs.declared.ground.FlowCells.{FlowCells}
use Rattle.op_jobs.specs.declared.ground.PathCells.{PathCells}
use Rattle.op_jobs.specs.declared.ground.Ground.{Ground}
use Rattle.op_jobs.specs.declared.ground.Ground.TheVariants as a_ground
use Rattle.op_jobs.specs.declared.ground.Part.{Part}
use Rattle.op_jobs.specs.declared.own.Own.{Own}
use Rattle.op_jobs.specs.declared.own.Own.TheVariants as an_own

-- ---- reads

pub fresh_damage : (s : Size) (op : Op) (operands : List ChangeState) → length (damage_by s op None operands) ≡ tiles_in s
unfolding op_damage
fresh_damage s op operands = length-range_with_len 0 (tiles_in s)

pub grounding_fit : (s : Size) (op : Op) (was : Option Cells) (operands : List ChangeState) → grounding s op was operands ≤ 2 * length (damage_by s op was operands)
grounding_fit s op None operands = omega (arith, fresh_damage s op operands)
grounding_fit s op (Some was) operands = omega arith

pub begun_rises : (s : Size) (op : Op) (was : Option Cells) (operands : List ChangeState) (looks picks : ℕ) (a b c : TallyState) → 28 * length (damage_by s op was operands) ≤ looks → RisesBy (grounding s op was operands) 0 a b → RisesBy (26 * length (damage_by s op was operands)) 0 b c → RisesBy looks picks a c
begun_rises s op was operands looks picks a b c most r q =
    let g = grounding s op was operands in
    let d = length (damage_by s op was operands) in
    rises_within (g + 26 * d) (0 + 0) looks picks a c (omega (arith, grounding_fit s op was operands, most)) (omega arith) (rises_then g 0 (26 * d) 0 a b c r q)

pub first_least : (own : Own) (d : ℕ) → 28 * d ≤ first_by own d
first_least (an_own.Tiles jobs) d = omega arith
first_least (an_own.Whole job) d = omega arith

-- ---- a list for each operand

pub flow_cells_are : (s : Size) (xs : List ChangeState) (g : FlowCells) (a b : ChangeState) → xs ≡ a ∷ b ∷ [] → All (IsOperand s) xs → g.surface.items ≡ a.cells → g.weights.items ≡ b.cells → length a.cells ≡ cells_in a.size → length b.cells ≡ cells_in b.size → AreFlowCells s xs g
flow_cells_are s xs g a b both are first second count count' =
    let these : All (IsOperand s) (a ∷ b ∷ []) = subst (λ (ys : List ChangeState). All (IsOperand s) ys) both are in record {
      fill = record {
        surface = ap (λ (ys : Cells). length ys) first ∙ count ∙ ap (λ (z : Size). cells_in z) (these 0 a (omega arith)).size;
        weights = ap (λ (ys : Cells). length ys) second ∙ count' ∙ ap (λ (z : Size). cells_in z) (these 1 a (omega arith)).size;
      };
      surface_is = first ∙ ap (λ (ys : List ChangeState). operand (cells_after ys) 0) (sym both);
      weights_are = second ∙ ap (λ (ys : List ChangeState). operand (cells_after ys) 1) (sym both);
    }

-- the same, and the limit
pub path_cells_are : (s : Size) (xs : List ChangeState) (g : PathCells) (limit : ℕ) (a b : ChangeState) → xs ≡ a ∷ b ∷ [] → All (IsOperand s) xs → limit ≤ greatest_value → g.limit ≡ limit → g.sources.items ≡ a.cells → g.friction.items ≡ b.cells → length a.cells ≡ cells_in a.size → length b.cells ≡ cells_in b.size → ArePathCells s xs limit g
path_cells_are s xs g limit a b both are low is first second count count' =
    let laid = flow_cells_are s xs (record { surface = g.sources; weights = g.friction }) a b both are first second count count' in
    let fill : FillPaths s g = record { low = subst (λ n. n ≤ greatest_value) (sym is) low; sources = laid.fill.surface; friction = laid.fill.weights } in
    record { fill = fill; limit_is = is; sources_are = laid.surface_is; friction_are = laid.weights_are }

pub lists_rise : (s : Size) (xs : List ChangeState) (x y : ChangeState) (a b c : TallyState) → xs ≡ x ∷ y ∷ [] → All (IsOperand s) xs → RisesBy (tiles_in x.size) 0 a b → RisesBy (tiles_in y.size) 0 b c → RisesBy (2 * tiles_in s) 0 a c
lists_rise s xs x y a b c both are r q =
    let these : All (IsOperand s) (x ∷ y ∷ []) = subst (λ (ys : List ChangeState). All (IsOperand s) ys) both are in
    let one = ap (λ (z : Size). tiles_in z) (these 0 x (omega arith)).size in
    let other = ap (λ (z : Size). tiles_in z) (these 1 x (omega arith)).size in
    rises_within (tiles_in x.size + tiles_in y.size) (0 + 0) (2 * tiles_in s) 0 a c (omega (arith, one, other)) (omega arith) (rises_then (tiles_in x.size) 0 (tiles_in y.size) 0 a b c r q)

-- ---- parts

module _ (s : Size) (op : Op) (operands : List ChangeState) where
  ground_part : (ground : Ground) (n k : ℕ) (p : Part) → IsPart s op operands ground n k p → IsGroundPart s ground n k p
  ground_part a_ground.Zones n k p h = tt
  ground_part ground n k p h = h

  -- all parts that were found
  pub grounded : (ground : Ground) (parts : List Part) → AreFound IsGrounded IsPart s op operands ground parts → IsGroundOf op ground × AreGrounded s operands ground parts
  grounded ground parts found = (found.from.of, record { from = found.from.is; some = found.from.some; each = λ k p e. ground_part ground (length parts) k p (found.each k p e) })

-- Parts that follow one another: the bands of rows, of all parts that were found.
use Rattle.std.proofs.Common.{◌≡◌, ℕ, suc, ◌+◌, ◌-◌, ◌*◌, ◌/◌, ◌<◌, ◌≤◌, List, [], ◌∷◌, length, Some, slice_get, refl, sym, ap, subst, ◌∙◌, arith}
use Rattle.std.proofs.lemmas.Nat.{div-mul-add, le-div, div-add-mod'}
use Rattle.map_nums.specs.Grids.{Size, Cells, cells_in}
use Rattle.friction_spread.specs.Costs.{GroundState}
use Rattle.friction_spread.specs.Bands.{ground_of, AreCostBands}
use Rattle.friction_spread.specs.declared.bands.CostBand.{CostBand}
use Rattle.friction_neighbor.specs.Bands.{AreNearestBands}
use Rattle.friction_neighbor.specs.declared.bands.NearestBand.{NearestBand}
use Rattle.drainage_flow.specs.FlowBands.{IsFlowBand, AreFlowBands}
use Rattle.drainage_flow.specs.declared.flow_band.FlowBand.{FlowBand}
use Rattle.region_labels.specs.Provisional.{AreLabelBands}
use Rattle.region_labels.specs.declared.bands.LabelBand.{LabelBand}
use Rattle.zonal_totals.specs.Ranges.{CountsState}
use Rattle.op_jobs.specs.Grounds.{IsCosts, IsNearest, IsFlows, IsLabels, IsCounts}
use Rattle.op_jobs.specs.Parts.{part_start}
use Rattle.op_jobs.specs.declared.ground.Part.{Part}
use Rattle.op_jobs.specs.declared.ground.Part.TheVariants.{Costs, Nearest, Flows, Labels, Counts}

-- ---- where parts begin

pub part_first : (all n : ℕ) → 0 < n → part_start all n 0 ≡ 0
part_first all n some = let e : 0 * all ≡ 0 * n + 0 = omega arith in ap (λ m. m / n) e ∙ div-mul-add 0 n 0 some

pub part_last : (all n : ℕ) → 0 < n → part_start all n n ≡ all
part_last all n some = let e : n * all ≡ all * n + 0 = omega arith in ap (λ m. m / n) e ∙ div-mul-add all n 0 some

-- each begins at least by m after the one before, where there is room
pub part_rises : (all n m k : ℕ) → 0 < n → m * n ≤ all → part_start all n k + m ≤ part_start all n (suc k)
part_rises all n m k some room =
    let whole = div-add-mod' (k * all) n in
    le-div (part_start all n k + m) (suc k * all) n some (omega (arith, whole, room))

-- what is found part by part, from where each begins to the end of the last
module _ {B : Type 0} (n : ℕ) (start : ℕ → ℕ) (Is : ℕ → B → Type 0) (Are : ℕ → List B → Type 0) (none : Are (start n) []) (more : (k : ℕ) (b : B) (bs : List B) → Is k b → Are (start (suc k)) bs → Are (start k) (b ∷ bs)) where
  parts_from : (bs : List B) (k : ℕ) → k + length bs ≡ n → ((j : ℕ) (b : B) → slice_get bs j ≡ Some b → Is (k + j) b) → Are (start k) bs
  parts_from [] k end each = let all : k ≡ n = omega (arith, end) in subst (λ j. Are (start j) []) (sym all) none
  parts_from (b ∷ bs) k end each =
      let here : k + 0 ≡ k = omega arith in
      more k b bs (subst (λ j. Is j b) here (each 0 b refl)) (parts_from bs (suc k) (omega (arith, end)) (λ j d e. let next : k + suc j ≡ suc k + j = omega arith in subst (λ i. Is i d) next (each (suc j) d e)))

  pub parts_all : (bs : List B) → length bs ≡ n → ((k : ℕ) (b : B) → slice_get bs k ≡ Some b → Is k b) → Are (start 0) bs
  parts_all bs all each = parts_from bs 0 (omega (arith, all)) (λ k b e. let here : k ≡ 0 + k = omega arith in subst (λ i. Is i b) here (each k b e))

-- ---- parts of one kind

module _ (n k : ℕ) where
  pub costs_kind : (g : GroundState) (p : Part) → IsCosts g n k p → (b : CostBand) × (p ≡ Costs b)
  costs_kind g (Costs b) is = (b, refl)
  costs_kind g p is = absurd is

  pub nearest_kind : (g : GroundState) (p : Part) → IsNearest g n k p → (b : NearestBand) × (p ≡ Nearest b)
  nearest_kind g (Nearest b) is = (b, refl)
  nearest_kind g p is = absurd is

  pub flows_kind : (s : Size) (surface weights : Cells) (p : Part) → IsFlows s surface weights n k p → (b : FlowBand) × (p ≡ Flows b)
  flows_kind s surface weights (Flows b) is = (b, refl)
  flows_kind s surface weights p is = absurd is

  pub labels_kind : (s : Size) (cells : Cells) (p : Part) → IsLabels s cells n k p → (b : LabelBand) × (p ≡ Labels b)
  labels_kind s cells (Labels b) is = (b, refl)
  labels_kind s cells p is = absurd is

  pub counts_kind : (s : Size) (values zones : Cells) (p : Part) → IsCounts s values zones n k p → (c : CountsState) × (p ≡ Counts c)
  counts_kind s values zones (Counts c) is = (c, refl)
  counts_kind s values zones p is = absurd is

-- ---- bands

-- the bands of the parts that were found are one below the other
abbrev pub JoinsBands : {G B : Type 0} → (B → Part) → (G → ℕ → ℕ → Part → Type 0) → (G → ℕ → List B → Type 0) → Type 0
JoinsBands {G} {B} part Is Are =
    (g g' : G) (bs bs' : List B) (parts : List Part) → g' ≡ g → bs' ≡ bs → 0 < length parts → length bs ≡ length parts → ((k : ℕ) (b : B) → slice_get bs k ≡ Some b → slice_get parts k ≡ Some (part b)) → ((k : ℕ) (p : Part) → slice_get parts k ≡ Some p → Is g (length parts) k p) → Are g' 0 bs'

module _ {G B : Type 0} (part : B → Part) (Is : G → ℕ → ℕ → Part → Type 0) (Are : G → ℕ → List B → Type 0) (rows : G → ℕ) (start : G → ℕ → ℕ) (first : (g : G) → start g 0 ≡ 0) (none : (g : G) (m : ℕ) → m ≡ rows g → Are g (start g m) []) (more : (g : G) (n k : ℕ) (b : B) (bs : List B) → 0 < n → Is g n k (part b) → Are g (start g (part_start (rows g) n (suc k))) bs → Are g (start g (part_start (rows g) n k)) (b ∷ bs)) where
  bands_are : JoinsBands part Is Are
  bands_are g g' bs bs' parts same b some all from each =
      let n = length parts in
      let is = parts_all n (λ k. start g (part_start (rows g) n k)) (λ k x. Is g n k (part x)) (Are g) (none g _ (part_last (rows g) n some)) (λ k x xs is rest. more g n k x xs some is rest) bs all (λ k x h. each k (part x) (from k x h)) in
      let begun = subst (λ row. Are g row bs) (ap (start g) (part_first (rows g) n some) ∙ first g) is in
      subst (λ (xs : List B). Are g' 0 xs) (sym b) (subst (λ (x : G). Are x 0 bs) (sym same) begun)

-- the ground of the same operands and limit
pub ground_same : (s : Size) (one one' other other' : Cells) (limit limit' : ℕ) → one' ≡ one → other' ≡ other → limit' ≡ limit → ground_of s one' other' limit' ≡ ground_of s one other limit
ground_same s one one' other other' limit limit' e f l = ap (λ xs. ground_of s xs other' limit') e ∙ ap (λ xs. ground_of s one xs limit') f ∙ ap (ground_of s one other) l

pub costs_are : JoinsBands Costs IsCosts AreCostBands
costs_are = bands_are Costs IsCosts AreCostBands (λ g. g.size.rows) (λ g row. row) (λ g. refl) (λ g row e. e) (λ g n k b bs some is rest. (part_start g.size.rows n (suc k), is, rest))

pub nearest_are : JoinsBands Nearest IsNearest AreNearestBands
nearest_are = bands_are Nearest IsNearest AreNearestBands (λ g. g.size.rows) (λ g row. row) (λ g. refl) (λ g row e. e) (λ g n k b bs some is rest. (part_start g.size.rows n (suc k), is, rest))

pub labels_are : (s : Size) (cells : Cells) (bs bs' : List LabelBand) (parts : List Part) → bs' ≡ bs → 0 < length parts → length bs ≡ length parts → ((k : ℕ) (b : LabelBand) → slice_get bs k ≡ Some b → slice_get parts k ≡ Some (Labels b))
    → ((k : ℕ) (p : Part) → slice_get parts k ≡ Some p → IsLabels s cells (length parts) k p) → AreLabelBands s cells 0 bs'
labels_are s cells bs bs' parts = bands_are Labels (IsLabels s) (AreLabelBands s) (λ g. s.rows) (λ g row. row) (λ g. refl) (λ g row e. e) (λ g n k b bs some is rest. (part_start s.rows n (suc k), is, rest)) cells cells bs bs' parts refl

-- a band of the flow has the places of its rows
flows_more : (s : Size) (surface weights : Cells) (n k : ℕ) (b : FlowBand) (bs : List FlowBand) → 0 < n → IsFlows s surface weights n k (Flows b) → AreFlowBands s surface weights (part_start s.rows n (suc k) * s.columns) (cells_in s) bs → AreFlowBands s surface weights (part_start s.rows n k * s.columns) (cells_in s) (b ∷ bs)
flows_more s surface weights n k b bs some is rest =
    let first = part_start s.rows n k in
    let end = part_start s.rows n (suc k) in
    let whole : first + (end - first) ≡ end = omega (arith, part_rises s.rows n 0 k some (omega arith)) in
    let next : first * s.columns + (end - first) * s.columns ≡ end * s.columns = omega arith ∙ ap (λ m. m * s.columns) whole in
    let count = is.downs_count in
    (subst (λ m. IsFlowBand s surface weights (first * s.columns) m b) (sym count) is, subst (λ m. AreFlowBands s surface weights m (cells_in s) bs) (sym next ∙ ap (λ m. first * s.columns + m) (sym count)) rest)

pub flows_are : (s : Size) (one one' other other' : Cells) (bs bs' : List FlowBand) (parts : List Part) → one' ≡ one → other' ≡ other → bs' ≡ bs → 0 < length parts → length bs ≡ length parts → ((k : ℕ) (b : FlowBand) → slice_get bs k ≡ Some b → slice_get parts k ≡ Some (Flows b))
    → ((k : ℕ) (p : Part) → slice_get parts k ≡ Some p → IsFlows s one other (length parts) k p) → AreFlowBands s one' other' 0 (cells_in s) bs'
flows_are s one one' other other' bs bs' parts e f =
    let both : Cells → Cells → Cells × Cells = λ xs ys. (xs, ys) in
    bands_are Flows (λ (g : Cells × Cells). IsFlows s g.0 g.1) (λ (g : Cells × Cells) at bs. AreFlowBands s g.0 g.1 at (cells_in s) bs) (λ g. s.rows) (λ g row. row * s.columns) (λ g. omega arith) (λ g row end. ap (λ m. m * s.columns) end) (λ g n k b bs. flows_more s g.0 g.1 n k b bs) (one, other) (one', other') bs bs' parts (ap (λ xs. both xs other') e ∙ ap (both one) f)

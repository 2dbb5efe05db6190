-- What jobs rest on holds in one way at most.
use Rattle.std.proofs.Common.{ℕ, zero, suc, ℤ, pos, negsuc, List, [], ◌∷◌, length, Option, Some, None}
use Rattle.std.proofs.Math.Logic.{∥∥₁_elim}
use Rattle.std.proofs.Props.{props}
use Rattle.std.specs.Coded.{×_prop, Π_prop, Unit-prop}
use Rattle.map_nums.specs.declared.Stat.{Stat}
use Rattle.map_nums.specs.declared.Stat.TheVariants.{Product}
use Rattle.map_nums.specs.declared.Rate.{Rate}
use Rattle.map_nums.specs.Grids.{Size, Cells, cell_at}
use Rattle.map_defs.specs.Local.{LocalOp, difference}
use Rattle.map_defs.specs.Facts.{Class, zonal_class, sight_class, nearest_class, class_of}
use Rattle.map_defs.specs.Ops.{Term, layer_term, number_term, Head, rating_head, focal_head, zonal_head, Op}
use Rattle.layer_tiles.specs.Cells.{IsCell}
use Rattle.layer_tiles.specs.Changes.{ChangeState}
use Rattle.layer_tiles.specs.Operands.{cells_after}
use Rattle.local_ops.specs.Operations.{op_of, Takes}
use Rattle.drainage_flow.specs.FlowBands.{AreEven}
use Rattle.drainage_flow.specs.declared.flow_band.FlowBand.{FlowBand}
use Rattle.region_labels.specs.Roots.{IsBack, AreBack}
use Rattle.statement_parser.specs.Formed.{Each, IsRate, IsNoProduct, IsRadius, IsHead}
use Rattle.statement_parser.specs.Views.{op_view}
use Rattle.map_waves.specs.Statements.{cells_were}
use Rattle.map_waves.specs.Jobs.{was_in}
use Rattle.map_waves.specs.Keeping.{IsRightKept}
use Rattle.map_waves.specs.declared.keeping.Kept.{Kept}
use Rattle.map_waves.specs.declared.keeping.Aside.{Aside}
use Rattle.map_waves.specs.declared.keeping.Aside.TheVariants.{Layer, Other}
use Rattle.op_jobs.specs.Beside.{suits, suits_in}
use Rattle.op_jobs.specs.Grounds.{IsGround, IsGroundOf, IsGrounded}
use Rattle.op_jobs.specs.Kernels.{CanMake, beside_by}
use Rattle.op_jobs.specs.Owning.{IsOwn}
use Rattle.op_jobs.specs.declared.ground.Ground.{Ground}
use Rattle.op_jobs.specs.declared.ground.Ground.TheVariants as a_ground
use Rattle.op_jobs.specs.Lists.{IsList}
use Rattle.op_jobs.specs.Ranges.{IsInRange, HasRanges}
use Rattle.op_jobs.specs.Sound.{StatementJobs, IsSound}
use Rattle.op_jobs.specs.declared.beside.Beside.{Beside}
use Rattle.op_jobs.specs.declared.beside.Beside.TheVariants as a_beside
use Rattle.op_jobs.specs.declared.kernels.Kernel.{Kernel}
use Rattle.op_jobs.specs.declared.kernels.Kernel.TheVariants as a_kernel
use Rattle.op_jobs.specs.declared.lists.LayerList.{LayerList}
use Rattle.op_jobs.specs.declared.lists.LayerList.TheVariants.{Flow, Labels}
use Rattle.op_jobs.specs.declared.own.Own.{Own}
use Rattle.op_jobs.specs.declared.own.Own.TheVariants as an_own

-- ---- the numbers of the operation are in range

each_once : {A : Type 0} (P : A → Type 0) → ((x : A) → IsProp (P x)) → (xs : List A) → IsProp (Each P xs)
each_once P p [] = Unit-prop
each_once P p (x ∷ xs) = ×_prop (p x) (each_once P p xs)

term_once : (t : Term) → IsProp (IsInRange t)
term_once (layer_term n) = Unit-prop
term_once (number_term z) = hlevel props

cell_once : (c : Option _) → IsProp (IsCell c)
cell_once None = Unit-prop
cell_once (Some z) = hlevel props

rate_once : (r : Rate) → IsProp (IsRate r)
rate_once r = hlevel (cell_once r.give, props)

no_product_once : (s : Stat) → IsProp (IsNoProduct s)
no_product_once Product = hlevel
no_product_once s = Unit-prop

radius_once : (r : Option ℕ) → IsProp (IsRadius r)
radius_once None = Unit-prop
radius_once (Some r) = hlevel props

head_once : (head : Head) → IsProp (IsHead head)
head_once (rating_head rs) = hlevel (each_once IsRate rate_once rs, props)
head_once (focal_head s r) = ×_prop (no_product_once s) (radius_once r)
head_once (zonal_head s) = no_product_once s
head_once head = hlevel props

op_once : (op : Op) → IsProp (HasRanges op)
op_once op = hlevel (head_once op.head, each_once IsInRange term_once op.terms, props)

-- ---- what is kept is right

suits_once : (class : Class) (s : Size) (operands : List Cells) (b : Aside Beside) → IsProp (suits_in class s operands b)
suits_once (zonal_class stat) s operands (Other (a_beside.Book b)) = hlevel props
suits_once (zonal_class stat) s operands b = hlevel
suits_once (sight_class r) s operands (Other (a_beside.Viewers v)) = hlevel props
suits_once (sight_class r) s operands b = hlevel
suits_once (nearest_class limit) s operands (Layer l) = hlevel props
suits_once (nearest_class limit) s operands b = hlevel
suits_once class s operands (Other a_beside.Nothing) = Unit-prop
suits_once class s operands b = hlevel

right_once : (s : Size) (op : Op) (operands : List ChangeState) (kept : Option (Kept Beside)) → IsProp (IsRightKept suits s op operands kept)
right_once s op operands None = Unit-prop
right_once s op operands (Some k) = hlevel (suits_once (class_of op) s (cells_were operands) k.beside, props)

-- ---- what jobs share

takes_once : (l : LocalOp) (n : ℕ) → IsProp (Takes l n)
takes_once difference n = hlevel props
takes_once l n = hlevel props

even_once : (bands : List FlowBand) → IsProp (AreEven bands)
even_once [] = Unit-prop
even_once (b ∷ bands) = hlevel (even_once bands, props)

back_once : (i : ℕ) (label : Option ℤ) → IsProp (IsBack i label)
back_once i None = Unit-prop
back_once i (Some (pos zero)) = hlevel
back_once i (Some (pos (suc place))) = hlevel props
back_once i (Some (negsuc n)) = hlevel

list_once : (s : Size) (list : LayerList) → IsProp (IsList s list)
list_once s (Flow list) = hlevel (even_once list.bands.items, props)
list_once s (Labels list) = let back : IsProp (AreBack list.labels.items) = Π_prop λ i. Π_prop λ h. back_once i (cell_at list.labels.items i) in hlevel (back, props)
list_once s list = hlevel props

can_once : (s : Size) (operands : List ChangeState) (kernel : Kernel) → IsProp (CanMake s operands kernel)
can_once s operands (a_kernel.Local l) = takes_once (op_of l) (length operands)
can_once s operands (a_kernel.Focal stat r) = ×_prop (radius_once r) (hlevel props)
can_once s operands (a_kernel.Fresh fresh) = list_once s fresh.list
can_once s operands kernel = hlevel props

own_once : (s : Size) (op : Op) (operands : List ChangeState) (was : Option Cells) (own : Own) → IsProp (IsOwn s op operands was own)
own_once s op operands was (an_own.Tiles jobs) = hlevel (can_once s operands jobs.kernel, suits_once (class_of op) s (cells_after operands) (beside_by jobs.kernel), props)
own_once s op operands was (an_own.Whole job) = hlevel props

-- ---- what parts are found from

ground_of_once : (op : Op) (ground : Ground) → IsProp (IsGroundOf op ground)
ground_of_once op a_ground.Zones = hlevel props
ground_of_once op ground = hlevel props

ground_once : (s : Size) (operands : List ChangeState) (ground : Ground) → IsProp (IsGround s operands ground)
ground_once s operands a_ground.Zones = hlevel props
ground_once s operands ground = hlevel props

pub grounded_of : (s : Size) (op : Op) (operands : List ChangeState) (n : ℕ) (ground : Ground) → ∥ IsGrounded s op operands n ground ∥₁ → IsGrounded s op operands n ground
grounded_of s op operands n ground is = ∥∥₁_elim is (hlevel (ground_of_once op ground, ground_once s operands ground, props)) (λ x. x)

-- ---- all of it

pub sound_of : (j : StatementJobs) → ∥ IsSound j ∥₁ → IsSound j
sound_of j is =
    let op = op_view j.op in
    ∥∥₁_elim is (hlevel (op_once op, right_once j.size op j.operands j.kept, own_once j.size op j.operands (was_in j) j.own, props)) (λ x. x)

-- Operations whose tiles come from the operands alone, and their kernels.
use Rattle.std.proofs.Common.{◌≡◌, ℕ, List, length, Option, refl, sym, ap, subst, arith}
use Rattle.map_nums.specs.declared.Rate.{Rate}
use Rattle.map_nums.specs.declared.Stat.{Stat}
use Rattle.map_nums.specs.Grids.{Size, Cells, Grid}
use Rattle.map_defs.specs.Facts.{local_class, class_of, HasTerms, reach_in}
use Rattle.map_defs.specs.Incremental.{Form, form_grid}
use Rattle.map_defs.specs.Local as locals
use Rattle.map_defs.specs.Local.{of_stat, rating, local_grid}
use Rattle.map_defs.specs.Operate.{operate, operand}
use Rattle.map_defs.specs.Ops.{Op, Term, local_op, difference_op, ratio_op, rating_op, focal_op, form_op, direction_op}
use Rattle.layer_tiles.specs.Operands.{cells_after}
use Rattle.local_ops.specs.Operations.{op_of, Takes}
use Rattle.local_ops.specs.declared.ops.LocalOp.{LocalOp}
use Rattle.local_ops.specs.declared.ops.LocalOp.TheVariants as a_local
use Rattle.incremental_ops.specs.Shapes.{form_of}
use Rattle.incremental_ops.specs.declared.values.Shape as shapes
use Rattle.statement_parser.specs.Formed.{IsRadius}
use Rattle.op_jobs.specs.Classes.{is_plain_in}
use Rattle.op_jobs.specs.Repairs.{IsPlain}
use Rattle.op_jobs.specs.declared.kernels.Kernel.TheVariants.{Local, Focal, Shape, Direction}

local_plain : (op : Op) (l : LocalOp) → class_of op ≡ local_class → ((s : Size) (xs : List Cells) → operate s op xs ≡ local_grid s (op_of l) xs) → Takes (op_of l) (length op.terms) → IsPlain op (Local l)
local_plain op l class grid takes = record {
  class = ap is_plain_in class;
  reach = sym (ap reach_in class);
  can = λ s xs n. subst (Takes (op_of l)) (sym n) takes;
  cells = λ s xs. ap (λ (g : Grid). g.cells) (sym (grid s (cells_after xs)));
  alone = refl;
  idle = refl;
}

pub stat_plain : (stat : Stat) (ignoring : _) (ts : List Term) (l : LocalOp) → op_of l ≡ of_stat stat ignoring → HasTerms (local_op stat ignoring ts) → IsPlain (local_op stat ignoring ts) (Local l)
unfolding operate
stat_plain stat ignoring ts l e has =
    local_plain (local_op stat ignoring ts) l refl (λ s xs. ap (λ (o : locals.LocalOp). local_grid s o xs) (sym e)) (subst (λ (o : locals.LocalOp). Takes o (length ts)) (sym e) has)

pub difference_plain : (t u : Term) → IsPlain (difference_op t u) (Local a_local.Difference)
unfolding operate
difference_plain t u = local_plain (difference_op t u) a_local.Difference refl (λ s xs. refl) refl

pub ratio_plain : (t u : Term) → IsPlain (ratio_op t u) (Local a_local.Ratio)
unfolding operate
ratio_plain t u = local_plain (ratio_op t u) a_local.Ratio refl (λ s xs. refl) refl

pub rating_plain : (t : Term) (rates kept : List Rate) → kept ≡ rates → IsPlain (rating_op t rates) (Local (a_local.Rating kept))
unfolding operate
rating_plain t rates kept e = local_plain (rating_op t rates) (a_local.Rating kept) refl (λ s xs. ap (λ (rs : List Rate). local_grid s (rating rs) xs) (sym e)) refl

pub focal_plain : (stat : Stat) (r : Option ℕ) (t : Term) → IsRadius r → IsPlain (focal_op stat r t) (Focal stat r)
unfolding operate
focal_plain stat r t radius = record {
  class = refl;
  reach = refl;
  can = λ s xs n. (radius, omega (arith, n));
  cells = λ s xs. refl;
  alone = refl;
  idle = refl;
}

pub shape_plain : (shape : shapes.Shape) (form : Form) (t : Term) → form_of shape ≡ form → IsPlain (form_op form t) (Shape shape)
unfolding operate
shape_plain shape form t e = record {
  class = refl;
  reach = refl;
  can = λ s xs n. omega (arith, n);
  cells = λ s xs. ap (λ (f : Form). (form_grid f s (operand (cells_after xs) 0)).cells) e;
  alone = refl;
  idle = refl;
}

pub direction_plain : (t : Term) → IsPlain (direction_op t) Direction
unfolding operate
direction_plain t = record {
  class = refl;
  reach = refl;
  can = λ s xs n. omega (arith, n);
  cells = λ s xs. refl;
  alone = refl;
  idle = refl;
}

-- Operations that one job repairs, by their heads, and their operands.
use Rattle.std.proofs.Common.{◌≡◌, ℕ, ◌*◌, ◌≤◌, ℤ, nat_abs, unsigned_abs, pos, negsuc, List, [], ◌∷◌, length, Option, Some, Result, slice_get, refl, sym, ◌∙◌, ap, subst, arith, IsTrue, IsFalse}
use mir.Val.{to_z, of_z}
use Rattle.std.proofs.lemmas.Int.{to_z-of_z, fits_signed_from_abs}
use Rattle.map_nums.specs.Widths.{value_width}
use Rattle.map_nums.specs.Numbers.{greatest_value}
use Rattle.map_nums.specs.Grids.{Cells}
use Rattle.map_defs.specs.Facts.{facts, HasTerms, is_repaired}
use Rattle.map_defs.specs.Ops.{Head, Op, Term, of_two, flow_op, spread_op, nearest_op, region_op}
use Rattle.layer_tiles.specs.Changes.{ChangeState}
use Rattle.layer_tiles.specs.Layers.{LayerState}
use Rattle.layer_tiles.specs.Operands.{size_of}
use Rattle.layer_tiles.specs.Patches.{PatchState}
use Rattle.layer_tiles.specs.Tallies.{TallyState, RisesBy}
use Rattle.layer_tiles.specs.declared.kernels.KernelRefusal.{KernelRefusal}
use Rattle.map_waves.specs.Statements.{damage_by, work_by}
use Rattle.op_jobs.specs.Classes.{is_nearest_in, is_zonal_in}
use Rattle.op_jobs.specs.Ranges.{HasRanges}
use Rattle.op_jobs.specs.Repairs.{head_of, IsRepairOf}
use Rattle.op_jobs.specs.Whole.{IsRightBefore, IsWholeAnswer}
use Rattle.op_jobs.specs.declared.own.Lone.{Lone}
use Rattle.op_jobs.specs.declared.own.Lone.TheVariants.{Flow, Spread, Regions}
use Rattle.op_jobs.specs.declared.own.Repair.{Repair}
use Rattle.op_jobs.specs.declared.own.Repair.TheVariants.{Alone, Nearest}
use Rattle.op_jobs.proofs.Both.{one_of, two_of}

-- ---- terms

with_head : (op : Op) (head : Head) (ts : List Term) → op.head ≡ head → op.terms ≡ ts → op ≡ record { head = head; terms = ts }
with_head op head ts e f =
    let P : Head → List Term → Op = λ h us. record { head = h; terms = us } in
    ap (λ h. P h op.terms) e ∙ ap (P head) f

op_two : (op : Op) (head : Head) → op.head ≡ head → (facts head).least ≡ 2 → (facts head).most ≡ 2 → HasTerms op → (t : Term) × (u : Term) × (op ≡ of_two head t u)
op_two op head e least most has =
    let here = subst (λ h. ((facts h).least ≤ length op.terms) × (length op.terms ≤ (facts h).most)) e has in
    let ts = two_of op.terms (omega (arith, here.0, here.1, least, most)) in
    (ts.0, ts.1.0, with_head op head (ts.0 ∷ ts.1.0 ∷ []) e ts.1.1)

pub flow_is : (op : Op) → IsRepairOf op (Alone Flow) → HasRanges op → (t : Term) × (u : Term) × (op ≡ flow_op t u)
flow_is op is has = op_two op (head_of (Alone Flow)) is refl refl has.1

pub spread_is : (op : Op) (limit : ℕ) → IsRepairOf op (Alone (Spread limit)) → HasRanges op → (t : Term) × (u : Term) × (op ≡ spread_op limit t u)
spread_is op limit is has = op_two op (head_of (Alone (Spread limit))) is refl refl has.1

pub nearest_is : (op : Op) (limit : ℕ) → IsRepairOf op (Nearest limit) → HasRanges op → (t : Term) × (u : Term) × (op ≡ nearest_op limit t u)
nearest_is op limit is has = op_two op (head_of (Nearest limit)) is refl refl has.1

pub region_is : (op : Op) → IsRepairOf op (Alone Regions) → HasRanges op → (t : Term) × (op ≡ region_op t)
region_is op is has =
    let here = subst (λ h. ((facts h).least ≤ length op.terms) × (length op.terms ≤ (facts h).most)) is has.1 in
    let ts = one_of op.terms (omega (arith, here.0, here.1)) in
    (ts.0, with_head op (head_of (Alone Regions)) (ts.0 ∷ []) is ts.1)

-- ---- classes

-- of each head that a job repairs
classed : (repair : Repair) → IsTrue (is_repaired (facts (head_of repair)).class) × IsFalse (is_zonal_in (facts (head_of repair)).class)
classed (Alone Flow) = (refl, refl)
classed (Alone (Spread limit)) = (refl, refl)
classed (Alone Regions) = (refl, refl)
classed (Nearest limit) = (refl, refl)

pub works : (repair : Repair) (head : Head) → head ≡ head_of repair → IsTrue (is_repaired (facts head).class)
works repair head e = ap (λ h. is_repaired (facts h).class) e ∙ (classed repair).0

pub not_zonal : (repair : Repair) (head : Head) → head ≡ head_of repair → IsFalse (is_zonal_in (facts head).class)
not_zonal repair head e = ap (λ h. is_zonal_in (facts h).class) e ∙ (classed repair).1

-- nothing stands beside its layer
pub alone_other : (lone : Lone) (head : Head) → head ≡ head_of (Alone lone) → IsFalse (is_nearest_in (facts head).class)
alone_other Flow head e = ap (λ h. is_nearest_in (facts h).class) e
alone_other (Spread limit) head e = ap (λ h. is_nearest_in (facts h).class) e
alone_other Regions head e = ap (λ h. is_nearest_in (facts h).class) e

-- ---- operands

pub only_is : (xs : List ChangeState) (a : ChangeState) → length xs ≡ 1 → slice_get xs 0 ≡ Some a → xs ≡ a ∷ []
only_is xs a n e = let p = one_of xs n in let is = p.1 in let here = sym (ap (λ (ys : List ChangeState). slice_get ys 0) is) ∙ e in cc

pub both_are : (xs : List ChangeState) (a b : ChangeState) → length xs ≡ 2 → slice_get xs 0 ≡ Some a → slice_get xs 1 ≡ Some b → xs ≡ a ∷ b ∷ []
both_are xs a b n e f =
    let p = two_of xs n in
    let is = p.1.1 in
    let first = sym (ap (λ (ys : List ChangeState). slice_get ys 0) is) ∙ e in
    let second = sym (ap (λ (ys : List ChangeState). slice_get ys 1) is) ∙ f in
    cc

-- from an operation's own operands to its kernel's, and back
module _ (xs ys : List ChangeState) (op o : Op) (e : xs ≡ ys) (f : op ≡ o) where
  at_kernel : (P : Op → List ChangeState → Type 0) → P op xs → P o ys
  at_kernel P p = subst (P o) e (subst (λ (q : Op). P q xs) f p)

  from_kernel : (P : Op → List ChangeState → Type 0) → P o ys → P op xs
  from_kernel P p = subst (P op) (sym e) (subst (λ (q : Op). P q ys) (sym f) p)

  pub right_to : (old : Option LayerState) → IsRightBefore (size_of xs) op xs old → IsRightBefore (size_of ys) o ys old
  right_to old = at_kernel (λ q zs. IsRightBefore (size_of zs) q zs old)

  pub answer_from : (was : Option Cells) (r : Result (PatchState × ℕ) KernelRefusal) → IsWholeAnswer (size_of ys) o was ys r → IsWholeAnswer (size_of xs) op was xs r
  answer_from was r = from_kernel (λ q zs. IsWholeAnswer (size_of zs) q was zs r)

  pub rises_from : (was : Option Cells) (a b : TallyState) → RisesBy (32 * length (damage_by (size_of ys) o was ys)) (1000 * work_by (size_of ys) o was ys) a b → RisesBy (32 * length (damage_by (size_of xs) op was xs)) (1000 * work_by (size_of xs) op was xs) a b
  rises_from was a b = from_kernel (λ q zs. RisesBy (32 * length (damage_by (size_of zs) q was zs)) (1000 * work_by (size_of zs) q was zs) a b)

-- ---- the limit

magnitude_is : (z : ℤ) → unsigned_abs z ≡ nat_abs z
magnitude_is (pos n) = refl
magnitude_is (negsuc n) = refl

-- as it is written
pub limit_value : (n : ℕ) (z : ℤ) → nat_abs z ≤ greatest_value → n ≡ unsigned_abs (to_z value_width (of_z value_width z)) → n ≡ nat_abs z
limit_value n z l e = e ∙ ap (λ (x : ℤ). unsigned_abs x) (to_z-of_z value_width z (fits_signed_from_abs value_width z (omega (arith, l, magnitude_is z)))) ∙ magnitude_is z

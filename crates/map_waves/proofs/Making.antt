-- One statement: what is prepared of it, by the way that it is repaired, and its operands. It stays, or it is at work.
use Rattle.std.proofs.Common.{◌≡◌, ℕ, ◌*◌, ◌≤◌, Bool, true, false, List, [], ◌∷◌, length, Option, Some, None, unwrap_or, is_some, slice_get, if◌then◌else◌, refl, sym, ap, subst, ◌∙◌, arith, ◌<◌, get_or, map, slice_index_or, ◌≢◌, suc, ◌+◌, ◌++◌, ◌⊎◌, inl, inr}
use Rattle.std.specs.List.{All}
use Rattle.std.proofs.lemmas.Bool.{false≢true, cases_lt}
use Rattle.std.proofs.lemmas.Option.{none-some, slice_get_within, get_or_from_slice_get, slice_get-get_or, slice_get_read, same_Some}
use Rattle.std.proofs.lemmas.List.{length-map, get_or-map}
use Rattle.std.proofs.lemmas.List.Elements.{All-head, All-tail}
use Rattle.std.specs.Prelude.{if◌then◌else◌}
use Rattle.map_nums.specs.Grids.{Size, Cells, cells_in, IsSize}
use Rattle.map_nums.specs.Tiles.{tiles}
use Rattle.map_defs.specs.Ops.{Op}
use Rattle.map_defs.specs.Damage.{changed_tiles, op_damage}
use Rattle.map_defs.specs.Work.{op_work}
use Rattle.layer_tiles.specs.Changes.{ChangeState, cells_before, patched_change, constant_change}
use Rattle.layer_tiles.specs.Layers.{IsLayer}
use Rattle.layer_tiles.specs.Operands.{cells_after}
use Rattle.layer_tiles.specs.Patches.{PatchState, IsPatch, HoldsAll, patched, numbers_of}
use Rattle.layer_tiles.specs.Narrowed.{narrowed}
use Rattle.layer_tiles.proofs.Found.{HoldsAll-from_numbers}
use Rattle.layer_tiles.proofs.Patching.{length-patched}
use Rattle.map_waves.specs.Statements.{made, cells_were, damage_by, work_by, fault_in}
use Rattle.map_waves.specs.Operands.{IsOperand}
use Rattle.map_waves.specs.Keeping.{IsRightOver, CanPut, IsPut, was_of, IsRightKept}
use Rattle.map_waves.specs.Gathered.{IsRepaired}
use Rattle.map_waves.specs.Plans.{StepDef, change_by, reckoned, Plan, operand_in, changes_to, change_at, operands_at}
use Rattle.map_waves.specs.Bases.{IsBase, kept_by, step_of, step_by, plan_of, IsRef, IsStep, ArePlanned, AreRight}
use Rattle.map_waves.specs.Prepared.{IsMade, shown, ArePrepared}
use Rattle.map_waves.specs.declared.keeping.Aside.{Aside}
use Rattle.map_waves.specs.declared.keeping.Renewal.{Renewal}
use Rattle.map_waves.specs.declared.keeping.Renewal.TheVariants.{Anew, Patched}
use Rattle.map_waves.specs.declared.keeping.Kept.{Kept}
use Rattle.map_waves.specs.declared.keeping.Made.{Made}
use Rattle.map_waves.specs.declared.plans.Base.{Base}
use Rattle.map_waves.specs.declared.plans.Ref.{Ref}
use Rattle.map_waves.specs.declared.plans.Ref.TheVariants.{Source, Statement, Number}
use Rattle.map_waves.specs.declared.plans.Step.{Step}
use Rattle.map_waves.specs.Phases.{AreAlike}
use Rattle.map_waves.specs.Tasks.{AreBetween, StaysAt, IsFit, IsTask}
use Rattle.map_defs.proofs.Unchanged.{damage_none, damage_all, changed_none, changed_all, work_none}
use Rattle.map_waves.proofs.Narrowing.{narrowed_exact, narrowed_cells}
use Rattle.map_waves.proofs.Unchanged.{unchanged}
use Rattle.map_waves.proofs.Running.{changes_at}
use Rattle.map_waves.proofs.Phasing.{past_end}
use Rattle.map_waves.proofs.Reading.{prepared_at}

-- ---- what is kept

pub all_get : {X : Type 0} (P : X → Type 0) (xs : List X) → All P xs → (i : ℕ) (x : X) → slice_get xs i ≡ Some x → P x
all_get P xs all i x e = subst P (get_or_from_slice_get xs i x x e) (all i x (slice_get_within xs i x e))

pub kept_layer : {B : Type 0} (base : Base B) → IsBase base → (k : Option ℕ) (own : Kept B) → kept_by base k ≡ Some own → (own.layer.size ≡ base.extent) × IsLayer own.layer
kept_layer base is None own e = absurd (none-some own e)
kept_layer {B} base is (Some i) own e = all_get (λ (k : Kept B). (k.layer.size ≡ base.extent) × IsLayer k.layer) base.kept.now is.kept i own e

-- ---- a patch of every tile

pub all_numbers : (s : Size) (p : PatchState) (now : Cells) → p.size ≡ s → numbers_of p.tiles ≡ changed_tiles s None now → HoldsAll p
all_numbers s p now size exact = HoldsAll-from_numbers p (exact ∙ changed_all s now ∙ ap tiles (sym size))

abbrev shape : Size → Option Cells → Cells → List ℕ → ChangeState
shape s was now touched = record { size = s; before = was; cells = now; touched = touched }

pub reckoned_written : (x : StepDef) → x.written ≡ true → reckoned x ≡ None
reckoned_written x e = ap (λ b. if b then None else x.was) e

pub reckoned_was : (x : StepDef) → x.written ≡ false → reckoned x ≡ x.was
reckoned_was x e = ap (λ b. if b then None else x.was) e

pub reckoned_new : (x : StepDef) → x.was ≡ None → reckoned x ≡ None
reckoned_new x e = ap (λ w. if x.written then None else w) e ∙ elim x.written as (λ (b : Bool). ◌≡◌ {A = Option Cells} (if b then None else None) None) [ true ↦ refl | false ↦ refl ]

-- ---- what is made all anew can be put beside any layer, as beside none

module _ {B : Type 0} where
  put_anywhere : (r : Renewal B) → CanPut None r → (beside : Option (Aside B)) → CanPut beside r
  put_anywhere (Anew new) can beside = tt
  put_anywhere (Patched patch) can beside = absurd can

  put_nowhere : (r : Renewal B) → CanPut None r → (beside : Option (Aside B)) (b : Aside B) → IsPut beside r b → IsPut None r b
  put_nowhere (Anew new) can beside b is = is
  put_nowhere (Patched patch) can beside b is = absurd can

module _ {B : Type 0} (suits : Size → Op → List Cells → Aside B → Type 0) (s : Size) (x : StepDef) (operands : List ChangeState) where
  abbrev now : Cells
  now = made s x.op (cells_after operands)

  counted : (cells : Cells) (p : PatchState) → patched s cells p.tiles ≡ now → length now ≡ cells_in s
  counted cells p is = ap length (sym is) ∙ length-patched s cells p.tiles

  -- a statement that was undefined
  pub made_fresh : (m : Made B) → x.was ≡ None → IsRepaired suits s x.op operands None None m → fault_in s x.op (cells_after operands) ≡ None → IsMade suits s x operands None (Some m)
  made_fresh m was repaired faultless = record {
    ready = (repaired.size, all_numbers s m.patch now repaired.size repaired.exact, repaired.can_put);
    count = counted [] m.patch repaired.cells;
    change =
        ap (λ z. shape z None (patched z [] m.patch.tiles) (numbers_of m.patch.tiles)) repaired.size
        ∙ ap (λ cells. shape s None cells (numbers_of m.patch.tiles)) repaired.cells
        ∙ ap (λ touched. shape s None now touched) repaired.exact
        ∙ ap (λ w. shape s w now (changed_tiles s w now)) (sym was);
    beside = repaired.beside;
    evaluated = repaired.evaluated ∙ ap (λ w. length (damage_by s x.op w operands)) (sym (reckoned_new x was));
    worked = repaired.worked ∙ ap (λ w. work_by s x.op w operands) (sym (reckoned_new x was));
    little = repaired.little;
    faultless = faultless;
  }

  module _ (own : Kept B) (size : own.layer.size ≡ s) (was : x.was ≡ Some own.layer.cells) where
    changed_from : (p : PatchState) → patched s own.layer.cells p.tiles ≡ now → numbers_of p.tiles ≡ changed_tiles s (Some own.layer.cells) now → patched_change own.layer p ≡ change_by s x operands
    changed_from p cells exact =
        ap (λ z. shape z (Some own.layer.cells) (patched z own.layer.cells p.tiles) (numbers_of p.tiles)) size
        ∙ ap (λ cells. shape s (Some own.layer.cells) cells (numbers_of p.tiles)) cells
        ∙ ap (λ touched. shape s (Some own.layer.cells) now touched) exact
        ∙ ap (λ w. shape s w now (changed_tiles s w now)) (sym was)

    -- one that the edit wrote: as if it had been undefined, and then narrowed
    pub made_written : (m : Made B) (p : PatchState) → x.written ≡ true → IsPatch m.patch → IsRepaired suits s x.op operands None None m → fault_in s x.op (cells_after operands) ≡ None
        → p ≡ record m.patch { tiles = narrowed own.layer.size own.layer.cells m.patch.tiles } → IsMade suits s x operands (Some own) (Some (record m { patch = p }))
    made_written m p written patch repaired faultless narrow =
        let numbers : numbers_of m.patch.tiles ≡ tiles s = repaired.exact ∙ changed_all s now in
        let is : IsPatch (record { size = s; tiles = m.patch.tiles }) = subst (λ z. IsPatch (record { size = z; tiles = m.patch.tiles })) repaired.size patch in
        let all : HoldsAll (record { size = s; tiles = m.patch.tiles }) = HoldsAll-from_numbers (record { size = s; tiles = m.patch.tiles }) numbers in
        let held : p.tiles ≡ narrowed s own.layer.cells m.patch.tiles = ap (λ (p : PatchState). p.tiles) narrow ∙ ap (λ z. narrowed z own.layer.cells m.patch.tiles) size in
        let cells : patched s own.layer.cells p.tiles ≡ now = ap (patched s own.layer.cells) held ∙ narrowed_cells s own.layer.cells m.patch.tiles is numbers all ∙ repaired.cells in
        let exact : numbers_of p.tiles ≡ changed_tiles s (Some own.layer.cells) now =
        ap numbers_of held ∙ narrowed_exact s own.layer.cells m.patch.tiles is numbers all ∙ ap (λ c. changed_tiles s (Some own.layer.cells) c) repaired.cells in
        record {
          ready = (ap (λ (p : PatchState). p.size) narrow ∙ repaired.size, size, put_anywhere m.beside repaired.can_put (Some own.beside));
          count = counted own.layer.cells p cells;
          change = changed_from p cells exact;
          beside = λ b is. repaired.beside b (put_nowhere m.beside repaired.can_put (Some own.beside) b is);
          evaluated = repaired.evaluated ∙ ap (λ w. length (damage_by s x.op w operands)) (sym (reckoned_written x written));
          worked = repaired.worked ∙ ap (λ w. work_by s x.op w operands) (sym (reckoned_written x written));
          little = repaired.little;
          faultless = faultless;
        }

    module _ (left : x.written ≡ false) where
      -- one with an operand that changed
      pub made_changed : (m : Made B) → IsRepaired suits s x.op operands (Some own.layer.cells) (Some own.beside) m → fault_in s x.op (cells_after operands) ≡ None → IsMade suits s x operands (Some own) (Some m)
      made_changed m repaired faultless = record {
        ready = (repaired.size, size, repaired.can_put);
        count = counted own.layer.cells m.patch repaired.cells;
        change = changed_from m.patch repaired.cells repaired.exact;
        beside = repaired.beside;
        evaluated = repaired.evaluated ∙ ap (λ w. length (damage_by s x.op w operands)) (sym (reckoned_was x left ∙ was));
        worked = repaired.worked ∙ ap (λ w. work_by s x.op w operands) (sym (reckoned_was x left ∙ was));
        little = repaired.little;
        faultless = faultless;
      }

      -- one without
      pub made_same : IsLayer own.layer → IsRightOver suits s x.op operands own → cells_after operands ≡ cells_were operands → IsMade suits s x operands (Some own) None
      made_same layer right same =
          let w : Cells = own.layer.cells in
          let kept : w ≡ now = right.right ∙ ap (made s x.op) (sym same) in
          let none : changed_tiles s (Some w) now ≡ [] = ap (λ c. changed_tiles s (Some w) c) (sym kept) ∙ changed_none s (cells_after operands) w in
          let damage : op_damage x.op s (cells_were operands) (cells_after operands) (Some w) now ≡ [] =
          ap (λ b. op_damage x.op s b (cells_after operands) (Some w) now) (sym same) ∙ ap (λ c. op_damage x.op s (cells_after operands) (cells_after operands) (Some w) c) (sym kept)
          ∙ damage_none s (cells_after operands) w x.op in
          let work : op_work x.op s (cells_were operands) (cells_after operands) (Some w) now ≡ 0 =
          ap (λ b. op_work x.op s b (cells_after operands) (Some w) now) (sym same) ∙ ap (λ c. op_work x.op s (cells_after operands) (cells_after operands) (Some w) c) (sym kept)
          ∙ work_none s (cells_after operands) w x.op in
          let from : reckoned x ≡ Some w = reckoned_was x left ∙ was in
          record {
            ready = tt;
            count = ap length (sym kept) ∙ layer.cells ∙ ap cells_in size;
            change =
                ap (λ z. shape z (Some w) w []) size
                ∙ ap (λ c. shape s (Some w) c []) kept
                ∙ ap (λ touched. shape s (Some w) now touched) (sym none)
                ∙ ap (λ w. shape s w now (changed_tiles s w now)) (sym was);
            beside = λ b is. subst (λ (b : Aside B). suits s x.op (cells_after operands) b) (sym is) (subst (λ (os : List Cells). suits s x.op os own.beside) (sym same) right.beside);
            evaluated = sym (ap (λ w. length (damage_by s x.op w operands)) from ∙ ap (λ (ts : List ℕ). length ts) damage);
            worked = sym (ap (λ w. work_by s x.op w operands) from ∙ work);
            little = omega arith;
            faultless = ap (fault_in s x.op) same ∙ right.faultless;
          }

-- ---- operands that stay

pub unchanged_operands : (s : Size) (os : List ChangeState) → All (IsOperand s) os → All (λ c. is_some c.before ≡ true) os → All (λ c. c.touched ≡ []) os → cells_after os ≡ cells_were os
unchanged_operands s [] all there none = refl
unchanged_operands s (c ∷ os) all there none =
    ap (λ cells. cells ∷ cells_after os) (go c.before refl (All-head (λ (c : ChangeState). is_some c.before ≡ true) c os there))
    ∙ ap (λ rest. cells_before c ∷ rest)
    (unchanged_operands s os (All-tail (IsOperand s) c os all) (All-tail (λ (c : ChangeState). is_some c.before ≡ true) c os there) (All-tail (λ (c : ChangeState). c.touched ≡ []) c os none))
  where
    go : (o : Option Cells) → c.before ≡ o → is_some c.before ≡ true → c.cells ≡ cells_before c
    go None e h = absurd (false≢true (sym (ap is_some e) ∙ h))
    go (Some was) e h = (All-head (IsOperand s) c os all).same was e (All-head (λ (c : ChangeState). c.touched ≡ []) c os none) ∙ sym (ap (λ o. unwrap_or o []) e)

-- ---- the looks at one that the edit wrote

pub narrow_looks : {B : Type 0} (suits : Size → Op → List Cells → Aside B → Type 0) (s : Size) (x : StepDef) (operands : List ChangeState) (m : Made B) → x.written ≡ true → IsRepaired suits s x.op operands None None m
    → 2 * length m.patch.tiles ≤ 2 * length (damage_by s x.op (reckoned x) operands)
narrow_looks suits s x operands m written repaired =
    let now : Cells = made s x.op (cells_after operands) in
    let all : length (damage_by s x.op None operands) ≡ length (tiles s) = ap (λ (ts : List ℕ). length ts) (damage_all x.op s (cells_were operands) (cells_after operands) now) in
    let own : length (damage_by s x.op (reckoned x) operands) ≡ length (damage_by s x.op None operands) = ap (λ w. length (damage_by s x.op w operands)) (reckoned_written x written) in
    let held : length m.patch.tiles ≡ length (tiles s) = sym (length-map m.patch.tiles (λ e. e.0)) ∙ ap (λ (ts : List ℕ). length ts) (repaired.exact ∙ changed_all s now) in
    omega arith

-- ---- the operands of a statement

-- the statement at a place
pub step_is : {O B : Type 0} (means : O → Op) (base : Base B) (steps : List (Step O)) (k : ℕ) (x : Step O) → slice_get steps k ≡ Some x → (plan_of means base steps).step k ≡ step_of means base x
step_is means base steps k x e = ap (step_by means base) e

-- a number everywhere
constant_operand : (s : Size) (c : Option _) → IsOperand s (constant_change s c)
constant_operand s c = record {
  size = refl;
  exact = λ was e. let same : (constant_change s c).cells ≡ was = cc in sym (ap (λ w. changed_tiles s (Some w) (constant_change s c).cells) (sym same) ∙ changed_none s [] (constant_change s c).cells);
  same = λ was e none. cc;
}

module _ {B : Type 0} (suits : Size → Op → List Cells → Aside B → Type 0) (base : Base B) (is : IsBase base) where
  kept_cells : (k : Option ℕ) (w : Cells) (o : Option (Kept B)) → kept_by base k ≡ o → was_of o ≡ Some w → (own : Kept B) × (kept_by base k ≡ Some own) × (own.layer.cells ≡ w)
  kept_cells k w None e h = absurd (none-some w h)
  kept_cells k w (Some own) e h = let same : own.layer.cells ≡ w = cc in (own, e, same)

  -- a statement that is prepared
  made_operand : (x : StepDef) (k : Option ℕ) (operands : List ChangeState) (r : Option (Made B)) → x.was ≡ was_of (kept_by base k) → IsMade suits base.extent x operands (kept_by base k) r
      → IsOperand base.extent (change_by base.extent x operands)
  made_operand x k operands r was_is made_is = record {
    size = refl;
    exact = λ w e. ap (λ o. changed_tiles base.extent o cells_now) e;
    same = λ w e none.
        let found = kept_cells k w (kept_by base k) refl (sym was_is ∙ e) in
        let layer = kept_layer base is k found.0 found.1 in
        let whole : length w ≡ cells_in base.extent = ap length (sym found.2) ∙ layer.1.cells ∙ ap cells_in layer.0 in
        let none_from : changed_tiles base.extent (Some w) cells_now ≡ [] = ap (λ o. changed_tiles base.extent o cells_now) (sym e) ∙ none in
        sym (unchanged base.extent w cells_now (subst (λ s. IsSize s) layer.0 layer.1.size) none_from whole made_is.count);
  }
    where
      cells_now : Cells
      cells_now = made base.extent x.op (cells_after operands)

  module _ {O : Type 0} (means : O → Op) (steps : List (Step O)) (rs : List (Option (Made B))) (prepared : ArePrepared means suits base steps 0 rs) (few : length rs ≤ length steps) where
    abbrev whole : Plan
    whole = plan_of means base steps

    operand_is : (k : ℕ) (r : Ref) → length rs ≤ k → IsRef base (length rs) r → IsOperand base.extent (operand_in whole (changes_to whole k) r)
    operand_is k (Source i) h within = is.operands i
    operand_is k (Number c) h within = constant_operand base.extent c
    operand_is k (Statement j) h within = go (slice_get steps j) refl (slice_get rs j) refl
      where
        go : (o : Option (Step O)) → slice_get steps j ≡ o → (q : Option (Option (Made B))) → slice_get rs j ≡ q → IsOperand base.extent (slice_index_or (changes_to whole k) j (constant_change base.extent None))
        go None e q f = let past : length steps ≤ j = past_end steps j e in absurd (omega arith)
        go (Some x) e None f = let past : length rs ≤ j = past_end rs j f in absurd (omega arith)
        go (Some x) e (Some r) f =
            let made_is = prepared_at means suits base steps rs prepared j x r e f in
            let step = step_is means base steps j x e in
            subst (λ c. IsOperand base.extent c) (sym (changes_at whole j k (constant_change base.extent None) (omega arith)))
            (made_operand (whole.step j) x.kept (operands_at whole j) r (ap (λ (d : StepDef). d.was) step) made_is)

    pub operands_are : (k : ℕ) (refs : List Ref) → length rs ≤ k → All (IsRef base (length rs)) refs → All (IsOperand base.extent) (map (operand_in whole (changes_to whole k)) refs)
    operands_are k refs h all i d within =
        let count = length-map refs (operand_in whole (changes_to whole k)) in
        let less : i < length refs = omega arith in
        subst (λ c. IsOperand base.extent c) (sym (get_or-map (operand_in whole (changes_to whole k)) refs i (Number None) d less)) (operand_is k (get_or refs i (Number None)) h (all i (Number None) less))

-- a statement that is prepared, and of which no reader is shown a tile
pub quiet_step : {O B : Type 0} (means : O → Op) (suits : Size → Op → List Cells → Aside B → Type 0) (base : Base B) (steps : List (Step O)) (rs : List (Option (Made B))) → ArePrepared means suits base steps 0 rs → length rs ≤ length steps
    → (j : ℕ) (r : Option (Made B)) → slice_get rs j ≡ Some r → ((s : Size) (own : Option (Kept B)) → (shown s own r).touched ≡ []) → (change_at (plan_of means base steps) j).touched ≡ []
quiet_step {O} {B} means suits base steps rs prepared few j r e quiet = go (slice_get steps j) refl
  where
    go : (o : Option (Step O)) → slice_get steps j ≡ o → (change_at (plan_of means base steps) j).touched ≡ []
    go None f = let past : length steps ≤ j = past_end steps j f in let within = slice_get_within rs j r e in absurd (omega arith)
    go (Some x) f =
        let made_is = prepared_at means suits base steps rs prepared j x r f e in
        ap (λ (c : ChangeState). c.touched) (sym made_is.change) ∙ quiet base.extent (kept_by base x.kept)

-- ---- places that ascend

pub between_stays : (stays : ℕ → Type 0) (low k : ℕ) (xs : List ℕ) → AreBetween stays low k xs → low ≤ k → stays k → AreBetween stays low (k + 1) xs
between_stays stays low k [] between from here = λ j low_j below. go j low_j below (cases_lt j k)
  where
    go : (j : ℕ) → low ≤ j → j < k + 1 → (j < k) ⊎ (k ≤ j) → stays j
    go j low_j below (inl less) = between j low_j less
    go j low_j below (inr more) = let same : k ≡ j = omega arith in subst stays same here
between_stays stays low k (x ∷ xs) between from here =
    let below = between.1 in
    (between.0, omega arith, between.2, between_stays stays (suc x) k xs between.3 (omega arith) here)

pub between_push : (stays : ℕ → Type 0) (low k : ℕ) (xs : List ℕ) → AreBetween stays low k xs → low ≤ k → AreBetween stays low (k + 1) (xs ++ k ∷ [])
between_push stays low k [] between from = (from, omega arith, between, λ j low_j below. absurd (omega arith))
between_push stays low k (x ∷ xs) between from =
    let below = between.1 in
    (between.0, omega arith, between.2, between_push stays (suc x) k xs between.3 (omega arith))

-- ---- a statement and its operands

module _ {O B : Type 0} (means : O → Op) (formed : O → Type 0) (suits : Size → Op → List Cells → Aside B → Type 0) (base : Base B) (steps : List (Step O)) where
  abbrev plan : Plan
  plan = plan_of means base steps

  pub planned_at : (first end place : ℕ) (x : Step O) → ArePlanned means formed base steps → AreAlike steps first end → first ≤ place → place < end → end ≤ length steps → x ≡ get_or steps place x → IsStep means formed base first x
  planned_at first end place x planned alike from below most read =
      let here : slice_get steps place ≡ Some x = slice_get_read steps (length steps) place x refl (omega arith) read in
      let start : slice_get steps first ≡ Some (get_or steps first x) = slice_get-get_or steps first x (omega arith) in
      planned first place x (get_or steps first x) from start here (alike place x (get_or steps first x) from below start here)

  module _ (place : ℕ) (x : Step O) (there : slice_get steps place ≡ Some x) where
    abbrev operands_by : StepDef → List ChangeState
    operands_by d = map (operand_in plan (changes_to plan place)) d.refs

    -- what holds of this statement holds of the plan's
    from_step : (P : StepDef → List ChangeState → Type 0) → P (step_of means base x) (operands_by (step_of means base x)) → P (plan.step place) (operands_at plan place)
    from_step P here = subst (λ d. P d (operands_by d)) (sym (step_is means base steps place x there)) here

    pub operands_same : (os : List ChangeState) → os ≡ map (operand_in plan (changes_to plan place)) x.refs.items → os ≡ operands_at plan place
    operands_same os e = e ∙ from_step (λ d o. map (operand_in plan (changes_to plan place)) x.refs.items ≡ o) refl

    -- one that stays
    module _ (is : IsBase base) (right : AreRight means suits base steps) (first : ℕ) (step : IsStep means formed base first x) (left : x.written ≡ false) (kept : x.kept ≢ None)
        (operands : All (IsOperand base.extent) (operands_by (step_of means base x))) (quiet : All (λ (c : ChangeState). c.touched ≡ []) (operands_by (step_of means base x))) where
      same_kept : (k : Option ℕ) → x.kept ≡ k → (o : Option (Kept B)) → kept_by base k ≡ o → (own : Kept B) × (kept_by base x.kept ≡ Some own)
      same_kept None e o f = absurd (kept e)
      same_kept (Some i) e (Some own) f = (own, ap (kept_by base) e ∙ f)
      same_kept (Some i) e None f = absurd (omega (arith, past_end base.kept.now i f, step.kept i e))

      made_none : IsMade suits base.extent (step_of means base x) (operands_by (step_of means base x)) (kept_by base x.kept) None
      made_none =
          let found = same_kept x.kept refl (kept_by base x.kept) refl in
          let own = found.0 in
          let layer = kept_layer base is x.kept own found.1 in
          let was : was_of (kept_by base x.kept) ≡ Some own.layer.cells = ap (λ o. was_of o) found.1 in
          let at : operands_at plan place ≡ operands_by (step_of means base x) = sym (operands_same (operands_by (step_of means base x)) refl) in
          let over : IsRightOver suits base.extent (means x.op) (operands_by (step_of means base x)) own = subst (λ os. IsRightOver suits base.extent (means x.op) os own) at (right place x own there found.1 left) in
          subst (λ (o : Option (Kept B)). IsMade suits base.extent (step_of means base x) (operands_by (step_of means base x)) o None) (sym found.1)
          (made_same suits base.extent (step_of means base x) (operands_by (step_of means base x)) own layer.0 was left layer.1 over
          (unchanged_operands base.extent (operands_by (step_of means base x)) operands over.there quiet))

      pub stays_at : StaysAt means suits base steps place
      stays_at y e =
          let same : x ≡ y = same_Some x y (sym there ∙ e) in
          from_step (λ d o. IsMade suits base.extent d o (kept_by base y.kept) None)
          (subst (λ (z : Step O). IsMade suits base.extent (step_of means base x) (operands_by (step_of means base x)) (kept_by base z.kept) None) same made_none)

    -- one that is at work
    module _ (right : AreRight means suits base steps) (first : ℕ) (step : IsStep means formed base first x) (os : List ChangeState) (is : os ≡ map (operand_in plan (changes_to plan place)) x.refs.items) where
      right_kept : (b : Bool) → x.written ≡ b → (o : Option (Kept B)) → kept_by base x.kept ≡ o → IsRightKept suits base.extent (means x.op) os (if b then None else o)
      right_kept true e o f = tt
      right_kept false e None f = tt
      right_kept false e (Some own) f = subst (λ os. IsRightOver suits base.extent (means x.op) os own) (sym (operands_same os is)) (right place x own there f e)

      fits : IsFit means formed suits base os x
      fits = record {
        op = step.op;
        terms = ap (λ (os : List ChangeState). length os) is ∙ length-map x.refs.items (operand_in plan (changes_to plan place)) ∙ step.terms;
        right = right_kept x.written refl (kept_by base x.kept) refl;
      }

      pub is_task : place < length steps → All (IsOperand base.extent) os → IsTask means formed suits base steps (record { place = place; operands = os })
      is_task below operands = record {
        below = below;
        is = operands_same os is;
        operands = operands;
        fit = λ y e. subst (λ (z : Step O). IsFit means formed suits base os z) (same_Some x y (sym there ∙ e)) fits;
      }

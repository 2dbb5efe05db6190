-- An edit changes what it touches, and nothing else.
use Rattle.std.proofs.Common.{◌≡◌, true, false, ◌&&◌, List, [], ◌∷◌, map, Option, Some, None, bytes_eq, refl, sym, ap, subst, ◌∙◌, inl, inr}
use Rattle.std.specs.List.{list_any}
use Rattle.std.proofs.lemmas.Bool.{both_ways, or_left, or_right, and_from, false_from_ne_true, cases_Bool}
use Rattle.std.proofs.lemmas.Option.{none-some, same_Some}
use Rattle.map_nums.specs.Grids.{Grid}
use Rattle.map_defs.specs.Ops.{Name, Op}
use Rattle.map_defs.specs.Statements.{Flat}
use Rattle.map_edits.specs.Entries.{Def, source, statement, Entry, find_def}
use Rattle.map_edits.specs.LayerDefs.{Making, given_grid, by_op, LayerDef, flat_layer, layers_of, layers, find_making}
use Rattle.map_edits.specs.EngineStates.{EngineState}
use Rattle.map_edits.specs.EditForms.{edited, Rectangle}
use Rattle.map_edits.proofs.Accepted.{IsTouchOf, edited_is}
use Rattle.map_edits.specs.Edits.{with_entries}
use Rattle.map_edits.specs.WholeStates.{WholeState}
use Rattle.map_edits.specs.WholeEdits.{WholeEdit, put_back}
use Rattle.map_edits.specs.Touches.{Touch, nothing, whole, within, touch_of_names, touch_of, stands_for}
use Rattle.map_edits.specs.GroupLaws.{IsLawful, IsSaid}
use Rattle.map_edits.proofs.Among.{same_name}
use Rattle.map_edits.proofs.Heads.{head_of}
use Rattle.map_edits.proofs.Groups.{def_layers, group_making, making_by_head}
use Rattle.map_edits.proofs.LawfulEdits.{IsGoodChange, IsTried, tried, names_changed, attempt_lawful}
use Rattle.map_edits.specs.Touching.{ChangesOnly}
use Rattle.edit_plans.specs.TouchLaws.{OthersAreKept, OrderIsKept}

-- ---- a layer of an entry's group

-- one of the layers has the name
is_layer : (ls : List LayerDef) (n : Name) (making : Making) → find_making ls n ≡ Some making → list_any (λ (l : LayerDef). bytes_eq l.name n) ls ≡ true
is_layer [] n making e = absurd (none-some making e)
is_layer (l ∷ ls) n making e = elim (cases_Bool (bytes_eq l.name n)) [ inl h ↦ rw h refl | inr h ↦ rw h (is_layer ls n making (rw h at e)) ]

-- the layers of an entry don't depend on how its name is told
stands : (es : List Entry) (m n : Name) (d : Def) (making : Making) → find_def es m ≡ Some d → find_making (def_layers m d) n ≡ Some making → stands_for es m n ≡ true
stands [] m n d making e made = absurd (none-some d e)
stands (x ∷ es) m n d making e made = elim (cases_Bool (bytes_eq x.name m)) [
  | inl same ↦
      let found : Some x.def ≡ Some d = rw same at e in
      let is : x.def ≡ d = same_Some x.def d found in
      let own : find_making (layers_of x) n ≡ Some making = ap (λ q. find_making (def_layers q x.def) n) (same_name x.name m same) ∙ ap (λ q. find_making (def_layers m q) n) is ∙ made in
      or_left (bytes_eq x.name m && list_any (λ (l : LayerDef). bytes_eq l.name n) (layers_of x)) (stands_for es m n)
      (and_from (bytes_eq x.name m) (list_any (λ (l : LayerDef). bytes_eq l.name n) (layers_of x)) same (is_layer (layers_of x) n making own))
  | inr differs ↦ or_right (bytes_eq x.name m && list_any (λ (l : LayerDef). bytes_eq l.name n) (layers_of x)) (stands_for es m n) (stands es m n d making (rw differs at e) made)
]

-- a flat statement isn't a source, and the other way round
pub never_given : (fs : List Flat) (n : Name) (grid : Grid) → find_making (map flat_layer fs) n ≡ Some (given_grid grid) → ⊥
never_given [] n grid e = absurd (none-some (given_grid grid) e)
never_given (f ∷ fs) n grid e = elim (cases_Bool (bytes_eq f.name n)) [
  | inl h ↦ let found : Some (by_op f.op) ≡ Some (given_grid grid) = simp h at e in absurd cc
  | inr h ↦ never_given fs n grid (simp h at e)
]

pub source_named : (m n : Name) (g grid : Grid) → find_making (def_layers m (source g)) n ≡ Some (given_grid grid) → bytes_eq m n ≡ true
source_named m n g grid e = elim (cases_Bool (bytes_eq m n)) [ inl h ↦ h | inr h ↦ absurd (none-some (given_grid grid) (simp h at e)) ]

pub given_named : (m n : Name) (d : Def) (grid : Grid) → find_making (def_layers m d) n ≡ Some (given_grid grid) → bytes_eq m n ≡ true
given_named m n (source g) grid e = source_named m n g grid e
given_named m n (statement w flats) grid e = absurd (never_given flats n grid e)

pub source_only : (m n : Name) (g : Grid) (op : Op) → find_making (def_layers m (source g)) n ≡ Some (by_op op) → ⊥
source_only m n g op e = elim (cases_Bool (bytes_eq m n)) [
  | inl h ↦ let found : Some (given_grid g) ≡ Some (by_op op) = simp h at e in absurd cc
  | inr h ↦ absurd (none-some (by_op op) (simp h at e))
]

-- ---- an edit of names

module _ (es new : List Entry) (m : Name) (change : IsGoodChange es m new) where
  by_group : (n : Name) (making : Making) → find_making (layers new) n ≡ Some making → bytes_eq m (head_of n) ≡ true → (d : Def) × (find_def new m ≡ Some d) × (find_making (def_layers m d) n ≡ Some making)
  by_group n making e same = go (find_def new (head_of n)) refl (sym (making_by_head new n change.good.groups change.good.apart) ∙ e)
    where
      at : m ≡ head_of n
      at = same_name m (head_of n) same

      go : (o : Option Def) → find_def new (head_of n) ≡ o → group_making n o ≡ Some making → (d : Def) × (find_def new m ≡ Some d) × (find_making (def_layers m d) n ≡ Some making)
      go None is made = absurd (none-some making made)
      go (Some d) is made = (d, ap (find_def new) at ∙ is, ap (λ q. find_making (def_layers q d) n) at ∙ made)

  kept_by : (n : Name) (making : Making) → find_making (layers new) n ≡ Some making → (bytes_eq m (head_of n) ≡ true → ⊥) → find_making (layers es) n ≡ Some making
  kept_by n making e apart = sym (change.makings n (false_from_ne_true (bytes_eq m (head_of n)) apart)) ∙ e

  keeps_statement : (n : Name) (op : Op) → stands_for new m n ≡ false → find_making (layers new) n ≡ Some (by_op op) → find_making (layers es) n ≡ Some (by_op op)
  keeps_statement n op away e = kept_by n (by_op op) e (λ same. let r = by_group n (by_op op) e same in both_ways (stands_for new m n) away (stands new m n r.0 (by_op op) r.1 r.2))

  keeps_source : (n : Name) (grid : Grid) → bytes_eq m n ≡ false → find_making (layers new) n ≡ Some (given_grid grid) → find_making (layers es) n ≡ Some (given_grid grid)
  keeps_source n grid differs e = kept_by n (given_grid grid) e (λ same. let r = by_group n (given_grid grid) e same in both_ways (bytes_eq m n) differs (given_named m n r.0 grid r.2))

  -- where the name is a source, no flat statement stands for it
  keeps_all : (g : Grid) → find_def new m ≡ Some (source g) → (n : Name) (op : Op) → find_making (layers new) n ≡ Some (by_op op) → find_making (layers es) n ≡ Some (by_op op)
  keeps_all g is n op e = kept_by n (by_op op) e
      (λ same. let r = by_group n (by_op op) e same in
      let def : r.0 ≡ source g = some_def r.0 (sym r.1 ∙ is) in
      source_only m n g op (ap (λ q. find_making (def_layers m q) n) (sym def) ∙ r.2))
    where
      some_def : (d : Def) → Some d ≡ Some (source g) → d ≡ source g
      some_def d h = cc

-- an edit that touches all of a name
pub all_touched : (s t : EngineState) (m : Name) → s.size ≡ t.size → IsGoodChange s.entries m t.entries → ChangesOnly (whole m) s t
all_touched s t m size change = record {
  size = size;
  statements = λ n op away e. keeps_statement s.entries t.entries m change n op away e;
  sources = λ n grid differs e. keeps_source s.entries t.entries m change n grid differs e;
}

-- an edit that touches a rectangle of a source
pub part_touched : (s t : EngineState) (m : Name) (r : Rectangle) (g : Grid) → s.size ≡ t.size → IsGoodChange s.entries m t.entries → find_def t.entries m ≡ Some (source g) → ChangesOnly (within m r) s t
part_touched s t m r g size change there = record {
  size = size;
  statements = λ n op away e. keeps_all s.entries t.entries m change g there n op e;
  sources = λ n grid differs e. keeps_source s.entries t.entries m change n grid differs e;
}

module _ (s t : WholeState) (l : IsLawful s) where
  names_touched : (n : Name) (touch : Touch) → (s.names.size ≡ t.names.size) × IsGoodChange s.names.entries n t.names.entries → IsTouchOf n t.names.entries touch → ChangesOnly touch s.names t.names
  names_touched n nothing change never = absurd never
  names_touched n (whole m) change same = all_touched s.names t.names m change.0 (subst (λ k. IsGoodChange s.names.entries k t.names.entries) same change.1)
  names_touched n (within m r) change (same, g, there) = part_touched s.names t.names m r g change.0 (subst (λ k. IsGoodChange s.names.entries k t.names.entries) same change.1) there

  -- the names stay
  left_alone : t.names ≡ with_entries s.names s.names.entries → ChangesOnly nothing s.names t.names
  left_alone is = record {
    size = ap (λ (u : EngineState). u.size) (sym is);
    statements = λ n op away e. ap (λ (u : EngineState). find_making (layers u.entries) n) (sym is) ∙ e;
    sources = λ n grid differs e. ap (λ (u : EngineState). find_making (layers u.entries) n) (sym is) ∙ e;
  }

  others_kept : (e : WholeEdit) → IsSaid s e → IsTried s t e → ChangesOnly (touch_of e) s.names t.names
  others_kept e said (inl (edit, same, r)) =
      let made = edited_is s.procedures s.names edit r.entries r.made in
      let entries : r.entries ≡ t.names.entries = ap (λ (u : WholeState). u.names.entries) (sym r.is) in
      let touch = subst (λ es. IsTouchOf (edited edit) es (touch_of_names edit)) entries made.touch in
      subst (λ x. ChangesOnly (touch_of x) s.names t.names) (sym same) (names_touched (edited edit) (touch_of_names edit) (names_changed s t l edit (subst (IsSaid s) same said) r) touch)
  others_kept e said (inr (inl (p, same, is))) =
      let back : IsSaid s (put_back p) = subst (IsSaid s) same said in
      subst (λ x. ChangesOnly (touch_of x) s.names t.names) (sym same) (subst (λ (u : WholeState). ChangesOnly p.touch s.names u.names) (sym is) back.only)
  others_kept e said (inr (inr r)) = subst (λ touch. ChangesOnly touch s.names t.names) (sym r.touch) (left_alone r.names)

pub others_are_kept : OthersAreKept
others_are_kept s t e l said is = others_kept s t l e said (tried s t e is)

pub order_is_kept : OrderIsKept
order_is_kept s t e l said is = let r = attempt_lawful s t l e said is in record { groups = r.groups; apart = r.apart; none_looped = r.none_looped }

-- What an edit makes of the sources of a map, and of their stamps.
use Rattle.std.proofs.Common.{◌≡◌, ℕ, zero, suc, ℤ, false, List, [], ◌∷◌, ◌++◌, length, position, Option, Some, None, is_some, option_map, slice_get, bytes_eq, refl, sym, ap, subst, ◌∙◌, ◌⊎◌, inl, inr, arith, Bor, ◌<◌, get_or}
use Rattle.std.specs.List.{IsDistinct}
use Rattle.std.proofs.lemmas.Bool.{true≢false, false≢true, cases_order, cases_Bool}
use Rattle.std.proofs.lemmas.Map.Keys.{apart_from_distinct}
use Rattle.std.proofs.lemmas.Option.{none-some, same_Some, slice_get_past, slice_get_cases, slice_get_within, get_or_from_slice_get}
use Rattle.map_nums.specs.Grids.{Size, IsSize, Grid, Cells, constant}
use Rattle.map_defs.specs.Damage.{changed_tiles}
use Rattle.map_defs.specs.Ops.{Name}
use Rattle.map_defs.specs.MadeProcedures.{IsUndotted}
use Rattle.map_defs.proofs.Unchanged.{changed_none}
use Rattle.layer_tiles.specs.Changes.{same_change, constant_change}
use Rattle.layer_tiles.specs.Layers.{LayerState, IsLayer, layer_of}
use Rattle.layer_tiles.specs.Tiles.{tiles_in}
use Rattle.map_edits.specs.Entries.{source, find_def}
use Rattle.map_edits.specs.LayerDefs.{Making, given_grid, layers, find_making, nodes_of}
use Rattle.map_edits.specs.EngineStates.{EngineState, made, value_of}
use Rattle.map_edits.specs.WholeStates.{WholeState, cells_of}
use Rattle.map_edits.specs.StampsAfter.{stamps_at}
use Rattle.map_edits.specs.Laws.{HasNoCycle}
use Rattle.map_edits.proofs.Among.{same_name, bytes_eq-self}
use Rattle.map_edits.proofs.Heads.{head_of, head_undotted}
use Rattle.map_edits.proofs.Groups.{group_making, making_by_head}
use Rattle.map_edits.proofs.LawfulEdits.{IsGoodChange}
use Rattle.map_edits.proofs.Unfolds.{value_unfolds}
use Rattle.map_waves.specs.Bases.{source_by}
use Rattle.map_waves.specs.Operands.{IsOperand}
use Rattle.map_waves.specs.declared.plans.Shift.{Shift}
use Rattle.map_waves.specs.declared.plans.Shift.TheVariants.{Nothing, Loaded}
use Rattle.map_waves.proofs.Making.{all_get}
use Rattle.edit_plans.specs.PlansFor.{IsChangeOf}
use Rattle.edit_plans.proofs.Positions.{some_position, position_at, any_at_place}
use Rattle.edit_plans.proofs.Restamped.{old_is_stamped, new_is_stamped}
use Rattle.kept_map.specs.Maps.{grid_of, source_in, layer_in, entries_in, names_in, seen}
use Rattle.kept_map.specs.Keeps.{IsKept}
use Rattle.kept_map.specs.Edits.{change_in}
use Rattle.kept_map.specs.declared.maps.KeptMap.{KeptMap}
use Rattle.kept_map.proofs.SourceLayers.{source_at, source_whole, layer_at, source_def}
use Rattle.kept_map.proofs.Given.{undotted, source_making, source_value}
use Rattle.kept_map.proofs.LayersByName.{layer_source, stamps_found}

-- ---- names that stand apart

no_place_later : (ks : List Name) → IsDistinct bytes_eq ks → (i j : ℕ) (n : Name) → slice_get ks i ≡ Some n → slice_get ks j ≡ Some n → i < j → ⊥
no_place_later ks distinct i j n a b below =
    let apart : bytes_eq (get_or ks i []) (get_or ks j []) ≡ false = apart_from_distinct bytes_eq ks i j [] distinct below (slice_get_within ks j n b) in
    true≢false (sym (bytes_eq-self n) ∙ ap (λ q. bytes_eq q n) (sym (get_or_from_slice_get ks i n [] a)) ∙ ap (bytes_eq (get_or ks i [])) (sym (get_or_from_slice_get ks j n [] b)) ∙ apart)

-- a name stands at one place
pub one_place : (ks : List Name) → IsDistinct bytes_eq ks → (i j : ℕ) (n : Name) → slice_get ks i ≡ Some n → slice_get ks j ≡ Some n → i ≡ j
one_place ks distinct i j n a b = elim (cases_order i j) [
  | inl same ↦ same
  | inr differ ↦ elim differ [ inl below ↦ absurd (no_place_later ks distinct i j n a b below) | inr above ↦ absurd (no_place_later ks distinct j i n b a above) ]
]

-- and is found there
pub place_is : (ks : List Name) → IsDistinct bytes_eq ks → (i : ℕ) (n : Name) → slice_get ks i ≡ Some n → position (bytes_eq n) ks ≡ Some i
place_is ks distinct i n e = go (position (bytes_eq n) ks) refl
  where
    go : (o : Option ℕ) → position (bytes_eq n) ks ≡ o → position (bytes_eq n) ks ≡ Some i
    go None at = absurd (false≢true (sym (ap is_some at) ∙ some_position (bytes_eq n) ks ∙ any_at_place n ks i e))
    go (Some j) at = at ∙ ap (λ k. Some k) (one_place ks distinct j i n (position_at n ks j at) e)

-- ---- operands

module _ (s : Size) (w : Cells) where
  none_changed : (was : Cells) → Some w ≡ Some was → [] ≡ changed_tiles s (Some was) w
  none_changed was e = sym (changed_none s [] w) ∙ ap (λ o. changed_tiles s o w) e

pub same_operand : (s : Size) (l : LayerState) → l.size ≡ s → IsOperand s (same_change l)
same_operand s l size = record { size = size; exact = λ was e. none_changed s l.cells was e; same = λ was e none. same_Some l.cells was e }

pub constant_operand : (s : Size) (cell : Option ℤ) → IsOperand s (constant_change s cell)
constant_operand s cell = record { size = refl; exact = λ was e. none_changed s (constant s cell).cells was e; same = λ was e none. same_Some (constant s cell).cells was e }

module _ (m : KeptMap) (keeps : IsKept m) where
  all_operands : (shift : Shift) (i : ℕ) → IsOperand m.extent (source_by m.extent shift i None) → ((l : LayerState) → l.size ≡ m.extent → IsOperand m.extent (source_by m.extent shift i (Some l))) → IsOperand m.extent (change_in m shift i)
  all_operands shift i none some = elim (slice_get_cases m.sources.layers.items i).1 [
    | inl r ↦ rw r.2 (some r.0 (all_get (λ (k : LayerState). (k.size ≡ m.extent) × IsLayer k) m.sources.layers.items keeps.sources.whole i r.0 r.2).0)
    | inr past ↦ rw past.1 none
  ]

  pub nothing_operands : (i : ℕ) → IsOperand m.extent (change_in m Nothing i)
  nothing_operands i = all_operands Nothing i (constant_operand m.extent None) (λ l size. same_operand m.extent l size)

  pub loaded_operands : (new : Bor LayerState) → new.now.size ≡ m.extent → (i : ℕ) → IsOperand m.extent (change_in m (Loaded new) i)
  loaded_operands new size i = all_operands (Loaded new) i (same_operand m.extent new.now size) (λ l size. same_operand m.extent l size)

-- ---- what becomes of the sources

get_pushed : {X : Type 0} (xs : List X) (x y : X) (i : ℕ) → slice_get (xs ++ x ∷ []) i ≡ Some y → (slice_get xs i ≡ Some y) ⊎ ((i ≡ length xs) × (x ≡ y))
get_pushed [] x y zero e = inr (refl, same_Some x y e)
get_pushed [] x y (suc i) e = absurd (none-some y e)
get_pushed (z ∷ xs) x y zero e = inl e
get_pushed (z ∷ xs) x y (suc i) e = elim (get_pushed xs x y i e) [ inl at ↦ inl at | inr at ↦ inr (ap suc at.0, at.1) ]

module _ (m : KeptMap) (keeps : IsKept m) where
  pub placed_layer : (i : ℕ) (n : Name) → slice_get m.sources.names.keys i ≡ Some n → (l : LayerState) × (slice_get m.sources.layers.items i ≡ Some l)
  placed_layer i n e = layer_at m.sources n keeps.sources.count i (place_is m.sources.names.keys keeps.sources.apart i n e)

  pub placed_def : (i : ℕ) (n : Name) (l : LayerState) → slice_get m.sources.names.keys i ≡ Some n → slice_get m.sources.layers.items i ≡ Some l → find_def (entries_in m) n ≡ Some (source (grid_of l))
  placed_def i n l e there = source_def m n keeps l (source_at m.sources n i (place_is m.sources.names.keys keeps.sources.apart i n e) ∙ there)

  pub value_before : (n : Name) (l : LayerState) → find_def (entries_in m) n ≡ Some (source (grid_of l)) → cells_of (names_in m) n ≡ Some l.cells
  value_before n l def = ap (option_map (λ (g : Grid). g.cells)) (source_value (names_in m) n (grid_of l) keeps.lawful.groups keeps.lawful.apart keeps.lawful.none_looped def)

  -- a name that isn't there has no layer
  pub absent_before : (n : Name) → IsUndotted n → find_def (entries_in m) n ≡ None → cells_of (names_in m) n ≡ None
  absent_before n plain absent =
      let making : find_making (layers (entries_in m)) n ≡ None = making_by_head (entries_in m) n keeps.lawful.groups keeps.lawful.apart ∙ ap (group_making n) (ap (find_def (entries_in m)) (head_undotted n plain) ∙ absent) in
      ap (option_map (λ (g : Grid). g.cells)) (value_unfolds (names_in m) keeps.lawful.none_looped n ∙ ap (made m.extent (value_of (names_in m))) making)

  module _ (t : EngineState) (none : HasNoCycle (nodes_of t.entries)) where
    value_after : (n : Name) (o : Option Making) → find_making (layers t.entries) n ≡ o → value_of t n ≡ made t.size (value_of t) o
    value_after n o e = value_unfolds t none n ∙ ap (made t.size (value_of t)) e

    -- a layer that is gone, or is made as before
    abbrev pub IsLeft : Name → Type 0
    IsLeft n = (find_making (layers t.entries) n ≡ None) ⊎ (find_making (layers t.entries) n ≡ find_making (layers (entries_in m)) n)

    pub left_change : (n : Name) (l : LayerState) → find_def (entries_in m) n ≡ Some (source (grid_of l)) → IsLeft n → IsChangeOf (names_in m) t n (same_change l)
    left_change n l def left = record {
      before = λ was e. sym (value_before n l def) ∙ e;
      after = λ now e. elim left [
        | inl gone ↦ absurd (none-some now (sym (ap (option_map (λ (g : Grid). g.cells)) (value_after n None gone)) ∙ e))
        | inr same ↦ (let making = same ∙ source_making (entries_in m) n keeps.lawful.groups keeps.lawful.apart (grid_of l) def in
            same_Some l.cells now (sym (ap (option_map (λ (g : Grid). g.cells)) (value_after n (Some (given_grid (grid_of l))) making)) ∙ e))
      ];
    }

    -- of the sources that were there
    pub left_changes : (shift : Shift) → ((i : ℕ) (l : LayerState) → slice_get m.sources.layers.items i ≡ Some l → change_in m shift i ≡ same_change l)
        → ((n : Name) (grid : Grid) → find_def (entries_in m) n ≡ Some (source grid) → IsLeft n) → (i : ℕ) (n : Name) → slice_get m.sources.names.keys i ≡ Some n → IsChangeOf (names_in m) t n (change_in m shift i)
    left_changes shift stays left i n e =
        let r = placed_layer i n e in
        let def = placed_def i n r.0 e r.1 in
        subst (IsChangeOf (names_in m) t n) (sym (stays i r.0 r.1)) (left_change n r.0 def (left n (grid_of r.0) def))

    -- and of one more
    pub loaded_changes : (new : Bor LayerState) (edited : Name) → IsUndotted edited → find_def (entries_in m) edited ≡ None → cells_of t edited ≡ Some new.now.cells → ((n : Name) (grid : Grid) → find_def (entries_in m) n ≡ Some (source grid) → IsLeft n)
        → (i : ℕ) (n : Name) → slice_get (m.sources.names.keys ++ edited ∷ []) i ≡ Some n → IsChangeOf (names_in m) t n (change_in m (Loaded new) i)
    loaded_changes new edited plain absent there left i n e = elim (get_pushed m.sources.names.keys edited n i e) [
      | inl at ↦ left_changes (Loaded new) (λ j l is. ap (source_by m.extent (Loaded new) j) is) left i n at
      | inr last ↦ (let none : slice_get m.sources.layers.items i ≡ None = slice_get_past m.sources.layers.items i (omega (arith, last.0, keeps.sources.count)) in
          rw (none, ← last.1) (record { after = λ now e. same_Some new.now.cells now (sym there ∙ e); before = λ was e. absurd (none-some was (sym (absent_before edited plain absent) ∙ e)) }))
    ]

-- what an edit of a name leaves of the other sources
module _ (m : KeptMap) (keeps : IsKept m) (t : EngineState) (edited : Name) (change : IsGoodChange (entries_in m) edited t.entries) where
  pub others_left : ((grid : Grid) → find_def (entries_in m) edited ≡ Some (source grid) → find_def t.entries edited ≡ None) → (n : Name) (grid : Grid) → find_def (entries_in m) n ≡ Some (source grid) → IsLeft m keeps t change.good.none_looped n
  others_left gone n grid def = elim (cases_Bool (bytes_eq edited (head_of n))) [
    | inl same ↦ (let at : edited ≡ head_of n = same_name edited (head_of n) same in
        let head = head_undotted n (undotted (entries_in m) n (source grid) keeps.lawful.groups def) in
        inl (making_by_head t.entries n change.good.groups change.good.apart ∙ ap (group_making n) (ap (find_def t.entries) (sym at) ∙ gone grid (ap (find_def (entries_in m)) (at ∙ head) ∙ def))))
    | inr differs ↦ inr (change.makings n differs)
  ]

-- ---- stamps

module _ (m : KeptMap) (keeps : IsKept m) (t : WholeState) (size : t.names.size ≡ m.extent) (n : Name) where
  -- a source that stays as it is
  pub stamps_stay : (l : LayerState) → source_in m.sources n ≡ Some l → cells_of t.names n ≡ Some l.cells → l.stamps ≡ stamps_at (seen m) t n
  stamps_stay l there after =
      let whole = source_whole m.sources n (names_in m) l keeps.sources there in
      let value = source_value (names_in m) n (grid_of l) keeps.lawful.groups keeps.lawful.apart keeps.lawful.none_looped (source_def m n keeps l there) in
      old_is_stamped (seen m) t n l.cells l.cells l.stamps l.stamps (subst IsSize (sym size) keeps.size)
      (ap (option_map (λ (g : Grid). g.cells)) value) after
      (stamps_found (layer_in m) (names_in m) n l (layer_source m n l there) (ap is_some value))
      (record { count = whole.1.stamps ∙ ap tiles_in (whole.0 ∙ sym size); same = λ k within e. refl; changed = λ k within differs. absurd (differs refl) })

  -- and a new one
  pub stamps_begin : (cells : Cells) → cells_of (names_in m) n ≡ None → (layer_of t.names.size cells t.names.number).stamps ≡ stamps_at (seen m) t n
  stamps_begin cells none = new_is_stamped (seen m) t n cells none

-- The flat statements of a map: of a plan by place, and after an edit of a name, by the name before their first dot and item by item.
use Rattle.std.proofs.Common.{◌≡◌, ℕ, Bool, true, false, cond, List, [], ◌∷◌, ◌++◌, map, flat_map, Option, Some, None, option_map, bytes_eq, refl, sym, ap, ◌∙◌, if◌then◌else◌, ◌+◌, ◌-◌, ◌≤◌, arith, not, length, take, drop, get_or, slice_get, ◌<◌, position, inl, inr}
use Rattle.std.specs.Map.{lookup}
use Rattle.std.proofs.lemmas.Option.{none-some, same_Some, slice_get_read}
use Rattle.std.specs.Option.{option_or}
use Rattle.std.proofs.lemmas.Bool.{not-true, not-false, cases_Bool}
use Rattle.std.proofs.lemmas.Grind.{flat_map-append}
use Rattle.std.proofs.lemmas.List.{append-nil, take-append-drop, length_push}
use Rattle.std.proofs.Math.Seq.{take-length}
use Rattle.map_nums.specs.Grids.{Size}
use Rattle.map_defs.specs.Ops.{Name, Op}
use Rattle.map_defs.specs.MadeProcedures.{IsUndotted}
use Rattle.layer_tiles.specs.Layers.{LayerState}
use Rattle.statement_parser.specs.Views.{op_view}
use Rattle.statement_parser.specs.declared.op.Op.{Op as Given}
use Rattle.procedure_expand.specs.Flats.{flats_view}
use Rattle.procedure_expand.specs.declared.flat.Flat.{Flat}
use Rattle.map_edits.specs.Entries.{Def, source, statement, find_def}
use Rattle.map_edits.specs.LayerDefs.{Making, given_grid, by_op, flat_layer, find_making}
use Rattle.map_edits.specs.Laws.{IsApart}
use Rattle.map_edits.specs.GroupLaws.{IsGroup, AreGroups}
use Rattle.map_edits.proofs.Among.{same_name, bytes_eq-turned}
use Rattle.map_edits.proofs.Heads.{head_of}
use Rattle.map_edits.proofs.Groups.{def_layers, outsider, group_making}
use Rattle.map_waves.specs.declared.plans.Step.{Step}
use Rattle.edit_plans.specs.Planned.{FlatDef}
use Rattle.edit_plans.proofs.Taken.{taken_to}
use Rattle.edit_plans.proofs.There.{map_none}
use Rattle.std.proofs.lemmas.Map.Entries.{lookup_head, lookup_tail}
use Rattle.kept_map.specs.Maps.{def_by, entries_by, at_place}
use Rattle.kept_map.specs.Flats.{flat_def, item_flats, flats_after, flats_of_steps}
use Rattle.kept_map.specs.declared.maps.Item.{Item}
use Rattle.kept_map.specs.declared.maps.Item.TheVariants.{Source, Statement}
use Rattle.kept_map.proofs.SourceLayers.{map_some, place_there, placed_first, find_item, bytes_eq_swaps}

abbrev pub op_of : FlatDef → Making
op_of f = by_op (op_view f.op)

pub lookup-append : (n : Name) (xs ys : List (List ℕ × FlatDef)) → lookup (bytes_eq n) (xs ++ ys) ≡ option_or (lookup (bytes_eq n) xs) (lookup (bytes_eq n) ys)
lookup-append n [] ys = refl
lookup-append n (x ∷ xs) ys = elim (cases_Bool (bytes_eq n x.0)) [ inl h ↦ rw h refl | inr h ↦ rw h (lookup-append n xs ys) ]

-- ---- those of a plan

abbrev pub flat_by : Step Given → FlatDef
flat_by x = record { op = x.op; written = x.written }

-- the flat statement of a name is that of the step at its place
pub flat_is : (names : List Name) (steps : List (Step Given)) → length steps ≡ length names → (n : Name)
    → lookup (bytes_eq n) (flats_of_steps names steps) ≡ option_map flat_by (at_place steps (position (bytes_eq n) names))
flat_is [] steps count n = refl
flat_is (m ∷ names) [] count n = absurd (omega arith)
flat_is (m ∷ names) (x ∷ steps) count n =
    rw (placed_first (bytes_eq n) m names x steps) (elim (cases_Bool (bytes_eq n m)) [ inl h ↦ rw h refl | inr h ↦ rw h (flat_is names steps (omega arith) n) ])

module _ (names : List Name) (steps : List (Step Given)) (count : length steps ≡ length names) (n : Name) where
  pub flat_at : (f : FlatDef) → lookup (bytes_eq n) (flats_of_steps names steps) ≡ Some f → (k : ℕ) × (x : Step Given) × (position (bytes_eq n) names ≡ Some k) × (slice_get steps k ≡ Some x) × (flat_by x ≡ f)
  flat_at f e =
      let own = map_some flat_by (at_place steps (position (bytes_eq n) names)) f (sym (flat_is names steps count n) ∙ e) in
      let at = place_there steps (position (bytes_eq n) names) own.0 own.1 in
      (at.0, own.0, at.1, at.2, own.2)

-- ---- the flat statements of one statement

pub flats_found : (b : Bool) (fs : List Flat) (n : Name) → find_making (map flat_layer (flats_view fs)) n ≡ option_map op_of (lookup (bytes_eq n) (map (flat_def b) fs))
flats_found b [] n = refl
flats_found b (f ∷ fs) n = elim (cases_Bool (bytes_eq n f.name)) [
  | inl h ↦ rw (bytes_eq_swaps f.name n, h) refl
  | inr h ↦ rw (bytes_eq_swaps f.name n, h) (flats_found b fs n)
]

pub flag_found : (b : Bool) (fs : List Flat) (n : Name) (f : FlatDef) → lookup (bytes_eq n) (map (flat_def b) fs) ≡ Some f → f.written ≡ b
flag_found b [] n f e = absurd (none-some f e)
flag_found b (x ∷ xs) n f e = elim (cases_Bool (bytes_eq n x.name)) [
  | inl h ↦ ap (λ (q : FlatDef). q.written) (sym (same_Some _ f (sym (lookup_head (bytes_eq n) (flat_def b x) (map (flat_def b) xs) h) ∙ e)))
  | inr h ↦ flag_found b xs n f (sym (lookup_tail (bytes_eq n) (flat_def b x) (map (flat_def b) xs) h) ∙ e)
]

-- ---- those of an item

-- the flat statement of a name among those of an item
abbrev pub in_item : Name → Option Item → Option FlatDef
in_item n None = None
in_item n (Some item) = lookup (bytes_eq n) (item_flats item)

pub item_flag : (n : Name) (o : Option Item) (f : FlatDef) → in_item n o ≡ Some f → f.written ≡ false
item_flag n (Some (Statement written flats)) f e = flag_found false flats.items n f e
item_flag n o f e = absurd (none-some f e)

module _ (size : Size) (l : Option LayerState) (h n : Name) where
  pub item_makes : (item : Item) (f : FlatDef) → lookup (bytes_eq n) (item_flats item) ≡ Some f → find_making (def_layers h (def_by size l item)) n ≡ Some (op_of f)
  item_makes Source f e = absurd (none-some f e)
  item_makes (Statement written flats) f e = flats_found false flats.items n ∙ ap (option_map op_of) e

  source_by_op : (grid : _) (op : Op) → find_making (def_layers h (source grid)) n ≡ Some (by_op op) → ⊥
  source_by_op grid op e = elim (cases_Bool (bytes_eq h n)) [
    | inl is ↦ let no : Some (given_grid grid) ≡ Some (by_op op) = rw is at e in absurd cc
    | inr is ↦ none-some (by_op op) (rw is at e)
  ]

  pub item_made : (item : Item) (op : Op) → find_making (def_layers h (def_by size l item)) n ≡ Some (by_op op) → (f : FlatDef) × (lookup (bytes_eq n) (item_flats item) ≡ Some f)
  item_made Source op e = absurd (source_by_op _ op e)
  item_made (Statement written flats) op e = let f = map_some op_of (lookup (bytes_eq n) (item_flats (Statement written flats))) (by_op op) (sym (flats_found false flats.items n) ∙ e) in (f.0, f.1)

  item_none : (item : Item) → find_making (def_layers h (def_by size l item)) n ≡ None → lookup (bytes_eq n) (item_flats item) ≡ None
  item_none Source e = refl
  item_none (Statement written flats) e = map_none op_of (lookup (bytes_eq n) (item_flats (Statement written flats))) (sym (flats_found false flats.items n) ∙ e)

-- ---- those of all other names

-- the flat statements that an item brings, none where its name is edited
abbrev pub brought : Name → List ℕ × Item → List (List ℕ × FlatDef)
brought edited e = if bytes_eq e.0 edited then [] else item_flats e.1

abbrev pub found_in : Name → Name → List (List ℕ × Item) → Option FlatDef
found_in edited n items = lookup (bytes_eq n) (flat_map (brought edited) items)

abbrev pub unless_edited : Bool → Option FlatDef → Option FlatDef
unless_edited true o = None
unless_edited false o = o

unless_none : (b : Bool) → unless_edited b None ≡ None
unless_none true = refl
unless_none false = refl

pub or_none : {X : Type 0} (o : Option X) → option_or o None ≡ o
or_none None = refl
or_none (Some x) = refl

pub no_item : (size : Size) (ls : Name → Option LayerState) (items : List (List ℕ × Item)) (n : Name) → find_def (entries_by size ls items) n ≡ None → lookup (bytes_eq n) items ≡ None
no_item size ls items n e = map_none (def_by size (ls n)) (lookup (bytes_eq n) items) (sym (find_item size ls items n) ∙ e)

module _ (edited n : Name) (e : List ℕ × Item) where
  brought_is : lookup (bytes_eq n) (brought edited e) ≡ unless_edited (bytes_eq e.0 edited) (lookup (bytes_eq n) (item_flats e.1))
  brought_is = elim (cases_Bool (bytes_eq e.0 edited)) [ inl h ↦ rw h refl | inr h ↦ rw h refl ]

  -- by the tests of the code
  pub brought_other : not (bytes_eq e.0 edited) ≡ true → lookup (bytes_eq n) (brought edited e) ≡ lookup (bytes_eq n) (item_flats e.1)
  brought_other h = rw (not-true (bytes_eq e.0 edited) h) refl

  pub brought_edited : not (bytes_eq e.0 edited) ≡ false → lookup (bytes_eq n) (brought edited e) ≡ None
  brought_edited h = rw (not-false (bytes_eq e.0 edited) h) refl

module _ (size : Size) (ls : Name → Option LayerState) (edited n : Name) where
  pub others_by_head : (items : List (List ℕ × Item)) → AreGroups (entries_by size ls items) → IsApart (entries_by size ls items)
      → found_in edited n items ≡ unless_edited (bytes_eq (head_of n) edited) (in_item n (lookup (bytes_eq (head_of n)) items))
  others_by_head [] groups apart = sym (unless_none (bytes_eq (head_of n) edited))
  others_by_head (e ∷ es) groups apart =
      let rest = others_by_head es groups.2 apart.1 in
      lookup-append n (brought edited e) (flat_map (brought edited) es) ∙ rw (brought_is edited n e) (elim (cases_Bool (bytes_eq (head_of n) e.0)) [
        | inl same ↦
            let at : head_of n ≡ e.0 = same_name (head_of n) e.0 same in
            let away : lookup (bytes_eq (head_of n)) es ≡ None = ap (λ m. lookup (bytes_eq m) es) at ∙ no_item size ls es e.0 apart.0 in
            let none : found_in edited n es ≡ None = rest ∙ ap (λ o. unless_edited (bytes_eq (head_of n) edited) (in_item n o)) away ∙ unless_none (bytes_eq (head_of n) edited) in
            rw (same, none, at) (or_none (unless_edited (bytes_eq e.0 edited) (lookup (bytes_eq n) (item_flats e.1))))
        | inr differs ↦
            let front : bytes_eq e.0 (head_of n) ≡ false = bytes_eq_swaps e.0 (head_of n) ∙ differs in
            let none : lookup (bytes_eq n) (item_flats e.1) ≡ None = item_none size (ls e.0) e.0 n e.1 (outsider e.0 (def_by size (ls e.0) e.1) n groups.0 groups.1 front) in
            rw (differs, none, unless_none (bytes_eq e.0 edited)) rest
      ])

-- ---- after the edit

-- an edit that wrote these flat statements made this of its name
abbrev pub IsWrittenAs : Option Def → List Flat → Type 0
IsWrittenAs None written = written ≡ []
IsWrittenAs (Some (source grid)) written = written ≡ []
IsWrittenAs (Some (statement w flats)) written = flats ≡ flats_view written

module _ (n : Name) (written : List Flat) where
  abbrev own_flat : Option FlatDef
  own_flat = lookup (bytes_eq n) (map (flat_def true) written)

  no_own : written ≡ [] → own_flat ≡ None
  no_own e = ap (λ fs. lookup (bytes_eq n) (map (flat_def true) fs)) e

  pub written_makes : (d : Option Def) (f : FlatDef) → IsWrittenAs d written → own_flat ≡ Some f → group_making n d ≡ Some (op_of f)
  written_makes (Some (statement w flats)) f wrote e = ap (λ fs. find_making (map flat_layer fs) n) wrote ∙ flats_found true written n ∙ ap (option_map op_of) e
  written_makes d f wrote e = absurd (none-some f (sym (no_own wrote) ∙ e))

  pub written_made : (d : Option Def) (op : Op) → IsWrittenAs d written → group_making n d ≡ Some (by_op op) → (f : FlatDef) × (own_flat ≡ Some f)
  written_made None op wrote e = absurd (none-some (by_op op) e)
  written_made (Some (source grid)) op wrote e = absurd (source_by_op (record { rows = 0; columns = 0 }) None (head_of n) n grid op e)
  written_made (Some (statement w flats)) op wrote e = let f = map_some op_of own_flat (by_op op) (sym (flats_found true written n) ∙ ap (λ fs. find_making (map flat_layer fs) n) (sym wrote) ∙ e) in (f.0, f.1)

  -- the name's flat statements begin with it
  pub none_outside : (edited : Name) (d : Option Def) → IsUndotted edited → ((x : Def) → d ≡ Some x → IsGroup edited x) → bytes_eq edited (head_of n) ≡ false → IsWrittenAs d written → own_flat ≡ None
  none_outside edited (Some (statement w flats)) plain group differs wrote =
      map_none op_of own_flat (sym (flats_found true written n) ∙ ap (λ fs. find_making (map flat_layer fs) n) (sym wrote) ∙ outsider edited (statement w flats) n plain (group (statement w flats) refl) differs)
  none_outside edited d plain group differs wrote = no_own wrote

-- the first flat statement of a list has another name
pub lookup_rest : (n : Name) (written : Bool) (flats : List Flat) (first : Flat) → 1 ≤ length flats → first ≡ get_or flats 0 first → bytes_eq first.name n ≡ false
    → lookup (bytes_eq n) (map (flat_def written) (take (length flats - 1) (drop 1 flats))) ≡ lookup (bytes_eq n) (map (flat_def written) flats)
lookup_rest n written [] first some is differs = absurd (omega arith)
lookup_rest n written (f ∷ fs) first some is differs =
    let other : bytes_eq n f.name ≡ false = ap (bytes_eq n) (ap (λ (x : Flat). x.name) (sym is)) ∙ bytes_eq-turned first.name n differs in
    let all : length (f ∷ fs) - 1 ≡ length fs = omega arith in
    ap (λ k. lookup (bytes_eq n) (map (flat_def written) (take k fs))) all ∙ ap (λ xs. lookup (bytes_eq n) (map (flat_def written) xs)) (take-length fs)
    ∙ sym (ap (λ b. cond b (Some (record { op = f.op; written = written })) (lookup (bytes_eq n) (map (flat_def written) fs))) other)

-- ---- item by item

module _ (edited n : Name) where
  found-append : (xs ys : List (List ℕ × Item)) → found_in edited n (xs ++ ys) ≡ option_or (found_in edited n xs) (found_in edited n ys)
  found-append xs ys = ap (lookup (bytes_eq n)) (flat_map-append (brought edited) xs ys) ∙ lookup-append n (flat_map (brought edited) xs) (flat_map (brought edited) ys)

  -- the turn of an item, before which the name isn't found
  module _ {Y : Type 0} (items : List (List ℕ × Item)) (ys : List Y) (y : Y) (e : List ℕ × Item) (before : found_in edited n (take (length ys) items) ≡ None) (within : length ys < length items) (is : e ≡ get_or items (length ys) e) where
    found_taken : found_in edited n (take (length ys + 1) items) ≡ lookup (bytes_eq n) (brought edited e)
    found_taken =
        ap (found_in edited n) (taken_to items (length ys) e (slice_get_read items (length items) (length ys) e refl within is)) ∙ found-append (take (length ys) items) (e ∷ [])
        ∙ ap (λ o. option_or o (found_in edited n (e ∷ []))) before ∙ ap (lookup (bytes_eq n)) (append-nil (brought edited e))

    pub found_later : lookup (bytes_eq n) (brought edited e) ≡ None → found_in edited n (take (length (ys ++ y ∷ [])) items) ≡ None
    found_later none = ap (λ k. found_in edited n (take k items)) (length_push ys y) ∙ found_taken ∙ none

    pub found_here : (f : FlatDef) → lookup (bytes_eq n) (brought edited e) ≡ Some f → found_in edited n items ≡ Some f
    found_here f found =
        ap (found_in edited n) (sym (take-append-drop (length ys + 1) items)) ∙ found-append (take (length ys + 1) items) (drop (length ys + 1) items)
        ∙ ap (λ o. option_or o (found_in edited n (drop (length ys + 1) items))) (found_taken ∙ found)

  -- what is found is among those that the edit wrote, or among those of the items
  pub after_by : (items : List (List ℕ × Item)) (written : List Flat) (o : Option FlatDef) → o ≡ lookup (bytes_eq n) (map (flat_def true) written)
      → option_or o (found_in edited n items) ≡ lookup (bytes_eq n) (flats_after items edited written)
  after_by items written o is = ap (λ q. option_or q (found_in edited n items)) is ∙ sym (lookup-append n (map (flat_def true) written) (flat_map (brought edited) items))

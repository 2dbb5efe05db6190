-- What an edit of a name makes of the flat statements of a map.
use Rattle.std.proofs.Common.{◌≡◌, ℕ, Bool, true, false, ◌||◌, List, [], ◌∷◌, map, flat_map, Option, Some, None, is_some, option_map, bytes_eq, refl, sym, ap, ◌∙◌, inl, inr}
use Rattle.std.specs.List.{All, AllByRecursion, list_any}
use Rattle.std.specs.Map.{lookup}
use Rattle.std.specs.Option.{option_or}
use Rattle.std.proofs.lemmas.Bool.{cases_Bool}
use Rattle.std.proofs.Math.Bool.{or-false}
use Rattle.std.proofs.lemmas.Option.{none-some}
use Rattle.std.proofs.lemmas.List.Elements.{recursion_from_All, All-from_recursion, All-map}
use Rattle.std.proofs.lemmas.Map.Entries.{place_from_lookup}
use Rattle.map_defs.specs.Ops.{Name, Op}
use Rattle.map_defs.specs.MadeProcedures.{IsUndotted}
use Rattle.statement_parser.specs.Views.{op_view}
use Rattle.procedure_expand.specs.declared.flat.Flat.{Flat}
use Rattle.map_edits.specs.Entries.{Def, Entry, find_def}
use Rattle.map_edits.specs.LayerDefs.{by_op, LayerDef, layers_of, layers, find_making}
use Rattle.map_edits.specs.Laws.{IsApart}
use Rattle.map_edits.specs.GroupLaws.{IsGroup, AreGroups}
use Rattle.map_edits.specs.Touches.{whole, stands_for, is_whole}
use Rattle.map_edits.proofs.Among.{same_name}
use Rattle.map_edits.proofs.Heads.{head_of}
use Rattle.map_edits.proofs.Groups.{def_layers, outsider, group_making, making_by_head}
use Rattle.map_edits.proofs.LawfulEdits.{IsGoodChange}
use Rattle.map_waves.proofs.Making.{all_get}
use Rattle.op_jobs.specs.Ranges.{HasRanges}
use Rattle.edit_plans.specs.Planned.{FlatDef}
use Rattle.kept_map.specs.Maps.{source_in, def_by, entries_in}
use Rattle.kept_map.specs.Keeps.{IsItem, IsNamed, IsKept}
use Rattle.kept_map.specs.Flats.{flat_def, flats_after}
use Rattle.kept_map.specs.declared.maps.Item.{Item}
use Rattle.kept_map.specs.declared.maps.Item.TheVariants.{Source, Statement}
use Rattle.kept_map.specs.declared.maps.KeptMap.{KeptMap}
use Rattle.kept_map.proofs.SourceLayers.{find_item, bytes_eq_swaps}
use Rattle.kept_map.proofs.Given.{group_there}
use Rattle.kept_map.proofs.EditedFlats.{op_of, flag_found, in_item, item_flag, item_makes, item_made, IsWrittenAs, written_makes, written_made, lookup-append, brought, found_in, unless_edited, others_by_head, none_outside, or_none}

-- ---- what stands for a name

layer_there : (ls : List LayerDef) (n : Name) → list_any (λ (l : LayerDef). bytes_eq l.name n) ls ≡ is_some (find_making ls n)
layer_there [] n = refl
layer_there (l ∷ ls) n = elim (cases_Bool (bytes_eq l.name n)) [ inl h ↦ rw h refl | inr h ↦ rw h (layer_there ls n) ]

-- a definition of name m has a layer n
abbrev has_layer : Name → Name → Option Def → Bool
has_layer m n None = false
has_layer m n (Some d) = is_some (find_making (def_layers m d) n)

stands_is : (es : List Entry) (m n : Name) → IsApart es → stands_for es m n ≡ has_layer m n (find_def es m)
stands_is [] m n apart = refl
stands_is (e ∷ es) m n apart = elim (cases_Bool (bytes_eq e.name m)) [
  | inl h ↦ (let at : e.name ≡ m = same_name e.name m h in
      rw h (ap (λ b. own || b) (stands_is es m n apart.1 ∙ ap (has_layer m n) (ap (find_def es) (sym at) ∙ apart.0))
      ∙ or-false own ∙ layer_there (layers_of e) n ∙ ap (λ q. is_some (find_making (def_layers q e.def) n)) at))
  | inr h ↦ rw h (stands_is es m n apart.1)
]
  where
    own : Bool
    own = list_any (λ (l : LayerDef). bytes_eq l.name n) (layers_of e)

-- the layers of a name that is there are a group
pub group_at : (es : List Entry) (n : Name) (d : Def) → AreGroups es → find_def es n ≡ Some d → IsGroup n d
group_at es n d groups e = (group_there es n d groups e).1

-- ---- ranges

ranged_flat : (b : Bool) (fs : List Flat) (n : Name) (f : FlatDef) → All (λ (q : Flat). HasRanges (op_view q.op)) fs → lookup (bytes_eq n) (map (flat_def b) fs) ≡ Some f → HasRanges (op_view f.op)
ranged_flat b fs n f all e =
    let r = place_from_lookup (bytes_eq n) (map (flat_def b) fs) f e in
    all_get (λ (q : List ℕ × FlatDef). HasRanges (op_view q.1.op)) (map (flat_def b) fs) (All-map (λ (q : List ℕ × FlatDef). HasRanges (op_view q.1.op)) (flat_def b) fs all) r.0 (r.1, f) r.2

pub item_named : (items : List (List ℕ × Item)) (n : Name) (item : Item) → AllByRecursion IsNamed items → lookup (bytes_eq n) items ≡ Some item → IsItem item
item_named items n item all e = let r = place_from_lookup (bytes_eq n) items item e in (all_get IsNamed items (All-from_recursion IsNamed items all) r.0 (r.1, item) r.2).1

-- ---- the flat statements

module _ (m : KeptMap) (keeps : IsKept m) (new : List Entry) (edited : Name) (written : List Flat) (plain : IsUndotted edited) (change : IsGoodChange (entries_in m) edited new) (wrote : IsWrittenAs (find_def new edited) written) where
  abbrev found_after : Name → Option FlatDef
  found_after n = lookup (bytes_eq n) (flats_after m.names.entries edited written)

  abbrev item_at : Name → Option Item
  item_at n = lookup (bytes_eq (head_of n)) m.names.entries

  group : (d : Def) → find_def new edited ≡ Some d → IsGroup edited d
  group d is = group_at new edited d change.good.groups is

  others_found : (n : Name) → found_in edited n m.names.entries ≡ unless_edited (bytes_eq (head_of n) edited) (in_item n (item_at n))
  others_found n = others_by_head m.extent (source_in m.sources) edited n m.names.entries keeps.lawful.groups keeps.lawful.apart

  found_own : (n : Name) → bytes_eq edited (head_of n) ≡ true → found_after n ≡ lookup (bytes_eq n) (map (flat_def true) written)
  found_own n same =
      lookup-append n (map (flat_def true) written) (flat_map (brought edited) m.names.entries)
      ∙ ap (option_or (lookup (bytes_eq n) (map (flat_def true) written))) (others_found n ∙ ap (λ b. unless_edited b (in_item n (item_at n))) (bytes_eq_swaps (head_of n) edited ∙ same))
      ∙ or_none (lookup (bytes_eq n) (map (flat_def true) written))

  found_other : (n : Name) → bytes_eq edited (head_of n) ≡ false → found_after n ≡ in_item n (item_at n)
  found_other n differs =
      lookup-append n (map (flat_def true) written) (flat_map (brought edited) m.names.entries)
      ∙ ap (λ o. option_or o (found_in edited n m.names.entries)) (none_outside n written edited (find_def new edited) plain group differs wrote)
      ∙ others_found n ∙ ap (λ b. unless_edited b (in_item n (item_at n))) (bytes_eq_swaps (head_of n) edited ∙ differs)

  making_own : (n : Name) → bytes_eq edited (head_of n) ≡ true → find_making (layers new) n ≡ group_making n (find_def new edited)
  making_own n same = making_by_head new n change.good.groups change.good.apart ∙ ap (λ q. group_making n (find_def new q)) (sym (same_name edited (head_of n) same))

  making_other : (n : Name) → bytes_eq edited (head_of n) ≡ false → find_making (layers new) n ≡ group_making n (option_map (def_by m.extent (source_in m.sources (head_of n))) (item_at n))
  making_other n differs =
      change.makings n differs ∙ making_by_head (entries_in m) n keeps.lawful.groups keeps.lawful.apart
      ∙ ap (group_making n) (find_item m.extent (source_in m.sources) m.names.entries (head_of n))

  pub flats_make : (n : Name) (f : FlatDef) → found_after n ≡ Some f → find_making (layers new) n ≡ Some (by_op (op_view f.op))
  flats_make n f e = elim (cases_Bool (bytes_eq edited (head_of n))) [
    | inl same ↦ making_own n same ∙ written_makes n written (find_def new edited) f wrote (sym (found_own n same) ∙ e)
    | inr differs ↦ making_other n differs ∙ by_item (item_at n) (sym (found_other n differs) ∙ e)
  ]
    where
      by_item : (o : Option Item) → in_item n o ≡ Some f → group_making n (option_map (def_by m.extent (source_in m.sources (head_of n))) o) ≡ Some (op_of f)
      by_item None e = absurd (none-some f e)
      by_item (Some item) e = item_makes m.extent (source_in m.sources (head_of n)) (head_of n) n item f e

  pub flats_made : (n : Name) (op : Op) → find_making (layers new) n ≡ Some (by_op op) → (f : FlatDef) × (found_after n ≡ Some f)
  flats_made n op e = elim (cases_Bool (bytes_eq edited (head_of n))) [
    | inl same ↦ (let r = written_made n written (find_def new edited) op wrote (sym (making_own n same) ∙ e) in (r.0, found_own n same ∙ r.1))
    | inr differs ↦ (let r = by_item (item_at n) (sym (making_other n differs) ∙ e) in (r.0, found_other n differs ∙ r.1))
  ]
    where
      by_item : (o : Option Item) → group_making n (option_map (def_by m.extent (source_in m.sources (head_of n))) o) ≡ Some (by_op op) → (f : FlatDef) × (in_item n o ≡ Some f)
      by_item None e = absurd (none-some (by_op op) e)
      by_item (Some item) e = item_made m.extent (source_in m.sources (head_of n)) (head_of n) n item op e

  pub flats_touched : (n : Name) (f : FlatDef) → found_after n ≡ Some f → f.written ≡ is_whole new (whole edited) n
  flats_touched n f e = elim (cases_Bool (bytes_eq edited (head_of n))) [
    | inl same ↦
        flag_found true written n f (sym (found_own n same) ∙ e)
        ∙ there (find_def new edited) (same_name edited (head_of n) same) (sym (making_own n same) ∙ flats_make n f e) ∙ sym (stands_is new edited n change.good.apart)
    | inr differs ↦ item_flag n (item_at n) f (sym (found_other n differs) ∙ e) ∙ away (find_def new edited) group differs ∙ sym (stands_is new edited n change.good.apart)
  ]
    where
      there : (o : Option Def) → edited ≡ head_of n → group_making n o ≡ Some (op_of f) → true ≡ has_layer edited n o
      there None at made = absurd (none-some (op_of f) made)
      there (Some d) at made = sym (ap (λ q. is_some (find_making (def_layers q d) n)) at ∙ ap is_some made)

      away : (o : Option Def) → ((d : Def) → o ≡ Some d → IsGroup edited d) → bytes_eq edited (head_of n) ≡ false → false ≡ has_layer edited n o
      away None group differs = refl
      away (Some d) group differs = sym (ap is_some (outsider edited d n plain (group d refl) differs))

  pub flats_ranged : All (λ (f : Flat). HasRanges (op_view f.op)) written → (n : Name) (f : FlatDef) → lookup (bytes_eq n) (flats_after m.names.entries edited written) ≡ Some f → HasRanges (op_view f.op)
  flats_ranged all n f e = elim (cases_Bool (bytes_eq edited (head_of n))) [
    | inl same ↦ ranged_flat true written n f all (sym (found_own n same) ∙ e)
    | inr differs ↦ by_item (lookup (bytes_eq (head_of n)) m.names.entries) refl (sym (found_other n differs) ∙ e)
  ]
    where
      by_item : (o : Option Item) → lookup (bytes_eq (head_of n)) m.names.entries ≡ o → in_item n o ≡ Some f → HasRanges (op_view f.op)
      by_item None at e = absurd (none-some f e)
      by_item (Some Source) at e = absurd (none-some f e)
      by_item (Some (Statement w flats)) at e = ranged_flat false flats.items n f (item_named m.names.entries (head_of n) (Statement w flats) (recursion_from_All IsNamed m.names.entries keeps.named) at).1 e

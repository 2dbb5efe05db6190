-- A name that is seated among the others, in its own place or at one of them: its item, the entries, and what is found then; names stay plain, and statements formed.
use Rattle.std.proofs.Common.{◌≡◌, ℕ, ◌-◌, cond, false, List, [], ◌∷◌, ◌++◌, length, take, drop, Option, Some, None, bytes_eq, IsTrue, sym, ap, subst, ◌∙◌, arith}
use Rattle.std.specs.List.{All, position_or_len, AllByRecursion as ByRecursion}
use Rattle.std.specs.Map.{keys_of, remove_entry}
use Rattle.std.proofs.lemmas.Bool.{le-ltb, cond_both}
use Rattle.std.proofs.lemmas.List.{map-append, map-id, length-map, take-map, drop-map}
use Rattle.std.proofs.lemmas.List.Elements.{All-cons, All-append, All-take, All-drop, All-from_recursion, recursion_from_All}
use Rattle.std.proofs.lemmas.Map.Views.{All-map-remove_entry}
use Rattle.indexmap.specs.IndexMap.{insert_entry, move_index, index_before}
use Rattle.indexmap.proofs.MapLemmas.{absent_from_lookup, or_len-absent, insert_entry-absent}
use Rattle.indexmap.proofs.MoveLemmas.{push_moved}
use Rattle.map_nums.specs.Grids.{Size}
use Rattle.map_words.specs.Names.{is_plain}
use Rattle.map_defs.specs.Ops.{Name}
use Rattle.layer_tiles.specs.Layers.{LayerState}
use Rattle.map_edits.specs.Entries.{Def, Entry, find_def}
use Rattle.map_edits.specs.EntriesAt.{entry_at}
use Rattle.map_edits.proofs.Puts.{find_put, find_put_other, find_drop_other}
use Rattle.map_edits.proofs.PutBack.{find_at, drop_at}
use Rattle.kept_map.specs.Maps.{def_by, entry_by, entries_by}
use Rattle.kept_map.specs.Keeps.{IsItem, IsNamed}
use Rattle.kept_map.specs.declared.maps.Item.{Item}
use Rattle.kept_map.proofs.EditedFlats.{no_item}
use Rattle.kept_map.proofs.SourceLayers.{entries_insert}
use Rattle.live_engine.specs.Drafts.{seated, IsSeat}
use Rattle.live_engine.specs.Puts.{seated_item, CanSeat}

inserted : (items : List (List ℕ × Item)) (n : Name) (item : Item) → IsTrue (is_plain n) → IsItem item → ByRecursion IsNamed items → ByRecursion IsNamed (insert_entry bytes_eq items n item)
inserted [] n item plain good named = ((plain, good), tt)
inserted (e ∷ es) n item plain good named = cond_both (bytes_eq n e.0) ((e.0, item) ∷ es) (e ∷ insert_entry bytes_eq es n item) (ByRecursion IsNamed)
    (λ same. ((named.0.0, good), named.1)) (λ other. (named.0, inserted es n item plain good named.1))

pub named_remove : (items : List (List ℕ × Item)) (n : Name) → All IsNamed items → All IsNamed (remove_entry (bytes_eq n) items)
named_remove items n named =
    subst (All IsNamed) (map-id (remove_entry (bytes_eq n) items)) (All-map-remove_entry (bytes_eq n) (λ e. e) IsNamed items (subst (All IsNamed) (sym (map-id items)) named))

-- ---- entries

pub find_seated : (es : List Entry) (place : Option ℕ) (n : Name) (d : Def) → IsSeat es n place → find_def (seated es place n d) n ≡ Some d
find_seated es None n d seat = find_put es n d
find_seated es (Some k) n d seat = find_at es k n d seat.0

pub others_seated : (es : List Entry) (place : Option ℕ) (n : Name) (d : Def) → IsSeat es n place → (q : Name) → bytes_eq q n ≡ false → find_def (seated es place n d) q ≡ find_def es q
others_seated es None n d seat q other = find_put_other es n d q other
others_seated es (Some k) n d seat q other = sym (find_drop_other (entry_at es k n d) n q other) ∙ ap (λ (xs : List Entry). find_def xs q) (drop_at es k n d seat.0)

-- ---- items

-- an item that is inserted before a place stands there
pub inserted_before : (es : List (List ℕ × Item)) (k : ℕ) (n : Name) (item : Item) → CanSeat es n (Some k)
    → move_index (insert_entry bytes_eq es n item) (position_or_len (bytes_eq n) (keys_of es)) (index_before (position_or_len (bytes_eq n) (keys_of es)) k) ≡ seated_item es (Some k) n item
inserted_before es k n item seat =
    let own : List ℕ × Item = (n, item) in
    let last : ℕ = position_or_len (bytes_eq n) (keys_of es) in
    let away = absent_from_lookup (bytes_eq n) es seat.0 in
    ap (λ (xs : List (List ℕ × Item)). move_index xs last (index_before last k)) (insert_entry-absent bytes_eq n item es away)
    ∙ ap (λ i. move_index (es ++ own ∷ []) i (index_before i k)) (or_len-absent (bytes_eq n) es away)
    ∙ ap (λ b. move_index (es ++ own ∷ []) (length es) (cond b (k - 1) k)) (le-ltb (length es) k seat.1)
    ∙ push_moved es own k seat.1

pub named_seated : (es : List (List ℕ × Item)) (place : Option ℕ) (n : Name) (item : Item) → All IsNamed es → IsTrue (is_plain n) → IsItem item → All IsNamed (seated_item es place n item)
named_seated es None n item named plain good = All-from_recursion IsNamed (insert_entry bytes_eq es n item) (inserted es n item plain good (recursion_from_All IsNamed es named))
named_seated es (Some k) n item named plain good =
    let own : List ℕ × Item = (n, item) in
    All-append IsNamed (take k es) (own ∷ drop k es) (All-take IsNamed k es named) (All-cons IsNamed own (drop k es) (plain, good) (All-drop IsNamed k es named))

module _ (size : Size) (ls : Name → Option LayerState) where
  -- the entry of an item stands where the item does
  pub entries_seated : (es : List (List ℕ × Item)) (place : Option ℕ) (n : Name) (item : Item) → entries_by size ls (seated_item es place n item) ≡ seated (entries_by size ls es) place n (def_by size (ls n) item)
  entries_seated es None n item = entries_insert size ls es n item
  entries_seated es (Some k) n item =
      let own : List ℕ × Item = (n, item) in
      map-append (entry_by size ls) (take k es) (own ∷ drop k es)
      ∙ ap (λ (xs : List Entry). xs ++ entry_by size ls own ∷ entries_by size ls (drop k es)) (sym (take-map (entry_by size ls) k es))
      ∙ ap (λ (xs : List Entry). take k (entries_by size ls es) ++ entry_by size ls own ∷ xs) (sym (drop-map (entry_by size ls) k es))

  pub can_seat : (es : List (List ℕ × Item)) (n : Name) (place : Option ℕ) → IsSeat (entries_by size ls es) n place → CanSeat es n place
  can_seat es n None seat = tt
  can_seat es n (Some k) seat = (no_item size ls es n seat.0, let long = length-map es (entry_by size ls) in let within = seat.1 in omega (arith, long, within))

-- The layers of sources by name, the entries that a map's names are, and what a name is by its item.
use Rattle.std.proofs.Common.{◌≡◌, inl, inr, ℕ, zero, suc, ◌+◌, Bool, true, false, cond, add-one, List, [], ◌∷◌, ◌++◌, length, set, position, Option, Some, None, is_some, option_map, slice_get, bytes_eq, refl, sym, ap, ◌∙◌, arith, if◌then◌else◌}
use Rattle.std.specs.List.{position_from}
use Rattle.std.specs.Map.{lookup, remove_entry}
use Rattle.std.specs.Option.{option_or}
use Rattle.std.specs.Cmp.Lexicographic.{nat_list_eq_equiv}
use Rattle.std.proofs.lemmas.Bool.{cases_Bool, false≢true}
use Rattle.std.proofs.lemmas.Option.{none-some, same_Some}
use Rattle.std.proofs.lemmas.Iterator.Adapters.{position_from-zero}
use Rattle.std.proofs.lemmas.Map.Entries.{lookup_head, lookup_tail}
use Rattle.indexmap.specs.IndexMap.{insert_entry}
use Rattle.map_nums.specs.Grids.{Size, Grid}
use Rattle.map_defs.specs.Ops.{Name}
use Rattle.layer_tiles.specs.Layers.{LayerState, IsLayer}
use Rattle.map_edits.specs.Entries.{source, find_def, put_entry, drop_entry}
use Rattle.map_edits.specs.EngineStates.{EngineState}
use Rattle.map_edits.specs.Laws.{IsApart}
use Rattle.map_edits.proofs.Among.{same_name, bytes_eq-self}
use Rattle.map_edits.proofs.PutBack.{drop_none}
use Rattle.map_waves.proofs.Making.{all_get}
use Rattle.map_waves.proofs.SetPlaces.{slice_get-set_same}
use Rattle.edit_plans.proofs.Forming.{step_at}
use Rattle.edit_plans.proofs.Positions.{position_at}
use Rattle.edit_plans.proofs.There.{map_none}
use Rattle.kept_map.specs.Maps.{at_place, source_in, source_grid, def_by, entry_by, entries_by, grid_of, entries_in}
use Rattle.kept_map.specs.Keeps.{AreKeptSources, IsKept}
use Rattle.kept_map.specs.declared.maps.Item.{Item}
use Rattle.kept_map.specs.declared.maps.Item.TheVariants.{Source, Statement}
use Rattle.kept_map.specs.declared.maps.Sources.{Sources}
use Rattle.edit_plans.specs.Planned.{is_source_node}
use Rattle.kept_map.specs.declared.maps.KeptMap.{KeptMap}
use Rattle.kept_map.proofs.Given.{node_source, source_node}

-- ---- what is there

pub map_some : {X Y : Type 0} (f : X → Y) (o : Option X) (y : Y) → option_map f o ≡ Some y → (x : X) × (o ≡ Some x) × (f x ≡ y)
map_some f None y e = absurd (none-some y e)
map_some f (Some x) y e = (x, refl, same_Some (f x) y e)

pub some_there : {X : Type 0} (o : Option X) → is_some o ≡ true → (x : X) × (o ≡ Some x)
some_there None e = absurd (false≢true e)
some_there (Some x) e = (x, refl)

pub place_there : {X : Type 0} (xs : List X) (o : Option ℕ) (x : X) → at_place xs o ≡ Some x → (i : ℕ) × (o ≡ Some i) × (slice_get xs i ≡ Some x)
place_there xs None x e = absurd (none-some x e)
place_there xs (Some i) x e = (i, refl, e)

-- ---- what stands beside the first name that passes a test

module _ {X : Type 0} (p : Name → Bool) where
  placed_from : (i : ℕ) (ks : List Name) (x : X) (xs : List X) → at_place (x ∷ xs) (position_from p (i + 1) ks) ≡ at_place xs (position_from p i ks)
  placed_from i [] x xs = refl
  placed_from i (k ∷ ks) x xs = elim (cases_Bool (p k)) [ inl h ↦ rw (h, add-one) refl | inr h ↦ rw h (placed_from (i + 1) ks x xs) ]

  -- the first of the list, or what stands beside a later name
  pub placed_first : (k : Name) (ks : List Name) (x : X) (xs : List X) → at_place (x ∷ xs) (position p (k ∷ ks)) ≡ cond (p k) (Some x) (at_place xs (position p ks))
  placed_first k ks x xs = rw (position_from-zero p (k ∷ ks), position_from-zero p ks) (elim (cases_Bool (p k)) [ inl h ↦ rw h refl | inr h ↦ rw h (placed_from 0 ks x xs) ])

  -- with one more
  placed_push : (ks : List Name) (xs : List X) (a : Name) (l : X) → length xs ≡ length ks
      → at_place (xs ++ l ∷ []) (position p (ks ++ a ∷ [])) ≡ option_or (at_place xs (position p ks)) (if p a then Some l else None)
  placed_push [] [] a l count = placed_first a [] l []
  placed_push (k ∷ ks) (x ∷ xs) a l count = rw (placed_first k (ks ++ a ∷ []) x (xs ++ l ∷ []), placed_first k ks x xs) (elim (cases_Bool (p k)) [
    | inl h ↦ rw h refl
    | inr h ↦ rw h (placed_push ks xs a l (omega arith))
  ])
  placed_push ks xs a l count = absurd (omega arith)

  -- with another beside a name that doesn't pass
  placed_set : (ks : List Name) (xs : List X) (i : ℕ) (other : Name) (l : X) → slice_get ks i ≡ Some other → p other ≡ false → at_place (set xs i l) (position p ks) ≡ at_place xs (position p ks)
  placed_set [] xs i other l at fails = absurd (none-some other at)
  placed_set (k ∷ ks) [] i other l at fails = refl
  placed_set (k ∷ ks) (x ∷ xs) zero other l at fails = rw (placed_first k ks l xs, placed_first k ks x xs, same_Some k other at, fails) refl
  placed_set (k ∷ ks) (x ∷ xs) (suc i) other l at fails = rw (placed_first k ks x (set xs i l), placed_first k ks x xs) (ap (cond (p k) (Some x)) (placed_set ks xs i other l at fails))

-- ---- the layer of a source

module _ (sources : Sources) (n : Name) where
  pub source_at : (i : ℕ) → position (bytes_eq n) sources.names.keys ≡ Some i → source_in sources n ≡ slice_get sources.layers.items i
  source_at i at = ap (at_place sources.layers.items) at

  pub source_none : position (bytes_eq n) sources.names.keys ≡ None → source_in sources n ≡ None
  source_none at = ap (at_place sources.layers.items) at

  module _ (count : length sources.layers.items ≡ length sources.names.keys) where
    pub layer_at : (i : ℕ) → position (bytes_eq n) sources.names.keys ≡ Some i → (l : LayerState) × (slice_get sources.layers.items i ≡ Some l)
    layer_at i at = step_at sources.names.keys sources.layers.items count i n (position_at n sources.names.keys i at)

    pub source_stands : is_some (position (bytes_eq n) sources.names.keys) ≡ true → (i : ℕ) × (l : LayerState) × (position (bytes_eq n) sources.names.keys ≡ Some i) × (slice_get sources.layers.items i ≡ Some l)
    source_stands there = let at = some_there (position (bytes_eq n) sources.names.keys) there in let l = layer_at at.0 at.1 in (at.0, l.0, at.1, l.1)

    -- each source has a layer, and nothing else has one
    pub source_is_some : is_some (source_in sources n) ≡ is_some (position (bytes_eq n) sources.names.keys)
    source_is_some = go (position (bytes_eq n) sources.names.keys) refl
      where
        go : (o : Option ℕ) → position (bytes_eq n) sources.names.keys ≡ o → is_some (source_in sources n) ≡ is_some o
        go None at = ap is_some (source_none at)
        go (Some i) at = let r = layer_at i at in ap is_some (source_at i at ∙ r.1)

  pub source_place : (l : LayerState) → source_in sources n ≡ Some l → (i : ℕ) × (position (bytes_eq n) sources.names.keys ≡ Some i) × (slice_get sources.layers.items i ≡ Some l)
  source_place l there = place_there sources.layers.items (position (bytes_eq n) sources.names.keys) l there

  pub source_whole : (s : EngineState) (l : LayerState) → AreKeptSources s sources → source_in sources n ≡ Some l → (l.size ≡ s.size) × IsLayer l
  source_whole s l kept there =
      let r = source_place l there in
      all_get (λ (k : LayerState). (k.size ≡ s.size) × IsLayer k) sources.layers.items kept.whole r.0 l r.2

-- a source more
module _ (old new : Sources) (added : Name) (l : LayerState) (names : new.names.keys ≡ old.names.keys ++ added ∷ []) (layers : new.layers.items ≡ old.layers.items ++ l ∷ []) (count : length old.layers.items ≡ length old.names.keys) where
  source_more : (n : Name) → source_in new n ≡ option_or (source_in old n) (if bytes_eq n added then Some l else None)
  source_more n = rw (names, layers) (placed_push (bytes_eq n) old.names.keys old.layers.items added l count)

  pub source_added : position (bytes_eq added) old.names.keys ≡ None → source_in new added ≡ Some l
  source_added absent = source_more added ∙ rw (absent, bytes_eq-self added) refl

  pub source_beside : (n : Name) → bytes_eq n added ≡ false → source_in new n ≡ source_in old n
  source_beside n other = source_more n ∙ rw other (elim (source_in old n) as (λ (o : Option LayerState). option_or o None ≡ o) [ None ↦ refl | Some k ↦ refl ])

-- the layer at a place is another
module _ (old new : Sources) (painted : Name) (i : ℕ) (was l : LayerState) (names : new.names.keys ≡ old.names.keys) (layers : new.layers.items ≡ set old.layers.items i l) (at : position (bytes_eq painted) old.names.keys ≡ Some i) (there : slice_get old.layers.items i ≡ Some was) where
  pub source_painted : source_in new painted ≡ Some l
  source_painted = rw (names, layers, at) (slice_get-set_same old.layers.items i l was there)

  pub source_unpainted : (n : Name) → bytes_eq n painted ≡ false → source_in new n ≡ source_in old n
  source_unpainted n other = rw (names, layers) (placed_set (bytes_eq n) old.names.keys old.layers.items i painted l (position_at painted old.names.keys i at) other)

-- ---- entries

pub bytes_eq_swaps : (a b : Name) → bytes_eq a b ≡ bytes_eq b a
bytes_eq_swaps a b = nat_list_eq_equiv.symm a b

module _ (size : Size) (ls : Name → Option LayerState) where
  pub find_item : (items : List (List ℕ × Item)) (n : Name) → find_def (entries_by size ls items) n ≡ option_map (def_by size (ls n)) (lookup (bytes_eq n) items)
  find_item [] n = refl
  find_item (e ∷ es) n = elim (cases_Bool (bytes_eq n e.0)) [
    | inl h ↦ rw (bytes_eq_swaps e.0 n, h) (ap (λ m. Some (def_by size (ls m) e.1)) (sym (same_name n e.0 h)))
    | inr h ↦ rw (bytes_eq_swaps e.0 n, h) (find_item es n)
  ]

  pub entries_insert : (items : List (List ℕ × Item)) (n : Name) (item : Item) → entries_by size ls (insert_entry bytes_eq items n item) ≡ put_entry (entries_by size ls items) n (def_by size (ls n) item)
  entries_insert [] n item = refl
  entries_insert (e ∷ es) n item = elim (cases_Bool (bytes_eq n e.0)) [
    | inl h ↦ rw (bytes_eq_swaps e.0 n, h) (ap (λ m. record { name = e.0; def = def_by size (ls m) item } ∷ entries_by size ls es) (sym (same_name n e.0 h)))
    | inr h ↦ rw (bytes_eq_swaps e.0 n, h) (ap (λ xs. entry_by size ls e ∷ xs) (entries_insert es n item))
  ]

  -- other layers of one name
  module _ (ks : Name → Option LayerState) (n : Name) (same : (m : Name) → bytes_eq n m ≡ false → ks m ≡ ls m) where
    pub entries_elsewhere : (items : List (List ℕ × Item)) → lookup (bytes_eq n) items ≡ None → entries_by size ks items ≡ entries_by size ls items
    entries_elsewhere [] none = refl
    entries_elsewhere (e ∷ es) none = elim (cases_Bool (bytes_eq n e.0)) [
      | inl h ↦ absurd (none-some e.1 (sym none ∙ lookup_head (bytes_eq n) e es h))
      | inr h ↦ rw (same e.0 h, entries_elsewhere es (sym (lookup_tail (bytes_eq n) e es h) ∙ none)) refl
    ]

    after_named : (e : List ℕ × Item) (es : List (List ℕ × Item)) → IsApart (entries_by size ls (e ∷ es)) → bytes_eq n e.0 ≡ true → lookup (bytes_eq n) es ≡ None
    after_named e es apart h = map_none (def_by size (ls n)) (lookup (bytes_eq n) es) (sym (find_item es n) ∙ ap (find_def (entries_by size ls es)) (same_name n e.0 h) ∙ apart.0)

    -- a source is painted
    pub entries_painted : (items : List (List ℕ × Item)) → IsApart (entries_by size ls items) → lookup (bytes_eq n) items ≡ Some Source → entries_by size ks items ≡ put_entry (entries_by size ls items) n (source (source_grid size (ks n)))
    entries_painted [] apart there = absurd (none-some Source there)
    entries_painted (e ∷ es) apart there = elim (cases_Bool (bytes_eq n e.0)) [
      | inl h ↦
          let item : e.1 ≡ Source = same_Some e.1 Source (sym (lookup_head (bytes_eq n) e es h) ∙ there) in
          rw (bytes_eq_swaps e.0 n, h, item, entries_elsewhere es (after_named e es apart h), same_name n e.0 h) refl
      | inr h ↦ rw (bytes_eq_swaps e.0 n, h, same e.0 h, entries_painted es apart.1 (sym (lookup_tail (bytes_eq n) e es h) ∙ there)) refl
    ]

    pub entries_remove : (items : List (List ℕ × Item)) → IsApart (entries_by size ls items) → entries_by size ks (remove_entry (bytes_eq n) items) ≡ drop_entry (entries_by size ls items) n
    entries_remove [] apart = refl
    entries_remove (e ∷ es) apart = elim (cases_Bool (bytes_eq n e.0)) [
      | inl h ↦ rw (bytes_eq_swaps e.0 n, h) (
          entries_elsewhere es (after_named e es apart h)
          ∙ sym (drop_none (entries_by size ls es) n (ap (find_def (entries_by size ls es)) (same_name n e.0 h) ∙ apart.0)))
      | inr h ↦ rw (bytes_eq_swaps e.0 n, h, same e.0 h, entries_remove es apart.1) refl
    ]

module _ (m : KeptMap) (n : Name) where
  pub item_def : (o : Option Item) → lookup (bytes_eq n) m.names.entries ≡ o → find_def (entries_in m) n ≡ option_map (def_by m.extent (source_in m.sources n)) o
  item_def o e = find_item m.extent (source_in m.sources) m.names.entries n ∙ ap (option_map (def_by m.extent (source_in m.sources n))) e

  -- a name that is defined as a source is an item that is one
  def_item : (grid : Grid) (o : Option Item) → option_map (def_by m.extent (source_in m.sources n)) o ≡ Some (source grid) → o ≡ Some Source
  def_item grid None e = absurd (none-some (source grid) e)
  def_item grid (Some Source) e = refl
  def_item grid (Some (Statement written flats)) e = absurd cc

  module _ (keeps : IsKept m) where
    -- what stands among the sources is one
    pub placed_item : is_some (position (bytes_eq n) m.sources.names.keys) ≡ true → lookup (bytes_eq n) m.names.entries ≡ Some Source
    placed_item there =
        let r = node_source (entries_in m) n keeps.lawful.groups keeps.lawful.apart (sym (keeps.sources.stand n) ∙ there) in
        def_item r.0 (lookup (bytes_eq n) m.names.entries) (sym (item_def (lookup (bytes_eq n) m.names.entries) refl) ∙ r.1)

    pub source_def : (l : LayerState) → source_in m.sources n ≡ Some l → find_def (entries_in m) n ≡ Some (source (grid_of l))
    source_def l there =
        let r = source_place m.sources n l there in
        item_def (Some Source) (placed_item (ap is_some r.1)) ∙ ap (λ o. Some (source (source_grid m.extent o))) there

    -- and it has a layer
    pub item_source : lookup (bytes_eq n) m.names.entries ≡ Some Source → (i : ℕ) × (l : LayerState) × (position (bytes_eq n) m.sources.names.keys ≡ Some i) × (slice_get m.sources.layers.items i ≡ Some l)
    item_source is = source_stands m.sources n keeps.sources.count (
        keeps.sources.stand n ∙ ap is_source_node (source_node (entries_in m) n keeps.lawful.groups keeps.lawful.apart (source_grid m.extent (source_in m.sources n)) (item_def (Some Source) is)))

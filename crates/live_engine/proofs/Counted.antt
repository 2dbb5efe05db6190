-- What a name stands for, and how many sources and flat statements of a kind there are, before and after one is put.
use Rattle.std.proofs.Common.{◌≡◌, ℕ, ◌+◌, ◌-◌, ◌≤◌, Bool, cond, not, List, [], ◌∷◌, ◌++◌, map, length, count_by, sum_by, Option, Some, None, option_map, bytes_eq, refl, sym, ap, ◌∙◌, arith, is_some, inl, inr}
use Rattle.std.specs.Map.{lookup, values_of}
use Rattle.std.proofs.lemmas.Bool.{cases_Bool}
use Rattle.std.proofs.lemmas.List.Filters.{sum_by-filter_both}
use Rattle.std.proofs.lemmas.List.Sums.{sum_by-cons, sum_by-append, sum_by-le-sum_by}
use Rattle.map_nums.specs.Grids.{Size, Grid}
use Rattle.map_defs.specs.Ops.{Name}
use Rattle.map_defs.specs.Statements as meant
use Rattle.map_defs.specs.Statements.{Written, call}
use Rattle.layer_tiles.specs.Layers.{LayerState}
use Rattle.procedure_expand.specs.declared.flat.Flat.{Flat}
use Rattle.procedure_expand.specs.Flats.{flat_view, flats_view}
use Rattle.map_edits.specs.Entries.{Def, source, statement, Entry, find_def, put_entry, drop_entry}
use Rattle.map_edits.specs.LayerDefs.{Making, given_grid, by_op, LayerDef, flat_layer, layers}
use Rattle.map_edits.specs.Limits as limits
use Rattle.map_edits.specs.Limits.{is_source, is_flat, most_flats}
use Rattle.map_edits.proofs.Among.{same_name}
use Rattle.map_edits.proofs.Groups.{def_layers}
use Rattle.kept_map.specs.Maps.{def_by, entries_by, entry_by}
use Rattle.kept_map.specs.declared.maps.Item.{Item}
use Rattle.kept_map.specs.declared.maps.Item.TheVariants.{Source, Statement}
use Rattle.live_engine.specs.Counting.{kind_of, is_of, item_count, count_there}
use Rattle.live_engine.specs.declared.statement_limits.Kind.{Kind}
use Rattle.kept_map.proofs.SourceLayers.{find_item}
use Rattle.edit_plans.proofs.There.{some_map}
use Rattle.live_engine.specs.Standing.{standing_of, is_source_item}

pub count_first : {X : Type 0} (p : X → Bool) (x : X) (xs : List X) → count_by p (x ∷ xs) ≡ cond (p x) 1 0 + count_by p xs
count_first p x xs = sum_by-cons (λ y. cond (p y) 1 0) x xs

-- ---- a number of each entry, summed

module _ (f : Name → Def → ℕ) where
  abbrev pub of_entry : Entry → ℕ
  of_entry e = f e.name e.def

  abbrev pub entries_sum : List Entry → ℕ
  entries_sum es = sum_by of_entry es

  -- that of what is found for a name
  abbrev pub sum_there : Name → Option Def → ℕ
  sum_there n None = 0
  sum_there n (Some d) = f n d

  pub sum_put : (es : List Entry) (n : Name) (d : Def) → entries_sum (put_entry es n d) + sum_there n (find_def es n) ≡ entries_sum es + f n d
  sum_put [] n d = let e = sum_by-cons of_entry (record { name = n; def = d }) [] in omega (arith, e)
  sum_put (e ∷ es) n d =
      let rest = sum_put es n d in
      let old = sum_by-cons of_entry e es in
      elim (cases_Bool (bytes_eq e.name n)) [
        | inl same ↦
            let new = sum_by-cons of_entry (record e { def = d }) es in
            let at : (k : Def) → f e.name k ≡ f n k = λ k. ap (λ m. f m k) (same_name e.name n same) in
            rw same (omega (arith, old, new, at d, at e.def))
        | inr other ↦ let new = sum_by-cons of_entry e (put_entry es n d) in rw other (omega (arith, old, new, rest))
      ]

  pub sum_drop : (es : List Entry) (n : Name) → entries_sum (drop_entry es n) ≤ entries_sum es
  sum_drop es n =
      let both = sum_by-filter_both (λ (e : Entry). not (bytes_eq e.name n)) (λ (e : Entry). not (not (bytes_eq e.name n))) (λ e. refl) of_entry es in
      omega (arith, both)

-- ---- sources

abbrev source_one : Name → Def → ℕ
source_one n d = cond (is_source (record { name = n; def = d })) 1 0

-- one source more at most
pub source_more : (es : List Entry) (n : Name) (grid : Grid) → count_by is_source (put_entry es n (source grid)) ≤ count_by is_source es + 1
source_more es n grid =
    let put : count_by is_source (put_entry es n (source grid)) + sum_there source_one n (find_def es n) ≡ count_by is_source es + 1 = sum_put source_one es n (source grid) in
    omega (arith, put)

-- no source more by a statement
pub sources_put : (es : List Entry) (n : Name) (w : Written) (fs : List meant.Flat) → count_by is_source (put_entry es n (statement w fs)) ≤ count_by is_source es
sources_put es n w fs =
    let put : count_by is_source (put_entry es n (statement w fs)) + sum_there source_one n (find_def es n) ≡ count_by is_source es + 0 = sum_put source_one es n (statement w fs) in
    omega (arith, put)

-- as many with another grid for a source
pub sources_stay : (es : List Entry) (n : Name) (old new : Grid) → find_def es n ≡ Some (source old) → count_by is_source (put_entry es n (source new)) ≡ count_by is_source es
sources_stay es n old new is =
    let put : count_by is_source (put_entry es n (source new)) + sum_there source_one n (find_def es n) ≡ count_by is_source es + 1 = sum_put source_one es n (source new) in
    let was : sum_there source_one n (find_def es n) ≡ 1 = ap (sum_there source_one n) is in
    omega (arith, put, was)

-- nor by a drop
pub sources_drop : (es : List Entry) (n : Name) → count_by is_source (drop_entry es n) ≤ count_by is_source es
sources_drop es n = sum_drop source_one es n

-- ---- layers that pass a test

module _ (p : LayerDef → Bool) where
  pub count_join : (xs ys : List LayerDef) → count_by p (xs ++ ys) ≡ count_by p xs + count_by p ys
  count_join xs ys = sum_by-append (λ l. cond (p l) 1 0) xs ys

  count_cons : (n : Name) (d : Def) (es : List Entry) → count_by p (layers (record { name = n; def = d } ∷ es)) ≡ count_by p (def_layers n d) + count_by p (layers es)
  count_cons n d es = count_join (def_layers n d) (layers es)

  abbrev own_layers : Name → Def → ℕ
  own_layers n d = count_by p (def_layers n d)

  layers_summed : (es : List Entry) → count_by p (layers es) ≡ entries_sum own_layers es
  layers_summed [] = refl
  layers_summed (e ∷ es) = count_cons e.name e.def es ∙ ap (λ k. own_layers e.name e.def + k) (layers_summed es) ∙ sym (sum_by-cons (of_entry own_layers) e es)

  -- those of what is found for a name
  abbrev pub layers_there : Name → Option Def → ℕ
  layers_there n o = sum_there own_layers n o

  pub count_put : (es : List Entry) (n : Name) (d : Def) → count_by p (layers (put_entry es n d)) + layers_there n (find_def es n) ≡ count_by p (layers es) + count_by p (def_layers n d)
  count_put es n d = let new = layers_summed (put_entry es n d) in let old = layers_summed es in let put = sum_put own_layers es n d in omega (arith, new, old, put)

  pub count_drop : (es : List Entry) (n : Name) → count_by p (layers (drop_entry es n)) ≤ count_by p (layers es)
  count_drop es n = let left = layers_summed (drop_entry es n) in let old = layers_summed es in let fewer = sum_drop own_layers es n in omega (arith, left, old, fewer)

  -- what is found is counted among all, as a statement without flat ones in its place shows
  pub there_least : (es : List Entry) (n : Name) → layers_there n (find_def es n) ≤ count_by p (layers es)
  there_least es n =
      let put : count_by p (layers (put_entry es n (statement (call [] []) []))) + layers_there n (find_def es n) ≡ count_by p (layers es) + 0 = count_put es n (statement (call [] []) []) in
      omega (arith, put)

-- ---- items

flats_count : (kind : Kind) (fs : List Flat) → count_by (limits.is_of (kind_of kind)) (map flat_layer (flats_view fs)) ≡ count_by (is_of kind) fs
flats_count kind [] = refl
flats_count kind (f ∷ fs) =
    count_first (limits.is_of (kind_of kind)) (flat_layer (flat_view f)) (map flat_layer (flats_view fs))
    ∙ ap (λ k. cond (is_of kind f) 1 0 + k) (flats_count kind fs) ∙ sym (count_first (is_of kind) f fs)

layers_count : (kind : Kind) (size : Size) (l : Option LayerState) (n : Name) (item : Item) → count_by (limits.is_of (kind_of kind)) (def_layers n (def_by size l item)) ≡ item_count kind item
layers_count kind size l n Source = refl
layers_count kind size l n (Statement written flats) = flats_count kind flats.items

items_count : (kind : Kind) (size : Size) (grids : Name → Option LayerState) (items : List (List ℕ × Item)) → sum_by (item_count kind) (values_of items) ≡ count_by (limits.is_of (kind_of kind)) (layers (entries_by size grids items))
items_count kind size grids [] = refl
items_count kind size grids (e ∷ es) =
    let a = sum_by-cons (item_count kind) e.1 (values_of es) in
    let b = count_cons (limits.is_of (kind_of kind)) e.0 (def_by size (grids e.0) e.1) (entries_by size grids es) in
    let c = layers_count kind size (grids e.0) e.0 e.1 in
    let rest = items_count kind size grids es in
    omega (arith, a, b, c, rest)

there_count : (kind : Kind) (size : Size) (grids : Name → Option LayerState) (n : Name) (o : Option Item) → layers_there (limits.is_of (kind_of kind)) n (option_map (def_by size (grids n)) o) ≡ count_there kind o
there_count kind size grids n None = refl
there_count kind size grids n (Some item) = layers_count kind size (grids n) n item

-- ---- a statement is put

module _ (kind : Kind) (items : List (List ℕ × Item)) (n : Name) (all there these : ℕ) (fs : List Flat)
    (all_is : all ≡ sum_by (item_count kind) (values_of items)) (there_is : there ≡ count_there kind (lookup (bytes_eq n) items)) (these_are : these ≡ count_by (is_of kind) fs) where
  pub counted_with : (size : Size) (grids : Name → Option LayerState) (w : Written)
      → (there ≤ all) × (all - there + these ≡ count_by (limits.is_of (kind_of kind)) (layers (put_entry (entries_by size grids items) n (statement w (flats_view fs)))))
  counted_with size grids w =
      let sum = items_count kind size grids items in
      let old = ap (layers_there (limits.is_of (kind_of kind)) n) (find_item size grids items n) ∙ there_count kind size grids n (lookup (bytes_eq n) items) in
      let least = there_least (limits.is_of (kind_of kind)) (entries_by size grids items) n in
      let put = count_put (limits.is_of (kind_of kind)) (entries_by size grids items) n (statement w (flats_view fs)) in
      let new = flats_count kind fs in
      (omega (arith, sum, old, least, all_is, there_is), omega (arith, sum, old, least, put, new, all_is, there_is, these_are))

-- ---- of each kind there are no more than there are of any

one_kind : (kind : limits.Kind) (n : Name) (making : Making) → cond (limits.is_of kind (record { name = n; making = making })) 1 0 ≤ cond (is_flat (record { name = n; making = making })) 1 0
one_kind kind n (given_grid grid) = omega arith
one_kind kind n (by_op op) = elim (cases_Bool (limits.is_of kind (record { name = n; making = by_op op }))) [ inl e ↦ rw e (omega arith) | inr e ↦ rw e (omega arith) ]

kind_flat : (kind : limits.Kind) (ls : List LayerDef) → count_by (limits.is_of kind) ls ≤ count_by is_flat ls
kind_flat kind ls = sum_by-le-sum_by (λ l. cond (limits.is_of kind l) 1 0) (λ l. cond (is_flat l) 1 0) ls (λ l. one_kind kind l.name l.making)

pub few_of : (kind : Kind) (items : List (List ℕ × Item)) → (size : Size) × (grids : Name → Option LayerState) × (count_by is_flat (layers (entries_by size grids items)) ≤ most_flats) → sum_by (item_count kind) (values_of items) ≤ most_flats
few_of kind items few = let e = items_count kind few.0 few.1 items in let less = kind_flat (kind_of kind) (layers (entries_by few.0 few.1 items)) in omega (arith, e, less, few.2)

-- ---- all flat statements

pub flats_all : (fs : List meant.Flat) → count_by is_flat (map flat_layer fs) ≡ length fs
flats_all [] = refl
flats_all (f ∷ fs) =
    let one : count_by is_flat (map flat_layer (f ∷ fs)) ≡ 1 + count_by is_flat (map flat_layer fs) = count_first is_flat (flat_layer f) (map flat_layer fs) in
    let more = flats_all fs in
    omega (arith, one, more)

pub flats_stay : (es : List Entry) (n : Name) (old new : Grid) → find_def es n ≡ Some (source old) → count_by is_flat (layers (put_entry es n (source new))) ≡ count_by is_flat (layers es)
flats_stay es n old new is =
    let put : count_by is_flat (layers (put_entry es n (source new))) + layers_there is_flat n (find_def es n) ≡ count_by is_flat (layers es) + 0 = count_put is_flat es n (source new) in
    let was : layers_there is_flat n (find_def es n) ≡ 0 = ap (layers_there is_flat n) is in
    omega (arith, put, was)

-- ---- what a name stands for, by its item

module _ (size : Size) (ls : Name → Option LayerState) where
  pub kind_at : (items : List (List ℕ × Item)) (n : Name) (o : Option Item) → lookup (bytes_eq n) items ≡ o → standing_of (option_map (def_by size (ls n)) o) ≡ standing_of (find_def (entries_by size ls items) n)
  kind_at items n o e = ap (λ x. standing_of (option_map (def_by size (ls n)) x)) (sym e) ∙ ap standing_of (sym (find_item size ls items n))

  pub has_at : (items : List (List ℕ × Item)) (n : Name) → is_some (lookup (bytes_eq n) items) ≡ is_some (find_def (entries_by size ls items) n)
  has_at items n = sym (some_map (def_by size (ls n)) (lookup (bytes_eq n) items)) ∙ ap is_some (sym (find_item size ls items n))

  source_item : (n : Name) (item : Item) → is_source (entry_by size ls (n, item)) ≡ is_source_item item
  source_item n Source = refl
  source_item n (Statement written flats) = refl

  pub count_items : (items : List (List ℕ × Item)) → count_by is_source_item (map (λ (e : List ℕ × Item). e.1) items) ≡ count_by is_source (entries_by size ls items)
  count_items [] = refl
  count_items (e ∷ es) =
      sum_by-cons (λ (i : Item). cond (is_source_item i) 1 0) e.1 (map (λ (f : List ℕ × Item). f.1) es)
      ∙ ap (λ k. cond (is_source_item e.1) 1 0 + k) (count_items es)
      ∙ ap (λ b. cond b 1 0 + count_by is_source (entries_by size ls es)) (sym (source_item e.0 e.1))
      ∙ sym (sum_by-cons (λ (x : Entry). cond (is_source x) 1 0) (entry_by size ls e) (entries_by size ls es))

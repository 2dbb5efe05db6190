-- Of the sources only the one that is touched counts.
use Rattle.std.proofs.Common.{◌≡◌, ℕ, ◌+◌, true, false, List, [], ◌∷◌, map, filter, length, sum_by, Option, Some, None, is_some, option_map, bytes_eq, refl, sym, ap, ◌∙◌, arith, if◌then◌else◌, inl, inr}
use Rattle.std.proofs.lemmas.Bool.{cases_Bool}
use Rattle.std.proofs.lemmas.List.Sums.{sum_by-cons}
use Rattle.map_nums.specs.Grids.{Cells, Grid}
use Rattle.map_nums.specs.declared.Stat.TheVariants as stats
use Rattle.map_defs.specs.Ops.{Name, local_op}
use Rattle.map_edits.specs.LayerDefs.{Making, given_grid, by_op, LayerDef, layers, find_making, node_of_layer, nodes_of}
use Rattle.map_edits.specs.EngineStates.{EngineState, made, value_of}
use Rattle.map_edits.specs.Touches.{Touch, nothing, whole, within, source_damage}
use Rattle.map_edits.specs.LayerChanges.{changed_of, damage_of, work_of}
use Rattle.map_edits.specs.EditCounts.{Counts}
use Rattle.map_edits.specs.Laws.{HasNoCycle, is_named_in}
use Rattle.map_edits.proofs.Among.{same_name, bytes_eq-turned}
use Rattle.map_edits.proofs.Looks.{node_of_layer-name}
use Rattle.map_edits.proofs.Unfolds.{value_unfolds}
use Rattle.map_edits.proofs.Unchanged.{counts_nothing}
use Rattle.map_edits.proofs.Once.{IsOnce}
use Rattle.map_edits.proofs.GroupsOnce.{groups_once}
use Rattle.map_edits.specs.Touching.{touches_source, ChangesOnly}
use Rattle.edit_plans.specs.Orderly.{IsOrderly}
use Rattle.edit_plans.specs.SourceCounts.{is_given, no_counts, counts_of_sources, counts_of_source}
use Rattle.edit_plans.specs.CountLaws.{OneSourceCounts}
use Rattle.edit_plans.proofs.LayersMade.{EachLayer, IsFoundBy, none_named, layers_found}

module _ (t : EngineState) (orderly : IsOrderly t) where
  -- a source is defined
  value_given : (n : Name) (grid : Grid) → find_making (layers t.entries) n ≡ Some (given_grid grid) → value_of t n ≡ Some grid
  value_given n grid e = value_unfolds t orderly.none_looped n ∙ ap (made t.size (value_of t)) e

  given_defined : (l : LayerDef) → IsFoundBy (layers t.entries) l → is_given l.making ≡ true → is_some (value_of t l.name) ≡ true
  given_defined l found given = go l.making refl given
    where
      go : (making : Making) → l.making ≡ making → is_given making ≡ true → is_some (value_of t l.name) ≡ true
      go (given_grid grid) is h = ap is_some (value_given l.name grid (found ∙ ap (λ m. Some m) is))
      go (by_op op) is h = absurd cc

  abbrev pub given_in : List LayerDef → List LayerDef
  given_in ls = filter (λ (l : LayerDef). is_given l.making) (filter (λ (l : LayerDef). is_some (value_of t l.name)) ls)

  module _ (f : LayerDef → ℕ) where
    -- what one layer adds
    abbrev part : LayerDef → ℕ
    part l = if is_given l.making then f l else 0

    given_more : (l : LayerDef) (ls : List LayerDef) → IsFoundBy (layers t.entries) l → sum_by f (given_in (l ∷ ls)) ≡ part l + sum_by f (given_in ls)
    given_more l ls found =
        let counted = sum_by-cons f l (given_in ls) in
        elim (cases_Bool (is_given l.making)) [
          | inl given ↦ simp (given_defined l found given, given) counted
          | inr other ↦ elim (cases_Bool (is_some (value_of t l.name))) [ inl h ↦ simp (h, other) (omega arith) | inr h ↦ simp (h, other) (omega arith) ]
        ]

    abbrev of_making : Name → Option Making → ℕ
    of_making n None = 0
    of_making n (Some (by_op op)) = 0
    of_making n (Some (given_grid grid)) = f (record { name = n; making = given_grid grid })

    part_is : (n : Name) (l : LayerDef) → l.name ≡ n → part l ≡ of_making n (Some l.making)
    part_is n l e = go l.making refl
      where
        go : (making : Making) → l.making ≡ making → (if is_given making then f l else 0) ≡ of_making n (Some making)
        go (given_grid grid) is = ap (λ q. f (record { name = q; making = l.making })) e ∙ ap (λ m. f (record { name = n; making = m })) is
        go (by_op op) is = refl

    -- a source that isn't named adds nothing
    abbrev OnlyNamed : Name → Type 0
    OnlyNamed n = (l : LayerDef) → IsFoundBy (layers t.entries) l → is_given l.making ≡ true → bytes_eq l.name n ≡ false → f l ≡ 0

    zero_part : (l : LayerDef) → (is_given l.making ≡ true → f l ≡ 0) → part l ≡ 0
    zero_part l zero = elim (cases_Bool (is_given l.making)) [ inl e ↦ rw e (zero e) | inr e ↦ rw e refl ]

    one_named : (n : Name) → OnlyNamed n → (ls : List LayerDef) → IsOnce (map node_of_layer ls) → EachLayer (IsFoundBy (layers t.entries)) ls → sum_by f (given_in ls) ≡ of_making n (find_making ls n)
    one_named n only [] once each = refl
    one_named n only (l ∷ ls) once each =
        let rest = one_named n only ls once.1 each.1 in
        given_more l ls each.0 ∙ elim (cases_Bool (bytes_eq l.name n)) [
          | inl same ↦
              let named : l.name ≡ n = same_name l.name n same in
              let new : find_making ls n ≡ None = none_named ls n (ap (λ q. is_named_in q (map node_of_layer ls)) (sym (node_of_layer-name l ∙ named)) ∙ once.0) in
              let last : sum_by f (given_in ls) ≡ 0 = rest ∙ ap (of_making n) new in
              let first = part_is n l named in
              rw same (omega arith)
          | inr differs ↦ let first = zero_part l (λ given. only l each.0 given differs) in rw differs (omega arith)
        ]

    none_adds : ((l : LayerDef) → IsFoundBy (layers t.entries) l → is_given l.making ≡ true → f l ≡ 0) → (ls : List LayerDef) → EachLayer (IsFoundBy (layers t.entries)) ls → sum_by f (given_in ls) ≡ 0
    none_adds all [] each = refl
    none_adds all (l ∷ ls) each = let first = zero_part l (all l each.0) in let rest = none_adds all ls each.1 in let more = given_more l ls each.0 in omega arith

-- ---- sources that aren't touched

no_damage : (touch : Touch) (s t : EngineState) (l : LayerDef) → is_given l.making ≡ true → touches_source touch l.name ≡ false → length (damage_of touch s t l) ≡ 0
no_damage touch s t l given e = go touch l.making given e
  where
    by_touch : (touch : Touch) → touches_source touch l.name ≡ false → length (source_damage t.size touch l.name) ≡ 0
    by_touch nothing e = refl
    by_touch (whole m) e = rw e refl
    by_touch (within m r) e = rw e refl

    go : (touch : Touch) (making : Making) → is_given making ≡ true → touches_source touch l.name ≡ false → length (damage_of touch s t (record { name = l.name; making = making })) ≡ 0
    go touch (given_grid grid) h e = by_touch touch e
    go touch (by_op op) h e = absurd cc

pub same_counts : {a b c x y z : ℕ} → a ≡ x → b ≡ y → c ≡ z → ◌≡◌ {A = Counts} (record { changed = a; evaluated = b; worked = c }) (record { changed = x; evaluated = y; worked = z })
same_counts e f g = rw (e, f, g) refl

module _ (touch : Touch) (s t : EngineState) (changes : ChangesOnly touch s t) (old : HasNoCycle (nodes_of s.entries)) (orderly : IsOrderly t) where
  no_change : (l : LayerDef) → IsFoundBy (layers t.entries) l → is_given l.making ≡ true → touches_source touch l.name ≡ false → length (changed_of s t l.name) ≡ 0
  no_change l found given e = go l.making refl given
    where
      go : (making : Making) → l.making ≡ making → is_given making ≡ true → length (changed_of s t l.name) ≡ 0
      go (given_grid grid) is h =
          let now = found ∙ ap (λ m. Some m) is in
          let before = changes.sources l.name grid e now in
          let was : value_of s l.name ≡ Some grid = value_unfolds s old l.name ∙ ap (made s.size (value_of s)) before in
          let cells : Option Grid → Option Cells = option_map (λ (g : Grid). g.cells) in
          ap length (counts_nothing nothing s t l.name (local_op stats.Sum false []) grid.cells refl refl (ap cells was) (ap cells (value_given t orderly l.name grid now))).changed
      go (by_op op) is h = absurd cc

  no_work : (l : LayerDef) → is_given l.making ≡ true → work_of touch s t l ≡ 0
  no_work l given = go l.making given
    where
      go : (making : Making) → is_given making ≡ true → work_of touch s t (record { name = l.name; making = making }) ≡ 0
      go (given_grid grid) h = refl
      go (by_op op) h = absurd cc

  abbrev changed_count : LayerDef → ℕ
  changed_count l = length (changed_of s t l.name)

  abbrev damage_count : LayerDef → ℕ
  damage_count l = length (damage_of touch s t l)

  abbrev work_count : LayerDef → ℕ
  work_count l = work_of touch s t l

  by_parts : (n : Name) (o : Option Making) → ◌≡◌ {A = Counts} (record { changed = of_making t orderly changed_count n o; evaluated = of_making t orderly damage_count n o; worked = of_making t orderly work_count n o }) (counts_of_source touch s t n o)
  by_parts n None = refl
  by_parts n (Some (by_op op)) = refl
  by_parts n (Some (given_grid grid)) = refl

  -- all but the source of a name is left alone
  named : (n : Name) → ((m : Name) → bytes_eq m n ≡ false → touches_source touch m ≡ false) → counts_of_sources touch s t ≡ counts_of_source touch s t n (find_making (layers t.entries) n)
  named n others =
      let ls = layers t.entries in
      let once = groups_once t.entries orderly.groups orderly.apart in
      let each = layers_found t orderly in
      same_counts
      (one_named t orderly changed_count n (λ l found given differs. no_change l found given (others l.name differs)) ls once each)
      (one_named t orderly damage_count n (λ l found given differs. no_damage touch s t l given (others l.name differs)) ls once each)
      (one_named t orderly work_count n (λ l found given differs. no_work l given) ls once each)
      ∙ by_parts n (find_making ls n)

  unnamed : ((m : Name) → touches_source touch m ≡ false) → counts_of_sources touch s t ≡ no_counts
  unnamed others =
      let ls = layers t.entries in
      let each = layers_found t orderly in
      same_counts
      (none_adds t orderly changed_count (λ l found given. no_change l found given (others l.name)) ls each)
      (none_adds t orderly damage_count (λ l found given. no_damage touch s t l given (others l.name)) ls each)
      (none_adds t orderly work_count (λ l found given. no_work l given) ls each)

pub one_source_counts : OneSourceCounts
one_source_counts nothing s t changes old orderly = unnamed nothing s t changes old orderly (λ m. refl)
one_source_counts (whole n) s t changes old orderly = named (whole n) s t changes old orderly n (λ m differs. bytes_eq-turned m n differs)
one_source_counts (within n r) s t changes old orderly = named (within n r) s t changes old orderly n (λ m differs. bytes_eq-turned m n differs)

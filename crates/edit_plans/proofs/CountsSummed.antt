-- What an edit counts by place is what its sources and its plan count: a sum over layers by place is that over the sources and that over the statements of a plan.
use Rattle.std.proofs.Common.{◌≡◌, ℕ, ◌+◌, Bool, List, filter, length, sum_by, Option, Some, None, is_some, slice_get, sym, ap, ◌∙◌, arith, zero, suc, ◌≤◌, true, false, ◌&&◌, nat_le, [], ◌∷◌, map, take, get_or, if◌then◌else◌, refl, inl, inr}
use Rattle.std.proofs.lemmas.List.{take_all}
use Rattle.std.proofs.lemmas.Bool.{le-leb, cases_Bool}
use Rattle.std.proofs.lemmas.List.Sums.{sum_by-cons, sum_by_more, sum-map}
use Rattle.std.proofs.lemmas.List.FromFn.{sum_by-map-range_with_len_more}
use Rattle.std.specs.List.{range_with_len, AllByRecursion}
use Rattle.std.proofs.lemmas.Option.{slice_get-get_or}
use Rattle.map_defs.specs.Ops.{Name}
use Rattle.map_edits.specs.LayerDefs.{Making, by_op, LayerDef, layers, find_making, nodes_of, given_grid, node_of_layer}
use Rattle.map_edits.specs.EngineStates.{EngineState, value_of}
use Rattle.map_edits.specs.Touches.{Touch}
use Rattle.map_edits.specs.LayerChanges.{changed_of, damage_of, work_of}
use Rattle.map_edits.specs.EditCounts.{defined_layers, counts_of}
use Rattle.map_edits.specs.Laws.{HasNoCycle}
use Rattle.map_waves.specs.Plans.{Plan, change_at, damage_at, work_at}
use Rattle.map_waves.specs.Answers.{total_of}
use Rattle.edit_plans.specs.PlansFor.{IsPlanFor}
use Rattle.map_edits.specs.Touching.{ChangesOnly}
use Rattle.edit_plans.specs.Orderly.{IsOrderly}
use Rattle.edit_plans.specs.SourceCounts.{is_given, joined, counts_of_sources, counts_to_place}
use Rattle.edit_plans.specs.CountLaws.{CountsAreSummed}
use Rattle.map_edits.proofs.Listed.{each_more, IsFoundIn}
use Rattle.map_defs.specs.Nodes.{Node, find_node}
use Rattle.map_defs.specs.Depths.{depth_in, by_depth}
use Rattle.map_edits.proofs.Unfolds.{depth_of_flat, depth_in_le_nodes}
use Rattle.map_edits.proofs.Summed.{sum_filter, sum_same, depth_is_place, sum_both, sum_each}
use Rattle.map_edits.proofs.GroupsOnce.{groups_found}
use Rattle.edit_plans.proofs.LayersMade.{IsFoundBy, layers_found}
use Rattle.edit_plans.proofs.Counting.{damage_is, work_is, changed_is}
use Rattle.edit_plans.proofs.OneSource.{same_counts}

-- ---- sums

pub sum_map : {X Y : Type 0} (f : Y → ℕ) (g : X → Y) (xs : List X) → sum_by f (map g xs) ≡ sum_by (λ x. f (g x)) xs
sum_map f g [] = refl
sum_map f g (x ∷ xs) = let rest = sum_map f g xs in let a = sum_by-cons f (g x) (map g xs) in let b = sum_by-cons (λ x. f (g x)) x xs in omega arith

-- ---- the sum over the statements of a plan

pub total_step : (f : ℕ → ℕ) (k : ℕ) → total_of f (k + 1) ≡ total_of f k + f k
total_step f k =
    let more = sum_by-map-range_with_len_more (λ n. n) f 0 k k (omega arith) in
    let all = sum-map f (range_with_len 0 (k + 1)) in
    let first = sum-map f (range_with_len 0 k) in
    omega arith

pub total_names : (h : Name → ℕ) (f : ℕ → ℕ) (names : List Name) → ((k : ℕ) (n : Name) → slice_get names k ≡ Some n → h n ≡ f k) → (k : ℕ) → k ≤ length names → sum_by h (take k names) ≡ total_of f k
total_names h f names same zero within = refl
total_names h f names same (suc k) within =
    let rest : sum_by h (take k names) ≡ total_of f k = total_names h f names same k (omega arith) in
    let more : sum_by h (take (k + 1) names) ≡ sum_by h (take k names) + h (get_or names k []) = sum_by_more h names k [] (omega arith) in
    let one : suc k ≡ k + 1 = omega arith in
    let here : h (get_or names k []) ≡ f k = same k (get_or names k []) (slice_get-get_or names k [] (omega arith)) in
    let step = total_step f k in
    ap (λ j. sum_by h (take j names)) one ∙ (omega arith) ∙ ap (total_of f) (sym one)

-- ---- the statements of a state, by depth and by place

module _ (t : EngineState) (orderly : IsOrderly t) where
  abbrev all : List Node
  all = nodes_of t.entries

  abbrev is_within : Node → Bool
  is_within node = is_some node.needs && (nat_le 1 (depth_in all node.name) && nat_le (depth_in all node.name) (length all))

  abbrev if_flat : (Name → ℕ) → Node → ℕ
  if_flat h node = if is_some node.needs then h node.name else 0

  -- each statement has a depth from 1 to the number of nodes
  deep_enough : (h : Name → ℕ) (node : Node) → find_node all node.name ≡ Some node → (if is_within node then h node.name else 0) ≡ if_flat h node
  deep_enough h node found = go node.needs refl
    where
      go : (o : Option (List Name)) → node.needs ≡ o → (if is_some o && (nat_le 1 (depth_in all node.name) && nat_le (depth_in all node.name) (length all)) then h node.name else 0) ≡ (if is_some o then h node.name else 0)
      go None e = refl
      go (Some ns) e =
          let deep = depth_of_flat all orderly.none_looped node.name node ns found e in
          let low : nat_le 1 (depth_in all node.name) ≡ true = le-leb 1 (depth_in all node.name) (omega arith) in
          let high : nat_le (depth_in all node.name) (length all) ≡ true = le-leb (depth_in all node.name) (length all) (depth_in_le_nodes all orderly.none_looped node.name) in
          ap (λ b. if b && nat_le (depth_in all node.name) (length all) then h node.name else 0) low ∙ ap (λ (b : Bool). if b then h node.name else 0) high

  by_depth_placed : (h : Name → ℕ) → sum_by (λ (node : Node). h node.name) (by_depth all) ≡ sum_by (if_flat h) all
  unfolding by_depth
  by_depth_placed h =
      depth_is_place (λ (node : Node). h node.name) (length all) all
      ∙ sum_filter (λ (node : Node). h node.name) is_within all
      ∙ sum_each (IsFoundIn all) (λ node. if is_within node then h node.name else 0) (if_flat h) (deep_enough h) all (groups_found t.entries orderly.groups orderly.apart)

  abbrev if_statement : (Name → ℕ) → LayerDef → ℕ
  if_statement h l = if is_given l.making then 0 else h l.name

  node_is : (h : Name → ℕ) (l : LayerDef) → if_flat h (node_of_layer l) ≡ if_statement h l
  node_is h l = of_making l.name l.making
    where
      of_making : (n : Name) (making : Making) → if_flat h (node_of_layer (record { name = n; making = making })) ≡ (if is_given making then 0 else h n)
      of_making n (given_grid grid) = refl
      of_making n (by_op op) = refl

  pub by_depth_layers : (h : Name → ℕ) → sum_by (λ (node : Node). h node.name) (by_depth all) ≡ sum_by (if_statement h) (layers t.entries)
  by_depth_layers h =
      by_depth_placed h ∙ sum_map (if_flat h) node_of_layer (layers t.entries)
      ∙ sum_same (λ l. if_flat h (node_of_layer l)) (if_statement h) (layers t.entries) (node_is h)

  -- of the layers that pass, the sources and the statements
  module _ (q : Name → Bool) (f : LayerDef → ℕ) (h : Name → ℕ) where
    abbrev passing : List LayerDef → List LayerDef
    passing ls = filter (λ (l : LayerDef). q l.name) ls

    abbrev if_passing : LayerDef → ℕ
    if_passing l = if q l.name then f l else 0

    abbrev given_part : LayerDef → ℕ
    given_part l = if q l.name then (if is_given l.making then f l else 0) else 0

    abbrev flat_part : LayerDef → ℕ
    flat_part l = if is_given l.making then 0 else (if q l.name then f l else 0)

    parts : (a b : Bool) (x : ℕ) → (if a then x else 0) ≡ (if a then (if b then x else 0) else 0) + (if b then 0 else (if a then x else 0))
    parts true true x = omega arith
    parts true false x = omega arith
    parts false true x = omega arith
    parts false false x = omega arith

    split_layers : sum_by f (passing (layers t.entries)) ≡ sum_by f (filter (λ (l : LayerDef). is_given l.making) (passing (layers t.entries))) + sum_by flat_part (layers t.entries)
    split_layers =
        let ls = layers t.entries in
        let whole = sum_filter f (λ (l : LayerDef). q l.name) ls in
        let both = sum_both given_part flat_part if_passing ls (λ l. sym (parts (q l.name) (is_given l.making) (f l))) in
        let given = sum_filter f (λ (l : LayerDef). is_given l.making) (passing ls) in
        let more = sum_filter (λ (l : LayerDef). if is_given l.making then f l else 0) (λ (l : LayerDef). q l.name) ls in
        omega arith

    abbrev if_named : Name → ℕ
    if_named n = if q n then h n else 0

    -- f is told by the name of each statement
    abbrev pub IsTold : LayerDef → Type 0
    IsTold l = is_given l.making ≡ false → f l ≡ h l.name

    told_part : (l : LayerDef) → IsTold l → flat_part l ≡ if_statement if_named l
    told_part l told = elim (cases_Bool (is_given l.making)) [ inl e ↦ rw e refl | inr e ↦ rw e (ap (λ x. if q l.name then x else 0) (told e)) ]

    abbrev pub AllTold : List LayerDef → Type 0
    AllTold ls = AllByRecursion IsTold ls

    pub sum_by_place : AllTold (layers t.entries)
        → sum_by f (passing (layers t.entries)) ≡ sum_by f (filter (λ (l : LayerDef). is_given l.making) (passing (layers t.entries))) + sum_by h (map (λ (node : Node). node.name) (filter (λ (node : Node). q node.name) (by_depth all)))
    sum_by_place told =
        let split = split_layers in
        let each = sum_each IsTold flat_part (if_statement if_named) told_part (layers t.entries) told in
        let deep = by_depth_layers if_named in
        let listed = sum_filter (λ (node : Node). h node.name) (λ (node : Node). q node.name) (by_depth all) in
        let named = sum_map h (λ (node : Node). node.name) (filter (λ (node : Node). q node.name) (by_depth all)) in
        omega arith

-- what is counted of a layer, by its name
abbrev pub by_making : (LayerDef → ℕ) → Name → Option Making → ℕ
by_making f n None = 0
by_making f n (Some making) = f (record { name = n; making = making })

module _ (t : EngineState) (orderly : IsOrderly t) (f : LayerDef → ℕ) where
  abbrev pub by_name : Name → ℕ
  by_name n = by_making f n (find_making (layers t.entries) n)

  pub all_told : (q : Name → Bool) → AllTold t orderly q f by_name (layers t.entries)
  all_told q = each_more (IsFoundBy (layers t.entries)) (IsTold t orderly q f by_name) (λ l found flat. sym (ap (by_making f l.name) found)) (layers t.entries) (layers_found t orderly)

module _ (touch : Touch) (s t : EngineState) (p : Plan) (sources names : List Name) (plan : IsPlanFor touch s t p sources names) (orderly : IsOrderly t) where
  -- what is counted of the defined layers, where statement k counts g k
  pub one_count : (f : LayerDef → ℕ) (g : ℕ → ℕ) → ((k : ℕ) (n : Name) → slice_get names k ≡ Some n → f (record { name = n; making = by_op (p.step k).op }) ≡ g k)
      → sum_by f (defined_layers t) ≡ sum_by f (filter (λ (l : LayerDef). is_given l.making) (defined_layers t)) + total_of g (length names)
  one_count f g same =
      let h : Name → ℕ = by_name t orderly f in
      let place = sum_by_place t orderly (λ n. is_some (value_of t n)) f h (all_told t orderly f (λ n. is_some (value_of t n))) in
      let listed = ap (sum_by h) plan.names_are in
      let all = total_names h g names (λ k n at. ap (by_making f n) (plan.steps k n at).making ∙ same k n at) (length names) (omega arith) in
      let whole = ap (sum_by h) (take_all (length names) names (omega arith)) in
      omega arith

  pub counts_summed : ChangesOnly touch s t → HasNoCycle (nodes_of s.entries) → counts_of touch s t ≡ joined (counts_of_sources touch s t) (counts_to_place p (length names))
  counts_summed changes old =
      let none = orderly.none_looped in
      same_counts
      (one_count (λ (l : LayerDef). length (changed_of s t l.name)) (λ i. length (change_at p i).touched) (λ k n at. ap length (changed_is touch s t p sources names plan changes old none k n at)))
      (one_count (λ (l : LayerDef). length (damage_of touch s t l)) (λ i. length (damage_at p i)) (λ k n at. ap length (damage_is touch s t p sources names plan changes old none k n at)))
      (one_count (λ (l : LayerDef). work_of touch s t l) (λ i. work_at p i) (λ k n at. work_is touch s t p sources names plan changes old none k n at))

pub counts_are_summed : CountsAreSummed
counts_are_summed touch s t p sources names plan changes old orderly = counts_summed touch s t p sources names plan orderly changes old

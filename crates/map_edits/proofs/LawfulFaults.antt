-- No accepted edit leaves a fault, though a statement may stand for several flat ones.
use Rattle.std.proofs.Common.{◌≡◌, None, cond, sym, ap, subst, ◌∙◌, ℕ, zero, suc, Bool, true, false, ◌&&◌, nat_lt, List, [], ◌∷◌, map, flat_map, length, Option, Some, is_some, option_map, unwrap_or, bytes_eq, if◌then◌else◌, refl, ◌⊎◌, inl, inr}
use Rattle.std.proofs.lemmas.Bool.{cases_Bool, true≢false, false≢true, or_left, or_right}
use Rattle.std.proofs.lemmas.List.Folds.{list_any-append}
use Rattle.std.proofs.lemmas.Option.{none-some}
use Rattle.map_defs.specs.Ops.{Name, Term, layer_term, number_term, Op, term_names}
use Rattle.map_defs.specs.Depths.{by_depth}
use Rattle.map_edits.specs.Entries.{drop_entry}
use Rattle.map_edits.specs.LayerDefs.{layers, find_making, nodes_of, Making, given_grid, by_op}
use Rattle.map_edits.specs.EngineStates.{EngineState, value_of, all_some, term_cells, made}
use Rattle.map_edits.specs.Faults.{fault_of_layer, fault_of, Fault, too_many_viewers, viewers_of, wide_place, overflow_at}
use Rattle.map_edits.specs.EditForms.{edited}
use Rattle.map_edits.specs.Edits.{may_fault, with_entries}
use Rattle.map_edits.specs.WholeStates.{WholeState}
use Rattle.map_edits.specs.WholeEdits.{WholeEdit, put_back}
use Rattle.map_edits.specs.Counted.{fault_after}
use Rattle.map_edits.specs.GroupLaws.{IsLawful, IsSaid, PutsBackReached, NoFaultStays}
use Rattle.map_nums.specs.Grids.{Size, Cells, Grid}
use Rattle.map_defs.specs.Sight.{most_viewers}
use Rattle.map_defs.specs.Operate.{operate}
use Rattle.map_defs.specs.Viewers.{viewers_in}
use Rattle.map_defs.specs.Nodes.{Node, find_node, needs_in}
use Rattle.map_nums.specs.Options.{first_some}
use Rattle.map_edits.specs.Laws.{is_among, is_named_in, HasNoCycle}
use Rattle.map_edits.proofs.Listed.{each_more, IsListed, Each}
use Rattle.map_edits.proofs.Accepted.{edited_is}
use Rattle.map_edits.proofs.GroupsKept.{drop_makings}
use Rattle.map_edits.proofs.Once.{once_listed}
use Rattle.map_edits.proofs.GroupsOnce.{groups_once}
use Rattle.map_edits.proofs.LawfulEdits.{AreGood, drop_good, good_of, IsTried, tried, done_is}
use Rattle.map_edits.proofs.Among.{bytes_eq-self, none_at, none_of_named}
use Rattle.map_edits.proofs.Chains.{goes_on, chains_end}
use Rattle.map_edits.proofs.Looks.{making_needs, needs_in-layers, made_node, find_node-making}
use Rattle.map_edits.proofs.Unfolds.{value_unfolds}
use Rattle.map_edits.proofs.Order.{all_flats_listed}

-- ---- operands that are there are the same

-- either nothing, or what it was
abbrev pub IsLess : {X : Type 0} → Option X → Option X → Type 0
IsLess a b = (a ≡ None) ⊎ (a ≡ b)

module _ (size : Size) (f g : Name → Option Grid) where
  cells_less : (t : Term) → ((m : Name) → is_among m (term_names t) ≡ true → IsLess (f m) (g m)) → IsLess (term_cells size f t) (term_cells size g t)
  cells_less (number_term z) less = inr refl
  cells_less (layer_term n) less = elim (less n (or_left (bytes_eq n n) false (bytes_eq-self n))) [
    | inl e ↦ inl (ap (option_map (λ (q : Grid). q.cells)) e)
    | inr e ↦ inr (ap (option_map (λ (q : Grid). q.cells)) e)
  ]

  operands_less : (ts : List Term) → ((m : Name) → is_among m (flat_map term_names ts) ≡ true → IsLess (f m) (g m)) → (all_some (map (term_cells size f) ts) ≡ None) ⊎ (map (term_cells size f) ts ≡ map (term_cells size g) ts)
  operands_less [] less = inr refl
  operands_less (t ∷ ts) less = elim (cells_less t (λ m a. less m (first m a))) [
    | inl e ↦ inl (ap (λ o. all_some (o ∷ map (term_cells size f) ts)) e)
    | inr e ↦ elim (operands_less ts (λ m a. less m (later m a))) [
      | inl none ↦ inl (none_behind (term_cells size f t) none)
      | inr same ↦ inr (ap (λ o. o ∷ map (term_cells size f) ts) e ∙ ap (λ os. term_cells size g t ∷ os) same)
    ]
  ]
    where
      first : (m : Name) → is_among m (term_names t) ≡ true → is_among m (flat_map term_names (t ∷ ts)) ≡ true
      first m a = list_any-append (λ q. bytes_eq q m) (term_names t) (flat_map term_names ts) ∙ or_left (is_among m (term_names t)) (is_among m (flat_map term_names ts)) a

      later : (m : Name) → is_among m (flat_map term_names ts) ≡ true → is_among m (flat_map term_names (t ∷ ts)) ≡ true
      later m a = list_any-append (λ q. bytes_eq q m) (term_names t) (flat_map term_names ts) ∙ or_right (is_among m (term_names t)) (is_among m (flat_map term_names ts)) a

      none_behind : (o : Option Cells) → all_some (map (term_cells size f) ts) ≡ None → all_some (o ∷ map (term_cells size f) ts) ≡ None
      none_behind None e = refl
      none_behind (Some cells) e = ap (option_map (λ rest. cells ∷ rest)) e

  made_less : (o : Option Making) → ((m : Name) → is_among m (making_needs o) ≡ true → IsLess (f m) (g m)) → IsLess (made size f o) (made size g o)
  made_less None less = inl refl
  made_less (Some (given_grid grid)) less = inr refl
  made_less (Some (by_op op)) less = elim (operands_less op.terms less) [
    | inl e ↦ inl (ap (option_map (operate size op)) e)
    | inr e ↦ inr (ap (λ os. option_map (operate size op) (all_some os)) e)
  ]

-- ---- the first fault

-- the fault of a layer with so many viewers and this grid
abbrev pub faulty : ℕ → Size → Name → Option Grid → Option Fault
faulty v size n o = if nat_lt most_viewers v && is_some o then Some (too_many_viewers n v) else overflow_at size n (wide_place o)

pub undefined_faultless : (s : EngineState) (n : Name) → value_of s n ≡ None → fault_of_layer s n ≡ None
undefined_faultless s n e = ap (faulty v s.size n) e ∙ go (nat_lt most_viewers v)
  where
    v : ℕ
    v = viewers_of s (find_making (layers s.entries) n)

    go : (b : Bool) → ◌≡◌ {A = Option Fault} (if b && false then Some (too_many_viewers n v) else None) None
    go true = refl
    go false = refl

pub none_first : (f : Name → Option Fault) (xs : List Node) → Each (λ node. f node.name ≡ None) xs → first_some (map (λ (node : Node). f node.name) xs) ≡ None
none_first f [] each = refl
none_first f (x ∷ xs) each = ap (λ o. first_some (o ∷ map (λ (node : Node). f node.name) xs)) each.0 ∙ none_first f xs each.1

-- ---- two states, of which one has some of the other's layers

module _ (s t : EngineState) (none_s : HasNoCycle (nodes_of s.entries)) (none_t : HasNoCycle (nodes_of t.entries)) (size : t.size ≡ s.size)
    (less : (m : Name) → IsLess (find_making (layers t.entries) m) (find_making (layers s.entries) m)) where
  value_less_by : (k : ℕ) (n : Name) → goes_on k (nodes_of t.entries) n ≡ false → IsLess (value_of t n) (value_of s n)
  value_less_by zero n e = absurd (true≢false e)
  value_less_by (suc k) n e =
      go (less n) (made_less t.size (value_of t) (value_of s) (find_making (layers t.entries) n) (λ m a.
      let needed : is_among m (needs_in (nodes_of t.entries) n) ≡ true = ap (is_among m) (needs_in-layers (layers t.entries) n) ∙ a in
      value_less_by k m (none_at (goes_on k (nodes_of t.entries)) (needs_in (nodes_of t.entries) n) m needed e)))
    where
      now : value_of t n ≡ made t.size (value_of t) (find_making (layers t.entries) n)
      now = value_unfolds t none_t n

      go : IsLess (find_making (layers t.entries) n) (find_making (layers s.entries) n) → IsLess (made t.size (value_of t) (find_making (layers t.entries) n)) (made t.size (value_of s) (find_making (layers t.entries) n)) → IsLess (value_of t n) (value_of s n)
      go (inl gone) values = inl (now ∙ ap (made t.size (value_of t)) gone)
      go (inr same) (inl none) = inl (now ∙ none)
      go (inr same) (inr is) = inr (now ∙ is ∙ ap (λ q. made q (value_of s) (find_making (layers t.entries) n)) size ∙ ap (made s.size (value_of s)) same ∙ sym (value_unfolds s none_s n))

  -- a value is gone, or what it was
  pub value_less : (n : Name) → (value_of t n ≡ None) ⊎ (value_of t n ≡ value_of s n)
  value_less n = value_less_by (suc (length (nodes_of t.entries))) n (chains_end (nodes_of t.entries) none_t n)

  -- ---- faults

  viewers_same : (op : Op) → map (term_cells t.size (value_of t)) op.terms ≡ map (term_cells t.size (value_of s)) op.terms → viewers_of t (Some (by_op op)) ≡ viewers_of s (Some (by_op op))
  viewers_same op e = ap (λ os. unwrap_or (option_map (viewers_in op) (all_some os)) 0) (e ∙ ap (λ q. map (term_cells q (value_of s)) op.terms) size)

  fault_same : (n : Name) → viewers_of t (find_making (layers t.entries) n) ≡ viewers_of s (find_making (layers s.entries) n) → value_of t n ≡ value_of s n → fault_of_layer t n ≡ fault_of_layer s n
  fault_same n viewers value =
      ap (λ v. faulty v t.size n (value_of t n)) viewers
      ∙ ap (faulty (viewers_of s (find_making (layers s.entries) n)) t.size n) value
      ∙ ap (λ q. faulty (viewers_of s (find_making (layers s.entries) n)) q n (value_of s n)) size

  fault_by_value : (n : Name) → viewers_of t (find_making (layers t.entries) n) ≡ viewers_of s (find_making (layers s.entries) n) → (fault_of_layer t n ≡ None) ⊎ (fault_of_layer t n ≡ fault_of_layer s n)
  fault_by_value n viewers = elim (value_less n) [ inl none ↦ inl (undefined_faultless t n none) | inr same ↦ inr (fault_same n viewers same) ]

  fault_of_making : (n : Name) (o : Option Making) → find_making (layers t.entries) n ≡ o → find_making (layers s.entries) n ≡ o → (fault_of_layer t n ≡ None) ⊎ (fault_of_layer t n ≡ fault_of_layer s n)
  fault_of_making n None e d = inl (undefined_faultless t n (value_unfolds t none_t n ∙ ap (made t.size (value_of t)) e))
  fault_of_making n (Some (given_grid grid)) e d = fault_by_value n (ap (viewers_of t) e ∙ sym (ap (viewers_of s) d))
  fault_of_making n (Some (by_op op)) e d = elim (operands_less t.size (value_of t) (value_of s) op.terms (λ m a. value_less m)) [
    | inl none ↦ inl (undefined_faultless t n (value_unfolds t none_t n ∙ ap (made t.size (value_of t)) e ∙ ap (option_map (operate t.size op)) none))
    | inr same ↦ fault_by_value n (ap (viewers_of t) e ∙ viewers_same op same ∙ sym (ap (viewers_of s) d))
  ]

  -- a listed layer has no fault where none had before
  pub listed_faultless : fault_of s ≡ None → (node : Node) → IsListed (nodes_of t.entries) node → fault_of_layer t node.name ≡ None
  unfolding fault_of
  listed_faultless none node is = go (less node.name) (node.needs) refl
    where
      from_before : (fault_of_layer t node.name ≡ None) ⊎ (fault_of_layer t node.name ≡ fault_of_layer s node.name) → fault_of_layer s node.name ≡ None → fault_of_layer t node.name ≡ None
      from_before (inl e) before = e
      from_before (inr e) before = e ∙ before

      there : find_making (layers t.entries) node.name ≡ find_making (layers s.entries) node.name → find_node (nodes_of s.entries) node.name ≡ Some node
      there same = find_node-making (layers s.entries) node.name ∙ ap (option_map (made_node node.name)) (sym same) ∙ sym (find_node-making (layers t.entries) node.name) ∙ is.0

      go : IsLess (find_making (layers t.entries) node.name) (find_making (layers s.entries) node.name) → (o : Option (List Name)) → node.needs ≡ o → fault_of_layer t node.name ≡ None
      go (inl gone) o e = absurd (none-some node (sym (find_node-making (layers t.entries) node.name ∙ ap (option_map (made_node node.name)) gone) ∙ is.0))
      go (inr same) None e = absurd (false≢true (sym (ap is_some e) ∙ is.1))
      go (inr same) (Some ns) e =
          let before : is_named_in node.name (by_depth (nodes_of s.entries)) ≡ true = all_flats_listed (nodes_of s.entries) none_s node.name node ns (there same) e in
          from_before (fault_of_making node.name (find_making (layers t.entries) node.name) refl (sym same)) (none_of_named (λ (x : Node). x.name) (fault_of_layer s) node.name (by_depth (nodes_of s.entries)) none before)

-- ---- a drop

drop_faultless : (s t : EngineState) (n : Name) → t.size ≡ s.size → t.entries ≡ drop_entry s.entries n → AreGood s.entries → fault_of s ≡ None → fault_of t ≡ None
unfolding fault_of
drop_faultless s t n size is good none =
    let after = subst AreGood (sym is) (drop_good s.entries n good) in
    let less = λ (m : Name). subst (λ es. IsLess (find_making (layers es) m) (find_making (layers s.entries) m)) (sym is) (drop_makings s.entries n good.groups good.apart m) in
    none_first (fault_of_layer t) (by_depth (nodes_of t.entries)) (each_more (IsListed (nodes_of t.entries)) (λ node. fault_of_layer t node.name ≡ None)
    (listed_faultless s t good.none_looped after.none_looped size less none) (by_depth (nodes_of t.entries)) (once_listed (nodes_of t.entries) (groups_once t.entries after.groups after.apart)))

module _ (s t : WholeState) (l : IsLawful s) (none : fault_of s.names ≡ None) where
  -- edits that leave the names
  as_counted : (names : EngineState) → names ≡ with_entries s.names s.names.entries → fault_of names ≡ None
  unfolding fault_of value_of
  as_counted names is = ap fault_of is ∙ none

  -- what no test of faults is made for has none
  untested : (e : WholeEdit) → PutsBackReached s e → IsTried s t e → fault_after e t ≡ None → fault_of t.names ≡ None
  untested e reached (inl (edit, same, r)) fault = elim (cases_Bool (may_fault edit)) [
    | inl tested ↦ sym (ap (λ b. cond b (fault_of t.names) None) tested) ∙ subst (λ x. fault_after x t ≡ None) same fault
    | inr free ↦
        let names : t.names ≡ with_entries s.names r.entries = ap (λ (u : WholeState). u.names) r.is in
        drop_faultless s.names t.names (edited edit) (ap (λ (u : EngineState). u.size) names)
        (ap (λ (u : EngineState). u.entries) names ∙ (edited_is s.procedures s.names edit r.entries r.made).untested free) (good_of s l) none
  ]
  untested e reached (inr (inl (p, same, is))) fault =
      let back : PutsBackReached s (put_back p) = subst (PutsBackReached s) same reached in
      subst (λ (u : WholeState). fault_of u.names ≡ None) (sym is) back.faultless
  untested e reached (inr (inr r)) fault = as_counted t.names r.names

-- what a line can say puts nothing back, and what an undo puts back was reached
pub said_puts_back : (s : WholeState) (e : WholeEdit) → IsSaid s e → PutsBackReached s e
said_puts_back s (put_back p) said = said
said_puts_back s e said = tt

pub no_fault_stays : NoFaultStays
no_fault_stays s e a l none reached is =
    let r = done_is s e a is in
    subst (λ (u : WholeState). fault_of u.names ≡ None) r.whole (untested s r.state l none e reached (tried s r.state e r.is) r.faultless)

-- The operands of a statement that is planned.
use Rattle.std.proofs.Common.{◌≡◌, ℕ, zero, suc, ◌+◌, ◌<◌, max, Bool, true, not, ◌||◌, ◌&&◌, List, [], ◌∷◌, ◌++◌, map, filter, flat_map, fold, take, length, get_or, position, Option, Some, None, is_some, option_map, slice_get, bytes_eq, refl, sym, ap, subst, ◌∙◌, arith, if◌then◌else◌, inl, inr}
use Rattle.std.specs.List.{list_any}
use Rattle.std.specs.Option.{option_or}
use Rattle.std.proofs.lemmas.Bool.{true≢false, or_left, or_right, and_from, and_right, cases_Bool}
use Rattle.std.proofs.lemmas.Option.{none-some, same_Some, slice_get_within, slice_get-get_or}
use Rattle.map_nums.specs.Options.{all_some, first_some}
use Rattle.map_defs.specs.Ops.{Name, Term, layer_term, number_term, term_names}
use Rattle.map_defs.specs.Nodes.{Node, find_node, needs_in, lacks}
use Rattle.map_defs.specs.Depths.{depth_in}
use Rattle.map_edits.specs.Laws.{is_among, is_named_in, HasNoCycle}
use Rattle.map_edits.proofs.Among.{same_name, bytes_eq-self, bytes_eq-turned, none_of_named}
use Rattle.map_edits.proofs.Unfolds.{lacks_unfolds, depth_unfolds, depth_by}
use Rattle.statement_parser.specs.declared.op.Op.{Op as Given}
use Rattle.map_waves.specs.declared.plans.Ref.{Ref}
use Rattle.map_waves.specs.declared.plans.Ref.TheVariants.{Source, Statement, Number}
use Rattle.map_waves.specs.declared.plans.Step.{Step}
use Rattle.edit_plans.specs.PlansFor.{IsRefFor, AreRefsFor}
use Rattle.edit_plans.specs.Planned.{place_for, ref_for, ref_depth, AreSources, whole_names}
use Rattle.edit_plans.proofs.Taken.{taken_to}
use Rattle.std.proofs.lemmas.List.{map-append}
use Rattle.edit_plans.proofs.There.{some_map, all_cons, all_parts}
use Rattle.edit_plans.proofs.Positions.{some_position, position_at, any_at_place, get_more}

-- ---- operands by name

module _ (sources names : List Name) where
  one_ref : (k : ℕ) → k ≡ length names → (u : Term) (r : Ref) → ref_for sources names u ≡ Some r → IsRefFor sources names k u r
  one_ref k end (number_term z) r e = subst (IsRefFor sources names k (number_term z)) (same_Some (Number (Some z)) r e) refl
  one_ref k end (layer_term n) r e = go (position (bytes_eq n) sources) refl (position (bytes_eq n) names) refl e
    where
      go : (o : Option ℕ) → position (bytes_eq n) sources ≡ o → (q : Option ℕ) → position (bytes_eq n) names ≡ q → option_or (option_map (λ i. Source i) o) (option_map (λ j. Statement j) q) ≡ Some r → IsRefFor sources names k (layer_term n) r
      go (Some i) is q at e = subst (IsRefFor sources names k (layer_term n)) (same_Some (Source i) r e) (position_at n sources i is)
      go None is (Some j) at e =
          let here = position_at n names j at in
          let within : j < k = let h = slice_get_within names j n here in omega arith in
          subst (IsRefFor sources names k (layer_term n)) (same_Some (Statement j) r e) (here, within)
      go None is None at e = absurd (none-some r e)

  pub refs_are : (k : ℕ) → k ≡ length names → (us : List Term) (rs : List Ref) → all_some (map (ref_for sources names) us) ≡ Some rs → AreRefsFor sources names k us rs
  refs_are k end [] [] e = tt
  refs_are k end [] (r ∷ rs) e = absurd cc
  refs_are k end (u ∷ us) rs e =
      let parts = all_parts (ref_for sources names u) (map (ref_for sources names) us) rs e in
      subst (AreRefsFor sources names k (u ∷ us)) parts.4 (one_ref k end u parts.0 parts.2, refs_are k end us parts.1 parts.3)

  ref_more : (more : List Name) (k : ℕ) (u : Term) (r : Ref) → IsRefFor sources names k u r → IsRefFor sources (names ++ more) k u r
  ref_more more k (layer_term n) (Source i) is = is
  ref_more more k (layer_term n) (Statement j) is = (get_more names more j n is.0, is.1)
  ref_more more k (number_term z) (Number c) is = is
  ref_more more k (layer_term n) (Number c) is = absurd is
  ref_more more k (number_term z) (Source i) is = absurd is
  ref_more more k (number_term z) (Statement j) is = absurd is

  -- they stay as more names follow
  pub refs_more : (more : List Name) (k : ℕ) (us : List Term) (rs : List Ref) → AreRefsFor sources names k us rs → AreRefsFor sources (names ++ more) k us rs
  refs_more more k [] [] are = tt
  refs_more more k [] (r ∷ rs) are = absurd are
  refs_more more k (u ∷ us) [] are = absurd are
  refs_more more k (u ∷ us) (r ∷ rs) are = (ref_more more k u r are.0, refs_more more k us rs are.1)

-- ---- what is there

some_or : {X : Type 0} (o q : Option X) → is_some (option_or o q) ≡ (is_some o || is_some q)
some_or None q = refl
some_or (Some x) q = refl

place_is : (sources names : List Name) (n : Name) → is_some (place_for sources names n) ≡ (list_any (bytes_eq n) sources || list_any (bytes_eq n) names)
place_is sources names n =
    some_or (option_map (λ i. Source i) (position (bytes_eq n) sources)) (option_map (λ j. Statement j) (position (bytes_eq n) names))
    ∙ ap (λ b. b || is_some (option_map (λ j. Statement j) (position (bytes_eq n) names))) (some_map (λ i. Source i) (position (bytes_eq n) sources) ∙ some_position (bytes_eq n) sources)
    ∙ ap (λ b. list_any (bytes_eq n) sources || b) (some_map (λ j. Statement j) (position (bytes_eq n) names) ∙ some_position (bytes_eq n) names)

-- a name is among those that pass where it is listed and passes
pub kept_named : (q : Name → Bool) (n : Name) (xs : List Node) → list_any (bytes_eq n) (map (λ (x : Node). x.name) (filter (λ (x : Node). q x.name) xs)) ≡ (is_named_in n xs && q n)
kept_named q n [] = refl
kept_named q n (x ∷ xs) = elim (cases_Bool (bytes_eq x.name n)) [
  | inl same ↦
      let named : x.name ≡ n = same_name x.name n same in
      elim (cases_Bool (q n)) [
        | inl e ↦ simp (named, bytes_eq-self, e)
        | inr e ↦ simp (named, bytes_eq-self, e) (kept_named q n xs ∙ and_right (is_named_in n xs) (q n) e)
      ]
  | inr differs ↦ elim (cases_Bool (q x.name)) [
    | inl e ↦ simp (differs, bytes_eq-turned x.name n differs, e) (kept_named q n xs)
    | inr e ↦ simp (differs, e) (kept_named q n xs)
  ]
]

module _ (nodes : List Node) (acyclic : HasNoCycle nodes) (sources : List Name) (are : AreSources nodes sources) where
  -- what is needed of a node that lacks no name lacks none
  pub need_whole : (n m : Name) → lacks nodes n ≡ None → is_among m (needs_in nodes n) ≡ true → lacks nodes m ≡ None
  need_whole n m none needed = go (find_node nodes n) refl
    where
      go : (o : Option Node) → find_node nodes n ≡ o → lacks nodes m ≡ None
      go None e = absurd (none-some n (sym none ∙ lacks_unfolds nodes acyclic n ∙ ap (λ o. if is_some o then first_some (map (lacks nodes) (needs_in nodes n)) else Some n) e))
      go (Some node) e =
          none_of_named (λ q. q) (lacks nodes) m (needs_in nodes n)
          (sym (ap (λ o. if is_some o then first_some (map (lacks nodes) (needs_in nodes n)) else Some n) e) ∙ sym (lacks_unfolds nodes acyclic n) ∙ none) needed

  -- a name that lacks none is a source, or one of the whole statements before
  pub place_there : (before : List Node) (m : Name) → lacks nodes m ≡ None → ((node : Node) (ns : List Name) → find_node nodes m ≡ Some node → node.needs ≡ Some ns → is_named_in m before ≡ true)
      → is_some (place_for sources (whole_names nodes before) m) ≡ true
  place_there before m none earlier =
      place_is sources (whole_names nodes before) m
      ∙ go (find_node nodes m) refl
    where
      by_needs : (node : Node) → find_node nodes m ≡ Some node → (o : Option (List Name)) → node.needs ≡ o → (list_any (bytes_eq m) sources || list_any (bytes_eq m) (whole_names nodes before)) ≡ true
      by_needs node e None is =
          or_left (list_any (bytes_eq m) sources) (list_any (bytes_eq m) (whole_names nodes before))
          (sym (some_position (bytes_eq m) sources) ∙ are m node e ∙ ap (λ o. not (is_some o)) is)
      by_needs node e (Some ns) is =
          or_right (list_any (bytes_eq m) sources) (list_any (bytes_eq m) (whole_names nodes before))
          (kept_named (λ n. not (is_some (lacks nodes n))) m before ∙ ap (λ b. b && not (is_some (lacks nodes m))) (earlier node ns e is) ∙ ap (λ o. not (is_some o)) none)

      go : (o : Option Node) → find_node nodes m ≡ o → (list_any (bytes_eq m) sources || list_any (bytes_eq m) (whole_names nodes before)) ≡ true
      go None e = absurd (none-some m (sym none ∙ lacks_unfolds nodes acyclic m ∙ ap (λ o. if is_some o then first_some (map (lacks nodes) (needs_in nodes m)) else Some m) e))
      go (Some node) e = by_needs node e node.needs refl

-- ---- all terms

pub terms_there : (sources names : List Name) (us : List Term) → ((m : Name) → is_among m (flat_map term_names us) ≡ true → is_some (place_for sources names m) ≡ true) → is_some (all_some (map (ref_for sources names) us)) ≡ true
terms_there sources names [] there = refl
terms_there sources names (layer_term n ∷ us) there =
    all_cons (place_for sources names n) (map (ref_for sources names) us)
    ∙ and_from (is_some (place_for sources names n)) (is_some (all_some (map (ref_for sources names) us)))
    (there n (or_left (bytes_eq n n) (is_among n (flat_map term_names us)) (bytes_eq-self n)))
    (terms_there sources names us (λ m a. there m (or_right (bytes_eq n m) (is_among m (flat_map term_names us)) a)))
terms_there sources names (number_term z ∷ us) there = all_cons (Some (Number (Some z))) (map (ref_for sources names) us) ∙ terms_there sources names us there

-- ---- depth

module _ (nodes : List Node) (acyclic : HasNoCycle nodes) (sources names : List Name) (are : AreSources nodes sources) (steps : List (Step Given)) (count : length steps ≡ length names)
    (deep : (j : ℕ) (m : Name) (y : Step Given) → slice_get names j ≡ Some m → slice_get steps j ≡ Some y → y.depth ≡ depth_in nodes m) where
  source_depth : (m : Name) (i : ℕ) → slice_get sources i ≡ Some m → 0 ≡ depth_in nodes m
  source_depth m i at = go (find_node nodes m) refl
    where
      by_needs : (node : Node) → find_node nodes m ≡ Some node → (o : Option (List Name)) → node.needs ≡ o → true ≡ not (is_some o) → 0 ≡ depth_in nodes m
      by_needs node e None is h = sym (depth_unfolds nodes acyclic m ∙ ap (depth_by (depth_in nodes)) e ∙ ap (λ o. depth_by (depth_in nodes) (Some (record { name = node.name; needs = o }))) is)
      by_needs node e (Some ns) is h = absurd (true≢false h)

      go : (o : Option Node) → find_node nodes m ≡ o → 0 ≡ depth_in nodes m
      go None e = sym (depth_unfolds nodes acyclic m ∙ ap (depth_by (depth_in nodes)) e)
      go (Some node) e = by_needs node e node.needs refl (sym (some_position (bytes_eq m) sources ∙ any_at_place m sources i at) ∙ are m node e)

  any_step : (xs : List (Step Given)) → {j : ℕ} → j < length xs → Step Given
  any_step [] h = absurd (omega arith)
  any_step (x ∷ xs) h = x

  step_depth : (m : Name) (j : ℕ) → slice_get names j ≡ Some m → ref_depth steps (Statement j) ≡ depth_in nodes m
  step_depth m j at = go (slice_get steps j) refl
    where
      within : j < length steps
      within = let h = slice_get_within names j m at in omega (arith, count)

      go : (o : Option (Step Given)) → slice_get steps j ≡ o → ref_depth steps (Statement j) ≡ depth_in nodes m
      go None e = absurd (none-some (get_or steps j (any_step steps within)) (sym e ∙ slice_get-get_or steps j (any_step steps within) within))
      go (Some y) e = rw e (deep j m y at e)

  pub depths_agree : (k d : ℕ) (us : List Term) (rs : List Ref) → AreRefsFor sources names k us rs → fold (λ d r. max d (ref_depth steps r)) d rs ≡ fold (λ d m. max d (depth_in nodes m)) d (flat_map term_names us)
  depths_agree k d [] [] refs = refl
  depths_agree k d [] (r ∷ rs) refs = absurd refs
  depths_agree k d (u ∷ us) [] refs = absurd refs
  depths_agree k d (layer_term m ∷ us) (Source i ∷ rs) refs =
      ap (λ q. fold (λ d r. max d (ref_depth steps r)) (max d q) rs) (source_depth m i refs.0) ∙ depths_agree k (max d (depth_in nodes m)) us rs refs.1
  depths_agree k d (layer_term m ∷ us) (Statement j ∷ rs) refs =
      ap (λ q. fold (λ d r. max d (ref_depth steps r)) (max d q) rs) (step_depth m j refs.0.0) ∙ depths_agree k (max d (depth_in nodes m)) us rs refs.1
  depths_agree k d (number_term z ∷ us) (Number c ∷ rs) refs =
      let same : max d 0 ≡ d = omega arith in
      ap (λ q. fold (λ d r. max d (ref_depth steps r)) q rs) same ∙ depths_agree k d us rs refs.1
  depths_agree k d (layer_term m ∷ us) (Number c ∷ rs) refs = absurd refs.0
  depths_agree k d (number_term z ∷ us) (Source i ∷ rs) refs = absurd refs.0
  depths_agree k d (number_term z ∷ us) (Statement j ∷ rs) refs = absurd refs.0

-- ---- term by term

-- where one is none, not all are there
pub none_of_all : (f : Term → Option Ref) (us : List Term) (k : ℕ) (u : Term) → slice_get us k ≡ Some u → f u ≡ None → all_some (map f us) ≡ None
none_of_all f [] k u at none = absurd (none-some u at)
none_of_all f (v ∷ us) zero u at none = ap (λ o. all_some (o ∷ map f us)) (ap f (same_Some v u at) ∙ none)
none_of_all f (v ∷ us) (suc k) u at none = go (f v) (none_of_all f us k u at none)
  where
    go : (o : Option Ref) → all_some (map f us) ≡ None → all_some (o ∷ map f us) ≡ None
    go None rest = refl
    go (Some r) rest = ap (option_map (λ rs. r ∷ rs)) rest

-- one more
all_push : (os : List (Option Ref)) (rs : List Ref) (r : Ref) → all_some os ≡ Some rs → all_some (os ++ Some r ∷ []) ≡ Some (rs ++ r ∷ [])
all_push [] rs r e = ap (λ qs. Some (qs ++ r ∷ [])) (same_Some [] rs e)
all_push (o ∷ os) rs r e =
    let parts = all_parts o os rs e in
    ap (λ q. all_some (q ∷ os ++ Some r ∷ [])) parts.2 ∙ ap (option_map (λ qs. parts.0 ∷ qs)) (all_push os parts.1 r parts.3) ∙ ap (λ qs. Some (qs ++ r ∷ [])) parts.4

pub refs_next : (f : Term → Option Ref) (us : List Term) (k : ℕ) (rs new : List Ref) (u : Term) (r : Ref) → all_some (map f (take k us)) ≡ Some rs → slice_get us k ≡ Some u → f u ≡ Some r → new ≡ rs ++ r ∷ [] → all_some (map f (take (k + 1) us)) ≡ Some new
refs_next f us k rs new u r so_far at is pushed =
    ap (λ vs. all_some (map f vs)) (taken_to us k u at) ∙ ap all_some (map-append f (take k us) (u ∷ []) ∙ ap (λ o. map f (take k us) ++ o ∷ []) is)
    ∙ all_push (map f (take k us)) rs r so_far ∙ ap (λ qs. Some qs) (sym pushed)

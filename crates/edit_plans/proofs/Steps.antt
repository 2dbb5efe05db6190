-- The steps of the first whole statements, and of one more.
use Rattle.std.proofs.Common.{◌≡◌, ℕ, zero, suc, ◌+◌, ◌^◌, ◌<◌, ◌≤◌, Bool, true, false, cond, not, ◌&&◌, List, [], ◌∷◌, ◌++◌, map, filter, take, length, get_or, Option, Some, None, is_some, option_map, slice_get, bytes_eq, Bor, ◌⊎◌, inl, inr, refl, sym, ap, subst, ◌∙◌, arith}
use Rattle.std.specs.List.{list_any, All}
use Rattle.std.proofs.lemmas.Bool.{false≢true, not-true}
use Rattle.std.proofs.lemmas.List.{take_all, map-append, length_push}
use Rattle.std.proofs.lemmas.Option.{none-some, same_Some, slice_get_within, slice_get-get_or, slice_get-map, slice_get_read}
use Rattle.map_defs.specs.Ops.{Name, needs_of}
use Rattle.map_defs.specs.Nodes.{Node, find_node, needs_in, lacks}
use Rattle.map_defs.specs.Depths.{depth_in, by_depth}
use Rattle.map_edits.specs.Laws.{is_among, is_named_in, HasNoCycle}
use Rattle.map_edits.proofs.Unfolds.{depth_of_flat, depth_in_le_nodes}
use Rattle.map_edits.proofs.Order.{needs_come_before}
use Rattle.map_edits.proofs.Listed.{Each, IsListed, each_split}
use Rattle.map_edits.proofs.Once.{once_apart, once_listed, once_between, by_depth_once, IsOnce}
use Rattle.statement_graph.specs.declared.node.Node.{Node as Listed}
use Rattle.statement_graph.specs.Puts.{flat_node}
use Rattle.statement_graph.specs.Wholes.{whole_nodes}
use Rattle.statement_parser.specs.Views.{op_view}
use Rattle.statement_parser.specs.declared.op.Op.{Op as Given}
use Rattle.map_waves.specs.declared.plans.Step.{Step}
use Rattle.edit_plans.specs.PlansFor.{AreRefsFor}
use Rattle.edit_plans.specs.Planned.{FlatDef, place_for, AreNamedApart, AreSources, AreFlats, IsFlatOf, whole_names, IsPlannedStep, IsPlanned}
use Rattle.edit_plans.specs.NextStep.{IsReady, IsNextStep, IsNew}
use Rattle.edit_plans.proofs.Taken.{taken_to}
use Rattle.edit_plans.proofs.Operands.{refs_are, refs_more, need_whole, place_there, terms_there, depths_agree, kept_named}
use Rattle.map_edits.proofs.Looks.{none_there}

got_push : {X : Type 0} (xs : List X) (a : X) (k : ℕ) (x : X) → slice_get (xs ++ a ∷ []) k ≡ Some x → (slice_get xs k ≡ Some x) ⊎ ((k ≡ length xs) × (a ≡ x))
got_push [] a zero x e = inr (refl, same_Some a x e)
got_push [] a (suc k) x e = absurd (none-some x e)
got_push (y ∷ xs) a zero x e = inl e
got_push (y ∷ xs) a (suc k) x e = elim (got_push xs a k x e) [ inl at ↦ inl at | inr last ↦ inr (omega (arith, last.0), last.1) ]

-- where one stands that passes, with those before it that do
record IsCut (p : Node → Bool) (xs : List Node) (k : ℕ) (x : Node) : Type 0 where
  before : List Node
  after : List Node
  split : xs ≡ before ++ x ∷ after
  first : filter p before ≡ take k (filter p xs)
  passes : p x ≡ true

cut_at : (p : Node → Bool) (xs : List Node) (k : ℕ) (x : Node) → slice_get (filter p xs) k ≡ Some x → IsCut p xs k x
cut_at p [] k x e = absurd (none-some x e)
cut_at p (y ∷ ys) k x e = go (p y) refl k e (cut_at p ys)
  where
    later : (b : Bool) → p y ≡ b → (j : ℕ) → IsCut p ys j x → (k : ℕ) → cond b (y ∷ take j (filter p ys)) (take j (filter p ys)) ≡ take k (cond b (y ∷ filter p ys) (filter p ys)) → IsCut p (y ∷ ys) k x
    later b h j cut k same = record {
      before = y ∷ cut.before;
      after = cut.after;
      split = ap (λ zs. y ∷ zs) cut.split;
      first = ap (λ c. cond c (y ∷ filter p cut.before) (filter p cut.before)) h ∙ ap (λ zs. cond b (y ∷ zs) zs) cut.first ∙ same ∙ ap (λ c. take k (cond c (y ∷ filter p ys) (filter p ys))) (sym h);
      passes = cut.passes;
    }

    go : (b : Bool) → p y ≡ b → (k : ℕ) → slice_get (cond b (y ∷ filter p ys) (filter p ys)) k ≡ Some x → ((j : ℕ) (z : Node) → slice_get (filter p ys) j ≡ Some z → IsCut p ys j z) → IsCut p (y ∷ ys) k x
    go true h zero e rest = let same : y ≡ x = same_Some y x e in record { before = []; after = ys; split = ap (λ z. z ∷ ys) same; first = refl; passes = ap p (sym same) ∙ h }
    go true h (suc j) e rest = later true h j (rest j x e) (suc j) refl
    go false h k e rest = later false h k (rest k x e) k refl

-- the statement that the graph gives
pub given_at : (found : List (Bor Listed)) (nodes : List Node) (k : ℕ) (b : Bor Listed) → map (λ (b : Bor Listed). flat_node b.now) found ≡ nodes → k < length found → b ≡ get_or found k b → slice_get nodes k ≡ Some (flat_node b.now)
given_at found nodes k b are within is =
    let f : Bor Listed → Node = λ b. flat_node b.now in
    ap (λ xs. slice_get xs k) (sym are) ∙ slice_get-map f found k ∙ ap (option_map f) (slice_get_read found (length found) k b refl within is)

needs_found : (nodes : List Node) (n : Name) (x : Node) (ns : List Name) → find_node nodes n ≡ Some x → x.needs ≡ Some ns → needs_in nodes n ≡ ns
needs_found nodes n x ns found is = rw found (rw is refl)

-- what is planned of the first k whole statements
pub record IsPlannedTo (nodes : List Node) (sources : List Name) (flats : List (List ℕ × FlatDef)) (old : List Name) (k : ℕ) (names : List Name) (steps : List (Step Given)) : Type 0 where
  pub names_are : names ≡ map (λ (node : Node). node.name) (take k (whole_nodes nodes))
  pub count : length steps ≡ length names
  pub each : (j : ℕ) (n : Name) (x : Step Given) → slice_get names j ≡ Some n → slice_get steps j ≡ Some x → IsPlannedStep nodes sources flats old names j n x

module _ (nodes : List Node) (acyclic : HasNoCycle nodes) (apart : AreNamedApart nodes) (sources : List Name) (are : AreSources nodes sources) (flats : List (List ℕ × FlatDef)) (known : AreFlats nodes flats) (old : List Name)
    (k : ℕ) (names : List Name) (steps : List (Step Given)) (up : IsPlannedTo nodes sources flats old k names steps) where
  -- each is as deep as the nodes are many at most
  pub all_shallow : length nodes + 1 < 2 ^ 31 → All (λ (x : Step Given). x.depth + 1 < 2 ^ 32) steps
  all_shallow few j d below =
      let here : slice_get steps j ≡ Some (get_or steps j d) = slice_get-get_or steps j d below in
      let count = up.count in
      let named : slice_get names j ≡ Some (get_or names j []) = slice_get-get_or names j [] (omega arith) in
      let depth = (up.each j (get_or names j []) (get_or steps j d) named here).depth in
      let most = depth_in_le_nodes nodes acyclic (get_or names j []) in
      omega arith

  -- ---- the next statement

  module _ (x : Node) (here : slice_get (whole_nodes nodes) k ≡ Some x) where
    cut : IsCut (λ (node : Node). not (is_some (lacks nodes node.name))) (by_depth nodes) k x
    cut = cut_at (λ (node : Node). not (is_some (lacks nodes node.name))) (by_depth nodes) k x here

    listed : IsListed nodes x
    listed = each_split (IsListed nodes) x cut.after cut.before (subst (Each (IsListed nodes)) cut.split (once_listed nodes (once_apart nodes apart)))

    alone : is_named_in x.name cut.before ≡ false
    alone = (once_between x cut.after cut.before (subst IsOnce cut.split (by_depth_once nodes (once_apart nodes apart)))).0

    names_before : names ≡ whole_names nodes cut.before
    names_before = up.names_are ∙ ap (map (λ (node : Node). node.name)) (sym cut.first)

    lacks_none : lacks nodes x.name ≡ None
    lacks_none = none_there (lacks nodes x.name) (not-true (is_some (lacks nodes x.name)) cut.passes)

    flat_here : (ns : List Name) × (x.needs ≡ Some ns) × IsFlatOf flats x.name ns
    flat_here = go x.needs refl
      where
        go : (o : Option (List Name)) → x.needs ≡ o → (ns : List Name) × (x.needs ≡ Some ns) × IsFlatOf flats x.name ns
        go None is = absurd (false≢true (sym (ap is_some is) ∙ listed.1))
        go (Some ns) is = (ns, is, known x.name ns (listed.0 ∙ ap (λ o. Some (record { name = x.name; needs = o })) is))

    -- its needs are sources, or whole statements before
    pub is_ready : IsReady sources flats names x.name
    is_ready =
        let r = flat_here in
        let needs : needs_in nodes x.name ≡ needs_of (op_view r.2.flat.op) = needs_found nodes x.name x r.0 listed.0 r.1 ∙ sym r.2.needs in
        record {
          flat = r.2.flat;
          found = r.2.found;
          operands = r.2.operands;
          all = terms_there sources names (op_view r.2.flat.op).terms (λ m a.
              let needed : is_among m (needs_in nodes x.name) ≡ true = ap (is_among m) needs ∙ a in
              ap (λ ns. is_some (place_for sources ns m)) names_before
              ∙ place_there nodes acyclic sources are cut.before m (need_whole nodes acyclic sources are x.name m lacks_none needed)
              (λ node ns found flat. needs_come_before nodes acyclic cut.before cut.after x cut.split m needed node ns found flat));
        }

    -- and its name is new
    pub is_new : IsNew names x.name
    is_new =
        ap (list_any (bytes_eq x.name)) names_before ∙ kept_named (λ n. not (is_some (lacks nodes n))) x.name cut.before
        ∙ ap (λ b. b && not (is_some (lacks nodes x.name))) alone

    -- with its step
    module _ (y : Step Given) (next : IsNextStep sources flats old names steps x.name y) where
      own_refs : AreRefsFor sources names (length names) (op_view next.flat.op).terms y.refs.items
      own_refs = refs_are sources names (length names) refl (op_view next.flat.op).terms y.refs.items next.refs

      needs_are : x.needs ≡ Some (needs_of (op_view next.flat.op))
      needs_are =
          let r = flat_here in
          r.1 ∙ ap (λ q. Some q) (sym r.2.needs) ∙ ap (λ (q : FlatDef). Some (needs_of (op_view q.op))) (same_Some r.2.flat next.flat (sym r.2.found ∙ next.found))

      own_depth : y.depth ≡ depth_in nodes x.name
      own_depth =
          next.depth
          ∙ ap suc (depths_agree nodes acyclic sources names are steps up.count (λ j m z at there. (up.each j m z at there).depth) (length names) 0 (op_view next.flat.op).terms y.refs.items own_refs)
          ∙ sym (depth_of_flat nodes acyclic x.name x (needs_of (op_view next.flat.op)) listed.0 needs_are)

      own_step : IsPlannedStep nodes sources flats old (names ++ x.name ∷ []) (length names) x.name y
      own_step = record {
        flat = next.flat;
        from = next.found;
        op = next.op;
        written = next.written;
        refs = subst (λ us. AreRefsFor sources (names ++ x.name ∷ []) (length names) us y.refs.items) (ap (λ o. o.terms) (sym next.op))
            (refs_more sources names (x.name ∷ []) (length names) (op_view next.flat.op).terms y.refs.items own_refs);
        depth = own_depth;
        kept = next.kept;
      }

      more_step : (j : ℕ) (n : Name) (z : Step Given) → IsPlannedStep nodes sources flats old names j n z → IsPlannedStep nodes sources flats old (names ++ x.name ∷ []) j n z
      more_step j n z step = record {
        flat = step.flat;
        from = step.from;
        op = step.op;
        written = step.written;
        refs = refs_more sources names (x.name ∷ []) j (op_view z.op).terms z.refs.items step.refs;
        depth = step.depth;
        kept = step.kept;
      }

      each_next : (j : ℕ) (n : Name) (z : Step Given) → slice_get (names ++ x.name ∷ []) j ≡ Some n → slice_get (steps ++ y ∷ []) j ≡ Some z → IsPlannedStep nodes sources flats old (names ++ x.name ∷ []) j n z
      each_next j n z at there = go (got_push names x.name j n at) (got_push steps y j z there)
        where
          go : (slice_get names j ≡ Some n) ⊎ ((j ≡ length names) × (x.name ≡ n)) → (slice_get steps j ≡ Some z) ⊎ ((j ≡ length steps) × (y ≡ z)) → IsPlannedStep nodes sources flats old (names ++ x.name ∷ []) j n z
          go (inl named) (inl stepped) = more_step j n z (up.each j n z named stepped)
          go (inl named) (inr last) = let below = slice_get_within names j n named in let count = up.count in let end = last.0 in absurd (omega arith)
          go (inr last) (inl stepped) = let below = slice_get_within steps j z stepped in let count = up.count in let end = last.0 in absurd (omega arith)
          go (inr last) (inr own) =
              subst (λ (q : Step Given). IsPlannedStep nodes sources flats old (names ++ x.name ∷ []) j n q) own.1
              (subst (λ q. IsPlannedStep nodes sources flats old (names ++ x.name ∷ []) j q y) last.1
              (subst (λ q. IsPlannedStep nodes sources flats old (names ++ x.name ∷ []) q x.name y) (sym last.0) own_step))

      pub planned_next : (new_names : List Name) (new_steps : List (Step Given)) → new_names ≡ names ++ x.name ∷ [] → new_steps ≡ steps ++ y ∷ [] → IsPlannedTo nodes sources flats old (k + 1) new_names new_steps
      planned_next new_names new_steps named stepped =
          subst (λ ns. IsPlannedTo nodes sources flats old (k + 1) ns new_steps) (sym named) (subst (λ ys. IsPlannedTo nodes sources flats old (k + 1) (names ++ x.name ∷ []) ys) (sym stepped) pushed)
        where
          pushed : IsPlannedTo nodes sources flats old (k + 1) (names ++ x.name ∷ []) (steps ++ y ∷ [])
          pushed =
              let one = length_push names x.name in
              let other = length_push steps y in
              let count = up.count in
              record {
                names_are = ap (λ ns. ns ++ x.name ∷ []) up.names_are
                    ∙ sym (ap (map (λ (node : Node). node.name)) (taken_to (whole_nodes nodes) k x here) ∙ map-append (λ (node : Node). node.name) (take k (whole_nodes nodes)) (x ∷ []));
                count = omega arith;
                each = each_next;
              }

  -- ---- all of them

  pub planned_all : length (whole_nodes nodes) ≤ k → IsPlanned nodes sources flats old names steps
  planned_all long = record { names_are = up.names_are ∙ ap (map (λ (node : Node). node.name)) (take_all k (whole_nodes nodes) long); count = up.count; each = up.each }

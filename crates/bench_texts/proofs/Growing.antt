-- A graph with one name more, and what stands beside it.
use Rattle.std.proofs.Common.{◌≡◌, ℕ, zero, suc, ◌+◌, ◌<◌, ◌≤◌, Bool, true, false, cond, ◌||◌, List, [], ◌∷◌, ◌++◌, map, flat_map, length, position, Option, Some, None, is_some, option_map, slice_get, bytes_eq, ◌⊎◌, inl, inr, refl, sym, ap, subst, ◌∙◌, arith}
use Rattle.std.specs.List.{list_any}
use Rattle.std.specs.Map.{lookup}
use Rattle.std.specs.Option.{option_or}
use Rattle.std.proofs.lemmas.Bool.{true≢false}
use Rattle.std.proofs.lemmas.Grind.{flat_map-append}
use Rattle.std.proofs.lemmas.List.{map-append, append-nil, length_push, length-map}
use Rattle.std.proofs.lemmas.List.Folds.{list_any-append}
use Rattle.std.proofs.lemmas.Map.Made.{lookup-map_values}
use Rattle.std.proofs.lemmas.Option.{none-some, same_Some}
use Rattle.map_defs.specs.Ops.{Name, Term, layer_term, term_names}
use Rattle.map_defs.specs.Nodes.{Node, find_node, needs_in}
use Rattle.map_defs.specs.Depths.{depth_in, depth_of, is_looped}
use Rattle.map_defs.specs.FlatNames.{IsIn, AreApart}
use Rattle.map_edits.specs.Laws.{HasNoCycle}
use Rattle.map_edits.proofs.Among.{same_name, bytes_eq-self, bytes_eq-turned}
use Rattle.map_edits.proofs.Kept.{no_cycle_changed}
use Rattle.statement_graph.specs.Groups.{Group, nodes_in, has_group, put_group}
use Rattle.statement_graph.specs.Puts.{source_node, FitsAs}
use Rattle.statement_parser.specs.Views.{op_view}
use Rattle.statement_parser.specs.declared.op.Op.{Op}
use Rattle.edit_plans.specs.Planned.{FlatDef, is_source_node, HasValue, HasOperands, AreNamedApart, AreSources, IsFlatOf, AreFlats}
use Rattle.edit_plans.proofs.Positions.{some_position}
use Rattle.bench_texts.specs.Scenes.{flats_of, IsFine}

-- ---- lists

find_push : (nodes : List Node) (x : Node) (n : Name) → find_node (nodes ++ x ∷ []) n ≡ option_or (find_node nodes n) (cond (bytes_eq x.name n) (Some x) None)
find_push [] x n = refl
find_push (y ∷ ys) x n = go (bytes_eq y.name n) (find_push ys x n)
  where
    go : (b : Bool) → find_node (ys ++ x ∷ []) n ≡ option_or (find_node ys n) (cond (bytes_eq x.name n) (Some x) None)
        → cond b (Some y) (find_node (ys ++ x ∷ []) n) ≡ option_or (cond b (Some y) (find_node ys n)) (cond (bytes_eq x.name n) (Some x) None)
    go true rest = refl
    go false rest = rest

or_none : (o : Option Node) → option_or o None ≡ o
or_none None = refl
or_none (Some x) = refl

needs_same : (a b : List Node) (n : Name) → find_node a n ≡ find_node b n → needs_in a n ≡ needs_in b n
needs_same a b n e = rw e refl

source_needs : (nodes : List Node) (n : Name) → find_node nodes n ≡ Some (source_node n) → needs_in nodes n ≡ []
source_needs nodes n e = rw e refl

apart_push : (ns : List Name) (n : Name) → AreApart ns → (IsIn n ns → ⊥) → AreApart (ns ++ n ∷ [])
apart_push [] n apart away = (λ h. absurd h, tt)
apart_push (m ∷ ms) n apart away = (λ at. go (in_push m ms at), apart_push ms n apart.1 (λ at. away (inr at)))
  where
    in_push : (q : Name) (qs : List Name) → IsIn q (qs ++ n ∷ []) → IsIn q qs ⊎ (q ≡ n)
    in_push q [] (inl same) = inr same
    in_push q [] (inr at) = absurd at
    in_push q (r ∷ rs) (inl same) = inl (inl same)
    in_push q (r ∷ rs) (inr at) = later (in_push q rs at)
      where
        later : IsIn q rs ⊎ (q ≡ n) → IsIn q (r ∷ rs) ⊎ (q ≡ n)
        later (inl there) = inl (inr there)
        later (inr same) = inr same

    go : IsIn m ms ⊎ (m ≡ n) → ⊥
    go (inl there) = apart.0 there
    go (inr same) = away (inl (sym same))

never_in : (nodes : List Node) (n : Name) → find_node nodes n ≡ None → IsIn n (map (λ (node : Node). node.name) nodes) → ⊥
never_in [] n none at = at
never_in (x ∷ xs) n none at = go (bytes_eq x.name n) refl none at (never_in xs n)
  where
    go : (b : Bool) → bytes_eq x.name n ≡ b → cond b (Some x) (find_node xs n) ≡ None → (n ≡ x.name) ⊎ IsIn n (map (λ (node : Node). node.name) xs)
        → (find_node xs n ≡ None → IsIn n (map (λ (node : Node). node.name) xs) → ⊥) → ⊥
    go true e gone at rest = none-some x (sym gone)
    go false e gone (inl same) rest = true≢false (sym (ap (bytes_eq x.name) same ∙ bytes_eq-self x.name) ∙ e)
    go false e gone (inr there) rest = rest gone there

-- ---- what the code finds

pub none_there : (nodes : List Node) (n : Name) (o : Option ℕ) → o ≡ depth_of nodes n → is_some o ≡ false → find_node nodes n ≡ None
unfolding depth_of
none_there nodes n o said none = go (find_node nodes n) (sym (ap is_some said) ∙ none)
  where
    go : (q : Option Node) → is_some (option_map (λ (node : Node). depth_in nodes n) q) ≡ false → q ≡ None
    go None e = refl
    go (Some x) e = absurd (true≢false e)

pub layers_needed : (ns : List Name) → flat_map term_names (map (λ n. layer_term n) ns) ≡ ns
layers_needed [] = refl
layers_needed (n ∷ ns) = ap (λ ms. n ∷ ms) (layers_needed ns)

layers_valued : (ns : List Name) (k : ℕ) (u : Term) → slice_get (map (λ n. layer_term n) ns) k ≡ Some u → HasValue u
layers_valued [] k u e = absurd (none-some u e)
layers_valued (n ∷ ns) zero u e = subst HasValue (same_Some (layer_term n) u e) tt
layers_valued (n ∷ ns) (suc k) u e = layers_valued ns k u e

has_operands : (op : Op) (ns : List Name) → (op_view op).terms ≡ map (λ n. layer_term n) ns → length ns ≤ 8 → HasOperands (op_view op)
has_operands op ns are few = record {
  few = let count = length-map ns (λ n. layer_term n) in let same = ap length are in omega arith;
  values = λ k u at. layers_valued ns k u (ap (λ us. slice_get us k) (sym are) ∙ at);
}

pub put_new : (groups : List Group) (n : Name) (nodes : List Node) → has_group groups n ≡ false → put_group groups n nodes ≡ groups ++ record { name = n; nodes = nodes } ∷ []
put_new [] n nodes e = refl
put_new (g ∷ gs) n nodes e = go (bytes_eq g.name n) refl e (put_new gs n nodes)
  where
    go : (b : Bool) → bytes_eq g.name n ≡ b → (b || has_group gs n) ≡ false → (has_group gs n ≡ false → put_group gs n nodes ≡ gs ++ record { name = n; nodes = nodes } ∷ [])
        → cond b (record g { nodes = nodes } ∷ gs) (g ∷ put_group gs n nodes) ≡ g ∷ (gs ++ record { name = n; nodes = nodes } ∷ [])
    go true same away rest = absurd (true≢false away)
    go false differs away rest = ap (λ hs. g ∷ hs) (rest away)

-- ---- nothing

none_fine : IsFine [] [] []
unfolding is_looped
none_fine = record { acyclic = λ n. refl; apart = tt; named = λ n. refl; sources_are = λ n. refl; flats_are = λ n ns e. absurd (none-some (record { name = n; needs = Some ns }) e) }

pub empty_fine : (groups : List Group) (sources : List Name) (ops : List (List ℕ × Op)) → groups ≡ [] → sources ≡ [] → ops ≡ [] → IsFine groups sources ops
empty_fine groups sources ops a b c = subst (λ gs. IsFine gs sources ops) (sym a) (subst (λ ns. IsFine [] ns ops) (sym b) (subst (IsFine [] []) (sym c) none_fine))

-- ---- one name more

module _ (groups : List Group) (sources : List Name) (ops : List (List ℕ × Op)) (fine : IsFine groups sources ops) where
  pub no_group : (n : Name) → find_node (nodes_in groups) n ≡ None → has_group groups n ≡ false
  no_group n none = fine.named n ∙ ap is_some none

  -- the code's sources are those of the graph
  pub are_sources : AreSources (nodes_in groups) (sources ++ [])
  are_sources n node e = ap (λ ns. is_some (position (bytes_eq n) ns)) (append-nil sources) ∙ some_position (bytes_eq n) sources ∙ fine.sources_are n ∙ ap is_source_node e

  module _ (x : Node) (new : find_node (nodes_in groups) x.name ≡ None) (after : List Group) (is : after ≡ groups ++ record { name = x.name; nodes = x ∷ [] } ∷ []) where
    pub nodes_after : nodes_in after ≡ nodes_in groups ++ x ∷ []
    nodes_after = ap nodes_in is ∙ flat_map-append (λ (g : Group). g.nodes) groups (record { name = x.name; nodes = x ∷ [] } ∷ [])

    pub one_longer : length (nodes_in after) ≡ length (nodes_in groups) + 1
    one_longer = ap length nodes_after ∙ length_push (nodes_in groups) x

    found_after : (n : Name) → find_node (nodes_in after) n ≡ option_or (find_node (nodes_in groups) n) (cond (bytes_eq x.name n) (Some x) None)
    found_after n = ap (λ ns. find_node ns n) nodes_after ∙ find_push (nodes_in groups) x n

    other_found : (n : Name) → bytes_eq x.name n ≡ false → find_node (nodes_in after) n ≡ find_node (nodes_in groups) n
    other_found n h = found_after n ∙ ap (λ b. option_or (find_node (nodes_in groups) n) (cond b (Some x) None)) h ∙ or_none (find_node (nodes_in groups) n)

    new_there : (n : Name) → bytes_eq x.name n ≡ true → find_node (nodes_in groups) n ≡ None
    new_there n same = ap (find_node (nodes_in groups)) (sym (same_name x.name n same)) ∙ new

    own_found : (n : Name) → bytes_eq x.name n ≡ true → find_node (nodes_in after) n ≡ Some x
    own_found n same = found_after n ∙ ap (λ o. option_or o (cond (bytes_eq x.name n) (Some x) None)) (new_there n same) ∙ ap (λ b. cond b (Some x) None) same

    acyclic_after : is_looped (nodes_in after) x.name ≡ false → HasNoCycle (nodes_in after)
    acyclic_after alone =
        no_cycle_changed (nodes_in groups) (nodes_in after) x.name (λ m h. needs_same (nodes_in after) (nodes_in groups) m (other_found m (bytes_eq-turned m x.name h)))
        (let longer = one_longer in omega arith) fine.acyclic alone

    apart_after : AreNamedApart (nodes_in after)
    apart_after =
        subst AreApart (sym (ap (map (λ (node : Node). node.name)) nodes_after ∙ map-append (λ (node : Node). node.name) (nodes_in groups) (x ∷ [])))
        (apart_push (map (λ (node : Node). node.name) (nodes_in groups)) x.name fine.apart (never_in (nodes_in groups) x.name new))

    named_after : (n : Name) → has_group after n ≡ is_some (find_node (nodes_in after) n)
    named_after n =
        ap (λ gs. has_group gs n) is ∙ list_any-append (λ (g : Group). bytes_eq g.name n) groups (record { name = x.name; nodes = x ∷ [] } ∷ [])
        ∙ ap (λ b. b || (bytes_eq x.name n || false)) (fine.named n) ∙ go (find_node (nodes_in groups) n) (bytes_eq x.name n) ∙ ap is_some (sym (found_after n))
      where
        go : (o : Option Node) (b : Bool) → (is_some o || (b || false)) ≡ is_some (option_or o (cond b (Some x) None))
        go None true = refl
        go None false = refl
        go (Some y) b = refl

  -- a statement's node is put after all groups
  pub put_is : (n : Name) (nodes : List Node) (x : Node) (after : List Group) → find_node (nodes_in groups) n ≡ None → nodes ≡ x ∷ [] → after ≡ put_group groups n nodes → after ≡ groups ++ record { name = n; nodes = x ∷ [] } ∷ []
  put_is n nodes x after new are e = e ∙ ap (put_group groups n) are ∙ put_new groups n (x ∷ []) (no_group n new)

  pub fits : (n : Name) (nodes : List Node) (needs : Option (List Name)) → find_node (nodes_in groups) n ≡ None → nodes ≡ record { name = n; needs = needs } ∷ [] → length (nodes_in groups) < 1000 → FitsAs groups n nodes
  fits n nodes needs new are few = subst (FitsAs groups n) (sym are) (record {
    own = refl;
    few = let longer = one_longer x new (put_group groups n (x ∷ [])) (put_new groups n (x ∷ []) (no_group n new)) in omega arith;
  })
    where
      x : Node
      x = record { name = n; needs = needs }

  -- a source
  module _ (n : Name) (new : find_node (nodes_in groups) n ≡ None) (after : List Group) (is : after ≡ groups ++ record { name = n; nodes = source_node n ∷ [] } ∷ []) (more : List Name)
      (with_it : (q : Name) → list_any (bytes_eq q) more ≡ cond (bytes_eq n q) true (list_any (bytes_eq q) sources)) where
    alone : is_looped (nodes_in after) n ≡ false
    unfolding is_looped
    alone = rw (source_needs (nodes_in after) n (own_found (source_node n) new after is n (bytes_eq-self n))) refl

    sources_after : (q : Name) → list_any (bytes_eq q) more ≡ is_source_node (find_node (nodes_in after) q)
    sources_after q = with_it q ∙ go (bytes_eq n q) refl
      where
        go : (b : Bool) → bytes_eq n q ≡ b → cond b true (list_any (bytes_eq q) sources) ≡ is_source_node (find_node (nodes_in after) q)
        go true same = sym (ap is_source_node (own_found (source_node n) new after is q same))
        go false differs = fine.sources_are q ∙ ap is_source_node (sym (other_found (source_node n) new after is q differs))

    flats_after : AreFlats (nodes_in after) (flats_of ops)
    flats_after q ns e = go (bytes_eq n q) refl
      where
        go : (b : Bool) → bytes_eq n q ≡ b → IsFlatOf (flats_of ops) q ns
        go true same = absurd (true≢false (ap is_source_node (sym (own_found (source_node n) new after is q same) ∙ e)))
        go false differs = fine.flats_are q ns (sym (other_found (source_node n) new after is q differs) ∙ e)

    pub source_fine : IsFine after more ops
    source_fine = record {
      acyclic = acyclic_after (source_node n) new after is alone;
      apart = apart_after (source_node n) new after is;
      named = named_after (source_node n) new after is;
      sources_are = sources_after;
      flats_are = flats_after;
    }

  -- a sum
  module _ (n : Name) (reads : List Name) (few : length reads ≤ 8) (new : find_node (nodes_in groups) n ≡ None) (after : List Group)
      (is : after ≡ groups ++ record { name = n; nodes = record { name = n; needs = Some reads } ∷ [] } ∷ []) (alone : is_looped (nodes_in after) n ≡ false)
      (op : Op) (terms : (op_view op).terms ≡ map (λ m. layer_term m) reads) (more : List (List ℕ × Op)) (own : lookup (bytes_eq n) more ≡ Some op)
      (others : (q : Name) → bytes_eq n q ≡ false → lookup (bytes_eq q) more ≡ lookup (bytes_eq q) ops) where
    abbrev x : Node
    x = record { name = n; needs = Some reads }

    sum_sources : (q : Name) → list_any (bytes_eq q) sources ≡ is_source_node (find_node (nodes_in after) q)
    sum_sources q = fine.sources_are q ∙ go (bytes_eq n q) refl
      where
        go : (b : Bool) → bytes_eq n q ≡ b → is_source_node (find_node (nodes_in groups) q) ≡ is_source_node (find_node (nodes_in after) q)
        go true same = ap is_source_node (new_there x new after is q same) ∙ sym (ap is_source_node (own_found x new after is q same))
        go false differs = ap is_source_node (sym (other_found x new after is q differs))

    abbrev flat : Op → FlatDef
    flat o = record { op = o; written = false }

    own_flat : (q : Name) (ns : List Name) → n ≡ q → Some x ≡ Some (record { name = q; needs = Some ns }) → IsFlatOf (flats_of more) q ns
    own_flat q ns named e =
        let node : x ≡ record { name = q; needs = Some ns } = same_Some x (record { name = q; needs = Some ns }) e in
        record {
          flat = flat op;
          found = lookup-map_values flat (bytes_eq q) more ∙ ap (λ m. option_map flat (lookup (bytes_eq m) more)) (sym named) ∙ ap (option_map flat) own;
          needs = ap (flat_map term_names) terms ∙ layers_needed reads ∙ same_Some reads ns (ap (λ (y : Node). y.needs) node);
          operands = has_operands op reads terms few;
        }

    other_flat : (q : Name) (ns : List Name) → bytes_eq n q ≡ false → IsFlatOf (flats_of ops) q ns → IsFlatOf (flats_of more) q ns
    other_flat q ns differs r = record {
      flat = r.flat;
      found = lookup-map_values flat (bytes_eq q) more ∙ ap (option_map flat) (others q differs) ∙ sym (lookup-map_values flat (bytes_eq q) ops) ∙ r.found;
      needs = r.needs;
      operands = r.operands;
    }

    sum_flats : AreFlats (nodes_in after) (flats_of more)
    sum_flats q ns e = go (bytes_eq n q) refl
      where
        go : (b : Bool) → bytes_eq n q ≡ b → IsFlatOf (flats_of more) q ns
        go true same = own_flat q ns (same_name n q same) (sym (own_found x new after is q same) ∙ e)
        go false differs = other_flat q ns differs (fine.flats_are q ns (sym (other_found x new after is q differs) ∙ e))

    pub sum_fine : IsFine after sources more
    sum_fine = record {
      acyclic = acyclic_after x new after is alone;
      apart = apart_after x new after is;
      named = named_after x new after is;
      sources_are = sum_sources;
      flats_are = sum_flats;
    }

-- What the needs of a place add to it, need by need.
use Rattle.std.proofs.Common.{◌≡◌, ℕ, suc, ◌+◌, ◌<◌, ◌≤◌, max, Bool, true, false, ◌||◌, List, map, fold, length, take, get_or, Option, Some, None, option_map, slice_get, bytes_eq, is_some, unwrap_or, refl, sym, ap, ◌∙◌, arith, IfSome}
use Rattle.std.specs.Option.{option_or, option_and_then}
use Rattle.std.specs.List.{All}
use Rattle.std.proofs.lemmas.List.{map_more, take_all}
use Rattle.std.proofs.lemmas.List.Sums.{fold_push}
use Rattle.std.proofs.lemmas.Option.{slice_get_within, get_or_from_slice_get, slice_get_read, none-some}
use Rattle.map_defs.specs.Ops.{Name}
use Rattle.map_defs.specs.Nodes.{Node}
use Rattle.statement_graph.specs.declared.row.Row.{Row}
use Rattle.statement_graph.specs.declared.row.Place.{Place}
use Rattle.statement_graph.specs.declared.node.Entry.{Entry}
use Rattle.statement_graph.specs.Seats.{node_at, nodes_at}
use Rattle.statement_graph.specs.Tables.{Shown, shown, shown_all, place_of, found_or_missing, seen, joined, unjoined, gathered, deeper, step_of, needs_at, need_at}
use Rattle.statement_graph.proofs.Finding.{got-map, node_there}

pub seen_is : (nodes : List Node) (rows : List Row) (n m : Name) (o : Option Row) → o ≡ option_and_then (slice_get rows) (place_of nodes m)
    → seen nodes (shown_all nodes rows) n m ≡ found_or_missing n m (option_map (shown nodes) o)
seen_is nodes rows n m o e = ap (found_or_missing n m) (got-map (shown nodes) rows (place_of nodes m) ∙ ap (option_map (shown nodes)) (sym e))

pub all_found : (P : Row → Type 0) (rows : List Row) (o : Option ℕ) (row : Row) → All P rows → option_and_then (slice_get rows) o ≡ Some row → P row
all_found P rows None row all e = absurd (none-some row e)
all_found P rows (Some i) row all e = let same = get_or_from_slice_get rows i row row e in let here = all i row (slice_get_within rows i row e) in rw same at here

pub missing_shown : (nodes : List Node) (p : Place) (n m : Name) (b : Bool) → need_at nodes p ≡ Some m → b ≡ bytes_eq m n
    → shown nodes (record { depth = 0; lack = Some p; reached = b }) ≡ found_or_missing n m None
missing_shown nodes p n m b placed is = ap (λ l. made l b) placed ∙ ap (made (Some m)) is
  where
    made : Option Name → Bool → Shown
    made l b = record { depth = 0; lack = Some l; reached = b }

-- what a need adds, by its first place
pub seen_row : (nodes : List Node) (rows : List Row) (n m : Name) (p : Place) (link : Option ℕ) (row : Row) → link ≡ place_of nodes m → need_at nodes p ≡ Some m
    → row ≡ unwrap_or (option_and_then (slice_get rows) link) (record { depth = 0; lack = Some p; reached = bytes_eq m n }) → shown nodes row ≡ seen nodes (shown_all nodes rows) n m
seen_row nodes rows n m p link row linked placed is = go (option_and_then (slice_get rows) link) refl is
  where
    go : (o : Option Row) → option_and_then (slice_get rows) link ≡ o → row ≡ unwrap_or o (record { depth = 0; lack = Some p; reached = bytes_eq m n }) → shown nodes row ≡ seen nodes (shown_all nodes rows) n m
    go None e is = ap (shown nodes) is ∙ missing_shown nodes p n m (bytes_eq m n) placed refl ∙ sym (seen_is nodes rows n m None (sym e ∙ ap (option_and_then (slice_get rows)) linked))
    go (Some r) e is = ap (shown nodes) is ∙ sym (seen_is nodes rows n m (Some r) (sym e ∙ ap (option_and_then (slice_get rows)) linked))

pub seen_shallow : (rows : List Row) (p : Place) (b : Bool) (most : ℕ) (link : Option ℕ) (row : Row) → All (λ r. r.depth + 1 < most) rows → 1 < most
    → row ≡ unwrap_or (option_and_then (slice_get rows) link) (record { depth = 0; lack = Some p; reached = b }) → row.depth + 1 < most
seen_shallow rows p b most link row all one is = go (option_and_then (slice_get rows) link) refl is
  where
    go : (o : Option Row) → option_and_then (slice_get rows) link ≡ o → row ≡ unwrap_or o (record { depth = 0; lack = Some p; reached = b }) → row.depth + 1 < most
    go None e is = let d : row.depth ≡ 0 = ap (λ (r : Row). r.depth) is in omega arith
    go (Some r) e is = let d : row.depth ≡ r.depth = ap (λ (r : Row). r.depth) is in let h = all_found (λ r. r.depth + 1 < most) rows link r all e in omega arith

option_map-or : {A B : Type 0} (f : A → B) (a b : Option A) → option_map f (option_or a b) ≡ option_or (option_map f a) (option_map f b)
option_map-or f None b = refl
option_map-or f (Some x) b = refl

pub joined_shown : (nodes : List Node) (a b r : Row) → r ≡ record { depth = max a.depth b.depth; lack = option_or a.lack b.lack; reached = a.reached || b.reached }
    → shown nodes r ≡ joined (shown nodes a) (shown nodes b)
joined_shown nodes a b r e =
    ap (shown nodes) e ∙ ap (λ l. record { depth = max a.depth b.depth; lack = l; reached = a.reached || b.reached }) (option_map-or (need_at nodes) a.lack b.lack)

pub need_there : (es : List Entry) (at k : ℕ) (e : Entry) (needs : List Name) (m : Name) → at < length es → e ≡ get_or es at e → needs ≡ needs_at (node_at e) → k < length needs → m ≡ get_or needs k m
    → need_at (nodes_at es) (record { node = at; need = k }) ≡ Some m
need_there es at k e needs m within is are k_in m_is =
    ap (option_and_then (λ (node : Node). slice_get (needs_at node) k)) (node_there es at e within is)
    ∙ ap (λ ns. slice_get ns k) (sym are) ∙ slice_get_read needs (length needs) k m refl k_in m_is

pub gathered_more : (nodes : List Node) (f : Name → Shown) (start : Node → Shown) (o : Option Node) (row other next : Row) (needs : List Name) (k : ℕ) (m : Name)
    → IfSome o (λ node. shown nodes row ≡ fold joined (start node) (map f (take k needs))) → shown nodes next ≡ joined (shown nodes row) (shown nodes other)
    → shown nodes other ≡ f m → k < length needs → m ≡ get_or needs k m
    → IfSome o (λ node. shown nodes next ≡ fold joined (start node) (map f (take (k + 1) needs)))
gathered_more nodes f start None row other next needs k m before j s k_in is = tt
gathered_more nodes f start (Some node) row other next needs k m before j s k_in is =
    j ∙ ap (λ a. joined a (shown nodes other)) before ∙ ap (joined (fold joined (start node) (map f (take k needs)))) (s ∙ ap f is)
    ∙ sym (ap (fold joined (start node)) (map_more f needs k m k_in) ∙ fold_push joined (start node) (map f (take k needs)) (f (get_or needs k m)))

pub gathered_all : (es : List Entry) (rows : List Row) (n : Name) (at k : ℕ) (e : Entry) (row : Row) (needs : List Name) → at < length es → e ≡ get_or es at e → needs ≡ needs_at (node_at e) → length needs ≤ k
    → IfSome (slice_get (nodes_at es) at) (λ node. shown (nodes_at es) row ≡ fold joined (unjoined n node) (map (seen (nodes_at es) (shown_all (nodes_at es) rows) n) (take k needs)))
    → IfSome (slice_get (nodes_at es) at) (λ node. shown (nodes_at es) row ≡ gathered (nodes_at es) (shown_all (nodes_at es) rows) n node)
gathered_all es rows n at k e row needs within is are long h =
    let there = node_there es at e within is in
    let got = rw there at h in
    rw there (got ∙ ap (λ ns. fold joined (unjoined n (node_at e)) (map (seen (nodes_at es) (shown_all (nodes_at es) rows) n) ns)) (take_all k needs long ∙ are))

pub step_is : (es : List Entry) (rows : List Row) (n : Name) (at : ℕ) (e : Entry) (row next : Row) → at < length es → e ≡ get_or es at e
    → IfSome (slice_get (nodes_at es) at) (λ node. shown (nodes_at es) row ≡ gathered (nodes_at es) (shown_all (nodes_at es) rows) n node)
    → shown (nodes_at es) next ≡ deeper (node_at e).needs (shown (nodes_at es) row)
    → IfSome (slice_get (nodes_at es) at) (λ node. shown (nodes_at es) next ≡ step_of (nodes_at es) (shown_all (nodes_at es) rows) n node)
step_is es rows n at e row next within is h d =
    let there = node_there es at e within is in
    let got = rw there at h in
    rw there (d ∙ ap (deeper (node_at e).needs) got)

pub deeper_yes : (o : Option (List Name)) (s : Shown) → is_some o ≡ true → record s { depth = suc s.depth } ≡ deeper o s
deeper_yes None s e = absurd cc
deeper_yes (Some ns) s e = refl

pub deeper_no : (o : Option (List Name)) (s : Shown) → is_some o ≡ false → s ≡ deeper o s
deeper_no None s e = refl
deeper_no (Some ns) s e = absurd cc

pub unjoined_there : (es : List Entry) (n : Name) (at : ℕ) (e : Entry) (b : Bool) → at < length es → e ≡ get_or es at e → b ≡ bytes_eq (node_at e).name n
    → IfSome (slice_get (nodes_at es) at) (λ node. shown (nodes_at es) (record { depth = 0; lack = None; reached = b }) ≡ unjoined n node)
unjoined_there es n at e b within is r = rw (node_there es at e within is) (ap bare r)
  where
    bare : Bool → Shown
    bare b = record { depth = 0; lack = None; reached = b }

pub shallow_both : (a b r : Row) (most : ℕ) → r ≡ record { depth = max a.depth b.depth; lack = option_or a.lack b.lack; reached = a.reached || b.reached } → a.depth + 1 < most → b.depth + 1 < most → r.depth + 1 < most
shallow_both a b r most e ha hb = let d : r.depth ≡ max a.depth b.depth = ap (λ (q : Row). q.depth) e in omega arith

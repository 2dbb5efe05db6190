-- What becomes of the groups where places are put in or taken out.
use Rattle.std.proofs.Common.{◌≡◌, ℕ, suc, ◌+◌, ◌-◌, ◌<◌, ◌≤◌, ◌^◌, true, false, cond, List, [], ◌∷◌, ◌++◌, map, length, take, drop, Option, Some, None, Ok, Err, option_map, unwrap_or, subst, slice_get, is_some, refl, sym, ap, ◌∙◌, arith, append_assoc, length-append}
use Rattle.std.specs.Option.{option_and_then}
use Rattle.std.proofs.lemmas.List.{append-nil, take-append-drop, drop-drop, take_at, drop_at, take_all, drop_all, take-map, drop-map, map-append, length-map, length-take, length-drop}
use Rattle.map_defs.specs.Ops.{Name}
use Rattle.map_defs.specs.Nodes.{Node, find_node, lacks_within, lacks, missing}
use Rattle.map_defs.specs.Depths.{depth_within, depth_of, is_looped}
use Rattle.statement_graph.specs.declared.node.Entry.{Entry}
use Rattle.statement_graph.specs.declared.row.Row.{Row}
use Rattle.statement_graph.specs.Groups.{Group, nodes_in, has_group, put_group, drop_group}
use Rattle.statement_graph.specs.Puts.{own_name, source_node, IsPut}
use Rattle.statement_graph.specs.declared.node.Entry.TheVariants.{Source}
use Rattle.std.proofs.lemmas.Simd.{map-map}
use Rattle.std.proofs.lemmas.Option.{same_Some}
use Rattle.statement_graph.specs.Seats.{Seat, seat_of, node_at, seats, nodes_at, groups_from, groups_of, are_whole, are_apart, span_from}
use Rattle.statement_graph.specs.Tables.{shown, shown_all, table_at, shown_at, kept, kept_at, need_at, place_of, IsKept}
use Rattle.statement_graph.specs.Fresh.{group_seats}
use Rattle.statement_graph.specs.Splices.{spliced, IsSpliced}
use Rattle.statement_graph.specs.declared.refusal.GraphRefusal.{GraphRefusal}
use Rattle.statement_graph.specs.declared.refusal.GraphRefusal.TheVariants.{Cycle, NoMemory}
use Rattle.statement_graph.proofs.Finding.{bytes_eq-self, got-map, find_node-place_of, find_node-name}
use Rattle.statement_graph.proofs.Groupings.{seated, alone, groups_from-append, are_whole-append, nodes_in-groups_of, map-seated, put_group-new, put_group-there, drop_group-none, drop_group-there, are_apart-after, are_apart-without, are_apart-with, are_apart-push}
use Rattle.statement_graph.proofs.Spans.{OneGroup, span_from-Some, span_from-None, fresh_group, map-group_seats}

-- a list in three parts
pub three_parts : {X : Type 0} (xs : List X) (start end : ℕ) → start ≤ end → xs ≡ take start xs ++ take (end - start) (drop start xs) ++ drop end xs
three_parts xs start end order =
    let sum : start + (end - start) ≡ end = omega arith in
    sym (append_assoc (take start xs) (take (end - start) (drop start xs)) (drop end xs)
    ∙ ap (λ l. take start xs ++ (take (end - start) (drop start xs) ++ l)) (ap (λ k. drop k xs) (sym sum) ∙ sym (drop-drop (end - start) start xs))
    ∙ ap (λ l. take start xs ++ l) (take-append-drop (end - start) (drop start xs)) ∙ take-append-drop start xs)

seats-spliced : (start end : ℕ) (fresh es : List Entry) → seats (spliced start end fresh es) ≡ take start (seats es) ++ seats fresh ++ drop end (seats es)
seats-spliced start end fresh es =
    map-append seat_of (take start es ++ fresh) (drop end es)
    ∙ ap (λ l. l ++ seats (drop end es)) (map-append seat_of (take start es) fresh ∙ ap (λ l. l ++ seats fresh) (sym (take-map seat_of start es)))
    ∙ ap (λ l. take start (seats es) ++ seats fresh ++ l) (sym (drop-map seat_of end es))

-- no group is left under way, and no two have one name
pub record IsKeptWhole (es : List Entry) : Type 0 where
  pub whole : are_whole false (seats es) ≡ true
  pub apart : are_apart (groups_of es) ≡ true

-- what a change of places keeps, and the groups after it
pub record Placed (es : List Entry) (groups : List Group) : Type 0 where
  pub whole : are_whole false (seats es) ≡ true
  pub is : groups_of es ≡ groups
  pub apart : are_apart groups ≡ true

-- the seats after a change between a front and a back
groups-between : (front mid back : List Seat) → are_whole false front ≡ true → are_whole false mid ≡ true
    → groups_from [] (front ++ mid ++ back) ≡ groups_from [] front ++ (groups_from [] mid ++ groups_from [] back)
groups-between front mid back wf wm =
    ap (groups_from []) (append_assoc front mid back) ∙ groups_from-append false [] front (mid ++ back) wf (λ _. refl)
    ∙ ap (λ l. groups_from [] front ++ l) (groups_from-append false [] mid back wm (λ _. refl))

whole-between : (front mid back : List Seat) → are_whole false front ≡ true → are_whole false mid ≡ true → are_whole false back ≡ true → are_whole false (front ++ mid ++ back) ≡ true
whole-between front mid back wf wm wb =
    ap (are_whole false) (append_assoc front mid back) ∙ are_whole-append false front (mid ++ back) wf ∙ are_whole-append false mid back wm ∙ wb

-- what the seats with a group are: its front, its own and its back
pub record Around (es : List Entry) (n : Name) (start end : ℕ) : Type 0 where
  pub front : List Seat
  pub mid : List Seat
  pub back : List Seat
  pub before : take start (seats es) ≡ front
  pub after : drop end (seats es) ≡ back
  pub order : start ≤ end
  pub within : end ≤ length es
  pub whole_front : are_whole false front ≡ true
  pub whole_back : are_whole false back ≡ true
  pub lacks : has_group (groups_from [] front) n ≡ false
  pub one : OneGroup mid n
  pub groups : groups_of es ≡ groups_from [] front ++ (record { name = n; nodes = map seated mid } ∷ groups_from [] back)

pub around : (es : List Entry) (n : Name) (start end : ℕ) → are_whole false (seats es) ≡ true → span_from 0 0 n (seats es) ≡ Some (start, end) → Around es n start end
around es n start end whole found =
    let s = span_from-Some (seats es) [] n 0 0 start end tt (omega arith) found in
    let parts : seats es ≡ s.front ++ s.mid ++ s.back = s.parts ∙ sym (append_assoc s.front s.mid s.back) in
    let len_front : length s.front ≡ start = (let st = s.starts in omega arith) in
    let len_both : length (s.front ++ s.mid) ≡ end = (let st = s.starts in let en = s.ends in omega (arith, length-append s.front s.mid)) in
    let len_all : length (seats es) ≡ length (s.front ++ s.mid) + length s.back = ap length parts ∙ length-append (s.front ++ s.mid) s.back in
    let len_es : length (seats es) ≡ length es = length-map es seat_of in
    let one = s.one in
    record {
      front = s.front;
      mid = s.mid;
      back = s.back;
      before = ap (take start) s.parts ∙ take_at s.front (s.mid ++ s.back) start len_front;
      after = ap (drop end) parts ∙ drop_at (s.front ++ s.mid) s.back end len_both;
      order = (let en = s.ends in omega arith);
      within = omega arith;
      whole_front = s.whole;
      whole_back = sym (ap (are_whole false) s.parts ∙ are_whole-append false s.front (s.mid ++ s.back) s.whole ∙ are_whole-append false s.mid s.back one.whole) ∙ whole;
      lacks = s.lacks;
      one = s.one;
      groups = ap (groups_from []) parts ∙ groups-between s.front s.mid s.back s.whole one.whole ∙ ap (λ l. groups_from [] s.front ++ (l ++ groups_from [] s.back)) one.is;
    }

put_over : (es fresh : List Entry) (n : Name) (xs : List Node) (start end : ℕ) → IsKeptWhole es → seats fresh ≡ group_seats xs → own_name xs ≡ Some n → Around es n start end
    → Placed (spliced start end fresh es) (put_group (groups_of es) n xs)
put_over es fresh n xs start end h f own a =
    let g : Group = record { name = n; nodes = map seated a.mid } in
    let new : Group = record { name = n; nodes = xs } in
    let made = fresh_group xs n own in
    let is : seats (spliced start end fresh es) ≡ a.front ++ group_seats xs ++ a.back =
    seats-spliced start end fresh es ∙ ap (λ l. l ++ seats fresh ++ drop end (seats es)) a.before ∙ ap (λ l. a.front ++ l ++ drop end (seats es)) f ∙ ap (λ l. a.front ++ group_seats xs ++ l) a.after in
    let put : put_group (groups_of es) n xs ≡ groups_from [] a.front ++ (new ∷ groups_from [] a.back) =
    ap (λ gs. put_group gs n xs) a.groups ∙ put_group-there (groups_from [] a.front) (groups_from [] a.back) g n xs a.lacks (bytes_eq-self n) in
    let fresh_is : groups_from [] (group_seats xs) ≡ new ∷ [] = made.is ∙ ap (alone n) (map-group_seats xs) in
    record {
      whole = ap (are_whole false) is ∙ whole-between a.front (group_seats xs) a.back a.whole_front made.whole a.whole_back;
      is = ap (groups_from []) is ∙ groups-between a.front (group_seats xs) a.back a.whole_front made.whole ∙ ap (λ l. groups_from [] a.front ++ (l ++ groups_from [] a.back)) fresh_is ∙ sym put;
      apart = ap are_apart put ∙ are_apart-with (groups_from [] a.front) (groups_from [] a.back) g new refl (sym (ap are_apart a.groups) ∙ h.apart);
    }

-- a group after all others
put_after : (es fresh : List Entry) (n : Name) (ss : List Seat) (xs : List Node) → IsKeptWhole es → seats fresh ≡ ss → OneGroup ss n → map seated ss ≡ xs → has_group (groups_of es) n ≡ false
    → Placed (es ++ fresh) (groups_of es ++ record { name = n; nodes = xs } ∷ [])
put_after es fresh n ss xs h f made nodes lacks =
    let new : Group = record { name = n; nodes = xs } in
    let is : seats (es ++ fresh) ≡ seats es ++ ss = map-append seat_of es fresh ∙ ap (λ l. seats es ++ l) f in
    record {
      whole = ap (are_whole false) is ∙ are_whole-append false (seats es) ss h.whole ∙ made.whole;
      is = ap (groups_from []) is ∙ groups_from-append false [] (seats es) ss h.whole (λ _. refl)
          ∙ ap (λ l. groups_of es ++ l) (made.is ∙ ap (alone n) nodes);
      apart = are_apart-push (groups_of es) new h.apart lacks;
    }

-- where a statement is put
abbrev pub span_at : List Entry → Name → ℕ × ℕ
span_at es n = unwrap_or (span_from 0 0 n (seats es)) (length es, length es)

pub record Put (es fresh : List Entry) (n : Name) (xs : List Node) (start end : ℕ) : Type 0 where
  pub order : start ≤ end
  pub within : end ≤ length es
  pub placed : Placed (spliced start end fresh es) (put_group (groups_of es) n xs)

pub put_is : (es fresh : List Entry) (n : Name) (xs : List Node) (start end : ℕ) → IsKeptWhole es → seats fresh ≡ group_seats xs → own_name xs ≡ Some n → (start, end) ≡ span_at es n → Put es fresh n xs start end
put_is es fresh n xs start end h f own e = go (span_from 0 0 n (seats es)) refl e
  where
    go : (o : Option (ℕ × ℕ)) → span_from 0 0 n (seats es) ≡ o → (start, end) ≡ unwrap_or o (length es, length es) → Put es fresh n xs start end
    go None none e =
        let s : start ≡ length es = ap (λ p. p.0) e in
        let t : end ≡ length es = ap (λ p. p.1) e in
        let lacks = span_from-None (seats es) [] n 0 0 none in
        let all : take start es ≡ es = take_all start es (omega arith) in
        let nil : drop end es ≡ [] = drop_all end es (omega arith) in
        let is : spliced start end fresh es ≡ es ++ fresh = ap (λ l. l ++ fresh ++ drop end es) all ∙ ap (λ l. es ++ fresh ++ l) nil ∙ append-nil (es ++ fresh) in
        let p = put_after es fresh n (group_seats xs) xs h f (fresh_group xs n own) (map-group_seats xs) lacks in
        let new = put_group-new (groups_of es) n xs lacks in
        record { order = omega arith; within = omega arith; placed = rw (is, new) p }
    go (Some q) some e =
        let same : span_from 0 0 n (seats es) ≡ Some (start, end) = some ∙ ap Some (sym e) in
        let a = around es n start end h.whole same in
        record { order = a.order; within = a.within; placed = put_over es fresh n xs start end h f own a }

pub drop_is : (es : List Entry) (n : Name) (start end : ℕ) → IsKeptWhole es → span_from 0 0 n (seats es) ≡ Some (start, end)
    → Placed (take start es ++ drop end es) (drop_group (groups_of es) n)
drop_is es n start end h found =
    let a = around es n start end h.whole found in
    let g : Group = record { name = n; nodes = map seated a.mid } in
    let apart : are_apart (groups_from [] a.front ++ g ∷ groups_from [] a.back) ≡ true = sym (ap are_apart a.groups) ∙ h.apart in
    let is : seats (take start es ++ drop end es) ≡ a.front ++ a.back =
    map-append seat_of (take start es) (drop end es) ∙ ap (λ l. l ++ seats (drop end es)) (sym (take-map seat_of start es) ∙ a.before) ∙ ap (λ l. a.front ++ l) (sym (drop-map seat_of end es) ∙ a.after) in
    let dropped : drop_group (groups_of es) n ≡ groups_from [] a.front ++ groups_from [] a.back =
    ap (λ gs. drop_group gs n) a.groups ∙ drop_group-there (groups_from [] a.front) (groups_from [] a.back) g n a.lacks (bytes_eq-self n) (are_apart-after (groups_from [] a.front) (groups_from [] a.back) g apart) in
    record {
      whole = ap (are_whole false) is ∙ are_whole-append false a.front a.back a.whole_front ∙ a.whole_back;
      is = ap (groups_from []) is ∙ groups_from-append false [] a.front a.back a.whole_front (λ _. refl) ∙ sym dropped;
      apart = ap are_apart dropped ∙ are_apart-without (groups_from [] a.front) (groups_from [] a.back) g apart;
    }

pub drop_nothing : (es : List Entry) (n : Name) → span_from 0 0 n (seats es) ≡ None → drop_group (groups_of es) n ≡ groups_of es
drop_nothing es n none = drop_group-none (groups_of es) n (span_from-None (seats es) [] n 0 0 none)

-- ---- what a graph keeps

pub kept_whole : (es : List Entry) (rows spare : List Row) → IsKept es rows spare → IsKeptWhole es
kept_whole es rows spare k = record { whole = k.whole; apart = k.apart }

kept_table : (es : List Entry) (rows : List Row) (n : Name) → shown_all (nodes_at es) rows ≡ table_at (length es) (nodes_at es) n
    → map (λ r. kept (shown (nodes_at es) r)) rows ≡ map (λ (node : Node). kept_at (nodes_at es) node.name) (nodes_at es)
unfolding lacks
kept_table es rows n table =
    let nodes = nodes_at es in
    let len : length nodes ≡ length es = length-map es node_at in
    sym (map-map kept (shown nodes) rows) ∙ ap (map kept) table ∙ map-map kept (λ (node : Node). shown_at (length es) nodes n node.name) nodes
    ∙ ap (λ k. map (λ (node : Node). (depth_within (suc k) nodes node.name, option_map Some (lacks_within (suc k) nodes node.name))) nodes) (sym len)

pub kept_from : (es : List Entry) (rows spare : List Row) (n : Name) (gs : List Group) → Placed es gs → length es + 1 < 2 ^ 32 → shown_all (nodes_at es) rows ≡ table_at (length es) (nodes_at es) n → length rows ≡ length es → length spare ≡ length es
    → IsKept es rows spare
kept_from es rows spare n gs p few table r s = record {
  whole = p.whole;
  apart = ap are_apart p.is ∙ p.apart;
  few = few;
  table = kept_table es rows n table;
  rows_are = r;
  spare_are = s;
}

abbrev pub with_source : List Group → Name → List Group
with_source gs n = gs ++ record { name = n; nodes = source_node n ∷ [] } ∷ []

-- a source after all names
pub source_put : (es es' : List Entry) (n m : Name) → IsKeptWhole es → has_group (groups_of es) n ≡ false → m ≡ n → es' ≡ es ++ Source m ∷ [] → Placed es' (groups_of es ++ record { name = n; nodes = source_node n ∷ [] } ∷ [])
source_put es es' n m h lacks same is =
    let one : OneGroup (record { node = source_node n; ends = true } ∷ []) n = record { whole = refl; is = refl } in
    let P : List Entry → Type 0 = λ l. Placed l (groups_of es ++ record { name = n; nodes = source_node n ∷ [] } ∷ []) in
    subst P (sym (is ∙ ap (λ q. es ++ Source q ∷ []) same)) (put_after es (Source n ∷ []) n (record { node = source_node n; ends = true } ∷ []) (source_node n ∷ []) h refl one refl lacks)

-- ---- what is read of it

by_name : (nodes : List Node) (m : Name) (o : Option Node) → find_node nodes m ≡ o → option_map (λ (node : Node). kept_at nodes node.name) o ≡ option_map (λ (node : Node). kept_at nodes m) o
by_name nodes m None e = refl
by_name nodes m (Some node) e = ap (λ q. Some (kept_at nodes q)) (find_node-name nodes m node e)

kept_found : (es : List Entry) (rows : List Row) (m : Name) → map (λ r. kept (shown (nodes_at es) r)) rows ≡ map (λ (node : Node). kept_at (nodes_at es) node.name) (nodes_at es)
    → option_map (λ r. kept (shown (nodes_at es) r)) (option_and_then (slice_get rows) (place_of (nodes_at es) m)) ≡ option_map (λ (node : Node). kept_at (nodes_at es) m) (find_node (nodes_at es) m)
kept_found es rows m table =
    let nodes = nodes_at es in
    let o = place_of nodes m in
    sym (got-map (λ r. kept (shown nodes r)) rows o) ∙ ap (λ t. option_and_then (slice_get t) o) table ∙ got-map (λ (node : Node). kept_at nodes node.name) nodes o
    ∙ ap (option_map (λ (node : Node). kept_at nodes node.name)) (sym (find_node-place_of nodes m)) ∙ by_name nodes m (find_node nodes m) refl

-- a row that was looked up
pub record IsLooked (es : List Entry) (rows : List Row) (m : Name) (q : Option Row) : Type 0 where
  pub is : option_and_then (slice_get rows) (place_of (nodes_at es) m) ≡ q

pub look_is : (es es' : List Entry) (rows rows' : List Row) (m : Name) (o q : Option Row) → es' ≡ es → rows' ≡ rows → o ≡ option_and_then (slice_get rows') (place_of (nodes_at es') m) → o ≡ q → IsLooked es rows m q
look_is es es' rows rows' m o q e r found is = record {
  is = sym (ap (λ t. option_and_then (slice_get t) (place_of (nodes_at es') m)) r ∙ ap (λ l. option_and_then (slice_get rows) (place_of (nodes_at l) m)) e) ∙ sym found ∙ is;
}

both_map : {A B X Y : Type 0} (K : A → X) (k : X) (f : X → Y) (o : Option A) (q : Option B) → option_map K o ≡ option_map (λ b. k) q → option_map (λ a. f (K a)) o ≡ option_map (λ b. f k) q
both_map K k f None None e = refl
both_map K k f None (Some b) e = absurd cc
both_map K k f (Some a) None e = absurd cc
both_map K k f (Some a) (Some b) e = ap (option_map f) e

pub depth_is : (es : List Entry) (rows spare : List Row) (m : Name) (q : Option Row) → IsKept es rows spare → IsLooked es rows m q → option_map (λ (r : Row). r.depth) q ≡ depth_of (nodes_at es) m
unfolding depth_of
depth_is es rows spare m q h l =
    both_map (λ (r : Row). kept (shown (nodes_at es) r)) (kept_at (nodes_at es) m) (λ p. p.0) q (find_node (nodes_at es) m) (sym (ap (option_map (λ r. kept (shown (nodes_at es) r))) l.is) ∙ kept_found es rows m h.table)

joined_lack : {A B : Type 0} (f : A → Option B) (l : Option A) (L : Option B) → option_map f l ≡ option_map Some L → option_and_then f l ≡ L
joined_lack f None None e = refl
joined_lack f None (Some x) e = absurd cc
joined_lack f (Some p) None e = absurd cc
joined_lack f (Some p) (Some x) e = same_Some (f p) (Some x) e

lack_parts : (nodes : List Node) (m : Name) (q : Option Row) (o : Option Node) → option_map (λ (r : Row). kept (shown nodes r)) q ≡ option_map (λ (node : Node). kept_at nodes m) o
    → option_and_then (λ (r : Row). option_and_then (need_at nodes) r.lack) q ≡ cond (is_some o) (lacks nodes m) None
lack_parts nodes m None None e = refl
lack_parts nodes m None (Some node) e = absurd cc
lack_parts nodes m (Some r) None e = absurd cc
lack_parts nodes m (Some r) (Some node) e =
    let same : kept (shown nodes r) ≡ kept_at nodes m = same_Some (kept (shown nodes r)) (kept_at nodes m) e in
    joined_lack (need_at nodes) r.lack (lacks nodes m) (ap (λ p. p.1) same)

pub missing_is : (es : List Entry) (rows spare : List Row) (m : Name) (q : Option Row) → IsKept es rows spare → IsLooked es rows m q
    → option_and_then (λ (r : Row). option_and_then (need_at (nodes_at es)) r.lack) q ≡ missing (nodes_at es) m
unfolding missing
missing_is es rows spare m q h l =
    lack_parts (nodes_at es) m q (find_node (nodes_at es) m) (sym (ap (option_map (λ r. kept (shown (nodes_at es) r))) l.is) ∙ kept_found es rows m h.table)

-- the nodes that callers see
pub seen_nodes : (es : List Entry) (rows spare : List Row) (gs : List Group) → IsKept es rows spare → groups_of es ≡ gs → nodes_at es ≡ nodes_in gs
seen_nodes es rows spare gs h is = sym (nodes_in-groups_of es h.whole) ∙ ap nodes_in is

pub same_nodes : (es es' : List Entry) → seats es' ≡ seats es → nodes_at es' ≡ nodes_at es
same_nodes es es' same = sym (map-seated es') ∙ ap (map seated) same ∙ map-seated es

-- a copy
pub copied : (es es' : List Entry) (rows rows' spare spare' : List Row) → IsKept es rows spare → seats es' ≡ seats es → rows' ≡ rows → spare' ≡ spare → IsKept es' rows' spare'
copied es es' rows rows' spare spare' h same r s =
    let nodes = same_nodes es es' same in
    let len : length es' ≡ length es = sym (length-map es' seat_of) ∙ ap length same ∙ length-map es seat_of in
    record {
      whole = ap (are_whole false) same ∙ h.whole;
      apart = ap (λ ss. are_apart (groups_from [] ss)) same ∙ h.apart;
      few = (let few = h.few in omega arith);
      table = ap (λ ns. map (λ r. kept (shown ns r)) rows') nodes ∙ ap (map (λ r. kept (shown (nodes_at es) r))) r ∙ h.table ∙ sym (ap (λ ns. map (λ (node : Node). kept_at ns node.name) ns) nodes);
      rows_are = ap length r ∙ h.rows_are ∙ sym len;
      spare_are = ap length s ∙ h.spare_are ∙ sym len;
    }

-- the same, where what was settled is a slice of the places
pub kept_by : (es there : List Entry) (rows spare : List Row) (n : Name) (gs : List Group) → there ≡ es → Placed es gs → length es + 1 < 2 ^ 32 → shown_all (nodes_at there) rows ≡ table_at (length there) (nodes_at there) n
    → length rows ≡ length there → length spare ≡ length there → IsKept es rows spare
kept_by es there rows spare n gs same p few table r s =
    let P : List Entry → Type 0 = λ l. shown_all (nodes_at l) rows ≡ table_at (length l) (nodes_at l) n in
    kept_from es rows spare n gs p few (subst P same table) (r ∙ ap length same) (s ∙ ap length same)

-- what a refused or an accepted statement is to callers
module _ (es fresh new : List Entry) (old : List Group) (n : Name) (xs : List Node) (start end : ℕ) (rows : List Row) (view : groups_of es ≡ old) (put : Put es fresh n xs start end) where
  put_nodes : nodes_at (spliced start end fresh es) ≡ nodes_in (put_group old n xs)
  put_nodes = let p = put.placed in sym (nodes_in-groups_of (spliced start end fresh es) p.whole) ∙ ap nodes_in (p.is ∙ ap (λ gs. put_group gs n xs) view)

  pub put_refused : (V : Type 0) (r : GraphRefusal) → IsSpliced {V = V} es new start end fresh n rows (Err r) → IsPut {V = V} old (groups_of new) n xs (Err r)
  put_refused V Cycle h = (ap groups_of h.0 ∙ view, ap (λ ns. is_looped ns n) (sym put_nodes) ∙ h.1)
  put_refused V NoMemory h = ap groups_of h ∙ view

  pub put_accepted : (V : Type 0) (v : V) → IsSpliced {V = V} es new start end fresh n rows (Ok v) → IsPut {V = V} old (groups_of new) n xs (Ok v)
  put_accepted V v h = let p = put.placed in (ap groups_of h.0 ∙ p.is ∙ ap (λ gs. put_group gs n xs) view, ap (λ ns. is_looped ns n) (sym put_nodes ∙ ap nodes_at (sym h.0)) ∙ h.1)

  pub put_length : length (nodes_in (put_group old n xs)) ≡ length (spliced start end fresh es)
  put_length = sym (ap length put_nodes) ∙ length-map (spliced start end fresh es) node_at

-- where a group that is found stands
pub found_span : (es there : List Entry) (n : Name) (o : Option (ℕ × ℕ)) (q : Option (ℕ × ℕ)) → there ≡ es → o ≡ span_from 0 0 n (seats there) → o ≡ q → span_from 0 0 n (seats es) ≡ q
found_span es there n o q same found is = sym (ap (λ l. span_from 0 0 n (seats l)) same) ∙ sym found ∙ is

-- taking a group out
pub record Dropped (es : List Entry) (n : Name) (start end : ℕ) : Type 0 where
  pub order : start ≤ end
  pub within : end ≤ length es
  pub placed : Placed (take start es ++ drop end es) (drop_group (groups_of es) n)
  pub left : length (take start es ++ drop end es) + (end - start) ≡ length es

pub dropped : (es there : List Entry) (n : Name) (start end : ℕ) (o : Option (ℕ × ℕ)) → IsKeptWhole es → there ≡ es → o ≡ span_from 0 0 n (seats there) → o ≡ Some (start, end) → Dropped es n start end
dropped es there n start end o h same found is =
    let at_span = found_span es there n o (Some (start, end)) same found is in
    let a = around es n start end h.whole at_span in
    let order = a.order in
    let within = a.within in
    record {
      order = order;
      within = within;
      placed = drop_is es n start end h at_span;
      left = (let len = length-append (take start es) (drop end es) in omega (arith, length-take start es, length-drop end es));
    }

pub kept_put : (es fresh new : List Entry) (old : List Group) (n : Name) (xs : List Node) (start end : ℕ) (rows spare : List Row) → Put es fresh n xs start end → IsSpliced {V = Unit {0}} es new start end fresh n rows (Ok tt) → length new + 1 < 2 ^ 32
    → length rows ≡ length new → length spare ≡ length new → IsKept new rows spare
kept_put es fresh new old n xs start end rows spare put h few r s =
    let P : List Entry → Type 0 = λ l. Placed l (put_group (groups_of es) n xs) in
    kept_from new rows spare n (put_group (groups_of es) n xs) (subst P (sym h.0) put.placed) few h.2 r s

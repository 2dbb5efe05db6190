-- The groups that places one after the other are.
use Rattle.std.proofs.Common.{◌≡◌, ◌+◌, ◌≤◌, Bool, true, false, not, ◌&&◌, ◌||◌, cond, List, [], ◌∷◌, ◌++◌, map, length, Result, Ok, Err, bytes_eq, refl, sym, ap, ◌∙◌, append_assoc, arith, length-append}
use Rattle.std.proofs.lemmas.Bool.{and_parts, and_from, or_parts, or_from, not_from_false}
use Rattle.map_defs.specs.Ops.{Name}
use Rattle.map_defs.specs.Nodes.{Node}
use Rattle.statement_graph.specs.declared.node.Entry.{Entry}
use Rattle.statement_graph.specs.declared.refusal.GraphRefusal.{GraphRefusal}
use Rattle.statement_graph.specs.declared.refusal.GraphRefusal.TheVariants.{Cycle, NoMemory}
use Rattle.statement_graph.specs.Puts.{IsPut}
use Rattle.statement_graph.specs.Groups.{Group, nodes_in, has_group, put_group, drop_group}
use Rattle.statement_graph.specs.Seats.{Seat, node_at, seats, nodes_at, groups_from, groups_of, are_whole, are_apart}
use Rattle.statement_graph.proofs.Finding.{bytes_eq-turned}

abbrev pub seated : Seat → Node
seated s = s.node

abbrev pub alone : Name → List Node → List Group
alone n nodes = record { name = n; nodes = nodes } ∷ []

-- nothing stands before a group that isn't under way
abbrev IsBegun : Bool → List Node → Type 0
IsBegun under_way now = under_way ≡ false → now ≡ []

false_not_true : {P : Type 0} → true ≡ false → P
false_not_true e = absurd cc

pub groups_from-append : (u : Bool) (now : List Node) (ss ts : List Seat) → are_whole u ss ≡ true → IsBegun u now → groups_from now (ss ++ ts) ≡ groups_from now ss ++ groups_from [] ts
groups_from-append true now [] ts w b = absurd cc
groups_from-append false now [] ts w b = ap (λ l. groups_from l ts) (b refl)
groups_from-append u now (s ∷ ss) ts w b =
    (elim (s.ends) as (λ e. are_whole (not e) ss ≡ true → cond e (record { name = s.node.name; nodes = now ++ s.node ∷ [] } ∷ groups_from [] (ss ++ ts)) (groups_from (now ++ s.node ∷ []) (ss ++ ts))
    ≡ cond e (record { name = s.node.name; nodes = now ++ s.node ∷ [] } ∷ groups_from [] ss) (groups_from (now ++ s.node ∷ []) ss) ++ groups_from [] ts) [
      | true ↦ λ w. ap (λ gs. record { name = s.node.name; nodes = now ++ s.node ∷ [] } ∷ gs) (groups_from-append false [] ss ts w (λ _. refl))
      | false ↦ λ w. groups_from-append true (now ++ s.node ∷ []) ss ts w false_not_true
    ]) w

pub are_whole-append : (u : Bool) (ss ts : List Seat) → are_whole u ss ≡ true → are_whole u (ss ++ ts) ≡ are_whole false ts
are_whole-append true [] ts w = absurd cc
are_whole-append false [] ts w = refl
are_whole-append u (s ∷ ss) ts w = are_whole-append (not s.ends) ss ts w

pub nodes_in-groups_from : (u : Bool) (now : List Node) (ss : List Seat) → are_whole u ss ≡ true → IsBegun u now → nodes_in (groups_from now ss) ≡ now ++ map seated ss
nodes_in-groups_from true now [] w b = absurd cc
nodes_in-groups_from false now [] w b = sym (ap (λ l. l ++ []) (b refl))
nodes_in-groups_from u now (s ∷ ss) w b =
    (elim (s.ends) as (λ e. are_whole (not e) ss ≡ true → nodes_in (cond e (record { name = s.node.name; nodes = now ++ s.node ∷ [] } ∷ groups_from [] ss) (groups_from (now ++ s.node ∷ []) ss)) ≡ now ++ s.node ∷ map seated ss) [
      | true ↦ λ w. ap (λ l. (now ++ s.node ∷ []) ++ l) (nodes_in-groups_from false [] ss w (λ _. refl)) ∙ append_assoc now (s.node ∷ []) (map seated ss)
      | false ↦ λ w. nodes_in-groups_from true (now ++ s.node ∷ []) ss w false_not_true ∙ append_assoc now (s.node ∷ []) (map seated ss)
    ]) w

pub map-seated : (es : List Entry) → map seated (seats es) ≡ nodes_at es
map-seated [] = refl
map-seated (e ∷ es) = ap (λ l. node_at e ∷ l) (map-seated es)

-- the nodes of the groups are those of the places
pub nodes_in-groups_of : (es : List Entry) → are_whole false (seats es) ≡ true → nodes_in (groups_of es) ≡ nodes_at es
nodes_in-groups_of es w = nodes_in-groups_from false [] (seats es) w (λ _. refl) ∙ map-seated es

-- ---- a group among others

pub has_group-append : (gs hs : List Group) (n : Name) → has_group (gs ++ hs) n ≡ (has_group gs n || has_group hs n)
has_group-append [] hs n = refl
has_group-append (g ∷ gs) hs n = go (bytes_eq g.name n) (has_group-append gs hs n)
  where
    go : (b : Bool) → has_group (gs ++ hs) n ≡ (has_group gs n || has_group hs n) → (b || has_group (gs ++ hs) n) ≡ ((b || has_group gs n) || has_group hs n)
    go true e = refl
    go false e = e

pub put_group-new : (gs : List Group) (n : Name) (nodes : List Node) → has_group gs n ≡ false → put_group gs n nodes ≡ gs ++ record { name = n; nodes = nodes } ∷ []
put_group-new [] n nodes h = refl
put_group-new (g ∷ gs) n nodes h =
    let p = or_parts (bytes_eq g.name n) (has_group gs n) h in
    rw p.0 (ap (λ l. g ∷ l) (put_group-new gs n nodes p.1))

pub put_group-there : (front back : List Group) (g : Group) (n : Name) (nodes : List Node) → has_group front n ≡ false → bytes_eq g.name n ≡ true
    → put_group (front ++ g ∷ back) n nodes ≡ front ++ record { name = g.name; nodes = nodes } ∷ back
put_group-there [] back g n nodes h e = rw e refl
put_group-there (f ∷ fs) back g n nodes h e =
    let p = or_parts (bytes_eq f.name n) (has_group fs n) h in
    rw p.0 (ap (λ l. f ∷ l) (put_group-there fs back g n nodes p.1 e))

pub drop_group-none : (gs : List Group) (n : Name) → has_group gs n ≡ false → drop_group gs n ≡ gs
drop_group-none [] n h = refl
drop_group-none (g ∷ gs) n h =
    let p = or_parts (bytes_eq g.name n) (has_group gs n) h in
    rw p.0 (ap (λ l. g ∷ l) (drop_group-none gs n p.1))

pub drop_group-there : (front back : List Group) (g : Group) (n : Name) → has_group front n ≡ false → bytes_eq g.name n ≡ true → has_group back n ≡ false → drop_group (front ++ g ∷ back) n ≡ front ++ back
drop_group-there [] back g n h e k = rw e (drop_group-none back n k)
drop_group-there (f ∷ fs) back g n h e k =
    let p = or_parts (bytes_eq f.name n) (has_group fs n) h in
    rw p.0 (ap (λ l. f ∷ l) (drop_group-there fs back g n p.1 e k))

-- ---- no two with one name

not_true : (b : Bool) → not b ≡ true → b ≡ false
not_true true e = absurd cc
not_true false e = refl

pub are_apart-after : (front back : List Group) (g : Group) → are_apart (front ++ g ∷ back) ≡ true → has_group back g.name ≡ false
are_apart-after [] back g h = not_true (has_group back g.name) (and_parts (not (has_group back g.name)) (are_apart back) h).0
are_apart-after (f ∷ fs) back g h = are_apart-after fs back g (and_parts (not (has_group (fs ++ g ∷ back) f.name)) (are_apart (fs ++ g ∷ back)) h).1

pub are_apart-without : (front back : List Group) (g : Group) → are_apart (front ++ g ∷ back) ≡ true → are_apart (front ++ back) ≡ true
are_apart-without [] back g h = (and_parts (not (has_group back g.name)) (are_apart back) h).1
are_apart-without (f ∷ fs) back g h =
    let p = and_parts (not (has_group (fs ++ g ∷ back) f.name)) (are_apart (fs ++ g ∷ back)) h in
    let q = or_parts (has_group fs f.name) (bytes_eq g.name f.name || has_group back f.name) (sym (has_group-append fs (g ∷ back) f.name) ∙ not_true (has_group (fs ++ g ∷ back) f.name) p.0) in
    let r = or_parts (bytes_eq g.name f.name) (has_group back f.name) q.1 in
    let s : has_group (fs ++ back) f.name ≡ false = has_group-append fs back f.name ∙ or_from (has_group fs f.name) (has_group back f.name) q.0 r.1 in
    and_from (not (has_group (fs ++ back) f.name)) (are_apart (fs ++ back)) (not_from_false (has_group (fs ++ back) f.name) s) (are_apart-without fs back g p.1)

same_named : (front back : List Group) (g h : Group) (n : Name) → h.name ≡ g.name → has_group (front ++ h ∷ back) n ≡ has_group (front ++ g ∷ back) n
same_named [] back g h n e = ap (λ m. bytes_eq m n || has_group back n) e
same_named (f ∷ fs) back g h n e = ap (λ b. bytes_eq f.name n || b) (same_named fs back g h n e)

pub are_apart-with : (front back : List Group) (g h : Group) → h.name ≡ g.name → are_apart (front ++ g ∷ back) ≡ true → are_apart (front ++ h ∷ back) ≡ true
are_apart-with [] back g h e a = ap (λ m. not (has_group back m) && are_apart back) e ∙ a
are_apart-with (f ∷ fs) back g h e a =
    let p = and_parts (not (has_group (fs ++ g ∷ back) f.name)) (are_apart (fs ++ g ∷ back)) a in
    and_from (not (has_group (fs ++ h ∷ back) f.name)) (are_apart (fs ++ h ∷ back)) (ap not (same_named fs back g h f.name e) ∙ p.0) (are_apart-with fs back g h e p.1)

pub are_apart-push : (gs : List Group) (g : Group) → are_apart gs ≡ true → has_group gs g.name ≡ false → are_apart (gs ++ g ∷ []) ≡ true
are_apart-push [] g a h = refl
are_apart-push (f ∷ fs) g a h =
    let p = and_parts (not (has_group fs f.name)) (are_apart fs) a in
    let q = or_parts (bytes_eq f.name g.name) (has_group fs g.name) h in
    let s : has_group (fs ++ g ∷ []) f.name ≡ false = has_group-append fs (g ∷ []) f.name ∙ or_from (has_group fs f.name) (bytes_eq g.name f.name || false) (not_true (has_group fs f.name) p.0) (or_from (bytes_eq g.name f.name) false (bytes_eq-turned f.name g.name q.0) refl) in
    and_from (not (has_group (fs ++ g ∷ []) f.name)) (are_apart (fs ++ g ∷ [])) (not_from_false (has_group (fs ++ g ∷ []) f.name) s) (are_apart-push fs g p.1 q.1)

-- ---- how many nodes there are

-- putting a statement adds at most its own nodes
pub length-put_group : (gs : List Group) (n : Name) (xs : List Node) → length (nodes_in (put_group gs n xs)) ≤ length (nodes_in gs) + length xs
length-put_group [] n xs = let h = length-append xs [] in omega arith
length-put_group (g ∷ gs) n xs =
    (elim (bytes_eq g.name n) as (λ b. length (nodes_in (cond b (record { name = g.name; nodes = xs } ∷ gs) (g ∷ put_group gs n xs))) ≤ length (g.nodes ++ nodes_in gs) + length xs) [
      | true ↦ (let h = length-append xs (nodes_in gs) in let k = length-append g.nodes (nodes_in gs) in omega arith)
      | false ↦ (let h = length-append g.nodes (nodes_in (put_group gs n xs)) in let k = length-append g.nodes (nodes_in gs) in let l = length-put_group gs n xs in omega arith)
    ])

pub length-put : (V : Type 0) (old new : List Group) (n : Name) (xs : List Node) (r : Result V GraphRefusal) → IsPut {V = V} old new n xs r → length (nodes_in new) ≤ length (nodes_in old) + length xs
length-put V old new n xs (Ok v) h = let e : length (nodes_in new) ≡ length (nodes_in (put_group old n xs)) = ap (λ gs. length (nodes_in gs)) h.0 in let le = length-put_group old n xs in omega arith
length-put V old new n xs (Err Cycle) h = let e : length (nodes_in new) ≡ length (nodes_in old) = ap (λ gs. length (nodes_in gs)) h.0 in omega arith
length-put V old new n xs (Err NoMemory) h = let e : length (nodes_in new) ≡ length (nodes_in old) = ap (λ gs. length (nodes_in gs)) h in omega arith

-- taking one out adds none
pub length-drop_group : (gs : List Group) (n : Name) → length (nodes_in (drop_group gs n)) ≤ length (nodes_in gs)
length-drop_group [] n = omega arith
length-drop_group (g ∷ gs) n =
    (elim (bytes_eq g.name n) as (λ b. length (nodes_in (cond (not b) (g ∷ drop_group gs n) (drop_group gs n))) ≤ length (g.nodes ++ nodes_in gs)) [
      | true ↦ (let k = length-append g.nodes (nodes_in gs) in let l = length-drop_group gs n in omega arith)
      | false ↦ (let h = length-append g.nodes (nodes_in (drop_group gs n)) in let k = length-append g.nodes (nodes_in gs) in let l = length-drop_group gs n in omega arith)
    ])

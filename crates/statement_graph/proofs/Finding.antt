-- A name is found at its first place.
use Rattle.std.proofs.Common.{◌≡◌, ℕ, ◌+◌, ◌<◌, not, get_or, Bool, true, false, cond, List, [], ◌∷◌, map, length, Option, Some, None, option_map, slice_get, bytes_eq, refl, sym, ap, ◌∙◌, arith, ltb, inl, inr}
use Rattle.std.specs.Option.{option_and_then}
use Rattle.std.specs.List.{position_or_len, prefix_len, position}
use Rattle.std.proofs.lemmas.List.{length-map}
use Rattle.std.proofs.lemmas.List.Sums.{fails_before_first}
use Rattle.statement_graph.specs.declared.node.Entry.{Entry}
use Rattle.statement_graph.specs.Seats.{node_at, name_at, nodes_at, seat_of, seats}
use Rattle.statement_graph.specs.Firsts.{IsFirst}
use Rattle.std.proofs.lemmas.Slice.Eq.{bytes_eq-Decides}
use Rattle.std.proofs.lemmas.List.Folds.{find_at}
use Rattle.std.proofs.lemmas.Option.{slice_get-map, slice_get_past, slice_get_read, none-some}
use Rattle.std.proofs.lemmas.Bool.{cases_lt, lt-ltb, le-ltb, false_from_ne_true}
use Rattle.map_defs.specs.Ops.{Name}
use Rattle.map_defs.specs.Nodes.{Node, find_node}
use Rattle.statement_graph.specs.Tables.{Shown, place_of, looked}

pub same_name : (a b : Name) → bytes_eq a b ≡ true → a ≡ b
same_name a b h = (bytes_eq-Decides a b).0 h

pub bytes_eq-self : (a : Name) → bytes_eq a a ≡ true
bytes_eq-self a = (bytes_eq-Decides a a).1 refl

pub bytes_eq-turned : (a b : Name) → bytes_eq a b ≡ false → bytes_eq b a ≡ false
bytes_eq-turned a b h = false_from_ne_true (bytes_eq b a) (λ e. let s : a ≡ b = sym (same_name b a e) in let t : bytes_eq a b ≡ true = (bytes_eq-Decides a b).1 s in cc)

find_by_place : {X : Type 0} (p : X → Bool) (xs : List X) (i : ℕ) → slice_get xs i ≡ option_and_then (slice_get xs) (cond (ltb i (length xs)) (Some i) None)
find_by_place p xs i =
    elim (cases_lt i (length xs)) [
      | inl h ↦ rw (lt-ltb i (length xs) h) refl
      | inr h ↦ rw (le-ltb i (length xs) h) (slice_get_past xs i h)
    ]

pub find_node-place_of : (nodes : List Node) (m : Name) → find_node nodes m ≡ option_and_then (slice_get nodes) (place_of nodes m)
find_node-place_of nodes m =
    let p : Node → Bool = λ node. bytes_eq node.name m in
    find_at p nodes ∙ find_by_place p nodes (position_or_len p nodes)

pub got-map : {X Y : Type 0} (f : X → Y) (xs : List X) (o : Option ℕ) → option_and_then (slice_get (map f xs)) o ≡ option_map f (option_and_then (slice_get xs) o)
got-map f xs None = refl
got-map f xs (Some i) = slice_get-map f xs i

pub looked-map : (f : Node → Shown) (nodes : List Node) (m : Name) → looked nodes (map f nodes) m ≡ option_map f (find_node nodes m)
looked-map f nodes m = got-map f nodes (place_of nodes m) ∙ ap (option_map f) (sym (find_node-place_of nodes m))

-- what is found has the name
pub find_node-name : (nodes : List Node) (m : Name) (node : Node) → find_node nodes m ≡ Some node → node.name ≡ m
find_node-name [] m node e = absurd cc
find_node-name (x ∷ xs) m node e = go (bytes_eq x.name m) refl e (find_node-name xs m node)
  where
    go : (b : Bool) → bytes_eq x.name m ≡ b → cond b (Some x) (find_node xs m) ≡ Some node → (find_node xs m ≡ Some node → node.name ≡ m) → node.name ≡ m
    go true h e rest = let same : x ≡ node = cc in sym (ap (λ (q : Node). q.name) same) ∙ same_name x.name m h
    go false h e rest = rest e

prefix_len-map : {X Y : Type 0} (p : Y → Bool) (f : X → Y) (xs : List X) → prefix_len p (map f xs) ≡ prefix_len (λ x. p (f x)) xs
prefix_len-map p f [] = refl
prefix_len-map p f (x ∷ xs) = ap (λ k. cond (p (f x)) (1 + k) 0) (prefix_len-map p f xs)

position-map : {X Y : Type 0} (p : Y → Bool) (f : X → Y) (xs : List X) → position p (map f xs) ≡ position (λ x. p (f x)) xs
position-map p f xs =
    ap (λ k. cond (ltb k (length (map f xs))) (Some k) None) (prefix_len-map (λ y. not (p y)) f xs)
    ∙ ap (λ n. cond (ltb (position_or_len (λ x. p (f x)) xs) n) (Some (position_or_len (λ x. p (f x)) xs)) None) (length-map xs f)

pub place_of-entries : (es : List Entry) (m : Name) → place_of (nodes_at es) m ≡ position (λ e. bytes_eq (name_at e) m) es
place_of-entries es m = position-map (λ (node : Node). bytes_eq node.name m) node_at es

pub node_there : (es : List Entry) (at : ℕ) (e : Entry) → at < length es → e ≡ get_or es at e → slice_get (nodes_at es) at ≡ Some (node_at e)
node_there es at e within is = slice_get-map node_at es at ∙ ap (option_map node_at) (slice_get_read es (length es) at e refl within is)

pub first_found : (es : List Entry) (at first : ℕ) (e : Entry) (m : Name) (o : Option ℕ) → at < length es → e ≡ get_or es at e → m ≡ name_at e
    → o ≡ position (λ e. bytes_eq (name_at e) m) es → o ≡ Some first → IsFirst (nodes_at es) at first
first_found es at first e m o within is named found some =
    rw (node_there es at e within is)
    (find_node-place_of (nodes_at es) (name_at e)
    ∙ ap (option_and_then (slice_get (nodes_at es))) (ap (place_of (nodes_at es)) (sym named) ∙ place_of-entries es m ∙ sym found ∙ some))

-- a name that stands at a place is found
pub never_lost : (es : List Entry) (at : ℕ) (e : Entry) (m : Name) (o : Option ℕ) → at < length es → e ≡ get_or es at e → m ≡ name_at e
    → o ≡ position (λ e. bytes_eq (name_at e) m) es → o ≡ None → ⊥
never_lost es at e m o within is named found none =
    let p : Entry → Bool = λ e. bytes_eq (name_at e) m in
    let pos = position_or_len p es in
    let self : p e ≡ true = ap (λ q. bytes_eq (name_at e) q) named ∙ bytes_eq-self (name_at e) in
    elim (cases_lt pos (length es)) [
      | inl h ↦ none-some pos (sym none ∙ found ∙ ap (λ b. cond b (Some pos) None) (lt-ltb pos (length es) h))
      | inr h ↦ (let fails : p (get_or es at e) ≡ false = fails_before_first p es at e (omega arith) in let at_e : p (get_or es at e) ≡ p e = ap p (sym is) in cc)
    ]

pub place_within : (p : Entry → Bool) (es : List Entry) (at : ℕ) (o : Option ℕ) → o ≡ position p es → o ≡ Some at → at < length es
place_within p es at o found some =
    let pos = position_or_len p es in
    elim (cases_lt pos (length es)) [
      | inl h ↦ (let is : Some pos ≡ Some at = sym (ap (λ b. cond b (Some pos) None) (lt-ltb pos (length es) h)) ∙ sym found ∙ some in let same : pos ≡ at = cc in omega arith)
      | inr h ↦ absurd (none-some at (sym (ap (λ b. cond b (Some pos) None) (le-ltb pos (length es) h)) ∙ sym found ∙ some))
    ]

pub seat_there : (es : List Entry) (at : ℕ) (e : Entry) → at < length es → e ≡ get_or es at e → slice_get (seats es) at ≡ Some (seat_of e)
seat_there es at e within is = slice_get-map seat_of es at ∙ ap (option_map seat_of) (slice_get_read es (length es) at e refl within is)

pub found_node : (es : List Entry) (m : Name) (o q : Option ℕ) → o ≡ position (λ e. bytes_eq (name_at e) m) es → o ≡ q → find_node (nodes_at es) m ≡ option_and_then (slice_get (nodes_at es)) q
found_node es m o q found is = find_node-place_of (nodes_at es) m ∙ ap (option_and_then (slice_get (nodes_at es))) (place_of-entries es m ∙ sym found ∙ is)

-- The wanted flat statements, depth by depth.
use Rattle.std.proofs.Common.{◌≡◌, ℕ, zero, suc, ◌+◌, ◌-◌, ◌<◌, ◌≤◌, max, min, Bool, true, false, ◌&&◌, ◌==◌, cond, List, [], ◌∷◌, ◌++◌, map, filter, flat_map, fold, length, drop, get_or, Option, Some, None, slice_get, is_some, ◌⊎◌, inl, inr, refl, sym, ap, ◌∙◌, arith, Bor}
use Rattle.std.specs.List.{range_with_len}
use Rattle.std.proofs.lemmas.Bool.{cases_lt, ne_eqb}
use Rattle.std.proofs.lemmas.List.{map-append, length-map}
use Rattle.std.proofs.lemmas.List.Elements.{filter-append}
use Rattle.std.proofs.lemmas.Option.{cond_some}
use Rattle.map_defs.specs.Nodes.{Node}
use Rattle.map_defs.specs.Depths.{depth_in, by_depth}
use Rattle.statement_graph.specs.declared.node.Node.{Node as Given}
use Rattle.statement_graph.specs.declared.node.Entry.{Entry}
use Rattle.statement_graph.specs.declared.row.Row.{Row}
use Rattle.statement_graph.specs.declared.ordering.Wanted.{Wanted}
use Rattle.statement_graph.specs.declared.ordering.Wanted.TheVariants.{All}
use Rattle.statement_graph.specs.Puts.{flat_node}
use Rattle.statement_graph.specs.Seats.{node_at, nodes_at}
use Rattle.statement_graph.specs.Tables.{shown, kept, kept_at}
use Rattle.statement_graph.specs.Walks.{is_at_depth, at_depth}
use Rattle.statement_graph.specs.Wholes.{takes, is_taken}
use Rattle.statement_graph.proofs.Finding.{node_there}
use Rattle.statement_graph.proofs.Walking.{passed, taken, kept_depth, kept_lack, cond_none, by_depth_is, next_depth}

abbrev pub listed : List (Bor Given) → List Node
listed found = map (λ (b : Bor Given). flat_node b.now) found

pub listed_push : (found new : List (Bor Given)) (b : Bor Given) → new ≡ found ++ b ∷ [] → listed new ≡ listed found ++ flat_node b.now ∷ []
listed_push found new b pushed = ap listed pushed ∙ map-append (λ (b : Bor Given). flat_node b.now) found (b ∷ [])

-- ---- one depth

-- those from a place on that pass both tests
abbrev pub passing : (Node → Bool) → (Node → Bool) → List Node → ℕ → List Node
passing q p nodes at = filter q (filter p (drop at nodes))

passing_at : (q p : Node → Bool) (nodes : List Node) (at : ℕ) (node : Node) → slice_get nodes at ≡ Some node → passing q p nodes at ≡ cond (q node && p node) (node ∷ []) [] ++ passing q p nodes (at + 1)
passing_at q p nodes at node here = go (p node) refl
  where
    rest : List Node
    rest = filter p (drop (at + 1) nodes)

    kept : (b : Bool) → cond b (node ∷ filter q rest) (filter q rest) ≡ cond (b && true) (node ∷ []) [] ++ filter q rest
    kept true = refl
    kept false = refl

    away : (b : Bool) → filter q rest ≡ cond (b && false) (node ∷ []) [] ++ filter q rest
    away true = refl
    away false = refl

    go : (b : Bool) → p node ≡ b → filter q (filter p (drop at nodes)) ≡ cond (q node && b) (node ∷ []) [] ++ filter q rest
    go true h = ap (filter q) (taken p nodes at node here h) ∙ kept (q node)
    go false h = ap (filter q) (passed p nodes at node here h) ∙ away (q node)

module _ (wanted : Wanted) (es : List Entry) (rows : List Row) (depth at : ℕ) (e : Entry) (row : Row) (within : at < length es) (is : e ≡ get_or es at e) (row_is : slice_get rows at ≡ Some row)
    (table : map (λ r. kept (shown (nodes_at es) r)) rows ≡ map (λ (node : Node). kept_at (nodes_at es) node.name) (nodes_at es)) where
  abbrev test : Bool
  test = takes wanted (is_some row.lack) && (is_some (node_at e).needs && (row.depth == depth))

  abbrev left : ℕ → List Node
  left k = passing (is_taken wanted (nodes_at es)) (is_at_depth (nodes_at es) depth) (nodes_at es) k

  here : slice_get (nodes_at es) at ≡ Some (node_at e)
  here = node_there es at e within is

  test_is : test ≡ (is_taken wanted (nodes_at es) (node_at e) && is_at_depth (nodes_at es) depth (node_at e))
  test_is =
      ap (λ d. takes wanted (is_some row.lack) && (is_some (node_at e).needs && (d == depth))) (kept_depth (nodes_at es) (nodes_at es) rows at row (node_at e) table row_is here)
      ∙ ap (λ b. takes wanted b && is_at_depth (nodes_at es) depth (node_at e)) (kept_lack (nodes_at es) (nodes_at es) rows at row (node_at e) table row_is here)

  left_is : left at ≡ cond test (node_at e ∷ []) [] ++ left (at + 1)
  left_is =
      passing_at (is_taken wanted (nodes_at es)) (is_at_depth (nodes_at es) depth) (nodes_at es) at (node_at e) here
      ∙ ap (λ b. cond b (node_at e ∷ []) [] ++ left (at + 1)) (sym test_is)

  -- where none is found, what was found is as before
  pub none_more : (o : Option Node) → o ≡ cond test (Some (node_at e)) None → o ≡ None → left at ≡ left (at + 1)
  none_more o said none = left_is ∙ ap (λ b. cond b (node_at e ∷ []) [] ++ left (at + 1)) (cond_none test (node_at e) (sym none ∙ said))

  -- one is found
  pub one_more : (o : Option Node) (x : Node) → o ≡ cond test (Some (node_at e)) None → o ≡ Some x → left at ≡ x ∷ left (at + 1)
  one_more o x said some =
      let p = cond_some test (node_at e) x (sym said ∙ some) in
      left_is ∙ ap (λ b. cond b (node_at e ∷ []) [] ++ left (at + 1)) p.0 ∙ ap (λ y. y ∷ left (at + 1)) p.1

-- ---- all depths

from_top : (a : ℕ) (rows : List Row) → a ≤ fold (λ d (r : Row). max d r.depth) a rows
from_top a [] = omega arith
from_top a (r ∷ rows) = let rest = from_top (max a r.depth) rows in omega arith

-- none is deeper than the deepest row
none_deeper : (all : List Node) (d top : ℕ) (rows : List Row) (nodes : List Node) → map (λ r. kept (shown all r)) rows ≡ map (λ (node : Node). kept_at all node.name) nodes
    → fold (λ d (r : Row). max d r.depth) top rows < d → filter (is_at_depth all d) nodes ≡ []
none_deeper all d top [] [] table less = refl
none_deeper all d top [] (x ∷ xs) table less = absurd cc
none_deeper all d top (r ∷ rows) [] table less = absurd cc
none_deeper all d top (r ∷ rows) (x ∷ xs) table less =
    let row : kept (shown all r) ≡ kept_at all x.name = cc in
    let depth : r.depth ≡ depth_in all x.name = ap (λ p. p.0) row in
    let rest : map (λ r. kept (shown all r)) rows ≡ map (λ (node : Node). kept_at all node.name) xs = cc in
    let most = from_top (max top r.depth) rows in
    let other : (depth_in all x.name == d) ≡ false = ne_eqb (depth_in all x.name) d (λ same. absurd (omega arith)) in
    go (is_some x.needs) (depth_in all x.name == d) other (none_deeper all d (max top r.depth) rows xs rest less)
  where
    go : (a b : Bool) → b ≡ false → filter (is_at_depth all d) xs ≡ [] → cond (a && b) (x ∷ filter (is_at_depth all d) xs) (filter (is_at_depth all d) xs) ≡ []
    go true true other rest = absurd cc
    go true false other rest = rest
    go false b other rest = rest

none_listed : (f : ℕ → List Node) (a k : ℕ) → ((d : ℕ) → a ≤ d → f d ≡ []) → flat_map f (range_with_len a k) ≡ []
none_listed f a zero none = refl
none_listed f a (suc k) none = rw (none a (omega arith)) (none_listed f (a + 1) k (λ d h. none d (omega arith)))

abbrev pub deepest_of : List Row → ℕ
deepest_of rows = fold (λ d (r : Row). max d r.depth) 0 rows

-- those of the depths that are left
abbrev pub depths_left : Wanted → List Node → ℕ → ℕ → List Node
depths_left wanted nodes n above = filter (is_taken wanted nodes) (flat_map (at_depth nodes) (range_with_len (above + 1) (n - above)))

module _ (wanted : Wanted) (es : List Entry) where
  abbrev n : ℕ
  n = length es

  -- all of them
  pub all_left : depths_left wanted (nodes_at es) n 0 ≡ filter (is_taken wanted (nodes_at es)) (by_depth (nodes_at es))
  all_left =
      let all : n - 0 ≡ length (nodes_at es) = let count = length-map es node_at in omega arith in
      ap (λ k. filter (is_taken wanted (nodes_at es)) (flat_map (at_depth (nodes_at es)) (range_with_len 1 k))) all
      ∙ ap (filter (is_taken wanted (nodes_at es))) (sym (by_depth_is (nodes_at es)))

  -- one depth further
  pub depth_next : (above : ℕ) → above < n → depths_left wanted (nodes_at es) n above ≡ filter (is_taken wanted (nodes_at es)) (at_depth (nodes_at es) (above + 1)) ++ depths_left wanted (nodes_at es) n (above + 1)
  depth_next above h =
      ap (filter (is_taken wanted (nodes_at es))) (next_depth (at_depth (nodes_at es)) n above h)
      ∙ filter-append (is_taken wanted (nodes_at es)) (at_depth (nodes_at es) (above + 1)) (flat_map (at_depth (nodes_at es)) (range_with_len (above + 1 + 1) (n - (above + 1))))

  -- none is left past the deepest
  pub none_left : (rows : List Row) (above : ℕ) → map (λ r. kept (shown (nodes_at es) r)) rows ≡ map (λ (node : Node). kept_at (nodes_at es) node.name) (nodes_at es)
      → min n (deepest_of rows) ≤ above → depths_left wanted (nodes_at es) n above ≡ []
  none_left rows above table end = ap (filter (is_taken wanted (nodes_at es))) (go (cases_lt above n))
    where
      go : (above < n) ⊎ (n ≤ above) → flat_map (at_depth (nodes_at es)) (range_with_len (above + 1) (n - above)) ≡ []
      go (inl h) = none_listed (at_depth (nodes_at es)) (above + 1) (n - above) (λ d low. none_deeper (nodes_at es) d 0 rows (nodes_at es) table (omega arith))
      go (inr h) = let past : n - above ≡ 0 = omega arith in ap (λ k. flat_map (at_depth (nodes_at es)) (range_with_len (above + 1) k)) past

-- where all are wanted, all are taken
pub all_taken : (nodes xs : List Node) → filter (is_taken All nodes) xs ≡ xs
all_taken nodes [] = refl
all_taken nodes (x ∷ xs) = ap (λ ys. x ∷ ys) (all_taken nodes xs)

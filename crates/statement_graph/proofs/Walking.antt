-- The flat statements by depth, gone through one by one.
use Rattle.std.proofs.Common.{◌≡◌, ℕ, zero, suc, ◌+◌, ◌-◌, ◌<◌, ◌≤◌, Bool, true, false, ◌&&◌, ◌==◌, cond, List, [], ◌∷◌, ◌++◌, map, filter, flat_map, length, drop, get_or, Option, Some, None, option_map, slice_get, is_some, refl, sym, ap, ◌∙◌, arith, add-one}
use Rattle.std.proofs.lemmas.List.{length-map}
use Rattle.std.proofs.lemmas.Option.{slice_get-map, none-some, cond_some}
use Rattle.statement_graph.specs.declared.node.Entry.{Entry}
use Rattle.statement_graph.specs.Seats.{node_at, nodes_at}
use Rattle.statement_graph.proofs.Finding.{node_there}
use Rattle.std.specs.List.{range_with_len}
use Rattle.map_defs.specs.Nodes.{Node, lacks}
use Rattle.map_defs.specs.Depths.{depth_in, by_depth}
use Rattle.statement_graph.specs.declared.row.Row.{Row}
use Rattle.statement_graph.specs.Tables.{need_at, shown, kept, kept_at}
use Rattle.statement_graph.specs.Walks.{is_at_depth, at_depth}

pub slice_get-append : {X : Type 0} (xs ys : List X) (k : ℕ) (x : X) → slice_get xs k ≡ Some x → slice_get (xs ++ ys) k ≡ Some x
slice_get-append [] ys k x e = absurd (none-some x e)
slice_get-append (y ∷ xs) ys zero x e = e
slice_get-append (y ∷ xs) ys (suc k) x e = slice_get-append xs ys k x e

is_some-map : {X Y : Type 0} (f : X → Y) (o : Option X) → is_some (option_map f o) ≡ is_some o
is_some-map f None = refl
is_some-map f (Some x) = refl

-- one that isn't at the depth is passed
pub passed : (p : Node → Bool) (nodes : List Node) (at : ℕ) (node : Node) → slice_get nodes at ≡ Some node → p node ≡ false → filter p (drop at nodes) ≡ filter p (drop (at + 1) nodes)
passed p [] at node e f = absurd (none-some node e)
passed p (x ∷ xs) zero node e f = let same : x ≡ node = cc in let q : p x ≡ false = ap p same ∙ f in rw q refl
passed p (x ∷ xs) (suc i) node e f = rw add-one (rw add-one at (passed p xs i node e f))

-- one that is at the depth is the next
pub taken : (p : Node → Bool) (nodes : List Node) (at : ℕ) (node : Node) → slice_get nodes at ≡ Some node → p node ≡ true → filter p (drop at nodes) ≡ node ∷ filter p (drop (at + 1) nodes)
taken p [] at node e f = absurd (none-some node e)
taken p (x ∷ xs) zero node e f = let same : x ≡ node = cc in let q : p x ≡ true = ap p same ∙ f in rw q (ap (λ y. y ∷ filter p xs) same)
taken p (x ∷ xs) (suc i) node e f = rw add-one (rw add-one at (taken p xs i node e f))

-- what a row keeps
module _ (all nodes : List Node) (rows : List Row) (at : ℕ) (row : Row) (node : Node) (table : map (λ r. kept (shown all r)) rows ≡ map (λ (node : Node). kept_at all node.name) nodes)
    (r : slice_get rows at ≡ Some row) (n : slice_get nodes at ≡ Some node) where
  kept_row : kept (shown all row) ≡ kept_at all node.name
  kept_row =
      let left = slice_get-map (λ r. kept (shown all r)) rows at ∙ ap (option_map (λ r. kept (shown all r))) r in
      let right = slice_get-map (λ (node : Node). kept_at all node.name) nodes at ∙ ap (option_map (λ (node : Node). kept_at all node.name)) n in
      let both : Some (kept (shown all row)) ≡ Some (kept_at all node.name) = sym left ∙ ap (λ l. slice_get l at) table ∙ right in
      cc

  pub kept_depth : row.depth ≡ depth_in all node.name
  kept_depth = ap (λ p. p.0) kept_row

  pub kept_lack : is_some row.lack ≡ is_some (lacks all node.name)
  kept_lack = sym (is_some-map (need_at all) row.lack) ∙ ap (λ p. is_some p.1) kept_row ∙ is_some-map Some (lacks all node.name)

pub cond_none : (b : Bool) (x : Node) → None ≡ cond b (Some x) None → b ≡ false
cond_none true x e = absurd (none-some x e)
cond_none false x e = refl

-- what stands at a place, and its row
module _ (es : List Entry) (rows : List Row) (depth at : ℕ) (e : Entry) (row : Row) (within : at < length es) (is : e ≡ get_or es at e) (row_is : slice_get rows at ≡ Some row)
    (table : map (λ r. kept (shown (nodes_at es) r)) rows ≡ map (λ (node : Node). kept_at (nodes_at es) node.name) (nodes_at es)) where
  at_depth_is : is_at_depth (nodes_at es) depth (node_at e) ≡ (is_some (node_at e).needs && (row.depth == depth))
  at_depth_is = ap (λ d. is_some (node_at e).needs && (d == depth)) (sym (kept_depth (nodes_at es) (nodes_at es) rows at row (node_at e) table row_is (node_there es at e within is)))

  pub goes_past : (o : Option Node) → o ≡ cond (is_some (node_at e).needs && (row.depth == depth)) (Some (node_at e)) None → o ≡ None
      → filter (is_at_depth (nodes_at es) depth) (drop at (nodes_at es)) ≡ filter (is_at_depth (nodes_at es) depth) (drop (at + 1) (nodes_at es))
  goes_past o said none = passed (is_at_depth (nodes_at es) depth) (nodes_at es) at (node_at e) (node_there es at e within is) (at_depth_is ∙ cond_none (is_some (node_at e).needs && (row.depth == depth)) (node_at e) (sym none ∙ said))

  pub comes_next : (o : Option Node) (x : Node) → o ≡ cond (is_some (node_at e).needs && (row.depth == depth)) (Some (node_at e)) None → o ≡ Some x
      → filter (is_at_depth (nodes_at es) depth) (drop at (nodes_at es)) ≡ x ∷ filter (is_at_depth (nodes_at es) depth) (drop (at + 1) (nodes_at es))
  comes_next o x said some =
      let p = cond_some (is_some (node_at e).needs && (row.depth == depth)) (node_at e) x (sym said ∙ some) in
      taken (is_at_depth (nodes_at es) depth) (nodes_at es) at (node_at e) (node_there es at e within is) (at_depth_is ∙ p.0) ∙ ap (λ y. y ∷ filter (is_at_depth (nodes_at es) depth) (drop (at + 1) (nodes_at es))) p.1

pub slice_get_tail : {X : Type 0} (x : X) (xs : List X) (k : ℕ) → (k ≡ 0 → ⊥) → slice_get (x ∷ xs) k ≡ slice_get xs (k - 1)
slice_get_tail x xs zero h = absurd (h refl)
slice_get_tail x xs (suc k) h = let e : k ≡ suc k - 1 = omega arith in ap (slice_get xs) e

-- ---- over all depths

pub by_depth_is : (nodes : List Node) → by_depth nodes ≡ flat_map (at_depth nodes) (range_with_len 1 (length nodes))
unfolding by_depth
by_depth_is nodes = refl

pub by_depth_at : (es : List Entry) (k : ℕ) → slice_get (flat_map (at_depth (nodes_at es)) (range_with_len 1 (length es))) k ≡ slice_get (by_depth (nodes_at es)) k
by_depth_at es k = ap (λ n. slice_get (flat_map (at_depth (nodes_at es)) (range_with_len 1 n)) k) (sym (length-map es node_at)) ∙ ap (λ l. slice_get l k) (sym (by_depth_is (nodes_at es)))

pub next_depth : (f : ℕ → List Node) (n above : ℕ) → above < n → flat_map f (range_with_len (above + 1) (n - above)) ≡ f (above + 1) ++ flat_map f (range_with_len (above + 1 + 1) (n - (above + 1)))
next_depth f n above h = let e : n - above ≡ suc (n - (above + 1)) = omega arith in ap (λ k. flat_map f (range_with_len (above + 1) k)) e

pub no_depth : (f : ℕ → List Node) (n above k : ℕ) → n ≤ above → slice_get (flat_map f (range_with_len (above + 1) (n - above))) k ≡ None
no_depth f n above k h = let e : n - above ≡ 0 = omega arith in ap (λ q. slice_get (flat_map f (range_with_len (above + 1) q)) k) e

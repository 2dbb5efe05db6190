-- A round that changes nothing is the last.
use Rattle.std.proofs.Common.{◌≡◌, ℕ, zero, suc, ◌+◌, ◌-◌, ◌≤◌, List, [], ◌∷◌, map, Option, Some, None, refl, sym, ap, ◌∙◌, arith}
use Rattle.map_defs.specs.Ops.{Name}
use Rattle.map_defs.specs.Nodes.{Node, find_node}
use Rattle.statement_graph.specs.declared.row.Row.{Row}
use Rattle.statement_graph.specs.Tables.{shown_all, shown_at, table_at, step_of}
use Rattle.statement_graph.proofs.Rounds.{step_at, shown_missing}

-- a round follows from the round before
next_shown : (nodes : List Node) (n m : Name) (j k : ℕ) → table_at j nodes n ≡ table_at k nodes n → shown_at (suc j) nodes n m ≡ shown_at (suc k) nodes n m
next_shown nodes n m j k same = go (find_node nodes m) refl
  where
    go : (o : Option Node) → find_node nodes m ≡ o → shown_at (suc j) nodes n m ≡ shown_at (suc k) nodes n m
    go None e = shown_missing (suc j) nodes n m e ∙ sym (shown_missing (suc k) nodes n m e)
    go (Some node) e = sym (step_at j nodes n m node e) ∙ ap (λ t. step_of nodes t n node) same ∙ step_at k nodes n m node e

map-agree : {X Y : Type 0} (f g : X → Y) → ((x : X) → f x ≡ g x) → (xs : List X) → map f xs ≡ map g xs
map-agree f g same [] = refl
map-agree f g same (x ∷ xs) = ap (λ y. y ∷ map f xs) (same x) ∙ ap (λ ys. g x ∷ ys) (map-agree f g same xs)

stays : (nodes : List Node) (n : Name) (k j m : ℕ) → table_at (suc k) nodes n ≡ table_at k nodes n → m ≡ j + k → table_at m nodes n ≡ table_at k nodes n
stays nodes n k zero m h e = let same : m ≡ k = omega arith in ap (λ q. table_at q nodes n) same
stays nodes n k (suc j) m h e =
    let same : m ≡ suc (j + k) = omega arith in
    ap (λ q. table_at q nodes n) same
    ∙ map-agree (λ (node : Node). shown_at (suc (j + k)) nodes n node.name) (λ (node : Node). shown_at (suc k) nodes n node.name) (λ node. next_shown nodes n node.name (j + k) k (stays nodes n k j (j + k) h refl)) nodes ∙ h

pub settled : (nodes : List Node) (n : Name) (k most : ℕ) (rows next : List Row) → k ≤ most → shown_all nodes rows ≡ table_at k nodes n → shown_all nodes next ≡ table_at (suc k) nodes n → next ≡ rows
    → shown_all nodes rows ≡ table_at most nodes n
settled nodes n k most rows next le now then same =
    now ∙ sym (stays nodes n k (most - k) most (sym then ∙ ap (shown_all nodes) same ∙ now) (omega arith))

-- What is missing, depth and cycles, worked.
use Rattle.std.specs.Prelude.{◌≡◌, true, false, List, [], ◌∷◌, map, Some, None, codes}
use Rattle.map_defs.specs.Ops.{Name}
use Rattle.map_defs.specs.Nodes.{Node, lacks, missing}
use Rattle.map_defs.specs.Depths.{depth_of, is_looped, by_depth}

abbrev pub source : Name → Node
source n = record { name = n; needs = None }

abbrev pub statement : Name → List Name → Node
statement n ns = record { name = n; needs = Some ns }

-- A is a source; B reads C, which isn't there
abbrev pub early : List Node
early = source (codes "A") ∷ statement (codes "B") (codes "C" ∷ []) ∷ []

-- S is a source; A reads B, and B reads A
abbrev pub loop : List Node
loop = source (codes "S") ∷ statement (codes "A") (codes "B" ∷ []) ∷ statement (codes "B") (codes "A" ∷ []) ∷ []

-- the inner statement of a call reads B, and B reads S alone
abbrev pub inner_loop : List Node
inner_loop = source (codes "S") ∷ statement (codes "B.x") (codes "B" ∷ []) ∷ statement (codes "B") (codes "S" ∷ []) ∷ []

-- B is a call of two statements over A, C reads B and a number, and D reads numbers alone
abbrev pub chain : List Node
chain = source (codes "A") ∷ statement (codes "C") (codes "B" ∷ []) ∷ statement (codes "B.x") (codes "A" ∷ []) ∷ statement (codes "B") (codes "B.x" ∷ []) ∷ statement (codes "D") [] ∷ []

pub record NodeRows : Type 0 where
  pub missing_name : missing early (codes "B") ≡ Some (codes "C")
  pub not_missing : missing early (codes "A") ≡ None
  pub not_there : missing early (codes "C") ≡ None
  pub lacks_itself : lacks early (codes "C") ≡ Some (codes "C")
  pub no_depth : depth_of early (codes "C") ≡ None
  pub over_missing : depth_of early (codes "B") ≡ Some 1
  pub looped : is_looped loop (codes "B") ≡ true
  pub looped_too : is_looped loop (codes "A") ≡ true
  pub reads_itself : is_looped (source (codes "S") ∷ statement (codes "B") (codes "B" ∷ []) ∷ []) (codes "B") ≡ true
  pub inner_alone : is_looped inner_loop (codes "B") ≡ false
  pub in_a_call : is_looped (statement (codes "A") (codes "B" ∷ []) ∷ statement (codes "B.x") (codes "A" ∷ []) ∷ statement (codes "B") (codes "B.x" ∷ []) ∷ []) (codes "B") ≡ true
  pub no_loop : is_looped chain (codes "B") ≡ false
  pub depths : map (depth_of chain) (codes "A" ∷ codes "B.x" ∷ codes "B" ∷ codes "C" ∷ codes "D" ∷ []) ≡ Some 0 ∷ Some 1 ∷ Some 2 ∷ Some 3 ∷ Some 1 ∷ []
  pub ordered : map (λ (node : Node). node.name) (by_depth chain) ≡ codes "B.x" ∷ codes "D" ∷ codes "B" ∷ codes "C" ∷ []

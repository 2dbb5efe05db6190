-- Without a cycle a layer has a grid exactly where it lacks no name.
use Rattle.std.proofs.Common.{◌≡◌, ℕ, zero, suc, true, false, cond, not, List, [], ◌∷◌, map, flat_map, length, Option, Some, None, is_some, option_map, bytes_eq, if◌then◌else◌, refl, sym, ap, ◌∙◌}
use Rattle.std.proofs.lemmas.Bool.{true≢false, or_left, or_right}
use Rattle.map_nums.specs.Grids.{Size, Cells, Grid}
use Rattle.map_defs.specs.Ops.{Name, Term, layer_term, number_term, term_names}
use Rattle.map_defs.specs.Operate.{operate}
use Rattle.map_defs.specs.Nodes.{find_node, needs_in, lacks, first_some}
use Rattle.map_edits.specs.LayerDefs.{Making, given_grid, by_op, layers, find_making, nodes_of}
use Rattle.map_edits.specs.EngineStates.{EngineState, all_some, term_cells, made, value_of}
use Rattle.map_edits.specs.Laws.{is_among, HasNoCycle}
use Rattle.map_edits.proofs.Among.{bytes_eq-self, none_at}
use Rattle.map_edits.proofs.Chains.{goes_on, chains_end}
use Rattle.map_edits.proofs.Looks.{making_needs, needs_in-layers, is_some-option_map, is_some-layers}
use Rattle.map_edits.proofs.Unfolds.{lacks_unfolds, value_unfolds}

-- whether all cells are there, with one list more in front
all_some-cons : (o : Option Cells) (os : List (Option Cells)) → is_some (all_some (o ∷ os)) ≡ cond (is_some o) (is_some (all_some os)) false
all_some-cons None os = refl
all_some-cons (Some cells) os = is_some-option_map (λ rest. cells ∷ rest) (all_some os)

first_some-cons : (o : Option Name) (os : List (Option Name)) → not (is_some (first_some (o ∷ os))) ≡ cond (not (is_some o)) (not (is_some (first_some os))) false
first_some-cons None os = refl
first_some-cons (Some n) os = refl

module _ (size : Size) (grid_of : Name → Option Grid) (lack_of : Name → Option Name) where
  -- all operands are there exactly where no name that is needed lacks one
  operands_defined : (ts : List Term) → ((m : Name) → is_among m (flat_map term_names ts) ≡ true → is_some (grid_of m) ≡ not (is_some (lack_of m)))
      → is_some (all_some (map (term_cells size grid_of) ts)) ≡ not (is_some (first_some (map lack_of (flat_map term_names ts))))
  operands_defined [] same = refl
  operands_defined (layer_term n ∷ ts) same =
      let first : is_some (grid_of n) ≡ not (is_some (lack_of n)) = same n (or_left (bytes_eq n n) (is_among n (flat_map term_names ts)) (bytes_eq-self n)) in
      let rest = operands_defined ts (λ m a. same m (or_right (bytes_eq n m) (is_among m (flat_map term_names ts)) a)) in
      all_some-cons (option_map (λ (g : Grid). g.cells) (grid_of n)) (map (term_cells size grid_of) ts)
      ∙ ap (λ b. cond b (is_some (all_some (map (term_cells size grid_of) ts))) false) (is_some-option_map (λ (g : Grid). g.cells) (grid_of n) ∙ first)
      ∙ ap (λ b. cond (not (is_some (lack_of n))) b false) rest
      ∙ sym (first_some-cons (lack_of n) (map lack_of (flat_map term_names ts)))
  operands_defined (number_term z ∷ ts) same = all_some-cons (term_cells size grid_of (number_term z)) (map (term_cells size grid_of) ts) ∙ operands_defined ts same

  made_defined : (n : Name) (o : Option Making) → ((m : Name) → is_among m (making_needs o) ≡ true → is_some (grid_of m) ≡ not (is_some (lack_of m)))
      → is_some (made size grid_of o) ≡ not (is_some (if is_some o then first_some (map lack_of (making_needs o)) else Some n))
  made_defined n None same = refl
  made_defined n (Some (given_grid grid)) same = refl
  made_defined n (Some (by_op op)) same = is_some-option_map (operate size op) (all_some (map (term_cells size grid_of) op.terms)) ∙ operands_defined op.terms same

module _ (s : EngineState) (none : HasNoCycle (nodes_of s.entries)) where
  defined_by : (k : ℕ) (n : Name) → goes_on k (nodes_of s.entries) n ≡ false → is_some (value_of s n) ≡ not (is_some (lacks (nodes_of s.entries) n))
  defined_by zero n e = absurd (true≢false e)
  defined_by (suc k) n e =
      let nodes = nodes_of s.entries in
      let ls = layers s.entries in
      ap is_some (value_unfolds s none n)
      ∙ made_defined s.size (value_of s) (lacks nodes) n (find_making ls n) (λ m a. defined_by k m (none_at (goes_on k nodes) (needs_in nodes n) m (ap (is_among m) (needs_in-layers ls n) ∙ a) e))
      ∙ ap (λ b. not (is_some (if b then first_some (map (lacks nodes) (making_needs (find_making ls n))) else Some n))) (sym (is_some-layers ls n))
      ∙ ap (λ ms. not (is_some (if is_some (find_node nodes n) then first_some (map (lacks nodes) ms) else Some n))) (sym (needs_in-layers ls n))
      ∙ ap (λ o. not (is_some o)) (sym (lacks_unfolds nodes none n))

  pub value_is_defined : (n : Name) → is_some (value_of s n) ≡ not (is_some (lacks (nodes_of s.entries) n))
  value_is_defined n = defined_by (suc (length (nodes_of s.entries))) n (chains_end (nodes_of s.entries) none n)

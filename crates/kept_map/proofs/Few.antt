-- How many layers and nodes there may be, and how many terms an operation.
use Rattle.std.proofs.Common.{◌≡◌, ℕ, zero, suc, ◌+◌, ◌≤◌, List, [], ◌∷◌, length, Some, is_some, slice_get, refl, sym, subst, ◌∙◌, arith, ◌++◌, map, count_by, Bool, cond, filter, sum_by, not}
use Rattle.std.proofs.lemmas.Option.{none-some, same_Some}
use Rattle.map_defs.specs.Ops.{Name, Term, layer_term, number_term, Op}
use Rattle.map_defs.specs.Depths.{by_depth}
use Rattle.statement_parser.specs.Formed.{Each}
use Rattle.map_edits.specs.LayerDefs.{layers, nodes_of, LayerDef, flat_layer, layers_of}
use Rattle.op_jobs.specs.Ranges.{IsInRange, HasRanges}
use Rattle.op_jobs.proofs.Ranges.{terms_few}
use Rattle.edit_plans.specs.Planned.{HasValue, HasOperands, whole_names}
use Rattle.map_defs.specs.Nodes.{Node, lacks}
use Rattle.map_edits.specs.Entries.{Entry, Def, source, statement}
use Rattle.map_edits.specs.Limits.{is_source, is_flat, most_sources, most_flats}
use Rattle.map_edits.proofs.Looks.{length-nodes}
use Rattle.procedure_expand.specs.declared.flat.Flat.{Flat}
use Rattle.std.proofs.lemmas.List.{length-append, length-map}
use Rattle.std.proofs.lemmas.List.Sums.{sum_by-cons, sum_by-append, length-filter, count_by-le-length}
use Rattle.map_edits.specs.CountLaws.{flats_within}
use Rattle.map_edits.proofs.Summed.{depth_is_place}
use Rattle.map_defs.specs.Statements as statements

-- ---- layers and nodes

flats_counted : (fs : List statements.Flat) → length (map flat_layer fs) ≤ count_by is_flat (map flat_layer fs)
flats_counted [] = omega arith
flats_counted (f ∷ fs) = let rest = flats_counted fs in let one = sum_by-cons (λ l. cond (is_flat l) 1 0) (flat_layer f) (map flat_layer fs) in omega arith

layers_counted : (n : Name) (d : Def) → length (layers_of (record { name = n; def = d })) ≤ cond (is_source (record { name = n; def = d })) 1 0 + count_by is_flat (layers_of (record { name = n; def = d }))
layers_counted n (source grid) = omega arith
layers_counted n (statement written flats) = let all = flats_counted flats in omega arith

-- no more than the sources and the flat statements
pub few_layers : (es : List Entry) → length (layers es) ≤ count_by is_source es + count_by is_flat (layers es)
few_layers [] = omega arith
few_layers (e ∷ es) =
    let rest = few_layers es in
    let one = layers_counted e.name e.def in
    let sources = sum_by-cons (λ x. cond (is_source x) 1 0) e es in
    let joined = length-append (layers_of e) (layers es) in
    let flats : count_by is_flat (layers_of e ++ layers es) ≡ count_by is_flat (layers_of e) + count_by is_flat (layers es) = sum_by-append (λ (l : LayerDef). cond (is_flat l) 1 0) (layers_of e) (layers es) in
    omega arith

pub few_nodes : (es : List Entry) → length (nodes_of es) ≤ count_by is_source es + count_by is_flat (layers es)
few_nodes es = let same = length-nodes es in let few = few_layers es in omega arith

pub few_within : (es : List Entry) → count_by is_source es ≤ most_sources → count_by is_flat (layers es) ≤ most_flats → length (nodes_of es) ≤ most_sources + most_flats
few_within es sources flats = let few = few_nodes es in omega arith

ones : {X : Type 0} (xs : List X) → sum_by (λ (x : X). 1) xs ≡ length xs
ones [] = refl
ones {X} (x ∷ xs) = let rest = ones xs in let one = sum_by-cons (λ (x : X). 1) x xs in omega arith

few_kept : {X : Type 0} (p : X → Bool) (xs : List X) → length (filter p xs) ≤ length xs
few_kept p xs = let same = length-filter p xs in let few = count_by-le-length p xs in omega arith

few_by_depth : (nodes : List Node) → length (by_depth nodes) ≤ length nodes
unfolding by_depth
few_by_depth nodes =
    let same : length (by_depth nodes) ≡ length (flats_within (length nodes) nodes) = sym (ones (by_depth nodes)) ∙ depth_is_place (λ (node : Node). 1) (length nodes) nodes ∙ ones (flats_within (length nodes) nodes) in
    let few : length (flats_within (length nodes) nodes) ≤ length nodes = few_kept _ nodes in
    omega arith

pub few_whole : (nodes : List Node) → length (whole_names nodes (by_depth nodes)) ≤ length nodes
few_whole nodes =
    let kept : List Node = filter (λ (node : Node). not (is_some (lacks nodes node.name))) (by_depth nodes) in
    let named : length (whole_names nodes (by_depth nodes)) ≡ length kept = length-map kept (λ (node : Node). node.name) in
    let whole : length kept ≤ length (by_depth nodes) = few_kept _ (by_depth nodes) in
    let listed = few_by_depth nodes in
    omega arith

-- ---- an operation whose numbers are in range has at most eight terms, and no other number

each_value : (us : List Term) → Each IsInRange us → (k : ℕ) (u : Term) → slice_get us k ≡ Some u → HasValue u
each_value [] each k u e = absurd (none-some u e)
each_value (layer_term n ∷ us) each zero u e = subst HasValue (same_Some (layer_term n) u e) tt
each_value (number_term z ∷ us) each zero u e = subst HasValue (same_Some (number_term z) u e) each.0
each_value (v ∷ us) each (suc k) u e = each_value us each.1 k u e

pub has_operands : (op : Op) → HasRanges op → HasOperands op
has_operands op r = record { few = terms_few op r; values = each_value op.terms r.2 }

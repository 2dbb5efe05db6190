-- What a refused edit may read is what it might read if it had no fault, cut at a depth.
use Rattle.std.proofs.Common.{◌≡◌, ℕ, ◌≤◌, Bool, true, nat_le, List, [], ◌∷◌, length, filter, sum_by, Option, Some, None, inl, inr, refl, sym, ap, subst, ◌∙◌, arith}
use Rattle.std.proofs.lemmas.Bool.{le-leb, cases_Bool}
use Rattle.std.proofs.lemmas.List.Sums.{sum_by-cons}
use Rattle.map_defs.specs.Depths.{depth_in}
use Rattle.map_edits.specs.LayerDefs.{LayerDef, layers, nodes_of}
use Rattle.map_edits.specs.EngineStates.{EngineState}
use Rattle.map_edits.specs.Faults.{Fault}
use Rattle.map_edits.specs.Touches.{Touch, touch_of}
use Rattle.map_edits.specs.EditCounts.{Counts, defined_layers, counts_over, counts_of}
use Rattle.map_edits.specs.LayerChanges.{damage_of, work_of}
use Rattle.map_edits.specs.Counted.{Accepted, fault_after}
use Rattle.map_edits.specs.Allowances.{Reads, reads_for, faulty_name, layers_to, counts_to, reads_of_attempt, edit_reads}
use Rattle.map_edits.specs.CountLaws.{NoneIsDeeper, IsWithin, AcceptedReads, FaultReads, OtherReads}
use Rattle.map_edits.proofs.LawfulEdits.{done_is}
use Rattle.map_edits.proofs.Unfolds.{depth_in_le_nodes}
use Rattle.map_edits.proofs.Looks.{length-nodes}

pub filter_all : {X : Type 0} (p : X → Bool) → ((x : X) → p x ≡ true) → (xs : List X) → filter p xs ≡ xs
filter_all p all [] = refl
filter_all p all (x ∷ xs) = rw (all x) (ap (λ ys. x ∷ ys) (filter_all p all xs))

sum_fewer : {X : Type 0} (f : X → ℕ) (p : X → Bool) (xs : List X) → sum_by f (filter p xs) ≤ sum_by f xs
sum_fewer f p [] = omega arith
sum_fewer f p (x ∷ xs) =
    let kept = sum_by-cons f x (filter p xs) in let all = sum_by-cons f x xs in let rest = sum_fewer f p xs in
    elim (cases_Bool (p x)) [ inl h ↦ rw h (omega arith) | inr h ↦ rw h (omega arith) ]

pub none_is_deeper : NoneIsDeeper
none_is_deeper t none =
    filter_all (λ (l : LayerDef). nat_le (depth_in (nodes_of t.entries) l.name) (length (layers t.entries)))
    (λ l. let deep = depth_in_le_nodes (nodes_of t.entries) none l.name in let same = length-nodes t.entries in
    le-leb (depth_in (nodes_of t.entries) l.name) (length (layers t.entries)) (omega arith))
    (defined_layers t)

within_self : (a : Reads) → IsWithin a a
within_self a = record { looks = omega arith; picks = omega arith }

cut_within : (touch : Touch) (s t : EngineState) (o : Option Fault) → IsWithin (reads_for (counts_to touch s t o)) (reads_for (counts_of touch s t))
cut_within touch s t None = within_self (reads_for (counts_of touch s t))
cut_within touch s t (Some f) =
    let shallow : LayerDef → Bool = λ l. nat_le (depth_in (nodes_of t.entries) l.name) (depth_in (nodes_of t.entries) (faulty_name f)) in
    let whole : Counts = counts_of touch s t in
    let cut : Counts = counts_over touch s t (layers_to t (depth_in (nodes_of t.entries) (faulty_name f))) in
    let tiles : cut.evaluated ≤ whole.evaluated = sum_fewer (λ (l : LayerDef). length (damage_of touch s t l)) shallow (defined_layers t) in
    let work : cut.worked ≤ whole.worked = sum_fewer (λ (l : LayerDef). work_of touch s t l) shallow (defined_layers t) in
    record { looks = omega (arith, tiles); picks = omega (arith, work) }

pub fault_reads : FaultReads
unfolding edit_reads
fault_reads s t e is =
    subst (λ r. IsWithin (reads_of_attempt s e r) (reads_for (counts_of (touch_of e) s.names t.names))) (sym is) (cut_within (touch_of e) s.names t.names (fault_after e t))

pub other_reads : OtherReads
unfolding edit_reads
other_reads s e r is = ap (reads_of_attempt s e) is

pub accepted_reads : AcceptedReads
unfolding edit_reads
accepted_reads s e a is =
    let r = done_is s e a is in
    ap (reads_of_attempt s e) r.is ∙ ap (λ o. reads_for (counts_to (touch_of e) s.names r.state.names o)) r.faultless ∙ ap (λ (b : Accepted). reads_for b.counts) r.same

-- Reading by a rule, word by word, with the refusal.
use Rattle.std.specs.Prelude.{ℕ, suc, Bool, true, false, ◌&&◌, List, [], ◌∷◌, length, Option, Some, None, Result, Ok, Err, if◌then◌else◌}
use Rattle.grammar_core.specs.declared.Kind.{Kind}
use Rattle.grammar_core.specs.declared.Kind.TheVariants.{Syntax, Number, Operation}
use Rattle.grammar_core.specs.declared.Fault.{Fault}
use Rattle.grammar_core.specs.Rules.{Rule, fail, node, end_of, step}
use Rattle.grammar_core.specs.Refusals.{Tests, is_number_next, is_unknown}

abbrev pub is_node : {W X : Type 0} → Rule W X → Bool
is_node fail = false
is_node (node e s) = true

abbrev pub takes : {W X : Type 0} → Rule W X → W → Bool
takes r w = is_node (step r w)

abbrev pub refused : {X : Type 0} → Kind → ℕ → Result X Fault
refused k n = Err (record { kind = k; left = n })

abbrev pub finish : {X : Type 0} → Option X → Result X Fault
finish None = refused Syntax 0
finish (Some x) = Ok x

abbrev pub kind_at : {W X : Type 0} → Tests W → Rule W X → List W → Kind
kind_at t r ws = if takes r t.number && is_number_next t ws then Number else Syntax

unfoldable pub run : {W X : Type 0} → Tests W → Rule W X → List W → Result X Fault
run t r [] = finish (end_of r)
run t r (w ∷ ws) =
    if takes r t.operation && is_unknown t (w ∷ ws) then refused Operation (suc (length ws))
    else (if takes r w then run t (step r w) ws
    else refused (kind_at t r (w ∷ ws)) (suc (length ws)))

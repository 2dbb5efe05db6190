use Rattle.std.proofs.Common.{◌≡◌, map, take}
use Rattle.map_defs.specs.Ops.{layer_term}
use Rattle.statement_parser.specs.Views.{terms_view}
use Rattle.bench_texts.proofs.scene.sum_of.Given as goal

abbrev pub invariant-loop-name : goal.invariant-loop-name
invariant-loop-name l = terms_view l.terms.items ≡ map (λ n. layer_term n) (take l.name-index l.names)

use Rattle.std.proofs.Common.{false, option_copied, option_map, bytes_eq, ap, sym, ◌∙◌}
use Rattle.std.proofs.lemmas.Map.Made.{lookup-map_values}
use Rattle.edit_plans.specs.Planned.{FlatDef}
use Rattle.statement_parser.specs.declared.op.Op.{Op}
use Rattle.bench_texts.proofs.scene.SceneFlatStatements.find.Goals as goal

flat : Op → FlatDef
flat o = record { op = o; written = false }

pub returns-in-Some : goal.returns-in-Some
unfolding flat
returns-in-Some c = ap (option_map flat) (sym (ap option_copied c.in-Some.is) ∙ c.get.ensures.value) ∙ sym (lookup-map_values flat (bytes_eq c.args.name.now) c.args.self.now.ops.entries)

pub returns-in-None : goal.returns-in-None
unfolding flat
returns-in-None c = ap (option_map flat) (sym (ap option_copied c.in-None.is) ∙ c.get.ensures.value) ∙ sym (lookup-map_values flat (bytes_eq c.args.name.now) c.args.self.now.ops.entries)

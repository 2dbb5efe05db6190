use Rattle.std.proofs.Common.{◌∙◌, sym, ap, Some, None}
use Rattle.std.specs.Option.{option_copied}
use Rattle.kept_map.specs.Maps.{source_in}
use Rattle.kept_map.specs.declared.maps.Item.TheVariants.{Source, Statement}
use Rattle.live_engine.proofs.Counted.{kind_at}
use Rattle.live_engine.proofs.limits.kind_of.Goals as goal

pub returns-in-None : goal.returns-in-None
returns-in-None c =
    kind_at c.args.map.now.extent (source_in c.args.map.now.sources) c.args.map.now.names.entries c.args.name.now None (sym c.get.ensures.value ∙ ap option_copied c.in-None.is)

pub returns-in-Some-Source : goal.returns-in-Some-Source
returns-in-Some-Source c =
    kind_at c.args.map.now.extent (source_in c.args.map.now.sources) c.args.map.now.names.entries c.args.name.now (Some Source)
    (sym c.get.ensures.value ∙ ap option_copied c.in-Some-Source.is ∙ ap Some c.in-Some-Source.field-0-is)

pub returns-in-Some-Statement : goal.returns-in-Some-Statement
returns-in-Some-Statement c =
    kind_at c.args.map.now.extent (source_in c.args.map.now.sources) c.args.map.now.names.entries c.args.name.now (Some (Statement c.in-Some-Statement.field-0-0 c.in-Some-Statement.field-0-1))
    (sym c.get.ensures.value ∙ ap option_copied c.in-Some-Statement.is ∙ ap Some c.in-Some-Statement.field-0-is)

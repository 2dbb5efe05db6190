use Rattle.std.proofs.Common.{◌≡◌, ◌<◌, length, None, Some, position, bytes_eq, slice_get, refl, sym, ap, ◌∙◌, arith}
use Rattle.std.proofs.lemmas.Option.{slice_get_read}
use Rattle.map_defs.specs.Nodes.{missing}
use Rattle.edit_plans.proofs.There.{none_where}
use Rattle.kept_map.proofs.LayersByName.{source_told, statement_told, nothing_told, graph_nodes}
use Rattle.kept_map.proofs.maps.KeptMap.layer.Goals as goal

pub returns-in-Some-clause-tells : goal.returns-in-Some-clause-tells
returns-in-Some-clause-tells c =
    let m = c.args.self.now in
    let there : slice_get m.sources.layers.items c.in-Some.place ≡ Some c.index.result.now = slice_get_read m.sources.layers.items (length m.sources.layers.items) c.in-Some.place c.index.result.now refl (omega (arith, c.in-Some.ensures.within, c.requires.sources.count)) c.index.ensures in
    let told = source_told m c.requires c.args.name.now c.in-Some.place c.index.result.now (sym c.get_index_of.ensures.index ∙ c.in-Some.is) there in
    (told.0, told.1)

pub returns-in-Some-get_index_of : goal.returns-in-Some-get_index_of
returns-in-Some-get_index_of c =
    let m = c.args.self.now in
    let n = c.args.name.now in
    let place = c.in-Some-get_index_of.place in
    let own = c.index-in-Some-get_index_of.result.now in
    let absent : position (bytes_eq n) m.sources.names.keys ≡ None = sym c.get_index_of.ensures.index ∙ none_where c.get_index_of.result c.in_default.not-Some in
    let within : place < length m.kept.items = omega (arith, c.in-Some-get_index_of.ensures.within, c.requires.statements.count, c.requires.statements.planned_are.count) in
    let told = statement_told m c.requires n place own absent (sym c.get_index_of-2.ensures.index ∙ c.in-Some-get_index_of.is) (slice_get_read m.kept.items (length m.kept.items) place own refl within c.index-in-Some-get_index_of.ensures) in
    record { tells = (told.0, told.1); size = told.2 }

pub returns-in-None-clause-tells : goal.returns-in-None-clause-tells
returns-in-None-clause-tells c =
    let m = c.args.self.now in
    let n = c.args.name.now in
    let absent : position (bytes_eq n) m.sources.names.keys ≡ None = sym c.get_index_of.ensures.index ∙ none_where c.get_index_of.result c.in_default.not-Some in
    let unplanned : position (bytes_eq n) m.planned.names.keys ≡ None = sym c.get_index_of-2.ensures.index ∙ c.in-None.is in (
      nothing_told m c.requires n absent unplanned,
      ap (λ nodes. missing nodes n) (sym (graph_nodes m c.requires n)) ∙ sym c.missing.ensures,
    )

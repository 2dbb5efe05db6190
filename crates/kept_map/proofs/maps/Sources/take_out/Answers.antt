use Rattle.std.proofs.Common.{◌≡◌, ◌<◌, length, position, Some, bytes_eq, sym, refl, ◌∙◌, arith}
use Rattle.std.proofs.lemmas.Option.{same_Some, slice_get_read}
use Rattle.edit_plans.proofs.Positions.{position_at}
use Rattle.kept_map.proofs.maps.Sources.take_out.Goals as goal

pub returns-clause-out : goal.returns-clause-out
returns-clause-out c =
    let sources = c.args.self.now in
    let place = c.in_ok-place.place in
    let at : position (bytes_eq c.args.name.now) sources.names.keys ≡ Some place = sym c.in_ok-place.ensures.index in
    let within : place < length sources.layers.items = omega (arith, c.in_ok-place.ensures.within, c.requires.count) in (
      same_Some c.in_ok-own.own c.args.name.now (c.in_ok-own.ensures.key ∙ position_at c.args.name.now sources.names.keys place at),
      slice_get_read sources.layers.items (length sources.layers.items) place c.remove-layer.result refl within c.remove-layer.ensures.value,
    )

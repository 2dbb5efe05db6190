use Rattle.std.proofs.Common.{ap, ◌∙◌}
use Rattle.layer_tiles.specs.Tiles.{tiles_down, tiles_across}
use Rattle.map_display.proofs.Told.{whole_stamps}
use Rattle.map_display.proofs.stamps.print_stamps.Goals as goal

pub returns : goal.returns
returns c =
    whole_stamps c.args.name.now c.args.layer.now.size c.args.layer.now.stamps c.in_ok-text.text.items c.put_counted.new.text.items c.put_counted-2.new.text.items c.push.new.self.items c.put_rows.new.text.items c.tiles_down.result c.tiles_across.result
    c.in_ok-text.ensures c.in_ok-put_counted.ensures c.in_ok-put_counted-2.ensures c.in_ok-push.ensures.items
    (c.tiles_down.ensures.down ∙ ap tiles_down c.extent-extent.ensures.extent) (c.tiles_across.ensures.across ∙ ap tiles_across c.extent-extent.ensures.extent) c.in_ok-put_rows.ensures

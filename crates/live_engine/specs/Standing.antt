-- What a name stands for, in three kinds.
use Rattle.std.specs.Prelude.{Bool, true, false, Option, Some, None}
use Rattle.map_edits.specs.Entries.{Def, source, statement}
use Rattle.kept_map.specs.declared.maps.Item.{Item}
use Rattle.kept_map.specs.declared.maps.Item.TheVariants.{Source, Statement}
use Rattle.live_engine.specs.declared.limits.Kind.{Kind}
use Rattle.live_engine.specs.declared.limits.Kind.TheVariants as stands

abbrev pub is_source_item : Item → Bool
is_source_item Source = true
is_source_item (Statement written flats) = false

abbrev pub standing_of : Option Def → Kind
standing_of None = stands.Nothing
standing_of (Some (source grid)) = stands.Source
standing_of (Some (statement written flats)) = stands.Statement

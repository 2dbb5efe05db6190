use Rattle.std.proofs.Common.{refl}
use Rattle.kept_map.proofs.Copied.{kept_empty}
use Rattle.kept_map.proofs.maps.KeptMap.new.Goals as goal

pub returns-clause-kept : goal.returns-clause-kept
returns-clause-kept c =
    kept_empty _ c.new.ensures.empty c.new-8.ensures c.new-9.ensures c.new-10.ensures refl c.columns-columns.ensures.size c.new-2.ensures c.new-3.ensures.empty c.new-4.ensures.items c.new-5.ensures.empty c.new-6.ensures.items c.new-7.ensures.items

use Rattle.std.proofs.Common.{refl}
use Rattle.map_defs.specs.Nodes.{lacks, missing}
use Rattle.map_defs.specs.Depths.{depth_of, is_looped, by_depth}
use Rattle.map_rows.proofs.nodes.node_rows.Goals as goal

pub returns : goal.returns
unfolding lacks missing depth_of is_looped by_depth
returns c = record { missing_name = refl; not_missing = refl; not_there = refl; lacks_itself = refl; no_depth = refl; over_missing = refl; looped = refl; looped_too = refl; reads_itself = refl; inner_alone = refl; in_a_call = refl; no_loop = refl; depths = refl; ordered = refl }

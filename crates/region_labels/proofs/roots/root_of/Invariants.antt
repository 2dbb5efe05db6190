use Rattle.std.proofs.Common.{◌≡◌, ◌≤◌}
use Rattle.region_labels.specs.Roots.{told_in, root_in}
use Rattle.region_labels.proofs.roots.root_of.Given as goal

abbrev pub invariant-loop-next : goal.invariant-loop-next
invariant-loop-next l = record {
  same : root_in l.labels l.root ≡ root_in l.labels l.at;
  told : l.next ≡ told_in l.labels l.root;
  least : l.root ≤ l.at;
}

abbrev pub decreases-loop-next : goal.decreases-loop-next
decreases-loop-next l = l.root

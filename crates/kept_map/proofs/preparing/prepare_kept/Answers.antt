use Rattle.kept_map.proofs.Replanning.{same_planned}
use Rattle.kept_map.proofs.preparing.prepare_kept.Goals as goal

pub repaired-requires-clause-planned : goal.repaired-requires-clause-planned
repaired-requires-clause-planned g c κs within =
    let r = c.requires.set_up in
    (r.0, r.1, _, same_planned c.requires.kept r.2 r.3)

pub returns : goal.returns
returns g c = record {
  prepared = λ e t set_up same. c.repaired.ensures.prepared e t _ (same_planned c.requires.kept set_up same);
  halted = λ e t set_up same. c.repaired.ensures.halted e t _ (same_planned c.requires.kept set_up same);
  tally = λ e t set_up same. c.repaired.ensures.tally e t _ (same_planned c.requires.kept set_up same);
}

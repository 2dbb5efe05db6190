use Rattle.std.proofs.Common.{◌≡◌, ◌+◌, List, [], ◌∷◌, ◌++◌, length, Some, slice_get, refl, sym, subst, arith}
use Rattle.std.specs.List.{All}
use Rattle.std.proofs.lemmas.List.{map_push}
use Rattle.std.proofs.lemmas.List.Elements.{All-push}
use Rattle.std.proofs.lemmas.Option.{slice_get_read}
use Rattle.layer_tiles.specs.Changes.{ChangeState}
use Rattle.map_waves.specs.Operands.{IsOperand}
use Rattle.map_waves.specs.Tasks.{AreBetween, StaysAt, IsTask, places_of}
use Rattle.map_waves.specs.declared.tasks.Task.{Task}
use Rattle.map_waves.proofs.Making.{operands_are, planned_at, between_stays, between_push, stays_at, is_task}
use Rattle.map_waves.proofs.tasks.tasks_of.Goals as goal

pub stays-requires-clause-within : goal.stays-requires-clause-within
stays-requires-clause-within g c ks lives =
    (planned_at g.K.Maker.means g.K.Maker.formed g.K.Maker.suits c.args.base.now c.args.steps.now (length c.args.prepared.now) c.args.end c.loop-place.place c.index-steps-place.result c.requires.planned c.requires.alike (omega arith) (omega arith) c.requires.most c.index-steps-place.is).refs

pub operands_of-operands-requires-clause-within : goal.operands_of-operands-requires-clause-within
operands_of-operands-requires-clause-within g c ks lives =
    (planned_at g.K.Maker.means g.K.Maker.formed g.K.Maker.suits c.args.base.now c.args.steps.now (length c.args.prepared.now) c.args.end c.loop-place.place c.index-steps-place.result c.requires.planned c.requires.alike (omega arith) (omega arith) c.requires.most c.index-steps-place.is).refs

pub operands_of-operands-requires-clause-count : goal.operands_of-operands-requires-clause-count
operands_of-operands-requires-clause-count g c ks lives =
    (planned_at g.K.Maker.means g.K.Maker.formed g.K.Maker.suits c.args.base.now c.args.steps.now (length c.args.prepared.now) c.args.end c.loop-place.place c.index-steps-place.result c.requires.planned c.requires.alike (omega arith) (omega arith) c.requires.most c.index-steps-place.is).few

pub loop-place-preserved-then-stays : goal.loop-place-preserved-then-stays
loop-place-preserved-then-stays g c =
    let k = g.K.Maker in
    let base = c.args.base.now in
    let steps = c.args.steps.now in
    let first = length c.args.prepared.now in
    let place = c.loop-place.place in
    let x = c.index-steps-place.result in
    let there : slice_get steps place ≡ Some x = slice_get_read steps (length steps) place x refl (omega arith) c.index-steps-place.is in
    let step = planned_at k.means k.formed k.suits base steps first c.args.end place x c.requires.planned c.requires.alike (omega arith) (omega arith) c.requires.most c.index-steps-place.is in
    let operands = operands_are k.suits base c.requires.base k.means steps c.args.prepared.now c.requires.prepared (omega arith) place x.refs.items (omega arith) step.refs in
    let yes = c.if-stays.true in
    let stays = stays_at k.means k.formed k.suits base steps place x there c.requires.base c.requires.right first step (c.stays.ensures.left yes) (c.stays.ensures.there yes) operands (c.stays.ensures.same yes place (omega arith)) in
    record {
      between = between_stays (StaysAt k.means k.suits base steps) first place (places_of c.loop-place.tasks.items) c.loop-place.invariant.between (omega arith) stays;
      each = c.loop-place.invariant.each;
    }

pub loop-place-preserved : goal.loop-place-preserved
loop-place-preserved g c =
    let k = g.K.Maker in
    let base = c.args.base.now in
    let steps = c.args.steps.now in
    let first = length c.args.prepared.now in
    let place = c.loop-place.place in
    let x = c.index-steps-place.result in
    let there : slice_get steps place ≡ Some x = slice_get_read steps (length steps) place x refl (omega arith) c.index-steps-place.is in
    let step = planned_at k.means k.formed k.suits base steps first c.args.end place x c.requires.planned c.requires.alike (omega arith) (omega arith) c.requires.most c.index-steps-place.is in
    let os = c.operands_of-operands.result in
    let same = c.operands_of-operands.ensures place (omega arith) in
    let operands : All (IsOperand base.extent) os = subst (λ (os : List ChangeState). All (IsOperand base.extent) os) (sym same)
    (operands_are k.suits base c.requires.base k.means steps c.args.prepared.now c.requires.prepared (omega arith) place x.refs.items (omega arith) step.refs) in
    let t : Task = record { place = place; operands = os } in
    let items : c.push.new.self.items ≡ c.loop-place.tasks.items ++ t ∷ [] = c.in_ok-push.ensures.items in
    let task : IsTask k.means k.formed k.suits base steps t = is_task k.means k.formed k.suits base steps place x there c.requires.right first step os same (omega arith) operands in
    record {
      between = subst (λ ts. AreBetween (StaysAt k.means k.suits base steps) first (place + 1) (places_of ts)) (sym items)
          (subst (AreBetween (StaysAt k.means k.suits base steps) first (place + 1)) (sym (map_push (λ (t : Task). t.place) c.loop-place.tasks.items t))
          (between_push (StaysAt k.means k.suits base steps) first place (places_of c.loop-place.tasks.items) c.loop-place.invariant.between (omega arith)));
      each = subst (All (IsTask k.means k.formed k.suits base steps)) (sym items) (All-push (IsTask k.means k.formed k.suits base steps) c.loop-place.tasks.items t c.loop-place.invariant.each task);
    }

pub returns : goal.returns
returns g c =
    let at : c.loop-place.place ≡ c.args.end = let past = c.loop-place.auto.place-end (omega (arith, c.requires.some)) in omega (arith, past) in
    record {
      between = subst (λ n. AreBetween (StaysAt g.K.Maker.means g.K.Maker.suits c.args.base.now c.args.steps.now) (length c.args.prepared.now) n (places_of c.loop-place.tasks.items)) at c.loop-place.invariant.between;
      each = c.loop-place.invariant.each;
    }

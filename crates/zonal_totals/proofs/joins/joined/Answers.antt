use Rattle.std.proofs.Common.{◌≡◌, ◌+◌, ◌++◌, List, get_or, drop, pos, sym, ap, subst, ◌∙◌, arith}
use Rattle.std.proofs.lemmas.Int.{ints}
use Rattle.zonal_totals.specs.declared.steps.Step.{Step}
use Rattle.zonal_totals.specs.Pairs.{rank}
use Rattle.zonal_totals.specs.Settled.{kept}
use Rattle.zonal_totals.proofs.Climbing.{le_from_not}
use Rattle.zonal_totals.proofs.Joining.{IsJoined, joined_first, joined_other, joined_both, joined_order, joined_net, joined_weight}
use Rattle.zonal_totals.proofs.joins.joined.Goals as goal
use Rattle.zonal_totals.proofs.joins.joined.Goals.{then-loop-i-test+else-j-other, else-loop-i-test}

abbrev none : Step
none = record { pair = record { zone = pos 0; key = pos 0 }; by = pos 0 }

pub loop-i-preserved-then-is_before : goal.loop-i-preserved-then-is_before
loop-i-preserved-then-is_before c =
    let xs = c.args.one.now in
    let ys = c.args.other.now in
    let i = c.loop-i.i in
    let j = c.loop-i.j in
    let inv = c.loop-i.invariant in
    record {
      within = omega (arith, c.loop-i-test.true);
      other_within = inv.other_within;
      joined = subst (λ (l : List Step). IsJoined xs ys (drop (i + 1) xs) (drop j ys) l) (sym c.in_ok-push.ensures.items) (joined_first xs ys i j c.loop-i.out.items none c.loop-i-test.true c.if-j-other.true inv.joined (c.is_before.ensures.0 c.if-is_before.true));
    }

pub loop-i-preserved-then-is_before-2 : goal.loop-i-preserved-then-is_before-2
loop-i-preserved-then-is_before-2 c =
    let xs = c.args.one.now in
    let ys = c.args.other.now in
    let i = c.loop-i.i in
    let j = c.loop-i.j in
    let inv = c.loop-i.invariant in
    record {
      within = inv.within;
      other_within = omega (arith, c.if-j-other.true);
      joined = subst (λ (l : List Step). IsJoined xs ys (drop i xs) (drop (j + 1) ys) l) (sym c.in_ok-push-2.ensures.items) (joined_other xs ys i j c.loop-i.out.items none c.loop-i-test.true c.if-j-other.true inv.joined (c.is_before-else-is_before.ensures.0 c.if-is_before-2.true));
    }

pub loop-i-preserved : goal.loop-i-preserved
loop-i-preserved c =
    let xs = c.args.one.now in
    let ys = c.args.other.now in
    let i = c.loop-i.i in
    let j = c.loop-i.j in
    let inv = c.loop-i.invariant in
    let out = c.loop-i.out.items in
    let s = get_or xs i none in
    let t = get_or ys j none in
    let high = le_from_not (rank s.pair) (rank t.pair) (λ h. let yes = c.is_before.ensures.1 h in let no = c.if-is_before.false in cc) in
    let low = le_from_not (rank t.pair) (rank s.pair) (λ h. let yes = c.is_before-else-is_before.ensures.1 h in let no = c.if-is_before-2.false in cc) in
    let same : rank s.pair ≡ rank t.pair = omega (arith, ints, high, low) in
    record {
      within = omega (arith, c.loop-i-test.true);
      other_within = omega (arith, c.if-j-other.true);
      joined = subst (λ (l : List Step). IsJoined xs ys (drop (i + 1) xs) (drop (j + 1) ys) l) (sym (c.in_ok-keep.ensures ∙ ap (λ (u : Step). out ++ kept u) c.together.ensures)) (joined_both xs ys i j out none c.loop-i-test.true c.if-j-other.true inv.joined same);
    }

pub returns-clause-order : goal.returns-clause-order
returns-clause-order c =
    joined_order c.args.one.now c.args.other.now c.loop-i.i c.loop-i.j c.loop-i.out.items _ _ c.loop-i.invariant.joined c.in_ok-extend_from_slice.ensures.items c.in_ok-extend_from_slice-2.ensures.items
    (λ h k.
    elim c.loop-i-test.branch [
      | then-loop-i-test+else-j-other w ↦ omega (arith, k, w.if-j-other.false)
      | else-loop-i-test w ↦ omega (arith, h, w.loop-i-test.false)
    ])

pub returns-clause-net : goal.returns-clause-net
returns-clause-net c =
    joined_net c.args.one.now c.args.other.now c.loop-i.i c.loop-i.j c.loop-i.out.items _ _ c.loop-i.invariant.joined c.in_ok-extend_from_slice.ensures.items c.in_ok-extend_from_slice-2.ensures.items

pub returns-clause-weight : goal.returns-clause-weight
returns-clause-weight c =
    joined_weight c.args.one.now c.args.other.now c.loop-i.i c.loop-i.j c.loop-i.out.items _ _ c.loop-i.invariant.joined c.in_ok-extend_from_slice.ensures.items c.in_ok-extend_from_slice-2.ensures.items

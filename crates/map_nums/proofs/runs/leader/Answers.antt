use Rattle.std.proofs.Common.{◌≡◌, ◌+◌, ◌∙◌, sym, ap, subst, option_map, get_or, pos, FitsSigned, rules, arith}
use Rattle.std.proofs.lemmas.Int.{to_z-of_z}
use Rattle.std.proofs.lemmas.Bool.{iff_false}
use Rattle.map_nums.specs.Widths.{value_width}
use Rattle.map_nums.specs.Leaders.{better_run}
use Rattle.map_nums.proofs.Leading.{IsLeading, IsLeading-none, IsLeading-on, IsLeading-last, leader_is}
use Rattle.map_nums.proofs.runs.leader.Goals as goal

pub loop-i-init : goal.loop-i-init
loop-i-init c = IsLeading-none c.args.wanted c.args.sorted.now

pub loop-i-preserved-then-goes_on : goal.loop-i-preserved-then-goes_on
loop-i-preserved-then-goes_on c =
    IsLeading-on c.args.wanted c.args.sorted.now c.loop-i.i c.loop-i.count c.loop-i-test.true c.loop-i.best c.loop-i.invariant (c.goes_on.ensures.0 c.if-goes_on.true)

pub loop-i-preserved : goal.loop-i-preserved
loop-i-preserved c =
    let ys = c.args.sorted.now in
    let i = c.loop-i.i in
    let x = get_or ys i (pos 0) in
    let f : FitsSigned value_width x = search rules in
    let run = ap (λ v. better_run c.args.wanted c.loop-i.best (record { value = v; count = c.loop-i.count + 1 })) (to_z-of_z value_width x f) in
    subst (IsLeading c.args.wanted ys (i + 1) 0) (sym (c.better-best.ensures ∙ run))
    (IsLeading-last c.args.wanted ys i c.loop-i.count c.loop-i-test.true c.requires (iff_false c.goes_on.ensures c.if-goes_on.false) c.loop-i.best c.loop-i.invariant)

pub returns : goal.returns
returns c =
    let e : c.map.result ≡ option_map (λ run. run.value) c.loop-i.best = search rules in
    e ∙ leader_is c.args.wanted c.args.sorted.now c.loop-i.i c.loop-i.count c.loop-i.best c.loop-i.invariant (omega arith)

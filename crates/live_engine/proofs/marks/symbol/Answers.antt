use Rattle.std.proofs.Common.{ℤ, [], ◌∷◌, length, refl, sym, subst, ◌<◌, ◌∙◌}
use Rattle.std.proofs.lemmas.Bool.{lt-ltb}
use Rattle.std.proofs.lemmas.Int.{to_z-of_z}
use Rattle.map_nums.specs.Widths.{value_width}
use Rattle.map_edits.specs.Marks.{put_mark}
use Rattle.kept_map.specs.Maps.{seen}
use Rattle.live_engine.proofs.Accepting.{accept_refused}
use Rattle.live_engine.proofs.marks.symbol.Goals as goal

pub returns-then-not-has-clause-accepts : goal.returns-then-not-has-clause-accepts
returns-then-not-has-clause-accepts c = (accept_refused (seen c.args.map.now) _ _ (rw (sym c.has.ensures ∙ c.if-not-has.true) refl), refl)

pub returns-then-count_with-gt-MOST_MARKS-clause-accepts : goal.returns-then-count_with-gt-MOST_MARKS-clause-accepts
returns-then-count_with-gt-MOST_MARKS-clause-accepts c =
    let s = seen c.args.map.now in
    let more = subst (λ (z : ℤ). 4096 < length (put_mark s.symbols c.args.name z [])) (to_z-of_z value_width c.args.value c.ranges.value) (subst (λ k. 4096 < k) c.count_with.ensures c.if-count_with-gt-MOST_MARKS.true) in
    (accept_refused s _ _ (rw (sym c.has.ensures ∙ c.if-not-has.false, lt-ltb 4096 (length (put_mark s.symbols c.args.name c.args.value (c.args.sign ∷ []))) more) refl), refl)

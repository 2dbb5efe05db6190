use Rattle.std.proofs.Common.{◌≡◌, ℕ, ◌+◌, ◌*◌, [], ◌∷◌, length, ◌∙◌, ap, subst, arith}
use Rattle.std.proofs.lemmas.List.{length-append}
use Rattle.layer_tiles.specs.Tiles.{tiles_across}
use Rattle.sight_lines.specs.Searches.{IsSlot}
use Rattle.sight_lines.proofs.Bands.{band_tile, few_tiles, few_across, slots_more}
use Rattle.sight_lines.proofs.Looking.{looks_within}
use Rattle.sight_lines.proofs.searches.lend.Goals as goal

pub overflow_mul-band : goal.overflow_mul-band
overflow_mul-band g c =
    let s = c.args.of.now.size in
    let across : c.tiles_across-across.result ≡ tiles_across s = c.tiles_across-across.ensures.across ∙ ap tiles_across c.extent-extent.ensures.extent in
    omega (arith, ap (λ n. c.args.band * n) across, few_tiles s c.args.band c.extent-extent.ensures.size c.requires.band)

pub overflow_add-band : goal.overflow_add-band
overflow_add-band g c =
    let s = c.args.of.now.size in
    let across : c.tiles_across-across.result ≡ tiles_across s = c.tiles_across-across.ensures.across ∙ ap tiles_across c.extent-extent.ensures.extent in
    omega (arith, across, c.loop-k-test.true, few_across s c.extent-extent.ensures.size, ap (λ n. c.args.band * n) across, few_tiles s c.args.band c.extent-extent.ensures.size c.requires.band)

pub slot-requires : goal.slot-requires
slot-requires g c =
    let s = c.args.of.now.size in
    let across : c.tiles_across-across.result ≡ tiles_across s = c.tiles_across-across.ensures.across ∙ ap tiles_across c.extent-extent.ensures.extent in
    record { within = omega (arith, ap (λ n. c.args.band * n) across, band_tile s c.args.band c.loop-k.k c.requires.band (omega (arith, across, c.loop-k-test.true))) }

pub returns-in_err-push-clause-looks : goal.returns-in_err-push-clause-looks
returns-in_err-push-clause-looks g c first r =
    let s = c.args.of.now.size in
    let across : c.tiles_across-across.result ≡ tiles_across s = c.tiles_across-across.ensures.across ∙ ap tiles_across c.extent-extent.ensures.extent in
    let e : c.args.band * c.tiles_across-across.result ≡ c.args.band * tiles_across s = ap (λ n. c.args.band * n) across in
    looks_within c.args.all c.args.of.now.touched (c.args.band * c.tiles_across-across.result + c.loop-k.k + 1) ((c.args.band + 1) * tiles_across s) first _ (omega (arith, e, across, c.loop-k-test.true))
    (c.slot.ensures.looks first (looks_within c.args.all c.args.of.now.touched (c.args.band * tiles_across s + c.loop-k.k) (c.args.band * c.tiles_across-across.result + c.loop-k.k) first _ (omega (arith, e)) (c.loop-k.invariant.looks first r)))

pub loop-k-preserved : goal.loop-k-preserved
loop-k-preserved g c =
    let s = c.args.of.now.size in
    let k = c.loop-k.k in
    let across : c.tiles_across-across.result ≡ tiles_across s = c.tiles_across-across.ensures.across ∙ ap tiles_across c.extent-extent.ensures.extent in
    let e : c.args.band * c.tiles_across-across.result ≡ c.args.band * tiles_across s = ap (λ n. c.args.band * n) across in
    let here : c.args.band * c.tiles_across-across.result + k ≡ c.args.band * tiles_across s + k = omega (arith, e) in
    record {
      count = omega (arith, ap length c.in_ok-push.ensures.items, length-append c.loop-k.slots.items (c.slot.result ∷ []), c.loop-k.invariant.count);
      each = λ kept known. slots_more (λ j o. IsSlot kept c.args.of.now (c.args.band * tiles_across s + j) o) c.loop-k.slots.items c.push.new.self.items c.slot.result k c.in_ok-push.ensures.items c.loop-k.invariant.count (c.loop-k.invariant.each kept known)
          (subst (λ (t : ℕ). IsSlot kept c.args.of.now t c.slot.result) here (c.slot.ensures.slot kept known));
      looks = λ first r. looks_within c.args.all c.args.of.now.touched (c.args.band * c.tiles_across-across.result + k + 1) (c.args.band * tiles_across s + (k + 1)) first _ (omega (arith, e))
          (c.slot.ensures.looks first (looks_within c.args.all c.args.of.now.touched (c.args.band * tiles_across s + k) (c.args.band * c.tiles_across-across.result + k) first _ (omega (arith, e)) (c.loop-k.invariant.looks first r)));
    }

pub returns-clause-slots : goal.returns-clause-slots
returns-clause-slots g c kept known =
    let s = c.args.of.now.size in
    let across : c.tiles_across-across.result ≡ tiles_across s = c.tiles_across-across.ensures.across ∙ ap tiles_across c.extent-extent.ensures.extent in
    record {
      count = omega (arith, across, c.loop-k.invariant.count, c.loop-k-test.false, c.loop-k.auto.k-end);
      each = λ k l. c.loop-k.invariant.each kept known k (omega (arith, across, l, c.loop-k-test.false));
    }

pub returns-clause-looks : goal.returns-clause-looks
returns-clause-looks g c first r =
    let s = c.args.of.now.size in
    let across : c.tiles_across-across.result ≡ tiles_across s = c.tiles_across-across.ensures.across ∙ ap tiles_across c.extent-extent.ensures.extent in
    looks_within c.args.all c.args.of.now.touched (c.args.band * tiles_across s + c.loop-k.k) ((c.args.band + 1) * tiles_across s) first _ (omega (arith, across, c.loop-k.auto.k-end)) (c.loop-k.invariant.looks first r)

use Rattle.std.proofs.Common.{◌≡◌, Ok, ap, subst, ◌∙◌}
use Rattle.map_edits.specs.Pasts.{parts_of}
use Rattle.map_edits.specs.WholeEdits.{WholeEdit, put_back}
use Rattle.map_edits.specs.WholeStates.{WholeState}
use Rattle.kept_map.specs.Maps.{seen}
use Rattle.kept_map.specs.Keeps.{IsKept}
use Rattle.kept_map.specs.declared.maps.KeptMap.{KeptMap}
use Rattle.live_engine.specs.Accepts.{Accepts, ReadsWithin}
use Rattle.live_engine.specs.Drafts.{IsDraft}
use Rattle.live_engine.specs.Inverses.{Fits, past_of}
use Rattle.live_engine.specs.declared.drafts.Draft.{Draft}
use Rattle.live_engine.specs.declared.inverses.Inverse.TheVariants as inverses
use Rattle.live_engine.proofs.Backs.{back_draft}
use Rattle.live_engine.proofs.Accepting.{refused_stays}
use Rattle.live_engine.proofs.reverting.name_back.Goals as goal

abbrev back_of : KeptMap → Draft → WholeEdit
back_of m d = put_back (past_of (inverses.Name d) (parts_of (seen m)))

-- a map that is seen the same takes the same draft
same_draft : (m roomy : KeptMap) (d : Draft) → seen roomy ≡ seen m → IsKept roomy → Fits m.extent (parts_of (seen m)) (inverses.Name d) → IsDraft roomy (back_of m d) d
same_draft m roomy d same keeps fits =
    subst (λ (s : WholeState). Fits s.names.size (parts_of s) (inverses.Name d) → IsDraft roomy (put_back (past_of (inverses.Name d) (parts_of s))) d) same (back_draft roomy keeps d) fits

pub carry-requires-clause-draft : goal.carry-requires-clause-draft
carry-requires-clause-draft g c κs within =
    (back_of c.args.map.now c.args.draft, same_draft c.args.map.now c.reserve.new.self c.args.draft c.reserve.ensures.seen (c.reserve.ensures.kept c.requires.kept) c.requires.fits)

pub returns-in-Ok : goal.returns-in-Ok
returns-in-Ok g c =
    let is = same_draft c.args.map.now c.reserve.new.self c.args.draft c.reserve.ensures.seen (c.reserve.ensures.kept c.requires.kept) c.requires.fits in
    let e = back_of c.args.map.now c.args.draft in
    record {
      reverted = subst (λ s. Accepts s (seen c.carry.new.map) e (Ok c.in-Ok.accepted)) c.reserve.ensures.seen (c.in-Ok.ensures.carried _ is);
      kept = c.carry.ensures.kept;
      reads = subst (λ s. ReadsWithin s e (g.M.Tally.counts c.args.tally.now) (g.M.Tally.counts c.carry.new.tally)) c.reserve.ensures.seen (c.carry.ensures.reads _ is);
    }

pub returns : goal.returns
returns g c =
    let is = same_draft c.args.map.now c.reserve.new.self c.args.draft c.reserve.ensures.seen (c.reserve.ensures.kept c.requires.kept) c.requires.fits in
    let left = c.in-Err.ensures.carried _ is in
    record {
      reverted = (ap (λ q. inverses.Name q) left.0, refused_stays (seen c.reserve.new.self) (seen c.carry.new.map) _ c.in-Err.left.refusal left.1 ∙ c.reserve.ensures.seen);
      kept = c.carry.ensures.kept;
      reads = subst (λ s. ReadsWithin s (back_of c.args.map.now c.args.draft) (g.M.Tally.counts c.args.tally.now) (g.M.Tally.counts c.carry.new.tally)) c.reserve.ensures.seen (c.carry.ensures.reads _ is);
    }

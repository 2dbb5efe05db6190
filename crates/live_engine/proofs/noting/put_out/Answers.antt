use Rattle.std.proofs.Common.{◌≡◌, ℕ, ◌+◌, ◌-◌, ◌<◌, List, [], ◌∷◌, ◌++◌, take, length, get_or, sym, ap, subst, ◌∙◌, arith}
use Rattle.std.proofs.lemmas.List.{take_more, take_all}
use Rattle.map_defs.specs.Statements.{Procedure}
use Rattle.map_edits.specs.Marks.{Mark}
use Rattle.map_edits.specs.Pasts.{parts_of}
use Rattle.kept_map.specs.Maps.{seen}
use Rattle.live_engine.specs.Notes.{with_beside, without_note, SuitsNote}
use Rattle.live_engine.specs.declared.noting.NoteBack.{NoteBack}
use Rattle.live_engine.proofs.noting.put_out.Goals as goal
use Rattle.live_engine.proofs.noting.put_out.Goals.{in-Procedure, in-Label+in_default, in-Symbol+in_default-give_back}

last_apart : (ps : List Procedure) (n : ℕ) (p : Procedure) → n + 1 ≡ length ps → ps ≡ take n ps ++ get_or ps n p ∷ []
last_apart ps n p count = sym (take_all (n + 1) ps (omega arith)) ∙ take_more ps n p (omega arith)

-- what is left without the last
left : (ps new : List Procedure) → 0 < length ps → ((qs : List Procedure) (q : Procedure) → ps ≡ qs ++ q ∷ [] → new ≡ qs) → new ≡ take (length ps - 1) ps
left [] new some last = absurd (omega arith)
left (p ∷ ps) new some last = let n = length (p ∷ ps) - 1 in last (take n (p ∷ ps)) (get_or (p ∷ ps) n p) (last_apart (p ∷ ps) n p (omega arith))

pub returns : goal.returns
returns c =
    let m = c.args.map.now in
    let from = λ (b : NoteBack). with_beside m (without_note b (parts_of (seen m))) in
    elim c.match-back.branch [
      | in-Procedure w ↦
          let some : 0 < length m.procedures = subst (SuitsNote (parts_of (seen m))) w.in-Procedure.is c.requires.suits in
          w.map-is ∙ ap (λ (ps : List Procedure). record m { procedures = ps }) (left m.procedures w.drop_last.new.self some w.drop_last.ensures) ∙ ap from (sym w.in-Procedure.is)
      | in-Label+in_default w ↦ w.map-is ∙ ap (λ (marks : List Mark). record m { labels = marks }) w.in_default.ensures.given ∙ ap from (sym w.in-Label.is)
      | in-Symbol+in_default-give_back w ↦ w.map-is ∙ ap (λ (marks : List Mark). record m { symbols = marks }) w.in_default-give_back.ensures.given ∙ ap from (sym w.in-Symbol.is)
    ]

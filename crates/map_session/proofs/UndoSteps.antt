-- What an undo does and may read, by what the history answers.
use Rattle.std.proofs.Common.{◌≡◌, ℕ, List, [], ◌∷◌, codes, Result, Ok, Err, IfOk, ap, ◌∙◌, subst}
use Rattle.map_nums.specs.declared.NoMemory.{NoMemory}
use Rattle.grid_text.specs.declared.Header.{Header}
use Rattle.layer_tiles.specs.Tallies.{TallyState}
use Rattle.statement_parser.specs.declared.language.Place.{Place}
use Rattle.kept_map.specs.Repairs.{counts_view}
use Rattle.live_engine.specs.Inverses.{past_of}
use Rattle.live_engine.specs.declared.edits.Accepted.{Accepted}
use Rattle.live_engine.specs.declared.inverses.Inverse.{Inverse}
use Rattle.map_edits.specs.Refusals as edits
use Rattle.map_edits.specs.Counted as counted
use Rattle.map_edits.specs.Counted.{done, accept_counted}
use Rattle.map_edits.specs.Pasts.{Past, parts_of, with_parts}
use Rattle.map_edits.specs.WholeEdits.{put_back}
use Rattle.map_edits.specs.WholeStates.{WholeState}
use Rattle.map_edits.proofs.PutBack.{accept_put_back}
use Rattle.map_machine.specs.declared.Kind.TheVariants as kinds
use Rattle.map_machine.specs.LineReads.{undo_reads}
use Rattle.map_machine.specs.States.{MapState}
use Rattle.map_machine.specs.Replies.{counted_reply, refused_reply}
use Rattle.map_machine.specs.Steps.{undone}
use Rattle.undo_shelf.specs.Histories.{IsUndone, ReadsForUndo}
use Rattle.undo_shelf.specs.declared.history.UndoRefusal.TheVariants as undos
use Rattle.map_session.specs.Asked.{IsRead}
use Rattle.map_session.specs.Said.{Says, Does}
use Rattle.map_session.specs.declared.replies.Reply.{Reply}
use Rattle.map_session.proofs.EditSteps.{outcome, holding, held_same}

ok_same : (x : Result counted.Accepted edits.Refusal) (a b : counted.Accepted) → x ≡ Ok a → x ≡ Ok b → a ≡ b
ok_same x a b e f = cc

pub undo_done : (h : Header) (p : Place) (old new : WholeState) (held left : List Inverse) (s : MapState) (a : Accepted) (reply : Reply) → holding h p old held ≡ s → IsUndone old new held left (Ok a)
    → Says (counted_reply a.number (counts_view a.counts)) kinds.Accepted reply → Does s (holding h p new left) (undone s s.pasts) (Ok reply)
undo_done h p old new [] left s a reply w u says = absurd u
undo_done h p old new (i ∷ is) left s a reply w u says =
    let past = past_of i (parts_of old) in
    let same : outcome new a ≡ done past.touch old (with_parts old past.parts) = ok_same (accept_counted old (put_back past)) (outcome new a) (done past.touch old (with_parts old past.parts)) u.0.0 (accept_put_back old past) in
    let new_is : holding h p new left ≡ holding h p (done past.touch old (with_parts old past.parts)).state is = held_same h p _ new is left (ap (λ (o : counted.Accepted). o.state) same) u.1 in
    subst (λ (v : MapState). Does v (holding h p new left) (undone v v.pasts) (Ok reply)) w
    (new_is, says.0 ∙ ap (λ k. counted_reply k (counts_view a.counts)) u.0.1 ∙ ap (λ (o : counted.Accepted). counted_reply o.state.names.number o.counts) same, says.1)

pub undo_nothing : (h : Header) (p : Place) (old new : WholeState) (held left : List Inverse) (s : MapState) (text : List ℕ) (reply : Result Reply NoMemory) → holding h p old held ≡ s → IsUndone old new held left (Err undos.Nothing)
    → text ≡ codes "nothing" → IfOk reply (Says (refused_reply text) kinds.Refused) → Does s (holding h p new left) (undone s s.pasts) reply
undo_nothing h p old new (i ∷ is) left s text reply w u is_text says = absurd u
undo_nothing h p old new [] left s text (Ok reply) w u is_text says =
    subst (λ (v : MapState). Does v (holding h p new left) (undone v v.pasts) (Ok reply)) w
    (held_same h p old new [] left u.1 u.0, says.0 ∙ ap refused_reply is_text, says.1)
undo_nothing h p old new [] left s text (Err e) w u is_text says = held_same h p old new [] left u.1 u.0 ∙ w

-- ---- how much is read

allowed : (s : MapState) (pasts : List Past) (a b : TallyState) → ReadsForUndo s.whole pasts a b → IsRead (undo_reads s pasts) a b
allowed s [] a b r = r
allowed s (p ∷ ps) a b r = r

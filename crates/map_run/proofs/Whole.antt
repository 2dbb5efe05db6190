-- What was written is a front of the session's text, and all of it where nothing was missed.
use Rattle.std.proofs.Common.{◌≡◌, ◌≤◌, ◌<◌, ◌⊎◌, inl, inr, ℕ, Bool, true, false, List, [], ◌++◌, length, refl, sym, ap, ◌∙◌, subst, Option, Some, None}
use Rattle.std.specs.List.{list_any}
use Rattle.std.proofs.lemmas.List.{append-nil}
use Rattle.map_outside.specs.Contents.{Grows}
use Rattle.map_machine.specs.Lines.{ended_lines, lines_of}
use Rattle.map_machine.specs.States.{MapState}
use Rattle.map_machine.specs.Steps.{is_quit}
use Rattle.map_machine.specs.SessionReads.{lines_reads}
use Rattle.map_machine.specs.Text.{replies_to, session_lines, session_text}
use Rattle.map_machine.proofs.TextLemmas.{replies_to-quit, session_lines_begin, session_lines_ended, session_lines_full}
use Rattle.map_run.specs.Front.{ReadsAsWritten}
use Rattle.map_run.specs.Played.{Plays, CameTo, lines_taken}
use Rattle.map_run.specs.Progress.{Progress}
use Rattle.map_run.specs.Written.{IsWhole}
use Rattle.map_run.specs.declared.status.Status.{Status}
use Rattle.map_run.specs.declared.status.Status.TheVariants.{Done, Usage, Load, SourceFault, SinkFault, NoMemory, TooLong}
use Rattle.map_run.proofs.AnsweredLemmas.{whole_front, front_more, stopped_front}

-- the lines of what was taken come first among those that are played
lines_front : (limit : ℕ) (taken rest : List ℕ) (ended : Bool) → length taken ≤ limit → (ended ≡ true → (rest ≡ []) × (length taken < limit))
    → (more : List (List ℕ)) × (session_lines limit (taken ++ rest) ≡ lines_taken taken ended ++ more)
lines_front limit taken rest true within at_end =
    let e = at_end refl in
    ([], ap (λ r. session_lines limit (taken ++ r)) e.0 ∙ ap (session_lines limit) (append-nil taken) ∙ session_lines_ended limit taken e.1 ∙ sym (append-nil (lines_of taken)))
lines_front limit taken rest false within at_end = session_lines_begin limit taken rest within

came_front : (limit : ℕ) (s : MapState) (taken : List ℕ) (ended : Bool) (a b : Progress) (status : Status) → CameTo limit s taken ended a b status
    → ReadsAsWritten a b (replies_to s (lines_taken taken ended)) (lines_reads s (lines_taken taken ended))
came_front limit s taken ended a b Done c = whole_front s (lines_taken taken ended) a b c.1
came_front limit s taken ended a b SourceFault c = rw c.0 (whole_front s (ended_lines taken) a b c.3)
came_front limit s taken ended a b TooLong c = rw c.0 (whole_front s (ended_lines taken) a b c.3)
came_front limit s taken ended a b SinkFault c = stopped_front s (lines_taken taken ended) a b c
came_front limit s taken ended a b NoMemory c = stopped_front s (lines_taken taken ended) a b c
came_front limit s taken ended a b _ c = absurd c

done_text : (limit : ℕ) (s : MapState) (taken rest : List ℕ) (ended : Bool) (h h' : Option (List ℕ)) → length taken ≤ limit → (ended ≡ true → (rest ≡ []) × (length taken < limit))
    → (ended ≡ true) ⊎ (list_any is_quit (ended_lines taken) ≡ true) → Grows h h' (replies_to s (lines_taken taken ended)) → Grows h h' (session_text limit s (taken ++ rest))
done_text limit s taken rest true h h' within at_end why wrote =
    let e = at_end refl in
    subst (Grows h h') (sym (ap (λ r. session_text limit s (taken ++ r)) e.0 ∙ ap (session_text limit s) (append-nil taken) ∙ ap (replies_to s) (session_lines_ended limit taken e.1))) wrote
done_text limit s taken rest false h h' within at_end (inl e) wrote = absurd (cc)
done_text limit s taken rest false h h' within at_end (inr quit) wrote =
    let lines = session_lines_begin limit taken rest within in
    subst (Grows h h') (sym (ap (replies_to s) lines.1 ∙ replies_to-quit s (ended_lines taken) lines.0 quit)) wrote

-- what was written is a front of the text, and no more was read than goes with it
pub plays_front : (limit : ℕ) (s : MapState) (bytes : List ℕ) (left' : Option (List ℕ)) (a b : Progress) (status : Status) → Plays limit s (Some bytes) left' a b status
    → ReadsAsWritten a b (session_text limit s bytes) (lines_reads s (session_lines limit bytes))
plays_front limit s bytes None a b status p = absurd p.moved
plays_front limit s bytes (Some rest) a b status p =
    let lines = lines_front limit p.taken rest p.ended p.within p.at_end in
    let P : List (List ℕ) → Type 0 = λ l. ReadsAsWritten a b (replies_to s l) (lines_reads s l) in
    subst P (sym (ap (session_lines limit) p.moved ∙ lines.1)) (front_more s (lines_taken p.taken p.ended) lines.0 a b (came_front limit s p.taken p.ended a b status p.came))

-- where it is done, all of it was written
plays_done : (limit : ℕ) (s : MapState) (bytes : List ℕ) (left' : Option (List ℕ)) (a b : Progress) → Plays limit s (Some bytes) left' a b Done → Grows a.held b.held (session_text limit s bytes)
plays_done limit s bytes None a b p = absurd p.moved
plays_done limit s bytes (Some rest) a b p =
    subst (λ bs. Grows a.held b.held (session_text limit s bs)) (sym p.moved) (done_text limit s p.taken rest p.ended a.held b.held p.within p.at_end p.came.0 p.came.1.wrote)

-- where it was too long, all of it was written
plays_too_long : (limit : ℕ) (s : MapState) (bytes : List ℕ) (left' : Option (List ℕ)) (a b : Progress) → Plays limit s (Some bytes) left' a b TooLong → Grows a.held b.held (session_text limit s bytes)
plays_too_long limit s bytes None a b p = absurd p.moved
plays_too_long limit s bytes (Some rest) a b p =
    subst (Grows a.held b.held) (sym (ap (session_text limit s) p.moved ∙ ap (replies_to s) (session_lines_full limit p.taken rest p.came.1))) p.came.3.wrote

pub plays_whole : (limit : ℕ) (s : MapState) (bytes : List ℕ) (left' : Option (List ℕ)) (a b : Progress) (status : Status) → IsWhole status ≡ true
    → Plays limit s (Some bytes) left' a b status → Grows a.held b.held (session_text limit s bytes)
plays_whole limit s bytes left' a b Done whole p = plays_done limit s bytes left' a b p
plays_whole limit s bytes left' a b TooLong whole p = plays_too_long limit s bytes left' a b p
plays_whole limit s bytes left' a b Usage whole p = absurd p.came
plays_whole limit s bytes left' a b Load whole p = absurd p.came
plays_whole limit s bytes left' a b _ whole p = absurd (cc)

-- A run that no fault came to is done, where it can be.
use Rattle.std.proofs.Common.{◌≡◌, ◌≤◌, ◌||◌, inl, inr, ℕ, true, List, ◌++◌, length, take, refl, sym, ap, ◌∙◌, subst, arith, Option, Some, None}
use Rattle.std.specs.List.{list_any}
use Rattle.std.proofs.lemmas.List.{length-append, take_at}
use Rattle.std.proofs.lemmas.List.Folds.{list_any-append}
use Rattle.std.proofs.lemmas.Bool.{le-ltb}
use Rattle.map_machine.specs.Lines.{ended_lines}
use Rattle.map_machine.specs.Text.{session_lines}
use Rattle.map_machine.proofs.TextLemmas.{session_lines_begin}
use Rattle.map_machine.specs.Steps.{is_quit}
use Rattle.map_machine.specs.Openings.{Opening, goes_on, turned_back}
use Rattle.map_run.specs.Completeness.{ComesToEnd, IsComplete, ComesToLimit, IsTooLong}
use Rattle.map_run.specs.FaultCounts.{RunCounts, NoneRose}
use Rattle.map_run.specs.Openings.{OpensSo}
use Rattle.map_run.specs.Taken.{EndsDone, EndsTooLong, EndsSo}
use Rattle.map_run.specs.declared.status.Status.{Status}
use Rattle.map_run.specs.declared.status.Status.TheVariants.{Done, Usage, Load, ShelfFault, SourceFault, SinkFault, NoMemory, TooLong}

-- a session that comes to an end isn't too long
not_too_long : (limit : ℕ) (session : List ℕ) (left' : Option (List ℕ)) → EndsTooLong limit (Some session) left' → ComesToEnd limit session → ⊥
not_too_long limit session None ends comes = absurd ends.moved
not_too_long limit session (Some rest) ends (inl short) =
    let size : length session ≡ length (ends.taken ++ rest) = ap length ends.moved in
    absurd (omega (arith, size, length-append ends.taken rest, ends.full, short))
not_too_long limit session (Some rest) ends (inr quit) =
    let front : take limit session ≡ ends.taken = ap (take limit) ends.moved ∙ take_at ends.taken rest limit ends.full in
    let found : list_any is_quit (ended_lines ends.taken) ≡ true = sym (ap (λ b. list_any is_quit (ended_lines b)) front) ∙ quit in
    let none = ends.none in
    absurd (cc)

pub completes : (limit : ℕ) (session : List ℕ) (left' : Option (List ℕ)) (opening : Opening) (f f' s s' k k' : ℕ) (status : Status) → (status ≡ Usage → ⊥)
    → RunCounts f f' s s' k k' status → OpensSo status opening → EndsSo limit (Some session) left' status → NoneRose f f' s s' k k'
    → opening ≡ goes_on → ComesToEnd limit session → IsComplete status
completes limit session left' opening f f' s s' k k' Done form counts opens ends none is comes = tt
completes limit session left' opening f f' s s' k k' NoMemory form counts opens ends none is comes = tt
completes limit session left' opening f f' s s' k k' Usage form counts opens ends none is comes = form refl
completes limit session left' opening f f' s s' k k' Load form counts opens ends none is comes = let back : opening ≡ turned_back = opens in absurd (cc)
completes limit session left' opening f f' s s' k k' ShelfFault form counts opens ends none is comes = none.0 counts.0
completes limit session left' opening f f' s s' k k' SourceFault form counts opens ends none is comes = none.1 counts.1
completes limit session left' opening f f' s s' k k' SinkFault form counts opens ends none is comes = none.2 counts.2
completes limit session left' opening f f' s s' k k' TooLong form counts opens ends none is comes = not_too_long limit session left' ends comes

-- ---- a run that comes to the limit is too long

-- a line that ends among the first bytes ends among more
quit_among : (limit : ℕ) (taken rest : List ℕ) → length taken ≤ limit → limit ≤ length (taken ++ rest) → list_any is_quit (ended_lines taken) ≡ true
    → list_any is_quit (ended_lines (take limit (taken ++ rest))) ≡ true
quit_among limit taken rest within long quit =
    let lines = session_lines_begin limit taken rest within in
    let full : session_lines limit (taken ++ rest) ≡ ended_lines (take limit (taken ++ rest)) = rw (le-ltb (length (taken ++ rest)) limit long) refl in
    ap (list_any is_quit) (sym full ∙ lines.1) ∙ list_any-append is_quit (ended_lines taken) lines.0 ∙ ap (λ t. t || list_any is_quit lines.0) quit

not_done : (limit : ℕ) (session : List ℕ) (left' : Option (List ℕ)) → EndsDone limit (Some session) left' → ComesToLimit limit session → ⊥
not_done limit session None ends comes = absurd ends.moved
not_done limit session (Some rest) ends comes =
    let long : limit ≤ length (ends.taken ++ rest) = subst (λ b. limit ≤ length b) ends.moved comes.0 in
    elim ends.why [
      | inl quit ↦
          let found : list_any is_quit (ended_lines (take limit session)) ≡ true =
          ap (λ b. list_any is_quit (ended_lines (take limit b))) ends.moved ∙ quit_among limit ends.taken rest ends.within long quit in
          let none = comes.1 in
          absurd (cc)
      | inr end ↦ absurd (omega (arith, long, length-append ends.taken rest, ap length end.0, end.1))
    ]

pub too_long : (limit : ℕ) (session : List ℕ) (left' : Option (List ℕ)) (opening : Opening) (f f' s s' k k' : ℕ) (status : Status) → (status ≡ Usage → ⊥)
    → RunCounts f f' s s' k k' status → OpensSo status opening → EndsSo limit (Some session) left' status → NoneRose f f' s s' k k'
    → opening ≡ goes_on → ComesToLimit limit session → IsTooLong status
too_long limit session left' opening f f' s s' k k' Done form counts opens ends none is comes = not_done limit session left' ends comes
too_long limit session left' opening f f' s s' k k' NoMemory form counts opens ends none is comes = tt
too_long limit session left' opening f f' s s' k k' Usage form counts opens ends none is comes = form refl
too_long limit session left' opening f f' s s' k k' Load form counts opens ends none is comes = let back : opening ≡ turned_back = opens in absurd (cc)
too_long limit session left' opening f f' s s' k k' ShelfFault form counts opens ends none is comes = none.0 counts.0
too_long limit session left' opening f f' s s' k k' SourceFault form counts opens ends none is comes = none.1 counts.1
too_long limit session left' opening f f' s s' k k' SinkFault form counts opens ends none is comes = none.2 counts.2
too_long limit session left' opening f f' s s' k k' TooLong form counts opens ends none is comes = tt

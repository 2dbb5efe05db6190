-- The stages and the session of a run, put together.
use Rattle.std.proofs.Common.{◌≡◌, inl, inr, ℕ, true, List, [], refl, sym, subst, arith, Option, Some, None, Result, Ok, Err}
use Rattle.std.specs.Prelude.{IfSome, IsNone, IsSome}
use Rattle.std.proofs.KnownBytes.{Consumes-nil, Keeps-refl}
use Rattle.map_edits.specs.Allowances.{no_reads}
use Rattle.map_machine.specs.Lines.{ended_lines}
use Rattle.map_machine.specs.States.{MapState}
use Rattle.map_machine.specs.SessionReads.{lines_reads}
use Rattle.map_machine.specs.Text.{replies_to, session_lines, session_text}
use Rattle.map_machine.specs.Pairs.{Pair}
use Rattle.map_machine.specs.Words.{Form, of_files, of_sample}
use Rattle.map_machine.specs.Play.{form_text, form_opening}
use Rattle.map_machine.specs.RunReads.{form_reads}
use Rattle.map_machine.specs.Openings.{goes_on}
use Rattle.map_machine.proofs.SampleLemmas.{sample_goes_on}
use Rattle.map_outside.specs.Contents.{Files, Grows}
use Rattle.map_run.specs.Completeness.{HasSession, ComesToEnd, ComesToLimit, IsComplete, IsTooLong}
use Rattle.map_run.specs.FaultCounts.{RunCounts, NoneRose}
use Rattle.map_run.specs.Front.{WritesFront, ReadsAsWritten}
use Rattle.map_run.specs.Loads.{Loads, files_stage}
use Rattle.map_run.specs.Openings.{OpensSo}
use Rattle.map_run.specs.Played.{Plays}
use Rattle.map_run.specs.Progress.{Progress}
use Rattle.map_run.specs.RunsTo.{RunsTo}
use Rattle.map_run.specs.Sampled.{Sampled}
use Rattle.map_run.specs.Seen.{Seen, WhereTold}
use Rattle.map_run.specs.Stages.{Stage, StopsStage, Comes}
use Rattle.map_run.specs.Stops.{stop_status}
use Rattle.map_run.specs.Taken.{EndsSo, EndsSample}
use Rattle.map_run.specs.Written.{IsQuiet, IsWhole, FailsAfter, taken_text}
use Rattle.map_run.specs.declared.status.Status.{Status}
use Rattle.map_run.specs.declared.status.Status.TheVariants.{Done, Usage, Load, ShelfFault, SourceFault, SinkFault, NoMemory, TooLong}
use Rattle.map_run.specs.declared.stop.Stop.{Stop}
use Rattle.map_run.specs.declared.stop.Stop.TheVariants as stop
use Rattle.map_run.proofs.Completeness.{completes, too_long}
use Rattle.map_run.proofs.CountLemmas.{counts_then}
use Rattle.map_run.proofs.FrontLemmas.{stage_front, stage_whole, stage_stopped, stage_refused}
use Rattle.map_run.proofs.Whole.{plays_front, plays_whole}

-- ---- facts of what is told

-- where files and session are told, a fact of every telling holds
pub where_told : (files : Option Files) (left : Option (List ℕ)) (P : Files → List ℕ → Type 0) → ((f : Files) (session : List ℕ) → files ≡ Some f → left ≡ Some session → P f session)
    → IfSome files (λ f. IfSome left (P f))
where_told None left P all = tt
where_told (Some f) None P all = tt
where_told (Some f) (Some session) P all = all f session refl refl

where_held : (files : Option Files) (P : Files → Type 0) → ((f : Files) → files ≡ Some f → P f) → IfSome files P
where_held None P all = tt
where_held (Some f) P all = all f refl

held_at : (files : Option Files) (P : Files → Type 0) (f : Files) → files ≡ Some f → IfSome files P → P f
held_at None P f is all = absurd (cc)
held_at (Some g) P f is all = let same : g ≡ f = cc in subst P same all

told_map : (files : Option Files) (left : Option (List ℕ)) (P Q : Files → List ℕ → Type 0) → ((f : Files) (session : List ℕ) → P f session → Q f session)
    → IfSome files (λ f. IfSome left (P f)) → IfSome files (λ f. IfSome left (Q f))
told_map None left P Q all m = tt
told_map (Some f) None P Q all m = tt
told_map (Some f) (Some session) P Q all m = all f session m

told_stage : (files : Option Files) (most : ℕ) (model : Option (List ℕ)) (ps : List Pair) (a b : Progress) (came : Result MapState Stop) (f : Files) → files ≡ Some f
    → Loads files (files_stage most model ps) a b came → Comes (files_stage most model ps f) a b came
told_stage None most model ps a b came f is l = absurd (cc)
told_stage (Some held) most model ps a b came f is l = let same : held ≡ f = cc in subst (λ g. Comes (files_stage most model ps g) a b came) same l.1

-- ---- the session was played

goes_so : (limit : ℕ) (s : MapState) (left left' : Option (List ℕ)) (a b : Progress) (status : Status) → Plays limit s left left' a b status → OpensSo status goes_on
goes_so limit s left left' a b Load p = absurd p.came
goes_so limit s left left' a b Done p = refl
goes_so limit s left left' a b Usage p = tt
goes_so limit s left left' a b ShelfFault p = tt
goes_so limit s left left' a b SourceFault p = refl
goes_so limit s left left' a b SinkFault p = tt
goes_so limit s left left' a b NoMemory p = tt
goes_so limit s left left' a b TooLong p = refl

ends_so : (limit : ℕ) (s : MapState) (left left' : Option (List ℕ)) (a b : Progress) (status : Status) → Plays limit s left left' a b status → EndsSo limit left left' status
ends_so limit s left left' a b Done p = record {
  taken = p.taken;
  moved = p.moved;
  within = p.within;
  why = elim p.came.0 [ inl ended ↦ inr (p.at_end ended) | inr quit ↦ inl quit ];
}
ends_so limit s left left' a b SourceFault p = record { taken = p.taken; moved = p.moved; few = p.came.1; none = p.came.2 }
ends_so limit s left left' a b TooLong p = record { taken = p.taken; moved = p.moved; full = p.came.1; none = p.came.2 }
ends_so limit s left left' a b SinkFault p = record { taken = p.taken; moved = p.moved; within = p.within }
ends_so limit s left left' a b NoMemory p = record { taken = p.taken; moved = p.moved; within = p.within }
ends_so limit s left left' a b _ p = absurd p.came

quiet_unless : (h h' : Option (List ℕ)) (status : Status) → (status ≡ Usage → ⊥) → IsQuiet h h' status
quiet_unless h h' Usage apart = absurd (apart refl)
quiet_unless h h' _ apart = tt

no_usage : (limit : ℕ) (s : MapState) (left left' : Option (List ℕ)) (a b : Progress) (status : Status) → Plays limit s left left' a b status → status ≡ Usage → ⊥
no_usage limit s left left' a b Usage p e = p.came
no_usage limit s left left' a b _ p e = cc

-- the stages were accepted, and the session was played from then on
pub runs_played : (most limit : ℕ) (model : Option (List ℕ)) (ps : List Pair) (old mid new : Seen) (now : MapState) (status : Status)
    → Loads old.files (files_stage most model ps) old.progress mid.progress (Ok now) → RunCounts old.shelf mid.shelf old.source mid.source old.progress.faults mid.progress.faults Done
    → Plays limit now old.left new.left mid.progress new.progress status → RunCounts mid.shelf new.shelf mid.source new.source mid.progress.faults new.progress.faults status
    → RunsTo most limit (Some (of_files model ps)) old new status
runs_played most limit model ps old mid new now status l counted p counts =
    let apart = no_usage limit now old.left new.left mid.progress new.progress status p in
    let stage : Files → Stage = files_stage most model ps in
    let came : (f : Files) → old.files ≡ Some f → Comes (stage f) old.progress mid.progress (Ok now) = λ f is. told_stage old.files most model ps old.progress mid.progress (Ok now) f is l in
    let played : (session : List ℕ) (t : Status) → old.left ≡ Some session → t ≡ status → Plays limit now (Some session) new.left mid.progress new.progress t =
    λ session t is e. subst (λ o. Plays limit now o new.left mid.progress new.progress t) is (subst (λ (u : Status). Plays limit now old.left new.left mid.progress new.progress u) (sym e) p) in
    record {
      usage = (λ e. absurd (apart e), λ n. absurd (cc));
      counts = counts_then old.shelf mid.shelf new.shelf old.source mid.source new.source old.progress.faults mid.progress.faults new.progress.faults status counted counts;
      quiet = quiet_unless old.progress.held new.progress.held status apart;
      reads = where_told old.files old.left (λ f session. ReadsAsWritten old.progress new.progress (form_text most limit (Some (of_files model ps)) f session) (form_reads most limit (Some (of_files model ps)) f session))
          (λ f session is told. stage_front (stage f) old.progress mid.progress new.progress now (λ s. session_text limit s session) (λ s. lines_reads s (session_lines limit session)) (came f is)
          (plays_front limit now session new.left mid.progress new.progress status (played session status told refl)));
      whole = λ all. where_told old.files old.left (λ f session. Grows old.progress.held new.progress.held (form_text most limit (Some (of_files model ps)) f session))
          (λ f session is told. stage_whole (stage f) old.progress mid.progress new.progress now (λ s. session_text limit s session) (came f is)
          (plays_whole limit now session new.left mid.progress new.progress status all (played session status told refl)));
      source_fault = λ e. where_told old.files old.left (λ f session. FailsAfter (taken_text most f (Some (of_files model ps))) old.left new.left old.progress.held new.progress.held)
          (λ f session is told.
          let q = subst (λ (u : Status). Plays limit now old.left new.left mid.progress new.progress u) e p in
          record {
            taken = q.taken;
            moved = q.moved;
            wrote = stage_whole (stage f) old.progress mid.progress new.progress now (λ s. replies_to s (ended_lines q.taken)) (came f is) q.came.3.wrote;
          });
      opens = where_held old.files (λ f. OpensSo status (form_opening most (Some (of_files model ps)) f))
          (λ f is. subst (OpensSo status) (sym ((came f is).opens (λ s. goes_on))) (goes_so limit now old.left new.left mid.progress new.progress status p));
      ended = ends_so limit now old.left new.left mid.progress new.progress status p;
    }

-- ---- a stage stopped the run before its session

stopped_opens : (stage : Stage) (a b : Progress) (why : Stop) → Comes stage a b (Err why) → OpensSo (stop_status why) (stage.opening (λ s. goes_on))
stopped_opens stage a b stop.Load m = subst (OpensSo Load) (sym (m.opens (λ s. goes_on))) refl
stopped_opens stage a b stop.ShelfFault m = tt
stopped_opens stage a b stop.SourceFault m = absurd m.form
stopped_opens stage a b stop.SinkFault m = tt
stopped_opens stage a b stop.NoMemory m = tt
stopped_opens stage a b stop.TooLong m = absurd m.form

stopped_whole : (stage : Stage) (a b : Progress) (text : MapState → List ℕ) (why : Stop) → IsWhole (stop_status why) ≡ true → Comes stage a b (Err why) → Grows a.held b.held (stage.text text)
stopped_whole stage a b text stop.Load whole m = stage_refused stage a b text m
stopped_whole stage a b text stop.TooLong whole m = absurd m.form
stopped_whole stage a b text _ whole m = absurd (cc)

stopped_quiet : (h h' : Option (List ℕ)) (why : Stop) → IsQuiet h h' (stop_status why)
stopped_quiet h h' stop.Load = tt
stopped_quiet h h' stop.ShelfFault = tt
stopped_quiet h h' stop.SourceFault = tt
stopped_quiet h h' stop.SinkFault = tt
stopped_quiet h h' stop.NoMemory = tt
stopped_quiet h h' stop.TooLong = tt

stopped_usage : (why : Stop) → stop_status why ≡ Usage → ⊥
stopped_usage stop.Load e = cc
stopped_usage stop.ShelfFault e = cc
stopped_usage stop.SourceFault e = cc
stopped_usage stop.SinkFault e = cc
stopped_usage stop.NoMemory e = cc
stopped_usage stop.TooLong e = cc

stopped_fault : (why : Stop) → StopsStage (Err why) → stop_status why ≡ SourceFault → ⊥
stopped_fault stop.SourceFault form e = form
stopped_fault stop.Load form e = cc
stopped_fault stop.ShelfFault form e = cc
stopped_fault stop.SinkFault form e = cc
stopped_fault stop.NoMemory form e = cc
stopped_fault stop.TooLong form e = cc

stopped_ends : (limit : ℕ) (left left' : Option (List ℕ)) (why : Stop) → StopsStage (Err why) → left' ≡ left → EndsSo limit left left' (stop_status why)
stopped_ends limit left left' stop.Load form same = rw same (Keeps-refl left)
stopped_ends limit left left' stop.ShelfFault form same = rw same (Keeps-refl left)
stopped_ends limit left left' stop.SourceFault form same = absurd form
stopped_ends limit left left' stop.SinkFault form same = record { taken = []; moved = rw same (Consumes-nil left); within = omega arith }
stopped_ends limit left left' stop.NoMemory form same = record { taken = []; moved = rw same (Consumes-nil left); within = omega arith }
stopped_ends limit left left' stop.TooLong form same = absurd form

pub runs_stopped : (most limit : ℕ) (model : Option (List ℕ)) (ps : List Pair) (old new : Seen) (why : Stop) → new.left ≡ old.left
    → Loads old.files (files_stage most model ps) old.progress new.progress (Err why) → RunCounts old.shelf new.shelf old.source new.source old.progress.faults new.progress.faults (stop_status why)
    → RunsTo most limit (Some (of_files model ps)) old new (stop_status why)
runs_stopped most limit model ps old new why same l counts =
    let stage : Files → Stage = files_stage most model ps in
    let came : (f : Files) → old.files ≡ Some f → Comes (stage f) old.progress new.progress (Err why) = λ f is. told_stage old.files most model ps old.progress new.progress (Err why) f is l in
    record {
      usage = (λ e. absurd (stopped_usage why e), λ n. absurd (cc));
      counts = counts;
      quiet = stopped_quiet old.progress.held new.progress.held why;
      reads = where_told old.files old.left (λ f session. ReadsAsWritten old.progress new.progress (form_text most limit (Some (of_files model ps)) f session) (form_reads most limit (Some (of_files model ps)) f session))
          (λ f session is told. stage_stopped (stage f) old.progress new.progress why (λ s. session_text limit s session) (λ s. lines_reads s (session_lines limit session)) (came f is));
      whole = λ all. where_told old.files old.left (λ f session. Grows old.progress.held new.progress.held (form_text most limit (Some (of_files model ps)) f session))
          (λ f session is told. stopped_whole (stage f) old.progress new.progress (λ s. session_text limit s session) why all (came f is));
      source_fault = λ e. absurd (stopped_fault why l.0 e);
      opens = where_held old.files (λ f. OpensSo (stop_status why) (form_opening most (Some (of_files model ps)) f)) (λ f is. stopped_opens (stage f) old.progress new.progress why (came f is));
      ended = stopped_ends limit old.left new.left why l.0 same;
    }

-- ---- the sample

sample_opens : (status : Status) → EndsSample status → OpensSo status goes_on
sample_opens Done e = refl
sample_opens SinkFault e = tt
sample_opens NoMemory e = tt
sample_opens _ e = absurd e

sample_usage : (status : Status) → EndsSample status → status ≡ Usage → ⊥
sample_usage Usage ends e = ends
sample_usage _ ends e = cc

sample_fault : (status : Status) → EndsSample status → status ≡ SourceFault → ⊥
sample_fault SourceFault ends e = ends
sample_fault _ ends e = cc

pub runs_sampled : (most limit n : ℕ) (old new : Seen) (status : Status) → new.left ≡ old.left → Sampled n old.progress new.progress status
    → RunCounts old.shelf new.shelf old.source new.source old.progress.faults new.progress.faults status → RunsTo most limit (Some (of_sample n)) old new status
runs_sampled most limit n old new status same m counts = record {
  usage = (λ e. absurd (sample_usage status m.ends e), λ none. absurd (cc));
  counts = counts;
  quiet = quiet_unless old.progress.held new.progress.held status (sample_usage status m.ends);
  reads = λ f session. m.reads;
  whole = λ all f session. m.whole all;
  source_fault = λ e. absurd (sample_fault status m.ends e);
  opens = λ f. subst (OpensSo status) (sym (sample_goes_on most n f)) (sample_opens status m.ends);
  ended = (rw same (Keeps-refl old.left), m.ends);
}

-- ---- without words of a form nothing is done

-- ---- the clauses of the top call

pub runs_front : (most limit : ℕ) (form : Option Form) (old new : Seen) (status : Status) → RunsTo most limit form old new status
    → WhereTold form old.files old.left (λ files session. WritesFront old.progress.held new.progress.held (form_text most limit form files session))
runs_front most limit None old new status r =
    told_map old.files old.left (λ f session. ReadsAsWritten old.progress new.progress [] (λ n. no_reads)) (λ f session. WritesFront old.progress.held new.progress.held []) (λ f session m. m.written) r.reads
runs_front most limit (Some (of_files model ps)) old new status r =
    told_map old.files old.left (λ f session. ReadsAsWritten old.progress new.progress (form_text most limit (Some (of_files model ps)) f session) (form_reads most limit (Some (of_files model ps)) f session))
    (λ f session. WritesFront old.progress.held new.progress.held (form_text most limit (Some (of_files model ps)) f session)) (λ f session m. m.written) r.reads
runs_front most limit (Some (of_sample n)) old new status r = λ f session. (r.reads f session).written

no_usage_of : (status : Status) (form : Option Form) → (status ≡ Usage → IsNone form) → IsSome form → status ≡ Usage → ⊥
no_usage_of status None usage some e = cc
no_usage_of status (Some f) usage some e = let none = usage e in cc

sample_completes : (n f f' s s' k k' : ℕ) (status : Status) → EndsSample status → RunCounts f f' s s' k k' status → NoneRose f f' s s' k k' → IsComplete status
sample_completes n f f' s s' k k' Done ends counts none = tt
sample_completes n f f' s s' k k' NoMemory ends counts none = tt
sample_completes n f f' s s' k k' SinkFault ends counts none = none.2 counts.2
sample_completes n f f' s s' k k' _ ends counts none = absurd ends

pub runs_complete : (most limit : ℕ) (form : Option Form) (old new : Seen) (status : Status) → RunsTo most limit form old new status → IsSome form
    → NoneRose old.shelf new.shelf old.source new.source old.progress.faults new.progress.faults
    → WhereTold form old.files old.left (λ files session. form_opening most form files ≡ goes_on → ComesToEnd limit session → IsComplete status)
runs_complete most limit None old new status r some none = absurd (cc)
runs_complete most limit (Some (of_files model ps)) old new status r some none =
    where_told old.files old.left (λ files session. form_opening most (Some (of_files model ps)) files ≡ goes_on → ComesToEnd limit session → IsComplete status)
    (λ f session is told goes comes. completes limit session new.left (form_opening most (Some (of_files model ps)) f) old.shelf new.shelf old.source new.source old.progress.faults new.progress.faults status
    (no_usage_of status (Some (of_files model ps)) r.usage.0 some) r.counts (held_at old.files (λ g. OpensSo status (form_opening most (Some (of_files model ps)) g)) f is r.opens)
    (subst (λ o. EndsSo limit o new.left status) told r.ended) none goes comes)
runs_complete most limit (Some (of_sample n)) old new status r some none = λ f session goes comes.
    sample_completes n old.shelf new.shelf old.source new.source old.progress.faults new.progress.faults status r.ended.1 r.counts none

pub runs_too_long : (most limit : ℕ) (form : Option Form) (old new : Seen) (status : Status) → RunsTo most limit form old new status → HasSession form
    → NoneRose old.shelf new.shelf old.source new.source old.progress.faults new.progress.faults
    → WhereTold form old.files old.left (λ files session. form_opening most form files ≡ goes_on → ComesToLimit limit session → IsTooLong status)
runs_too_long most limit None old new status r has none = absurd has
runs_too_long most limit (Some (of_files model ps)) old new status r has none =
    where_told old.files old.left (λ files session. form_opening most (Some (of_files model ps)) files ≡ goes_on → ComesToLimit limit session → IsTooLong status)
    (λ f session is told goes comes. too_long limit session new.left (form_opening most (Some (of_files model ps)) f) old.shelf new.shelf old.source new.source old.progress.faults new.progress.faults status
    (no_usage_of status (Some (of_files model ps)) r.usage.0 refl) r.counts (held_at old.files (λ g. OpensSo status (form_opening most (Some (of_files model ps)) g)) f is r.opens)
    (subst (λ o. EndsSo limit o new.left status) told r.ended) none goes comes)
runs_too_long most limit (Some (of_sample n)) old new status r has none = absurd has

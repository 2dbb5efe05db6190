-- The session so far.
use Rattle.std.proofs.Common.{◌-◌, min, take, ◌≡◌, ◌≤◌, ◌<◌, ◌+◌, ◌++◌, ℕ, Bool, true, false, List, [], length, refl, sym, ap, ◌∙◌, subst, arith, Option, Result, Ok, Err, inl, inr}
use Rattle.std.specs.Io.KnownBytes.{Consumes, IsAtEnd}
use Rattle.std.proofs.KnownBytes.{Consumes-nil, Consumes-trans}
use Rattle.std.proofs.lemmas.List.{append-nil, length-append, length-take}
use Rattle.map_machine.specs.Lines.{open_piece, ended_lines, lines_of, further_lines}
use Rattle.map_machine.specs.States.{MapState}
use Rattle.map_machine.proofs.LinesLemmas.{ended_lines-append}
use Rattle.map_run.specs.Kept.{IsKept}
use Rattle.map_run.specs.Answered.{Answered, AnswersAll}
use Rattle.map_run.specs.FaultCounts.{RunCounts}
use Rattle.map_run.specs.Progress.{Progress}
use Rattle.map_run.specs.Played.{CameTo, Plays}
use Rattle.map_run.specs.Stops.{status_of}
use Rattle.map_run.specs.declared.status.Status.TheVariants.{NoMemory as Lacking}
use Rattle.map_run.specs.declared.lines.Fed.{Fed}
use Rattle.map_run.specs.declared.lines.Fed.TheVariants.{More, Quit}
use Rattle.map_run.specs.declared.stop.Stop.{Stop}
use Rattle.map_run.specs.declared.stop.Stop.TheVariants.{SinkFault, NoMemory}
use Rattle.map_run.proofs.AnsweredLemmas.{answered_then, nothing_answered, stopped_before}

-- the lines that ended among the bytes taken were answered, and what follows the last line feed is kept
pub record Playing (old now : MapState) (left left' : Option (List ℕ)) (a b : Progress) (kept : List ℕ) (count : ℕ) (returns : Bool) (taken : ℕ) : Type 0 where
  pub bytes : List ℕ
  pub size : taken ≡ length bytes
  pub moved : Consumes left left' bytes
  pub answered : AnswersAll old now (ended_lines bytes) a b
  pub kept_so : IsKept (open_piece bytes) kept count returns

pub begins : (s : MapState) (left : Option (List ℕ)) (a : Progress) (kept : List ℕ) (count : ℕ) (returns : Bool) → IsKept [] kept count returns
    → Playing s s left left a a kept count returns 0
begins s left a kept count returns k = record {
  bytes = [];
  size = refl;
  moved = Consumes-nil left;
  answered = nothing_answered s a;
  kept_so = k;
}

-- a chunk of bytes, after those so far
pub chunk_then : (old mid new : MapState) (a b c : Progress) (bytes chunk : List ℕ) (fed : Result Fed Stop)
    → AnswersAll old mid (ended_lines bytes) a b → Answered mid new (further_lines bytes chunk) b c fed
    → Answered old new (ended_lines (bytes ++ chunk)) a c fed
chunk_then old mid new a b c bytes chunk fed m n =
    let P : List (List ℕ) → Type 0 = λ lines. Answered old new lines a c fed in
    subst P (sym (ended_lines-append bytes chunk)) (answered_then old mid new (ended_lines bytes) (further_lines bytes chunk) a b c fed m n)

-- the front of a buffer that was fed
pub fed_front : (mid new : MapState) (bytes chunk chunk' : List ℕ) (b c : Progress) (fed fed' : Result Fed Stop) → chunk ≡ chunk' → fed ≡ fed'
    → Answered mid new (further_lines bytes chunk) b c fed → Answered mid new (further_lines bytes chunk') b c fed'
fed_front mid new bytes chunk chunk' b c fed fed' e f m =
    let P : List ℕ → Result Fed Stop → Type 0 = λ bs r. Answered mid new (further_lines bytes bs) b c r in
    subst (P chunk') f (subst (λ (bs : List ℕ). P bs fed) e m)

-- nothing was taken, for want of memory
pub plays_nothing : (limit : ℕ) (s : MapState) (left : Option (List ℕ)) (a : Progress) → Plays limit s left left a a Lacking
plays_nothing limit s left a = record {
  taken = [];
  ended = false;
  within = omega arith;
  moved = Consumes-nil left;
  at_end = λ e. absurd (cc);
  came = stopped_before s [] a;
}

stopped_so : (limit : ℕ) (old new : MapState) (a b : Progress) (taken : List ℕ) (fed : Result Fed Stop) → (fed ≡ Ok More → ⊥)
    → Answered old new (ended_lines taken) a b fed → CameTo limit old taken false a b (status_of fed)
stopped_so limit old new a b taken (Ok More) apart m = absurd (apart refl)
stopped_so limit old new a b taken (Ok Quit) apart m = (inr m.some, m.whole)
stopped_so limit old new a b taken (Err SinkFault) apart m = m.at
stopped_so limit old new a b taken (Err NoMemory) apart m = m.at
stopped_so limit old new a b taken (Err _) apart m = absurd m

finished_so : (limit : ℕ) (old new : MapState) (a b : Progress) (taken : List ℕ) (fed : Result Fed Stop)
    → Answered old new (lines_of taken) a b fed → CameTo limit old taken true a b (status_of fed)
finished_so limit old new a b taken (Ok More) m = (inl refl, m.whole)
finished_so limit old new a b taken (Ok Quit) m = (inl refl, m.whole)
finished_so limit old new a b taken (Err SinkFault) m = m.at
finished_so limit old new a b taken (Err NoMemory) m = m.at
finished_so limit old new a b taken (Err _) m = absurd m

-- the session stopped before its end
pub plays_stopped : (limit : ℕ) (old new : MapState) (left left' : Option (List ℕ)) (a b : Progress) (taken : List ℕ) (fed : Result Fed Stop) → (fed ≡ Ok More → ⊥)
    → length taken ≤ limit → Consumes left left' taken → Answered old new (ended_lines taken) a b fed
    → Plays limit old left left' a b (status_of fed)
plays_stopped limit old new left left' a b taken fed apart within moved m = record {
  taken = taken;
  ended = false;
  within = within;
  moved = moved;
  at_end = λ e. absurd (cc);
  came = stopped_so limit old new a b taken fed apart m;
}

-- the end was seen
pub plays_finished : (limit : ℕ) (old new : MapState) (left left' : Option (List ℕ)) (a b : Progress) (taken : List ℕ) (fed : Result Fed Stop)
    → length taken < limit → Consumes left left' taken → IsAtEnd left' → Answered old new (lines_of taken) a b fed
    → Plays limit old left left' a b (status_of fed)
plays_finished limit old new left left' a b taken fed short moved at_end m = record {
  taken = taken;
  ended = true;
  within = omega arith;
  moved = moved;
  at_end = λ e. (at_end, short);
  came = finished_so limit old new a b taken fed m;
}

-- nothing more was taken
pub moved_nothing : (left left' left'' : Option (List ℕ)) (taken none : List ℕ) → none ≡ [] → Consumes left left' taken → Consumes left' left'' none → Consumes left left'' taken
moved_nothing left left' left'' taken none is a b =
    subst (Consumes left left'') (ap (λ l. taken ++ l) is ∙ append-nil taken) (Consumes-trans left left' left'' taken none a b)

-- one more chunk
pub goes_on : (old mid new : MapState) (left left' left'' : Option (List ℕ)) (a b c : Progress) (kept kept' : List ℕ) (count count' : ℕ) (returns returns' : Bool)
    (taken n : ℕ) (chunk : List ℕ) → (p : Playing old mid left left' a b kept count returns taken) → n ≡ length chunk → Consumes left' left'' chunk
    → AnswersAll mid new (further_lines p.bytes chunk) b c → IsKept (open_piece (p.bytes ++ chunk)) kept' count' returns'
    → Playing old new left left'' a c kept' count' returns' (taken + n)
goes_on old mid new left left' left'' a b c kept kept' count count' returns returns' taken n chunk p size moved answered kept_so = record {
  bytes = p.bytes ++ chunk;
  size = omega (arith, p.size, length-append p.bytes chunk);
  moved = Consumes-trans left left' left'' p.bytes chunk p.moved moved;
  answered = chunk_then old mid new a b c p.bytes chunk (Ok More) p.answered answered;
  kept_so = kept_so;
}

-- the counts at such an ending
pub counts_for : (old new : MapState) (lines : List (List ℕ)) (a b : Progress) (shelf s s' : ℕ) (fed : Result Fed Stop) → s' ≡ s
    → Answered old new lines a b fed → RunCounts shelf shelf s s' a.faults b.faults (status_of fed)
counts_for old new lines a b shelf s s' (Ok More) same m = (refl, same, m.same)
counts_for old new lines a b shelf s s' (Ok Quit) same m = (refl, same, m.same)
counts_for old new lines a b shelf s s' (Err SinkFault) same m = (refl, same, m.rose)
counts_for old new lines a b shelf s s' (Err NoMemory) same m = (refl, same, m.same)
counts_for old new lines a b shelf s s' (Err _) same m = absurd m

-- ---- how many bytes a call asks for

pub room_some : (room limit taken : ℕ) (into chunk : List ℕ) → length into ≡ length (take room chunk) → room ≡ min (limit - taken) (length chunk) → taken < limit
    → 0 < length chunk → 0 < length into
room_some room limit taken into chunk size is short some = omega (arith, length-take room chunk)

pub room_within : (n room limit taken : ℕ) (into chunk : List ℕ) → n ≤ length into → length into ≡ length (take room chunk) → room ≡ min (limit - taken) (length chunk)
    → taken ≤ limit → taken + n ≤ limit
room_within n room limit taken into chunk fits size is within = omega (arith, length-take room chunk)

pub short_still : (count' count taken n : ℕ) (into rest : List ℕ) → n ≤ length into → count' ≤ count + length (take n (into ++ rest)) → count ≤ taken → count' ≤ taken + n
short_still count' count taken n into rest fits grew short = omega (arith, length-take n (into ++ rest))

pub still_within : (taken n limit : ℕ) (bytes into : List ℕ) → taken ≡ length bytes → n ≤ length into → taken + n ≤ limit → length (bytes ++ take n into) ≤ limit
still_within taken n limit bytes into size fits within = omega (arith, length-append bytes (take n into), length-take n into)

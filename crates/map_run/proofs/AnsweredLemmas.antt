-- How far a run has come, line by line.
use Rattle.std.proofs.Common.{◌≡◌, ◌+◌, ℕ, true, false, List, [], ◌∷◌, ◌++◌, ◌||◌, length, take, drop, refl, sym, ap, ◌∙◌, subst, Result, Ok, Err}
use Rattle.std.specs.List.{list_any}
use Rattle.std.proofs.lemmas.Bool.{false_from_ne_true}
use Rattle.std.proofs.lemmas.List.{append_assoc, append-nil, take-append-drop, length-append}
use Rattle.std.proofs.lemmas.List.Folds.{list_any-append}
use Rattle.layer_tiles.specs.Tallies.{TallyState}
use Rattle.map_nums.specs.Counts.{Rose}
use Rattle.map_outside.specs.Contents.{Grows}
use Rattle.map_outside.proofs.Tellings.{grows_nil, grows_then}
use Rattle.map_machine.specs.States.{MapState}
use Rattle.map_machine.specs.declared.Kind.TheVariants.{Quit as QuitKind}
use Rattle.map_machine.specs.Steps.{step_of, is_quit}
use Rattle.map_machine.specs.Text.{reply_to, state_to, replies_to, state_after}
use Rattle.map_machine.specs.Lines.{further_lines}
use Rattle.map_machine.specs.LineReads.{line_reads}
use Rattle.map_machine.specs.SessionReads.{lines_reads}
use Rattle.map_machine.proofs.LinesLemmas.{further_lines-append}
use Rattle.map_machine.proofs.ReadsLemmas.{lines_reads-front, lines_reads-append, lines_reads-quit, lines_reads-one, line_reads-quit}
use Rattle.map_machine.proofs.StepLemmas.{quit_kind}
use Rattle.map_machine.proofs.TextLemmas.{state_after-append, replies_to-append, replies_to-quit, replies_to-one, replies_to-begin}
use Rattle.map_run.specs.Front.{ReadsAsWritten}
use Rattle.map_run.specs.Progress.{Progress, Rises}
use Rattle.map_run.specs.Answered.{StoppedAt, first_of, AnswersWhole, AnswersAll, AnswersToQuit, LacksMemory, Answered}
use Rattle.map_run.specs.declared.lines.Fed.{Fed}
use Rattle.map_run.specs.declared.lines.Fed.TheVariants.{More, Quit}
use Rattle.map_run.specs.declared.stop.Stop.{Stop}
use Rattle.map_run.specs.declared.stop.Stop.TheVariants.{SinkFault, NoMemory}
use Rattle.map_run.proofs.Rising.{rises_nothing, rises_then, rises_within}

-- ---- one line

-- a line that isn't told as the end goes on
pub not_quit : (s : MapState) (line : List ℕ) → ((step_of s line).kind ≡ QuitKind → ⊥) → is_quit line ≡ false
not_quit s line apart = false_from_ne_true (is_quit line) (λ e. apart ((quit_kind s line).1 e))

one_line_reads : (s : MapState) (line : List ℕ) (n : ℕ) → lines_reads s (line ∷ []) n ≡ line_reads s line
one_line_reads s line n = elim (is_quit line) as (λ t. is_quit line ≡ t → lines_reads s (line ∷ []) n ≡ line_reads s line) [
  | true ↦ λ e. rw e (sym (line_reads-quit s line e))
  | false ↦ λ e. lines_reads-one s line n e
] refl

one_rises : (s : MapState) (line : List ℕ) (n : ℕ) (x y : TallyState) → Rises (line_reads s line) x y → Rises (lines_reads s (line ∷ []) n) x y
one_rises s line n x y rises = subst (λ r. Rises r x y) (sym (one_line_reads s line n)) rises

pub one_answered : (s : MapState) (line reply : List ℕ) (a b : Progress) → is_quit line ≡ false → reply ≡ reply_to s line
    → Grows a.held b.held reply → b.faults ≡ a.faults → Rises (line_reads s line) a.tally b.tally → AnswersAll s (state_to s line) (line ∷ []) a b
one_answered s line reply a b goes is wrote same rises = record {
  none = rw goes refl;
  state = refl;
  whole = record {
    wrote = subst (Grows a.held b.held) (is ∙ sym (replies_to-one s line goes)) wrote;
    reads = one_rises s line (length (replies_to s (line ∷ []))) a.tally b.tally rises;
  };
  same = same;
}

-- of the reply to the one line a front was written
pub one_stopped : (s : MapState) (line reply : List ℕ) (a b : Progress) (n : ℕ) → is_quit line ≡ false → reply ≡ reply_to s line
    → Grows a.held b.held (take n reply) → Rises (line_reads s line) a.tally b.tally → StoppedAt s (line ∷ []) a b
one_stopped s line reply a b n goes is wrote rises = record {
  answered = [];
  others = line ∷ [];
  split = refl;
  none = refl;
  part = take n reply;
  unwritten = drop n reply;
  reply = replies_to-one s line goes ∙ sym is ∙ sym (take-append-drop n reply);
  wrote = wrote;
  reads = one_rises s line (length (take n reply)) a.tally b.tally rises;
}

-- it stopped before a line was answered
stopped_first : (s : MapState) (lines : List (List ℕ)) (a b : Progress) → b.held ≡ a.held → Rises (lines_reads s lines 0) a.tally b.tally → StoppedAt s lines a b
stopped_first s lines a b same rises = record {
  answered = [];
  others = lines;
  split = refl;
  none = refl;
  part = [];
  unwritten = replies_to s (first_of lines);
  reply = refl;
  wrote = subst (λ h. Grows a.held h []) (sym same) (grows_nil a.held);
  reads = rises;
}

pub stopped_before : (s : MapState) (lines : List (List ℕ)) (a : Progress) → StoppedAt s lines a a
stopped_before s lines a = stopped_first s lines a a refl (rises_nothing (lines_reads s lines 0) a.tally)

pub lacks_before : (s : MapState) (lines : List (List ℕ)) (a : Progress) → LacksMemory s lines a a
lacks_before s lines a = record { at = stopped_before s lines a; same = refl }

-- memory was wanted for the line
pub one_lacks : (s : MapState) (line : List ℕ) (a b : Progress) → b.held ≡ a.held → b.faults ≡ a.faults → Rises (line_reads s line) a.tally b.tally → LacksMemory s (line ∷ []) a b
one_lacks s line a b same faults rises = record { at = stopped_first s (line ∷ []) a b same (one_rises s line 0 a.tally b.tally rises); same = faults }

pub one_quits : (s : MapState) (line : List ℕ) (a b : Progress) → is_quit line ≡ true → b.held ≡ a.held → b.faults ≡ a.faults → Rises (line_reads s line) a.tally b.tally
    → AnswersToQuit s (line ∷ []) a b
one_quits s line a b ends same faults rises = record {
  some = rw ends refl;
  whole = record {
    wrote = rw ends (subst (λ h. Grows a.held h []) (sym same) (grows_nil a.held));
    reads = one_rises s line (length (replies_to s (line ∷ []))) a.tally b.tally rises;
  };
  same = faults;
}

-- the same, told of an equal state after
pub answered_at : (s t u : MapState) (lines : List (List ℕ)) (a b : Progress) (fed : Result Fed Stop) → t ≡ u → Answered s t lines a b fed → Answered s u lines a b fed
answered_at s t u lines a b fed same m = subst (λ v. Answered s v lines a b fed) same m

pub answered_lines : (s t : MapState) (lines lines' : List (List ℕ)) (a b : Progress) (fed : Result Fed Stop) → lines ≡ lines' → Answered s t lines a b fed → Answered s t lines' a b fed
answered_lines s t lines lines' a b fed same m = subst (λ ls. Answered s t ls a b fed) same m

pub answered_fed : (s t : MapState) (lines : List (List ℕ)) (a b : Progress) (fed fed' : Result Fed Stop) → fed ≡ fed' → Answered s t lines a b fed → Answered s t lines a b fed'
answered_fed s t lines a b fed fed' same m = subst (λ f. Answered s t lines a b f) same m

pub nothing_answered : (s : MapState) (a : Progress) → AnswersAll s s [] a a
nothing_answered s a = record {
  none = refl;
  state = refl;
  whole = record { wrote = grows_nil a.held; reads = rises_nothing (lines_reads s [] 0) a.tally };
  same = refl;
}

-- ---- fronts

-- all replies are a front
pub whole_front : (s : MapState) (lines : List (List ℕ)) (a b : Progress) → AnswersWhole s lines a b → ReadsAsWritten a b (replies_to s lines) (lines_reads s lines)
whole_front s lines a b w = record {
  written = record { front = replies_to s lines; rest = []; whole = sym (append-nil (replies_to s lines)); wrote = w.wrote };
  rose = w.reads;
}

-- more lines after those that were answered
pub front_more : (s : MapState) (lines more : List (List ℕ)) (a b : Progress) → ReadsAsWritten a b (replies_to s lines) (lines_reads s lines)
    → ReadsAsWritten a b (replies_to s (lines ++ more)) (lines_reads s (lines ++ more))
front_more s lines more a b r =
    let m = replies_to-begin s lines more in
    let w = r.written in
    record {
      written = record { front = w.front; rest = w.rest ++ m.0; whole = m.1 ∙ ap (λ l. l ++ m.0) w.whole ∙ append_assoc w.front w.rest m.0; wrote = w.wrote };
      rose = rises_within (lines_reads s lines (length w.front)) (lines_reads s (lines ++ more) (length w.front)) a.tally b.tally (lines_reads-front s lines more (length w.front)) r.rose;
    }

next_more : (s : MapState) (others more : List (List ℕ)) (part unwritten : List ℕ) → replies_to s (first_of others) ≡ part ++ unwritten
    → (rest : List ℕ) × (replies_to s (first_of (others ++ more)) ≡ part ++ rest)
next_more s [] more [] unwritten e = (replies_to s (first_of more), refl)
next_more s [] more (b ∷ part) unwritten e = absurd (cc)
next_more s (line ∷ others) more part unwritten e = (unwritten, e)

stopped_on : (s : MapState) (lines more : List (List ℕ)) (a b : Progress) → StoppedAt s lines a b → StoppedAt s (lines ++ more) a b
stopped_on s lines more a b m =
    let next = next_more (state_after s m.answered) m.others more m.part m.unwritten m.reply in
    let n = length (replies_to s m.answered ++ m.part) in
    record {
      answered = m.answered;
      others = m.others ++ more;
      split = ap (λ l. l ++ more) m.split ∙ append_assoc m.answered m.others more;
      none = m.none;
      part = m.part;
      unwritten = next.0;
      reply = next.1;
      wrote = m.wrote;
      reads = rises_within (lines_reads s lines n) (lines_reads s (lines ++ more) n) a.tally b.tally (lines_reads-front s lines more n) m.reads;
    }

begins_with_first : (s : MapState) (lines : List (List ℕ)) → (rest : List ℕ) × (replies_to s lines ≡ replies_to s (first_of lines) ++ rest)
begins_with_first s [] = ([], refl)
begins_with_first s (line ∷ lines) = replies_to-begin s (line ∷ []) lines

-- what was written before it stopped is a front of the text
pub stopped_front : (s : MapState) (lines : List (List ℕ)) (a b : Progress) → StoppedAt s lines a b → ReadsAsWritten a b (replies_to s lines) (lines_reads s lines)
stopped_front s lines a b m =
    let after = state_after s m.answered in
    let next = begins_with_first after m.others in
    let others : replies_to after m.others ≡ m.part ++ (m.unwritten ++ next.0) =
    next.1 ∙ ap (λ l. l ++ next.0) m.reply ∙ append_assoc m.part m.unwritten next.0 in
    record {
      written = record {
        front = replies_to s m.answered ++ m.part;
        rest = m.unwritten ++ next.0;
        whole = ap (replies_to s) m.split ∙ replies_to-append s m.answered m.others m.none ∙ ap (λ l. replies_to s m.answered ++ l) others
            ∙ sym (append_assoc (replies_to s m.answered) m.part (m.unwritten ++ next.0));
        wrote = m.wrote;
      };
      rose = m.reads;
    }

-- ---- lines, and then more

-- what stopped at some lines stops at more lines
pub stopped_more : (old new new' : MapState) (lines more : List (List ℕ)) (a b : Progress) (fed : Result Fed Stop) → (fed ≡ Ok More → ⊥)
    → Answered old new lines a b fed → Answered old new' (lines ++ more) a b fed
stopped_more old new new' lines more a b (Ok More) apart m = absurd (apart refl)
stopped_more old new new' lines more a b (Ok Quit) apart m =
    let text = replies_to-quit old lines more m.some in
    let n = length (replies_to old lines) in
    record {
      some = list_any-append is_quit lines more ∙ ap (λ t. t || list_any is_quit more) m.some;
      whole = record {
        wrote = subst (Grows a.held b.held) (sym text) m.whole.wrote;
        reads = subst (λ k. Rises (lines_reads old (lines ++ more) k) a.tally b.tally) (ap length (sym text))
            (subst (λ r. Rises r a.tally b.tally) (sym (lines_reads-quit old lines more n m.some)) m.whole.reads);
      };
      same = m.same;
    }
stopped_more old new new' lines more a b (Err SinkFault) apart m = record { at = stopped_on old lines more a b m.at; rose = m.rose }
stopped_more old new new' lines more a b (Err NoMemory) apart m = record { at = stopped_on old lines more a b m.at; same = m.same }
stopped_more old new new' lines more a b (Err _) apart m = absurd m

none_append : (lines more : List (List ℕ)) → list_any is_quit lines ≡ false → list_any is_quit (lines ++ more) ≡ list_any is_quit more
none_append lines more none = list_any-append is_quit lines more ∙ ap (λ t. t || list_any is_quit more) none

text_then : (old mid : MapState) (lines more : List (List ℕ)) (a b : Progress) → AnswersAll old mid lines a b → replies_to old (lines ++ more) ≡ replies_to old lines ++ replies_to mid more
text_then old mid lines more a b m = replies_to-append old lines more m.none ∙ ap (λ s. replies_to old lines ++ replies_to s more) (sym m.state)

-- of the text of all lines, so much after what was written for the first
reads_then : (old mid : MapState) (lines more : List (List ℕ)) (a b c : Progress) (n k : ℕ) → AnswersAll old mid lines a b → Rises (lines_reads mid more n) b.tally c.tally
    → length (replies_to old lines) + n ≡ k → Rises (lines_reads old (lines ++ more) k) a.tally c.tally
reads_then old mid lines more a b c n k m later sum =
    let first = lines_reads old lines (length (replies_to old lines)) in
    let next = lines_reads (state_after old lines) more n in
    subst (λ j. Rises (lines_reads old (lines ++ more) j) a.tally c.tally) sum
    (subst (λ r. Rises r a.tally c.tally) (sym (lines_reads-append old lines more n m.none))
    (rises_then first next a.tally b.tally c.tally m.whole.reads (subst (λ s. Rises (lines_reads s more n) b.tally c.tally) m.state later)))

whole_then : (old mid : MapState) (lines more : List (List ℕ)) (a b c : Progress) → AnswersAll old mid lines a b → AnswersWhole mid more b c → AnswersWhole old (lines ++ more) a c
whole_then old mid lines more a b c m w =
    let text = text_then old mid lines more a b m in
    record {
      wrote = subst (Grows a.held c.held) (sym text) (grows_then a.held b.held c.held (replies_to old lines) (replies_to mid more) m.whole.wrote w.wrote);
      reads = reads_then old mid lines more a b c (length (replies_to mid more)) (length (replies_to old (lines ++ more))) m w.reads
          (sym (ap length text ∙ length-append (replies_to old lines) (replies_to mid more)));
    }

stopped_then : (old mid : MapState) (lines more : List (List ℕ)) (a b c : Progress) → AnswersAll old mid lines a b → StoppedAt mid more b c → StoppedAt old (lines ++ more) a c
stopped_then old mid lines more a b c m w =
    let later = replies_to mid w.answered ++ w.part in
    let text : replies_to old lines ++ later ≡ replies_to old (lines ++ w.answered) ++ w.part =
    sym (append_assoc (replies_to old lines) (replies_to mid w.answered) w.part) ∙ ap (λ l. l ++ w.part) (sym (text_then old mid lines w.answered a b m)) in
    record {
      answered = lines ++ w.answered;
      others = w.others;
      split = ap (λ l. lines ++ l) w.split ∙ sym (append_assoc lines w.answered w.others);
      none = none_append lines w.answered m.none ∙ w.none;
      part = w.part;
      unwritten = w.unwritten;
      reply = ap (λ s. replies_to s (first_of w.others)) (state_after-append old lines w.answered ∙ ap (λ s. state_after s w.answered) (sym m.state)) ∙ w.reply;
      wrote = subst (Grows a.held c.held) text (grows_then a.held b.held c.held (replies_to old lines) later m.whole.wrote w.wrote);
      reads = reads_then old mid lines more a b c (length later) (length (replies_to old (lines ++ w.answered) ++ w.part)) m w.reads
          (sym (length-append (replies_to old lines) later) ∙ ap length text);
    }

-- lines that were answered, and then more
pub answered_then : (old mid new : MapState) (lines more : List (List ℕ)) (a b c : Progress) (fed : Result Fed Stop)
    → AnswersAll old mid lines a b → Answered mid new more b c fed → Answered old new (lines ++ more) a c fed
answered_then old mid new lines more a b c (Ok More) m n = record {
  none = none_append lines more m.none ∙ n.none;
  state = n.state ∙ ap (λ s. state_after s more) m.state ∙ sym (state_after-append old lines more);
  whole = whole_then old mid lines more a b c m n.whole;
  same = n.same ∙ m.same;
}
answered_then old mid new lines more a b c (Ok Quit) m n = record {
  some = none_append lines more m.none ∙ n.some;
  whole = whole_then old mid lines more a b c m n.whole;
  same = n.same ∙ m.same;
}
answered_then old mid new lines more a b c (Err SinkFault) m n = record {
  at = stopped_then old mid lines more a b c m n.at;
  rose = subst (λ k. Rose k c.faults) m.same n.rose;
}
answered_then old mid new lines more a b c (Err NoMemory) m n = record {
  at = stopped_then old mid lines more a b c m n.at;
  same = n.same ∙ m.same;
}
answered_then old mid new lines more a b c (Err _) m n = absurd n

-- the lines that some bytes end after those so far
pub bytes_then : (taken done more : List ℕ) (old mid new : MapState) (a b c : Progress) (fed : Result Fed Stop)
    → AnswersAll old mid (further_lines taken done) a b → Answered mid new (further_lines (taken ++ done) more) b c fed
    → Answered old new (further_lines taken (done ++ more)) a c fed
bytes_then taken done more old mid new a b c fed m n =
    let P : List (List ℕ) → Type 0 = λ lines. Answered old new lines a c fed in
    subst P (sym (further_lines-append taken done more)) (answered_then old mid new (further_lines taken done) (further_lines (taken ++ done) more) a b c fed m n)

-- the bytes at which it stopped, and those after them
pub bytes_stop : (taken done rest : List ℕ) (old new new' : MapState) (a b : Progress) (fed : Result Fed Stop) → (fed ≡ Ok More → ⊥)
    → Answered old new (further_lines taken done) a b fed → Answered old new' (further_lines taken (done ++ rest)) a b fed
bytes_stop taken done rest old new new' a b fed apart m =
    let P : List (List ℕ) → Type 0 = λ lines. Answered old new' lines a b fed in
    subst P (sym (further_lines-append taken done rest)) (stopped_more old new new' (further_lines taken done) (further_lines (taken ++ done) rest) a b fed apart m)

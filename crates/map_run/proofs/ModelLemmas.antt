-- The lines of a model file, one after another.
use Rattle.std.proofs.Common.{◌≡◌, ◌≤◌, ℕ, Bool, true, false, cond, List, [], ◌∷◌, ◌++◌, length, take, drop, refl, sym, ap, ◌∙◌, subst, append_assoc, Option, Some, None, Result, Ok, Err, Vec, arith}
use Rattle.std.specs.declared.alloc.Global.{Global}
use Rattle.std.proofs.lemmas.Bool.{lt-ltb, le-ltb}
use Rattle.std.proofs.lemmas.List.{append-nil, take-append-drop}
use Rattle.map_edits.specs.Allowances.{Reads, no_reads}
use Rattle.map_edits.specs.CountLaws.{IsWithin}
use Rattle.map_machine.specs.States.{MapState}
use Rattle.map_machine.specs.declared.Kind.{Kind}
use Rattle.map_machine.specs.declared.Kind.TheVariants as kinds
use Rattle.map_machine.specs.Lines.{has_line_feed, open_piece, without_return, ended_lines, last_line, lines_of}
use Rattle.map_machine.specs.Loads.{ready, turned_away}
use Rattle.map_machine.specs.Openings.{Opening, turned_back}
use Rattle.map_machine.specs.ModelFiles.{is_refused, long_model_reply, model_lines_text, model_lines_opening}
use Rattle.map_machine.specs.OpeningReads.{model_lines_reads}
use Rattle.map_machine.specs.LineReads.{line_reads}
use Rattle.map_machine.specs.SessionReads.{and_then}
use Rattle.map_machine.specs.Steps.{is_quit}
use Rattle.map_machine.specs.Text.{reply_to, state_to, kind_to}
use Rattle.map_machine.proofs.LinesLemmas.{ended_lines-append, open_piece-append}
use Rattle.map_machine.proofs.ReadsLemmas.{line_reads-quit}
use Rattle.map_outside.specs.Contents.{Files, Fetches, Grows}
use Rattle.map_outside.specs.declared.shelves.FetchFault.TheVariants.{Long}
use Rattle.map_outside.specs.declared.sinks.PutFault.{PutFault}
use Rattle.map_outside.specs.declared.sinks.PutFault.TheVariants as put
use Rattle.map_outside.proofs.Tellings.{grows_nil}
use Rattle.map_run.specs.Progress.{Progress, Rises}
use Rattle.map_run.specs.Stages.{Stage, StopsStage, LeavesOf, OpensAs, Comes}
use Rattle.map_run.specs.Loads.{Loads, LoadsAs, opened_stage, model_lines_stage, model_file_stage}
use Rattle.map_run.specs.Models.{ModelGoes}
use Rattle.map_run.specs.Stops.{put_stop}
use Rattle.map_run.specs.declared.lines.Fed.{Fed}
use Rattle.map_run.specs.declared.lines.Fed.TheVariants.{More, Quit}
use Rattle.map_run.specs.declared.stop.Stop.{Stop}
use Rattle.map_run.specs.declared.stop.Stop.TheVariants.{Load, SinkFault, NoMemory}
use Rattle.map_run.proofs.LineCuts.{no_line, one_line}
use Rattle.map_run.proofs.Rising.{rises_nothing, rises_within, and_then-own}
use Rattle.map_run.proofs.StageLemmas.{comes_then, comes_nothing, comes_quietly, opened_comes}

-- ---- the lines of a file

lines_cut : (line further : List ℕ) → has_line_feed line ≡ false → lines_of ((line ++ 10 ∷ []) ++ further) ≡ without_return line ∷ lines_of further
lines_cut line further none =
    let all = line ++ 10 ∷ [] in
    let first = one_line [] line none in
    let ended : ended_lines (all ++ further) ≡ without_return line ∷ ended_lines further =
    ended_lines-append all further ∙ ap (λ l. l ++ ended_lines (open_piece all ++ further)) first.0 ∙ ap (λ p. (without_return line ∷ []) ++ ended_lines (p ++ further)) first.1 in
    let open' : open_piece (all ++ further) ≡ open_piece further = open_piece-append all further ∙ ap (λ p. open_piece (p ++ further)) first.1 in
    ap (λ l. l ++ last_line (open_piece (all ++ further))) ended ∙ ap (λ p. (without_return line ∷ ended_lines further) ++ last_line p) open'

-- the line that is cut off, and those of the rest
pub lines_at : (rest line further w : List ℕ) → rest ≡ (line ++ 10 ∷ []) ++ further → has_line_feed line ≡ false → w ≡ without_return line → (w ∷ lines_of further) ≡ lines_of rest
lines_at rest line further w cut none is = ap (λ l. l ∷ lines_of further) is ∙ sym (lines_cut line further none) ∙ ap lines_of (sym cut)

pub lines_last : (rest : List ℕ) → has_line_feed rest ≡ false → lines_of rest ≡ last_line rest
lines_last rest none =
    let whole = no_line [] rest none in
    ap (λ l. l ++ last_line (open_piece rest)) whole.0 ∙ ap last_line whole.1

-- ---- one line

-- the stage of a line and those after it, by whether it ends the file's part and whether it is refused
abbrev model_by : MapState → List ℕ → List (List ℕ) → Bool → Bool → Stage
model_by s line lines quits refused = record {
  text = λ next. cond quits (next s) (reply_to s line ++ cond refused [] (model_lines_text (state_to s line) lines next));
  opening = λ next. cond quits (next s) (cond refused turned_back (model_lines_opening (state_to s line) lines next));
  reads = λ n next. cond quits (next s n) (and_then (line_reads s line) (reply_to s line) n (λ left. cond refused no_reads (model_lines_reads (state_to s line) lines left next)));
}

pub model_quits : (s : MapState) (line : List ℕ) (lines : List (List ℕ)) (a b : Progress) → is_quit line ≡ true → b.held ≡ a.held → Rises (line_reads s line) a.tally b.tally
    → Comes (model_lines_stage s (line ∷ lines)) a b (Ok s)
model_quits s line lines a b quits same rises =
    subst (λ q. Comes (model_by s line lines q (is_refused (kind_to s line))) a b (Ok s)) (sym quits)
    (comes_quietly s a b same (subst (λ r. Rises r a.tally b.tally) (line_reads-quit s line quits) rises))

pub model_more : (s t : MapState) (line reply : List ℕ) (lines : List (List ℕ)) (a b c : Progress) (came : Result MapState Stop) → is_quit line ≡ false → is_refused (kind_to s line) ≡ false
    → t ≡ state_to s line → reply ≡ reply_to s line → Grows a.held b.held reply → Rises (line_reads s line) a.tally b.tally
    → Comes (model_lines_stage t lines) b c came → Comes (model_lines_stage s (line ∷ lines)) a c came
model_more s t line reply lines a b c came goes accepted same is wrote rises later =
    let u = state_to s line in
    let first : Comes (opened_stage (line_reads s line) (ready u (reply_to s line))) a b (Ok u) =
    opened_comes (line_reads s line) (ready u (reply_to s line)) a b (Ok u) (refl, subst (Grows a.held b.held) is wrote) rises in
    subst (λ q. Comes (model_by s line lines q (is_refused (kind_to s line))) a c came) (sym goes)
    (subst (λ r. Comes (model_by s line lines false r) a c came) (sym accepted)
    (comes_then (opened_stage (line_reads s line) (ready u (reply_to s line))) (λ v. model_lines_stage v lines) a b c u came first
    (subst (λ v. Comes (model_lines_stage v lines) b c came) same later)))

pub model_refused : (s : MapState) (line reply : List ℕ) (lines : List (List ℕ)) (a b : Progress) → is_quit line ≡ false → is_refused (kind_to s line) ≡ true → reply ≡ reply_to s line
    → Grows a.held b.held reply → Rises (line_reads s line) a.tally b.tally → Comes (model_lines_stage s (line ∷ lines)) a b (Err Load)
model_refused s line reply lines a b goes refused is wrote rises =
    let n = length (reply_to s line) in
    let own = and_then-own (line_reads s line) (reply_to s line) n (λ left. no_reads) in
    subst (λ q. Comes (model_by s line lines q (is_refused (kind_to s line))) a b (Err Load)) (sym goes)
    (subst (λ r. Comes (model_by s line lines false r) a b (Err Load)) (sym refused) (record {
      form = tt;
      front = reply_to s line;
      wrote = subst (Grows a.held b.held) is wrote;
      leaves = λ next. append-nil (reply_to s line);
      opens = λ next. refl;
      reads = λ next. rises_within (line_reads s line) (and_then (line_reads s line) (reply_to s line) n (λ left. no_reads)) a.tally b.tally own rises;
    }))

-- a front of the reply was written
-- whatever stops a stage but a refusal leaves open what it would have come to
pub stops_open : (text : (MapState → List ℕ) → List ℕ) (opening : (MapState → Opening) → Opening) (front : List ℕ) (why : Stop) → (why ≡ Load → ⊥)
    → ((next : MapState → List ℕ) → (rest : List ℕ) × (text next ≡ front ++ rest)) → LeavesOf text front (Err why) × OpensAs opening (Err why)
stops_open text opening front Load apart leaves = absurd (apart refl)
stops_open text opening front _ apart leaves = (leaves, tt)

model_part : (s : MapState) (line reply : List ℕ) (lines : List (List ℕ)) (a b : Progress) (n : ℕ) (why : Stop) → StopsStage (Err why) → (why ≡ Load → ⊥) → is_quit line ≡ false → reply ≡ reply_to s line
    → Grows a.held b.held (take n reply) → Rises (line_reads s line) a.tally b.tally → Comes (model_lines_stage s (line ∷ lines)) a b (Err why)
model_part s line reply lines a b n why form apart goes is wrote rises =
    let all = reply_to s line in
    let refused = is_refused (kind_to s line) in
    let k = length (take n all) in
    let stage = model_by s line lines false refused in
    let stops = stops_open stage.text stage.opening (take n all) why apart (λ next.
    let rest = cond refused [] (model_lines_text (state_to s line) lines next) in
    (drop n all ++ rest, ap (λ l. l ++ rest) (sym (take-append-drop n all)) ∙ append_assoc (take n all) (drop n all) rest)) in
    subst (λ q. Comes (model_by s line lines q refused) a b (Err why)) (sym goes) (record {
      form = form;
      front = take n all;
      wrote = subst (λ l. Grows a.held b.held (take n l)) is wrote;
      leaves = stops.0;
      opens = stops.1;
      reads = λ next.
          let later : ℕ → Reads = λ left. cond refused no_reads (model_lines_reads (state_to s line) lines left next) in
          rises_within (line_reads s line) (and_then (line_reads s line) all k later) a.tally b.tally (and_then-own (line_reads s line) all k later) rises;
    })

-- the put of its reply failed
pub model_put : (s : MapState) (line reply : List ℕ) (lines : List (List ℕ)) (a b : Progress) (n : ℕ) (fault : PutFault) → is_quit line ≡ false → reply ≡ reply_to s line
    → Grows a.held b.held (take n reply) → Rises (line_reads s line) a.tally b.tally → Comes (model_lines_stage s (line ∷ lines)) a b (Err (put_stop fault))
model_put s line reply lines a b n put.Failed goes is wrote rises = model_part s line reply lines a b n SinkFault tt (λ e. cc) goes is wrote rises
model_put s line reply lines a b n put.NoMemory goes is wrote rises = model_part s line reply lines a b n NoMemory tt (λ e. cc) goes is wrote rises

model_own : (s : MapState) (line : List ℕ) (lines : List (List ℕ)) (next : MapState → ℕ → Reads) → IsWithin (line_reads s line) (model_lines_reads s (line ∷ lines) 0 next)
model_own s line lines next = elim (is_quit line) as (λ t. is_quit line ≡ t → IsWithin (line_reads s line) ((model_by s line lines t (is_refused (kind_to s line))).reads 0 next)) [
  | true ↦ λ e. rw (line_reads-quit s line e) (record { looks = omega arith; picks = omega arith })
  | false ↦ λ e. and_then-own (line_reads s line) (reply_to s line) 0 (λ left. cond (is_refused (kind_to s line)) no_reads (model_lines_reads (state_to s line) lines left next))
] refl

-- memory was wanted before anything was written
pub model_lacks : (s : MapState) (line : List ℕ) (lines : List (List ℕ)) (a b : Progress) → b.held ≡ a.held → Rises (line_reads s line) a.tally b.tally
    → Comes (model_lines_stage s (line ∷ lines)) a b (Err NoMemory)
model_lacks s line lines a b same rises = record {
  form = tt;
  front = [];
  wrote = subst (λ h. Grows a.held h []) (sym same) (grows_nil a.held);
  leaves = λ next. (model_lines_text s (line ∷ lines) next, refl);
  opens = tt;
  reads = λ next. rises_within (line_reads s line) (model_lines_reads s (line ∷ lines) 0 next) a.tally b.tally (model_own s line lines next) rises;
}

-- the last line
pub model_last : (s t : MapState) (line : List ℕ) (a b : Progress) (fed : Fed) → ModelGoes s t line a b (Ok fed) → Comes (model_lines_stage s (line ∷ [])) a b (Ok t)
model_last s t line a b More goes = goes [] b (Ok t) (comes_nothing t b)
model_last s t line a b Quit goes = goes []

pub not_refused : (k : Kind) → (k ≡ kinds.Refused → ⊥) → is_refused k ≡ false
not_refused kinds.Refused apart = absurd (apart refl)
not_refused _ apart = refl

pub comes_lines : (s : MapState) (lines lines' : List (List ℕ)) (a b : Progress) (came : Result MapState Stop) → lines ≡ lines' → Comes (model_lines_stage s lines) a b came
    → Comes (model_lines_stage s lines') a b came
comes_lines s lines lines' a b came same c = subst (λ ls. Comes (model_lines_stage s ls) a b came) same c

-- ---- the file

abbrev model_file_by : ℕ → List ℕ → MapState → Bool → Stage
model_file_by most bytes s long = record {
  text = λ next. cond long (long_model_reply most) (model_lines_text s (lines_of bytes) next);
  opening = λ next. cond long turned_back (model_lines_opening s (lines_of bytes) next);
  reads = λ n next. cond long no_reads (model_lines_reads s (lines_of bytes) n next);
}

pub model_fetched : (files : Option Files) (most : ℕ) (s : MapState) (file : List ℕ) (v : Vec ℕ Global) (a b : Progress) (came : Result MapState Stop)
    → Fetches files file most (Ok v) → length v.items ≤ most → Comes (model_lines_stage s (lines_of v.items)) a b came → Loads files (λ f. model_file_stage most (f file) s) a b came
model_fetched None most s file v a b came is fits c = (c.form, tt)
model_fetched (Some f) most s file v a b came is fits c =
    (c.form, subst (λ held. Comes (model_file_stage most held s) a b came) (sym is) (subst (λ t. Comes (model_file_by most v.items s t) a b came) (sym (le-ltb most (length v.items) fits)) c))

pub model_fetched_long : (files : Option Files) (most : ℕ) (s : MapState) (file : List ℕ) (a b : Progress) (came : Result MapState Stop)
    → Fetches files file most (Err Long) → LoadsAs (turned_away (long_model_reply most)) a.held b.held came → b.tally ≡ a.tally → Loads files (λ f. model_file_stage most (f file) s) a b came
model_fetched_long files most s file a b came is l same = on files is
  where
    c : Comes (opened_stage no_reads (turned_away (long_model_reply most))) a b came
    c = opened_comes no_reads (turned_away (long_model_reply most)) a b came l (rw same (rises_nothing no_reads a.tally))

    on : (files : Option Files) → Fetches files file most (Err Long) → Loads files (λ f. model_file_stage most (f file) s) a b came
    on None is = (c.form, tt)
    on (Some f) is =
        let held = is refl in
        (c.form, subst (λ (bytes : Option (List ℕ)). Comes (model_file_stage most bytes s) a b came) (sym held.1) (subst (λ t. Comes (model_file_by most held.0 s t) a b came) (sym (lt-ltb most (length held.0) held.2)) c))

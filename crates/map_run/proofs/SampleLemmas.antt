-- The grids and the lines of the sample.
use Rattle.std.proofs.Common.{◌≡◌, ◌≤◌, ◌<◌, ◌+◌, ℕ, true, List, [], ◌∷◌, ◌++◌, map, length, take, drop, get_or, refl, sym, ap, ◌∙◌, subst, None, Result, Ok, Err, arith}
use Rattle.std.proofs.lemmas.List.{take_more, take_all, take-append-drop}
use Rattle.map_nums.specs.Grids.{Grid}
use Rattle.map_defs.specs.Ops.{Name}
use Rattle.map_machine.specs.States.{MapState}
use Rattle.map_machine.specs.Openings.{goes_on, turned_back}
use Rattle.map_machine.specs.SampleGrids.{sample_grids}
use Rattle.map_machine.specs.SampleLines.{sample_lines}
use Rattle.map_machine.specs.Samples.{sample_state}
use Rattle.map_machine.specs.Text.{replies_to}
use Rattle.map_machine.specs.Loads.{grid_load}
use Rattle.map_machine.specs.LoadReads.{grid_load_reads}
use Rattle.map_machine.specs.SessionReads.{lines_reads}
use Rattle.map_machine.proofs.SampleLemmas.{sample_goes_on}
use Rattle.map_sample.specs.Grids.{named_grid}
use Rattle.map_sample.specs.declared.grids.SampleGrid.{SampleGrid}
use Rattle.map_run.specs.Answered.{AnswersWhole, AnswersAll, StoppedAt, Answered}
use Rattle.map_run.specs.FaultCounts.{RunCounts}
use Rattle.map_run.specs.Front.{ReadsAsWritten}
use Rattle.map_run.specs.Progress.{Progress}
use Rattle.map_run.specs.Stages.{Comes}
use Rattle.map_run.specs.Loads.{opened_stage, grids_stage}
use Rattle.map_run.specs.Sampled.{Sampled, sample_text, sample_reads}
use Rattle.map_run.specs.Stops.{stop_status}
use Rattle.map_run.specs.Taken.{EndsSample}
use Rattle.map_run.specs.Written.{IsWhole}
use Rattle.map_run.specs.declared.lines.Fed.{Fed}
use Rattle.map_run.specs.declared.lines.Fed.TheVariants.{More, Quit}
use Rattle.map_run.specs.declared.status.Status.TheVariants.{Done}
use Rattle.map_run.specs.declared.stop.Stop.{Stop}
use Rattle.map_run.specs.declared.stop.Stop.TheVariants.{Load, ShelfFault, SourceFault, SinkFault, NoMemory, TooLong}
use Rattle.map_run.proofs.AnsweredLemmas.{answered_lines, answered_then, stopped_more, lacks_before, whole_front, stopped_front}
use Rattle.map_run.proofs.FrontLemmas.{stage_front, stage_whole, stage_stopped}
use Rattle.map_run.proofs.StageLemmas.{comes_then, comes_stop, comes_nothing}

abbrev GridComes : MapState → ℕ → SampleGrid → Progress → Progress → Result MapState Stop → Type 0
GridComes s n g a b came = Comes (opened_stage (grid_load_reads s (named_grid n g).name (named_grid n g).grid) (grid_load s (named_grid n g).name (named_grid n g).grid)) a b came

-- ---- one grid, and then the others

pub grids_none : (s : MapState) (n : ℕ) (gs : List SampleGrid) (a : Progress) → gs ≡ [] → Comes (grids_stage s (map (named_grid n) gs)) a a (Ok s)
grids_none s n gs a none = subst (λ l. Comes (grids_stage s (map (named_grid n) l)) a a (Ok s)) (sym none) (comes_nothing s a)

pub grids_then : (s t : MapState) (n : ℕ) (gs rest : List SampleGrid) (g : SampleGrid) (a b c : Progress) (came : Result MapState Stop) → gs ≡ g ∷ rest
    → GridComes s n g a b (Ok t) → Comes (grids_stage t (map (named_grid n) rest)) b c came → Comes (grids_stage s (map (named_grid n) gs)) a c came
grids_then s t n gs rest g a b c came cut m later =
    subst (λ l. Comes (grids_stage s (map (named_grid n) l)) a c came) (sym cut)
    (comes_then (opened_stage (grid_load_reads s (named_grid n g).name (named_grid n g).grid) (grid_load s (named_grid n g).name (named_grid n g).grid)) (λ u. grids_stage u (map (named_grid n) rest)) a b c t came m later)

pub grids_stop : (s : MapState) (n : ℕ) (gs rest : List SampleGrid) (g : SampleGrid) (a b : Progress) (why : Stop) → gs ≡ g ∷ rest
    → GridComes s n g a b (Err why) → Comes (grids_stage s (map (named_grid n) gs)) a b (Err why)
grids_stop s n gs rest g a b why cut m =
    subst (λ l. Comes (grids_stage s (map (named_grid n) l)) a b (Err why)) (sym cut)
    (comes_stop (opened_stage (grid_load_reads s (named_grid n g).name (named_grid n g).grid) (grid_load s (named_grid n g).name (named_grid n g).grid)) (λ u. grids_stage u (map (named_grid n) rest)) a b why m)

pub no_grids : (gs : List SampleGrid) → length gs ≡ 0 → gs ≡ []
no_grids [] e = refl
no_grids (g ∷ gs) e = absurd (omega (arith, e))

-- the grid that was made, under the name that was made
pub grid_same : (s : MapState) (n n' : Name) (made made' : Grid) (a b : Progress) (came : Result MapState Stop) → n ≡ n' → made ≡ made'
    → Comes (opened_stage (grid_load_reads s n made) (grid_load s n made)) a b came → Comes (opened_stage (grid_load_reads s n' made') (grid_load s n' made')) a b came
grid_same s n n' made made' a b came e f m =
    let P : Name → Grid → Type 0 = λ x y. Comes (opened_stage (grid_load_reads s x y) (grid_load s x y)) a b came in
    subst (P n') f (subst (λ x. P x made) e m)

-- ---- its lines

count_lines : (n : ℕ) → length (sample_lines n) ≡ 58
count_lines n = refl

pub next_line : (n k : ℕ) (line : List ℕ) → k < 58 → line ≡ get_or (sample_lines n) k [] → (take k (sample_lines n) ++ line ∷ []) ≡ take (k + 1) (sample_lines n)
next_line n k line within is =
    let few : k < length (sample_lines n) = omega (arith, within, count_lines n) in
    ap (λ l. take k (sample_lines n) ++ l ∷ []) is ∙ sym (take_more (sample_lines n) k [] few)

pub all_lines : (n k : ℕ) → 58 ≤ k → take k (sample_lines n) ≡ sample_lines n
all_lines n k full =
    let all : length (sample_lines n) ≤ k = omega (arith, full, count_lines n) in
    take_all k (sample_lines n) all

-- it stopped at one of the lines
pub lines_stop : (n k : ℕ) (line : List ℕ) (old mid new : MapState) (a b c : Progress) (fed : Result Fed Stop) → (fed ≡ Ok More → ⊥) → k < 58 → line ≡ get_or (sample_lines n) k []
    → AnswersAll old mid (take k (sample_lines n)) a b → Answered mid new (line ∷ []) b c fed → Answered old new (sample_lines n) a c fed
lines_stop n k line old mid new a b c fed apart within is m w =
    let all = sample_lines n in
    answered_lines old new (take (k + 1) all ++ drop (k + 1) all) all a c fed (take-append-drop (k + 1) all)
    (stopped_more old new new (take (k + 1) all) (drop (k + 1) all) a c fed apart
    (answered_lines old new (take k all ++ line ∷ []) (take (k + 1) all) a c fed (next_line n k line within is) (answered_then old mid new (take k all) (line ∷ []) a b c fed m w)))

-- memory was wanted for a line
pub lines_lack : (n k : ℕ) (old mid new : MapState) (a b : Progress) → AnswersAll old mid (take k (sample_lines n)) a b → Answered old new (sample_lines n) a b (Err NoMemory)
lines_lack n k old mid new a b m =
    let all = sample_lines n in
    answered_lines old new (take k all ++ drop k all) all a b (Err NoMemory) (take-append-drop k all)
    (answered_then old mid new (take k all) (drop k all) a b b (Err NoMemory) m (lacks_before mid (drop k all) b))

-- ---- the whole run

not_refused : (n : ℕ) (a b : Progress) → Comes (grids_stage (sample_state n) (sample_grids n)) a b (Err Load) → ⊥
not_refused n a b m =
    let opening : turned_back ≡ goes_on = sym (m.opens (λ s. goes_on)) ∙ sample_goes_on 0 n (λ name. None) in
    cc

-- the shelf was not asked
pub sample_stopped : (n : ℕ) (a b : Progress) (why : Stop) → ((shelf source : ℕ) → RunCounts shelf shelf source source a.faults b.faults (stop_status why))
    → Comes (grids_stage (sample_state n) (sample_grids n)) a b (Err why) → Sampled n a b (stop_status why)
sample_stopped n a b why counts m = record { ends = ends why counts m; reads = stage_stopped (grids_stage (sample_state n) (sample_grids n)) a b why (λ s. replies_to s (sample_lines n)) (λ s. lines_reads s (sample_lines n)) m; whole = λ e. absurd (not_whole why counts m e) }
  where
    ends : (why : Stop) → ((shelf source : ℕ) → RunCounts shelf shelf source source a.faults b.faults (stop_status why)) → Comes (grids_stage (sample_state n) (sample_grids n)) a b (Err why)
        → EndsSample (stop_status why)
    ends Load counts m = not_refused n a b m
    ends ShelfFault counts m = let rose = (counts 0 0).0 in absurd (omega (arith, rose))
    ends SourceFault counts m = m.form
    ends SinkFault counts m = tt
    ends NoMemory counts m = tt
    ends TooLong counts m = m.form

    not_whole : (why : Stop) → ((shelf source : ℕ) → RunCounts shelf shelf source source a.faults b.faults (stop_status why)) → Comes (grids_stage (sample_state n) (sample_grids n)) a b (Err why)
        → IsWhole (stop_status why) ≡ true → ⊥
    not_whole Load counts m e = not_refused n a b m
    not_whole TooLong counts m e = m.form
    not_whole _ counts m e = cc

pub sample_done : (n : ℕ) (old new : MapState) (a b c : Progress) (fed : Fed) → Comes (grids_stage (sample_state n) (sample_grids n)) a b (Ok old) → Answered old new (sample_lines n) b c (Ok fed)
    → Sampled n a c Done
sample_done n old new a b c fed m w =
    let all = whole fed w in
    record {
      ends = tt;
      reads = stage_front (grids_stage (sample_state n) (sample_grids n)) a b c old (λ s. replies_to s (sample_lines n)) (λ s. lines_reads s (sample_lines n)) m (whole_front old (sample_lines n) b c all);
      whole = λ _. stage_whole (grids_stage (sample_state n) (sample_grids n)) a b c old (λ s. replies_to s (sample_lines n)) m all.wrote;
    }
  where
    whole : (fed : Fed) → Answered old new (sample_lines n) b c (Ok fed) → AnswersWhole old (sample_lines n) b c
    whole More w = w.whole
    whole Quit w = w.whole

lines_stopped : (n : ℕ) (old : MapState) (a b c : Progress) → Comes (grids_stage (sample_state n) (sample_grids n)) a b (Ok old) → StoppedAt old (sample_lines n) b c
    → ReadsAsWritten a c (sample_text n) (sample_reads n)
lines_stopped n old a b c m w =
    stage_front (grids_stage (sample_state n) (sample_grids n)) a b c old (λ s. replies_to s (sample_lines n)) (λ s. lines_reads s (sample_lines n)) m (stopped_front old (sample_lines n) b c w)

pub sample_halted : (n : ℕ) (old new : MapState) (a b c : Progress) (why : Stop) → Comes (grids_stage (sample_state n) (sample_grids n)) a b (Ok old)
    → Answered old new (sample_lines n) b c (Err why) → Sampled n a c (stop_status why)
sample_halted n old new a b c SinkFault m w = record { ends = tt; reads = lines_stopped n old a b c m w.at; whole = λ e. absurd (cc) }
sample_halted n old new a b c NoMemory m w = record { ends = tt; reads = lines_stopped n old a b c m w.at; whole = λ e. absurd (cc) }
sample_halted n old new a b c _ m w = absurd w

-- What was written and read of a whole run, by its stages and its lines.
use Rattle.std.proofs.Common.{◌+◌, ℕ, List, [], ◌++◌, length, sym, ap, ◌∙◌, subst, append_assoc, Ok, Err}
use Rattle.std.proofs.lemmas.List.{append-nil, length-append}
use Rattle.map_edits.specs.Allowances.{Reads, together}
use Rattle.map_machine.specs.States.{MapState}
use Rattle.map_outside.specs.Contents.{Grows}
use Rattle.map_outside.proofs.Tellings.{grows_then}
use Rattle.map_run.specs.Front.{ReadsAsWritten}
use Rattle.map_run.specs.Progress.{Progress, Rises}
use Rattle.map_run.specs.Stages.{Stage, Comes}
use Rattle.map_run.specs.declared.stop.Stop.{Stop}
use Rattle.map_run.specs.declared.stop.Stop.TheVariants.{Load}
use Rattle.map_run.proofs.Rising.{rises_then, rises_within}

-- a stage, and what follows it from its state on
pub stage_front : (stage : Stage) (a b c : Progress) (s : MapState) (text : MapState → List ℕ) (reads : MapState → ℕ → Reads) → Comes stage a b (Ok s)
    → ReadsAsWritten b c (text s) (reads s) → ReadsAsWritten a c (stage.text text) (λ n. stage.reads n reads)
stage_front stage a b c s text reads m w =
    let later = w.written in
    let front = m.front ++ later.front in
    let r = m.reads.0 in
    let next = reads s (length later.front) in
    record {
      written = record {
        front = front;
        rest = later.rest;
        whole = m.leaves text ∙ ap (λ t. m.front ++ t) later.whole ∙ sym (append_assoc m.front later.front later.rest);
        wrote = grows_then a.held b.held c.held m.front later.front m.wrote later.wrote;
      };
      rose = subst (λ n. Rises (stage.reads n reads) a.tally c.tally) (sym (length-append m.front later.front))
          (rises_within (together r next) (stage.reads (length m.front + length later.front) reads) a.tally c.tally (m.reads.2 reads (length later.front))
          (rises_then r next a.tally b.tally c.tally m.reads.1 w.rose));
    }

pub stage_whole : (stage : Stage) (a b c : Progress) (s : MapState) (text : MapState → List ℕ) → Comes stage a b (Ok s) → Grows b.held c.held (text s) → Grows a.held c.held (stage.text text)
stage_whole stage a b c s text m w = subst (Grows a.held c.held) (sym (m.leaves text)) (grows_then a.held b.held c.held m.front (text s) m.wrote w)

-- a stage at which the run stopped
pub stage_stopped : (stage : Stage) (a b : Progress) (why : Stop) (text : MapState → List ℕ) (reads : MapState → ℕ → Reads) → Comes stage a b (Err why)
    → ReadsAsWritten a b (stage.text text) (λ n. stage.reads n reads)
stage_stopped stage a b Load text reads m = record {
  written = record { front = m.front; rest = []; whole = m.leaves text ∙ sym (append-nil m.front); wrote = m.wrote };
  rose = m.reads reads;
}
stage_stopped stage a b _ text reads m =
    let left = m.leaves text in
    record {
      written = record { front = m.front; rest = left.0; whole = left.1; wrote = m.wrote };
      rose = m.reads reads;
    }

pub stage_refused : (stage : Stage) (a b : Progress) (text : MapState → List ℕ) → Comes stage a b (Err Load) → Grows a.held b.held (stage.text text)
stage_refused stage a b text m = subst (Grows a.held b.held) (sym (m.leaves text)) m.wrote

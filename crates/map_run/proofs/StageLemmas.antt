-- The stages of a run, one after another.
use Rattle.std.proofs.Common.{◌≡◌, ◌+◌, ℕ, List, [], ◌++◌, length, take, drop, refl, sym, ap, ◌∙◌, subst, append_assoc, Option, Some, None, Result, Ok, Err, arith}
use Rattle.std.proofs.lemmas.List.{append-nil, take-append-drop, length-append}
use Rattle.layer_tiles.specs.Tallies.{TallyState}
use Rattle.map_edits.specs.Allowances.{Reads, no_reads, together}
use Rattle.map_edits.specs.CountLaws.{IsWithin}
use Rattle.map_machine.specs.States.{MapState}
use Rattle.map_machine.specs.Loads.{Opened, ready, turned_away}
use Rattle.map_machine.specs.LoadTexts.{opened_text}
use Rattle.map_machine.specs.Openings.{Opening}
use Rattle.map_machine.specs.SessionReads.{and_then}
use Rattle.map_machine.proofs.ReadsLemmas.{within_same}
use Rattle.map_outside.specs.Contents.{Files, Grows}
use Rattle.map_outside.proofs.Tellings.{grows_nil, grows_then}
use Rattle.map_run.specs.Progress.{Progress, Rises}
use Rattle.map_run.specs.Stages.{Stage, then_stage, LeavesOf, OpensAs, ReadsOf, StopsStage, Comes}
use Rattle.map_run.specs.Loads.{Loads, LoadsAs, opened_reply, opened_stage}
use Rattle.map_run.specs.declared.stop.Stop.{Stop}
use Rattle.map_run.specs.declared.stop.Stop.TheVariants.{Load, SinkFault, NoMemory, ShelfFault}
use Rattle.map_run.proofs.Rising.{and_then-whole, rises_nothing, rises_then, rises_within, and_then-own}

-- ---- one after another

leaves_then : (text : (MapState → List ℕ) → List ℕ) (later : MapState → (MapState → List ℕ) → List ℕ) (first rest : List ℕ) (s : MapState) (came : Result MapState Stop)
    → LeavesOf text first (Ok s) → LeavesOf (later s) rest came → LeavesOf (λ next. text (λ t. later t next)) (first ++ rest) came
leaves_then text later first rest s (Ok u) a b = λ next. a (λ t. later t next) ∙ ap (λ l. first ++ l) (b next) ∙ sym (append_assoc first rest (next u))
leaves_then text later first rest s (Err Load) a b = λ next. a (λ t. later t next) ∙ ap (λ l. first ++ l) (b next)
leaves_then text later first rest s (Err _) a b = λ next. let r = b next in (r.0, a (λ t. later t next) ∙ ap (λ l. first ++ l) r.1 ∙ sym (append_assoc first rest r.0))

opens_then : (opening : (MapState → Opening) → Opening) (later : MapState → (MapState → Opening) → Opening) (s : MapState) (came : Result MapState Stop)
    → OpensAs opening (Ok s) → OpensAs (later s) came → OpensAs (λ next. opening (λ t. later t next)) came
opens_then opening later s (Ok u) a b = λ next. a (λ t. later t next) ∙ b next
opens_then opening later s (Err Load) a b = λ next. a (λ t. later t next) ∙ b next
opens_then opening later s (Err _) a b = tt

reads_then : (reads : ℕ → (MapState → ℕ → Reads) → Reads) (later : MapState → ℕ → (MapState → ℕ → Reads) → Reads) (first rest : List ℕ) (x y z : TallyState) (s : MapState) (came : Result MapState Stop)
    → ReadsOf reads first x y (Ok s) → ReadsOf (later s) rest y z came → ReadsOf (λ n next. reads n (λ t left. later t left next)) (first ++ rest) x z came
reads_then reads later first rest x y z s (Ok u) a b = (
  together a.0 b.0,
  rises_then a.0 b.0 x y z a.1 b.1,
  λ next n.
      let on : MapState → ℕ → Reads = λ t left. later t left next in
      let v = a.2 on (length rest + n) in
      let w = b.2 next n in
      let sum : length first + (length rest + n) ≡ length (first ++ rest) + n = omega (arith, length-append first rest) in
      subst (λ k. IsWithin (together (together a.0 b.0) (next u n)) (reads k on)) sum (record { looks = omega (arith, v.looks, w.looks); picks = omega (arith, v.picks, w.picks) }),
)
reads_then reads later first rest x y z s (Err e) a b = λ next.
    let on : MapState → ℕ → Reads = λ t left. later t left next in
    let more = later s (length rest) next in
    subst (λ k. Rises (reads k on) x z) (sym (length-append first rest))
    (rises_within (together a.0 more) (reads (length first + length rest) on) x z (a.2 on (length rest)) (rises_then a.0 more x y z a.1 (b next)))

pub comes_then : (p : Stage) (q : MapState → Stage) (a b c : Progress) (s : MapState) (came : Result MapState Stop) → Comes p a b (Ok s) → Comes (q s) b c came → Comes (then_stage p q) a c came
comes_then p q a b c s came m n = record {
  form = n.form;
  front = m.front ++ n.front;
  wrote = grows_then a.held b.held c.held m.front n.front m.wrote n.wrote;
  leaves = leaves_then p.text (λ t. (q t).text) m.front n.front s came m.leaves n.leaves;
  opens = opens_then p.opening (λ t. (q t).opening) s came m.opens n.opens;
  reads = reads_then p.reads (λ t. (q t).reads) m.front n.front a.tally b.tally c.tally s came m.reads n.reads;
}

-- a stage at which the run stopped
pub comes_stop : (p : Stage) (q : MapState → Stage) (a b : Progress) (why : Stop) → Comes p a b (Err why) → Comes (then_stage p q) a b (Err why)
comes_stop p q a b Load m = record {
  form = m.form;
  front = m.front;
  wrote = m.wrote;
  leaves = λ next. m.leaves (λ s. (q s).text next);
  opens = λ next. m.opens (λ s. (q s).opening next);
  reads = λ next. m.reads (λ s left. (q s).reads left next);
}
comes_stop p q a b _ m = record {
  form = m.form;
  front = m.front;
  wrote = m.wrote;
  leaves = λ next. m.leaves (λ s. (q s).text next);
  opens = tt;
  reads = λ next. m.reads (λ s left. (q s).reads left next);
}

pub loads_then : (files : Option Files) (p : Files → Stage) (q : Files → MapState → Stage) (a b c : Progress) (s : MapState) (came : Result MapState Stop)
    → Loads files p a b (Ok s) → Loads files (λ f. q f s) b c came → Loads files (λ f. then_stage (p f) (q f)) a c came
loads_then None p q a b c s came m n = (n.0, tt)
loads_then (Some f) p q a b c s came m n = (n.0, comes_then (p f) (q f) a b c s came m.1 n.1)

pub loads_stop : (files : Option Files) (p : Files → Stage) (q : Files → MapState → Stage) (a b : Progress) (why : Stop)
    → Loads files p a b (Err why) → Loads files (λ f. then_stage (p f) (q f)) a b (Err why)
loads_stop None p q a b why m = (m.0, tt)
loads_stop (Some f) p q a b why m = (m.0, comes_stop (p f) (q f) a b why m.1)

-- ---- nothing is done

abbrev pub no_stage : MapState → Stage
no_stage s = record { text = λ next. next s; opening = λ next. next s; reads = λ n next. next s n }

-- nothing was written or read
pub comes_quietly : (s : MapState) (a b : Progress) → b.held ≡ a.held → Rises no_reads a.tally b.tally → Comes (no_stage s) a b (Ok s)
comes_quietly s a b held rises = record {
  form = tt;
  front = [];
  wrote = subst (λ h. Grows a.held h []) (sym held) (grows_nil a.held);
  leaves = λ next. refl;
  opens = λ next. refl;
  reads = (
    no_reads,
    rises,
    λ next n.
        let same : n ≡ 0 + n = omega arith in
        subst (λ k. IsWithin (together no_reads (next s n)) (next s k)) same (record { looks = omega arith; picks = omega arith }),
  );
}

pub comes_nothing : (s : MapState) (a : Progress) → Comes (no_stage s) a a (Ok s)
comes_nothing s a = comes_quietly s a a refl (rises_nothing no_reads a.tally)

pub loads_nothing : (files : Option Files) (s : MapState) (a : Progress) → Loads files (λ f. no_stage s) a a (Ok s)
loads_nothing None s a = (tt, tt)
loads_nothing (Some f) s a = (tt, comes_nothing s a)

-- it stopped before anything was written or read
pub comes_before : (p : Stage) (a : Progress) (why : Stop) → StopsStage (Err why) → (why ≡ Load → ⊥) → Comes p a a (Err why)
comes_before p a Load form apart = absurd (apart refl)
comes_before p a _ form apart = record {
  form = form;
  front = [];
  wrote = grows_nil a.held;
  leaves = λ next. (p.text next, refl);
  opens = tt;
  reads = λ next. rises_nothing (p.reads 0 next) a.tally;
}

pub loads_before : (files : Option Files) (p : Files → Stage) (a : Progress) (why : Stop) → StopsStage (Err why) → (why ≡ Load → ⊥) → Loads files p a a (Err why)
loads_before None p a why form apart = (form, tt)
loads_before (Some f) p a why form apart = (form, comes_before (p f) a why form apart)

pub shelf_apart : ShelfFault ≡ Load → ⊥
shelf_apart e = cc

pub memory_apart : NoMemory ≡ Load → ⊥
memory_apart e = cc

-- ---- one load

-- these bytes are a front of the text, whatever comes next
abbrev HasFront : ((MapState → List ℕ) → List ℕ) → List ℕ → Type 0
HasFront text front = (next : MapState → List ℕ) → (rest : List ℕ) × (text next ≡ front ++ rest)

part_begins : (text rest : (MapState → List ℕ) → List ℕ) (reply : List ℕ) (n : ℕ) → ((next : MapState → List ℕ) → text next ≡ reply ++ rest next)
    → HasFront text (take n reply)
part_begins text rest reply n is next = (
  drop n reply ++ rest next,
  is next ∙ ap (λ l. l ++ rest next) (sym (take-append-drop n reply)) ∙ append_assoc (take n reply) (drop n reply) (rest next),
)

opened_begins : (o : Opened) (n : ℕ) → HasFront (opened_text o) (take n (opened_reply o))
opened_begins (ready s reply) n = part_begins (opened_text (ready s reply)) (λ next. next s) reply n (λ next. refl)
opened_begins (turned_away reply) n = part_begins (opened_text (turned_away reply)) (λ next. []) reply n (λ next. sym (append-nil reply))

opened_own : (r : Reads) (o : Opened) (n : ℕ) (next : MapState → ℕ → Reads) → IsWithin r ((opened_stage r o).reads n next)
opened_own r (ready s reply) n next = and_then-own r reply n (next s)
opened_own r (turned_away reply) n next = within_same r

-- a front of the reply was written
opened_part : (r : Reads) (o : Opened) (a b : Progress) (n : ℕ) (why : Stop) → StopsStage (Err why) → (why ≡ Load → ⊥) → Grows a.held b.held (take n (opened_reply o)) → Rises r a.tally b.tally
    → Comes (opened_stage r o) a b (Err why)
opened_part r o a b n Load form apart wrote rises = absurd (apart refl)
opened_part r o a b n _ form apart wrote rises = record {
  form = form;
  front = take n (opened_reply o);
  wrote = wrote;
  leaves = opened_begins o n;
  opens = tt;
  reads = λ next. rises_within r ((opened_stage r o).reads (length (take n (opened_reply o))) next) a.tally b.tally (opened_own r o (length (take n (opened_reply o))) next) rises;
}

ready_reads : (r : Reads) (reply : List ℕ) (s : MapState) (next : MapState → ℕ → Reads) (n : ℕ) → IsWithin (together r (next s n)) (and_then r reply (length reply + n) (next s))
ready_reads r reply s next n = subst (IsWithin (together r (next s n))) (sym (and_then-whole r reply n (next s))) (within_same (together r (next s n)))

pub opened_comes : (r : Reads) (o : Opened) (a b : Progress) (came : Result MapState Stop) → LoadsAs o a.held b.held came → Rises r a.tally b.tally → Comes (opened_stage r o) a b came
opened_comes r (ready s reply) a b (Ok t) l rises = record {
  form = tt;
  front = reply;
  wrote = l.1;
  leaves = λ next. ap (λ u. reply ++ next u) (sym l.0);
  opens = λ next. ap next (sym l.0);
  reads = (r, rises, λ next n. subst (λ u. IsWithin (together r (next u n)) (and_then r reply (length reply + n) (next s))) (sym l.0) (ready_reads r reply s next n));
}
opened_comes r (turned_away reply) a b (Err Load) l rises = record { form = tt; front = reply; wrote = l; leaves = λ next. refl; opens = λ next. refl; reads = λ next. rises }
opened_comes r (ready s reply) a b (Err SinkFault) l rises = opened_part r (ready s reply) a b l.0 SinkFault tt (λ e. cc) l.1 rises
opened_comes r (turned_away reply) a b (Err SinkFault) l rises = opened_part r (turned_away reply) a b l.0 SinkFault tt (λ e. cc) l.1 rises
opened_comes r (ready s reply) a b (Err NoMemory) l rises = opened_part r (ready s reply) a b l.0 NoMemory tt (λ e. cc) l.1 rises
opened_comes r (turned_away reply) a b (Err NoMemory) l rises = opened_part r (turned_away reply) a b l.0 NoMemory tt (λ e. cc) l.1 rises
opened_comes r (ready s reply) a b (Err _) l rises = absurd l
opened_comes r (turned_away reply) a b _ l rises = absurd l

-- a load that came out as another does
pub opened_comes_as : (r : Reads) (o o' : Opened) (a b : Progress) (came : Result MapState Stop) → o' ≡ o → LoadsAs o' a.held b.held came → Rises r a.tally b.tally → Comes (opened_stage r o) a b came
opened_comes_as r o o' a b came is l rises = opened_comes r o a b came (subst (λ (u : Opened). LoadsAs u a.held b.held came) is l) rises

-- nothing was written, for want of memory
pub opened_lacks : (r : Reads) (o : Opened) (a b : Progress) → b.held ≡ a.held → Rises r a.tally b.tally → Comes (opened_stage r o) a b (Err NoMemory)
opened_lacks r o a b same rises = opened_part r o a b 0 NoMemory tt (λ e. cc) (subst (λ h. Grows a.held h []) (sym same) (grows_nil a.held)) rises

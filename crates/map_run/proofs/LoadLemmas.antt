-- What one load came to.
use Rattle.std.proofs.Common.{◌≡◌, ◌≤◌, ℕ, Bool, cond, List, [], ◌∷◌, ◌++◌, length, refl, sym, ap, ◌∙◌, subst, append_assoc, Option, Some, None, Result, Ok, Err, Vec, codes, decimal, arith}
use Rattle.std.specs.Prelude.{IsTrue}
use Rattle.std.specs.List.{All}
use Rattle.std.specs.declared.alloc.Global.{Global}
use Rattle.std.proofs.lemmas.Bool.{lt-ltb, le-ltb}
use Rattle.std.proofs.lemmas.List.Elements.{All-head, All-tail}
use Rattle.map_defs.specs.Ops.{Name}
use Rattle.map_edits.specs.Allowances.{no_reads}
use Rattle.map_machine.specs.Pairs.{Pair}
use Rattle.map_machine.specs.States.{MapState}
use Rattle.map_machine.specs.Loads.{Opened, ready, turned_away, long_file_reply}
use Rattle.map_machine.specs.LoadTexts.{opened_text}
use Rattle.map_machine.specs.Openings.{turned_back, opened_opening}
use Rattle.map_machine.specs.OpeningReads.{opened_reads}
use Rattle.map_machine.specs.declared.Kind.TheVariants.{Accepted}
use Rattle.map_session.specs.Answered.{Opens}
use Rattle.map_session.specs.declared.replies.Reply.{Reply}
use Rattle.map_outside.specs.Contents.{Files, Fetches}
use Rattle.map_outside.specs.declared.shelves.FetchFault.TheVariants.{Long}
use Rattle.map_run.specs.Forms.{pair_read, pairs_read}
use Rattle.map_run.specs.Progress.{Progress}
use Rattle.map_run.specs.Stages.{Stage, then_stage, Comes}
use Rattle.map_run.specs.Loads.{Loads, LoadsAs, load_on, load_reads_on, opened_stage, file_stage, further_stage, pairs_stage, model_file_stage, model_stage, files_stage}
use Rattle.map_run.specs.declared.forms.Pair.{Pair as Read}
use Rattle.map_run.specs.declared.stop.Stop.{Stop}
use Rattle.map_run.proofs.Rising.{rises_nothing}
use Rattle.map_run.proofs.StageLemmas.{opened_comes, loads_then, loads_nothing}

pub long_file_bytes : (name : List ℕ) (most : ℕ) → (((codes "refused load " ++ name) ++ codes " long ") ++ decimal most) ++ codes "\n" ≡ long_file_reply most name
unfolding long_file_reply
long_file_bytes name most =
    let front = codes "refused load " ++ name in
    let cause = codes "long" ++ codes " " ++ decimal most in
    ap (λ l. l ++ codes "\n") (append_assoc front (codes " long ") (decimal most) ∙ sym (append_assoc front (codes " ") cause))

-- the reply to a load that the session accepted, and to one that it refused
pub accepted_as : (old new : MapState) (reply : Reply) (o : Opened) → Opens old new reply o → reply.kind ≡ Accepted → ready new reply.bytes.items ≡ o
accepted_as old new reply (ready s bytes) opens is = ap (λ t. ready t reply.bytes.items) opens.0 ∙ ap (ready s) opens.1
accepted_as old new reply (turned_away bytes) opens is = let other = opens.2 in absurd (cc)

pub refused_as : (old new : MapState) (reply : Reply) (o : Opened) → Opens old new reply o → (reply.kind ≡ Accepted → ⊥) → turned_away reply.bytes.items ≡ o
refused_as old new reply (ready s bytes) opens apart = absurd (apart opens.2)
refused_as old new reply (turned_away bytes) opens apart = ap turned_away opens.1

-- the load of a file's bytes, by whether they are too long
abbrev file_by : ℕ → Option MapState → Name → List ℕ → Bool → Stage
file_by most o name bytes t = record {
  text = λ next. cond t (long_file_reply most name) (opened_text (load_on o name bytes) next);
  opening = λ next. cond t turned_back (opened_opening (load_on o name bytes) next);
  reads = λ n next. cond t no_reads (opened_reads (load_reads_on o name bytes) (load_on o name bytes) n next);
}

file_fits : (most : ℕ) (o : Option MapState) (name : Name) (bytes : List ℕ) (a b : Progress) (came : Result MapState Stop) → length bytes ≤ most
    → Comes (opened_stage (load_reads_on o name bytes) (load_on o name bytes)) a b came → Comes (file_stage most o name (Some bytes)) a b came
file_fits most o name bytes a b came fits c = subst (λ t. Comes (file_by most o name bytes t) a b came) (sym (le-ltb most (length bytes) fits)) c

-- the same bytes, under the same name, after the same loads
pub load_same : (o o' : Option MapState) (n n' : Name) (bytes : List ℕ) (a b : Progress) (came : Result MapState Stop) → o' ≡ o → n ≡ n'
    → Comes (opened_stage (load_reads_on o n bytes) (load_on o n bytes)) a b came → Comes (opened_stage (load_reads_on o' n' bytes) (load_on o' n' bytes)) a b came
load_same o o' n n' bytes a b came e f c =
    let P : Option MapState → Name → Type 0 = λ p m. Comes (opened_stage (load_reads_on p m bytes) (load_on p m bytes)) a b came in
    subst (λ p. P p n') (sym e) (subst (λ m. P o m) f c)

-- the bytes that were fetched are those that are held
pub fetched : (files : Option Files) (most : ℕ) (o : Option MapState) (name file : List ℕ) (v : Vec ℕ Global) (a b : Progress) (came : Result MapState Stop)
    → Fetches files file most (Ok v) → length v.items ≤ most → Comes (opened_stage (load_reads_on o name v.items) (load_on o name v.items)) a b came
    → Loads files (λ f. file_stage most o name (f file)) a b came
fetched None most o name file v a b came is fits c = (c.form, tt)
fetched (Some f) most o name file v a b came is fits c =
    (c.form, subst (λ held. Comes (file_stage most o name held) a b came) (sym is) (file_fits most o name v.items a b came fits c))

-- the file was too long
pub fetched_long : (files : Option Files) (most : ℕ) (o : Option MapState) (name file : List ℕ) (a b : Progress) (came : Result MapState Stop)
    → Fetches files file most (Err Long) → LoadsAs (turned_away (long_file_reply most name)) a.held b.held came → b.tally ≡ a.tally
    → Loads files (λ f. file_stage most o name (f file)) a b came
fetched_long files most o name file a b came is l same = on files is
  where
    c : Comes (opened_stage no_reads (turned_away (long_file_reply most name))) a b came
    c = opened_comes no_reads (turned_away (long_file_reply most name)) a b came l (rw same (rises_nothing no_reads a.tally))

    on : (files : Option Files) → Fetches files file most (Err Long) → Loads files (λ f. file_stage most o name (f file)) a b came
    on None is = (c.form, tt)
    on (Some f) is =
        let held = is refl in
        (c.form, subst (λ (bytes : Option (List ℕ)). Comes (file_stage most o name bytes) a b came) (sym held.1) (subst (λ t. Comes (file_by most o name held.0 t) a b came) (sym (lt-ltb most (length held.0) held.2)) c))

-- ---- the pairs of a run

-- the further files are served too
pub serves_rest : (serves serves' : List ℕ → Bool) (ps rest : List Read) (p : Read) → serves' ≡ serves → ps ≡ p ∷ rest
    → All (λ (q : Read). IsTrue (serves q.file.now)) ps → All (λ (q : Read). IsTrue (serves' q.file.now)) rest
serves_rest serves serves' ps rest p same e all =
    subst (λ (v : List ℕ → Bool). All (λ (q : Read). IsTrue (v q.file.now)) rest) (sym same)
    (All-tail (λ (q : Read). IsTrue (serves q.file.now)) p rest (subst (λ l. All (λ (q : Read). IsTrue (serves q.file.now)) l) e all))

pub first_of_all : (P : Read → Type 0) (ps rest : List Read) (p : Read) → ps ≡ p ∷ rest → All P ps → P p
first_of_all P ps rest p e all = All-head P p rest (subst (λ l. All P l) e all)

pub rest_of_all : (P : Read → Type 0) (ps rest : List Read) (p : Read) → ps ≡ p ∷ rest → All P ps → All P rest
rest_of_all P ps rest p e all = All-tail P p rest (subst (λ l. All P l) e all)

pub no_pairs : (ps : List Read) → length ps ≡ 0 → ps ≡ []
no_pairs [] e = refl
no_pairs (p ∷ ps) e = absurd (omega (arith, e))

-- a load that was accepted, and then the further ones
pub first_then : (files files' : Option Files) (most : ℕ) (o : Option MapState) (p : Pair) (ps : List Pair) (a b c : Progress) (s : MapState) (came : Result MapState Stop) → files' ≡ files
    → Loads files (λ f. file_stage most o p.name (f p.file)) a b (Ok s) → Loads files' (λ f. further_stage most f ps s) b c came
    → Loads files (λ f. then_stage (file_stage most o p.name (f p.file)) (further_stage most f ps)) a c came
first_then files files' most o p ps a b c s came same m n =
    loads_then files (λ f. file_stage most o p.name (f p.file)) (λ f. further_stage most f ps) a b c s came m
    (subst (λ fs. Loads fs (λ f. further_stage most f ps s) b c came) same n)

pub pairs_cut : (ps rest : List Read) (p : Read) → ps ≡ p ∷ rest → pairs_read ps ≡ pair_read p ∷ pairs_read rest
pairs_cut ps rest p e = ap pairs_read e

-- the first of the pairs, and then the rest
pub further_at : (files : Option Files) (most : ℕ) (s : MapState) (all : List Pair) (p : Pair) (ps : List Pair) (a b : Progress) (came : Result MapState Stop) → all ≡ p ∷ ps
    → Loads files (λ f. then_stage (file_stage most (Some s) p.name (f p.file)) (further_stage most f ps)) a b came → Loads files (λ f. further_stage most f all s) a b came
further_at files most s all p ps a b came cut m = subst (λ l. Loads files (λ f. further_stage most f l s) a b came) (sym cut) m

pub pairs_at : (files : Option Files) (most : ℕ) (all : List Pair) (p : Pair) (ps : List Pair) (a b : Progress) (came : Result MapState Stop) → all ≡ p ∷ ps
    → Loads files (λ f. then_stage (file_stage most None p.name (f p.file)) (further_stage most f ps)) a b came → Loads files (λ f. pairs_stage most f all) a b came
pairs_at files most all p ps a b came cut m = subst (λ l. Loads files (λ f. pairs_stage most f l) a b came) (sym cut) m

-- there are no further files
pub further_none : (files : Option Files) (most : ℕ) (s : MapState) (ps : List Read) (a : Progress) → ps ≡ [] → Loads files (λ f. further_stage most f (pairs_read ps) s) a a (Ok s)
further_none files most s ps a none = subst (λ l. Loads files (λ f. further_stage most f (pairs_read l) s) a a (Ok s)) (sym none) (loads_nothing files s a)

-- ---- the pairs, and then the model file

pub without_model : (files : Option Files) (most : ℕ) (o : Option (List ℕ)) (ps : List Pair) (a b : Progress) (s : MapState) → o ≡ None
    → Loads files (λ f. pairs_stage most f ps) a b (Ok s) → Loads files (files_stage most o ps) a b (Ok s)
without_model files most o ps a b s none l =
    subst (λ m. Loads files (files_stage most m ps) a b (Ok s)) (sym none)
    (loads_then files (λ f. pairs_stage most f ps) (λ f. model_stage most f None) a b b s (Ok s) l (loads_nothing files s b))

pub with_model : (files files' : Option Files) (most : ℕ) (o : Option (List ℕ)) (file : List ℕ) (ps : List Pair) (a b c : Progress) (s : MapState) (came : Result MapState Stop) → o ≡ Some file
    → files' ≡ files → Loads files (λ f. pairs_stage most f ps) a b (Ok s) → Loads files' (λ f. model_file_stage most (f file) s) b c came → Loads files (files_stage most o ps) a c came
with_model files files' most o file ps a b c s came some same l n =
    subst (λ m. Loads files (files_stage most m ps) a c came) (sym some)
    (loads_then files (λ f. pairs_stage most f ps) (λ f. model_stage most f (Some file)) a b c s came l
    (subst (λ fs. Loads fs (λ f. model_file_stage most (f file) s) b c came) same n))

-- What the load of a grid does, by what its bytes hold.
use Rattle.std.proofs.Common.{◌≡◌, ◌≢◌, ℕ, List, [], Some, Result, Ok, Err, IfOk, refl, sym, ap, ◌∙◌, subst}
use Rattle.map_nums.specs.Grids.{Size, Grid}
use Rattle.map_nums.specs.declared.NoMemory.{NoMemory}
use Rattle.layer_tiles.specs.Tallies.{TallyState}
use Rattle.map_defs.specs.Ops.{Name}
use Rattle.grid_text.specs.declared.GridRefusal.{GridRefusal}
use Rattle.grid_text.specs.declared.GridRefusal.TheVariants as a_grid
use Rattle.grid_text.specs.Headed.{Headed}
use Rattle.grid_text.specs.Faults as grids
use Rattle.grid_text.specs.Contents.{grid_in}
use Rattle.grid_text.specs.Reads.{Reads as Holds}
use Rattle.map_lines.specs.Present.{first_place}
use Rattle.map_edits.specs.Pasts.{Past}
use Rattle.map_edits.specs.WholeStates.{WholeState, no_names}
use Rattle.map_machine.specs.declared.Kind.TheVariants.{Accepted, Refused}
use Rattle.map_machine.specs.States.{MapState}
use Rattle.map_machine.specs.Replies.{load_refused_reply}
use Rattle.map_machine.specs.Causes.{grid_cause}
use Rattle.map_machine.specs.Loads.{Opened, ready, turned_away, grid_load, read_load, state_for, first_load, next_load}
use Rattle.map_machine.specs.LoadReads.{grid_load_reads, read_load_reads, first_load_reads, next_load_reads}
use Rattle.map_session.specs.Causes.{grid_told}
use Rattle.map_session.specs.Said.{Says}
use Rattle.map_session.specs.Asked.{IsRead}
use Rattle.map_session.specs.Answered.{BeginsAs, Begins, LoadsAs, Loads}
use Rattle.map_session.specs.declared.replies.Reply.{Reply}
use Rattle.map_session.specs.declared.session.Begun.{Begun}
use Rattle.map_session.specs.declared.session.Begun.TheVariants.{Refused as BegunRefused}

some_same : {A : Type 0} (x y : A) → Some x ≡ Some y → x ≡ y
some_same x y e = cc

-- ---- bytes that are no grid

grid_turned : (bytes : List ℕ) (r : GridRefusal) (text : List ℕ) → Holds bytes 1 (Err r) → grid_told r ≡ Some text → (f : grids.Fault) × (grid_in bytes ≡ Err f) × (grid_cause f ≡ text)
grid_turned bytes (a_grid.Key at) text a t = (grids.key at, a, some_same _ _ t)
grid_turned bytes (a_grid.Number at) text a t = (grids.number at, a, some_same _ _ t)
grid_turned bytes (a_grid.Size rows columns) text a t = (grids.limits rows columns, a, some_same _ _ t)
grid_turned bytes (a_grid.Few have need) text a t = (grids.few have need, a, some_same _ _ t)
grid_turned bytes (a_grid.More at) text a t = (grids.more at, a, some_same _ _ t)
grid_turned bytes (a_grid.Cell index) text a t = (grids.cell index, a, some_same _ _ t)
grid_turned bytes (a_grid.Range index) text a t = (grids.range index, a, some_same _ _ t)
grid_turned bytes a_grid.NoMemory text a t = absurd (cc)

pub begin_refused : (name : Name) (bytes : List ℕ) (r : GridRefusal) (cause text : List ℕ) (reply : Reply) → Holds bytes 1 (Err r) → grid_told r ≡ Some cause → text ≡ cause
    → Says (load_refused_reply name text) Refused reply → Begins name bytes (Ok (BegunRefused reply))
unfolding first_load
begin_refused name bytes r cause text reply a t same says =
    let f = grid_turned bytes r cause a t in
    subst (λ (x : Result Headed grids.Fault). BeginsAs (read_load state_for name x) (Ok (BegunRefused reply))) (sym f.1)
    (rw (f.2, ← same, says.0) refl, says.1)

pub load_refused : (s : MapState) (name : Name) (bytes : List ℕ) (r : GridRefusal) (cause text : List ℕ) (reply : Result Reply NoMemory) → Holds bytes 1 (Err r) → grid_told r ≡ Some cause → text ≡ cause
    → IfOk reply (Says (load_refused_reply name text) Refused) → Loads s s name bytes reply
unfolding next_load
load_refused s name bytes r cause text (Ok reply) a t same says =
    let f = grid_turned bytes r cause a t in
    subst (λ (x : Result Headed grids.Fault). LoadsAs s s (read_load (λ read. s) name x) (Ok reply)) (sym f.1)
    (refl, says.0 ∙ ap (load_refused_reply name) (same ∙ sym f.2), says.1)
load_refused s name bytes r cause text (Err e) a t same says = refl

-- ---- bytes that are a grid

pub begin_read : (name : Name) (bytes : List ℕ) (h : Headed) (r : Result Begun NoMemory) → grid_in bytes ≡ Ok h → BeginsAs (read_load state_for name (Ok h)) r → Begins name bytes r
unfolding first_load
begin_read name bytes h r e b = subst (λ (x : Result Headed grids.Fault). BeginsAs (read_load state_for name x) r) (sym e) b

pub begin_reads : (name : Name) (bytes : List ℕ) (h : Headed) (a b : TallyState) → grid_in bytes ≡ Ok h → IsRead (read_load_reads state_for name (Ok h)) a b → IsRead (first_load_reads name bytes) a b
unfolding first_load_reads
begin_reads name bytes h a b e r = subst (λ (x : Result Headed grids.Fault). IsRead (read_load_reads state_for name x) a b) (sym e) r

pub load_read : (s t : MapState) (name : Name) (bytes : List ℕ) (h : Headed) (r : Result Reply NoMemory) → grid_in bytes ≡ Ok h → LoadsAs s t (grid_load s name h.grid) r → Loads s t name bytes r
unfolding next_load
load_read s t name bytes h r e b = subst (λ (x : Result Headed grids.Fault). LoadsAs s t (read_load (λ read. s) name x) r) (sym e) b

pub load_reads : (s : MapState) (name : Name) (bytes : List ℕ) (h : Headed) (a b : TallyState) → grid_in bytes ≡ Ok h → IsRead (grid_load_reads s name h.grid) a b → IsRead (next_load_reads s name bytes) a b
unfolding next_load_reads
load_reads s name bytes h a b e r = subst (λ (x : Result Headed grids.Fault). IsRead (read_load_reads (λ read. s) name x) a b) (sym e) r

-- ---- the first load, into a state without names

-- the state before the first load is that of the grid's size
pub state_before : (read : Headed) (whole : WholeState) (pasts : List Past) (size : Size) → whole ≡ no_names size → pasts ≡ [] → size ≡ read.grid.size → record { header = read.header; place = first_place; whole = whole; pasts = pasts } ≡ state_for read
state_before read whole pasts size w none e = rw (w, none, e) refl

opened_refused : (o : Opened) (old new : MapState) (reply : Reply) → LoadsAs old new o (Ok reply) → reply.kind ≢ Accepted → (o ≡ turned_away reply.bytes.items) × (reply.kind ≡ Refused)
opened_refused (ready s bytes) old new reply l other = absurd (other l.2)
opened_refused (turned_away bytes) old new reply l other = (ap turned_away (sym l.1), l.2)

pub begun_refused : (s first new : MapState) (name : Name) (grid : Grid) (reply : Reply) → s ≡ first → LoadsAs s new (grid_load s name grid) (Ok reply) → reply.kind ≢ Accepted
    → (grid_load first name grid ≡ turned_away reply.bytes.items) × (reply.kind ≡ Refused)
begun_refused s first new name grid reply same l other =
    subst (λ (u : MapState). (grid_load u name grid ≡ turned_away reply.bytes.items) × (reply.kind ≡ Refused)) same (opened_refused (grid_load s name grid) s new reply l other)

pub begun_reads : (s first : MapState) (name : Name) (grid : Grid) (a b : TallyState) → s ≡ first → IsRead (grid_load_reads s name grid) a b → IsRead (grid_load_reads first name grid) a b
begun_reads s first name grid a b same r = subst (λ (u : MapState). IsRead (grid_load_reads u name grid) a b) same r

-- What a line does and may read, by what the parser answers.
use Rattle.std.proofs.Common.{◌≡◌, ℕ, List, [], Some, Result, Ok, Err, IfOk, refl, sym, ap, ◌∙◌, subst}
use Rattle.map_nums.specs.declared.NoMemory.{NoMemory}
use Rattle.layer_tiles.specs.Tallies.{TallyState}
use Rattle.grid_text.specs.declared.Header.{Header}
use Rattle.map_edits.specs.Pasts.{Past}
use Rattle.map_edits.specs.WholeStates.{WholeState}
use Rattle.map_lines.specs.Present.{rows_at}
use Rattle.statement_parser.specs.Lines as lines
use Rattle.statement_parser.specs.Lines.{Line}
use Rattle.statement_parser.specs.Texts.{Refusal as SpecRefusal, long, syntax, operation, number}
use Rattle.statement_parser.specs.LineOf.{line_of, IsLineRead}
use Rattle.statement_parser.specs.declared.refusal.LineRefusal.{LineRefusal}
use Rattle.statement_parser.specs.declared.refusal.LineRefusal.TheVariants as a_line
use Rattle.statement_parser.specs.Views.{line_view}
use Rattle.statement_parser.specs.declared.language.Language.{Language}
use Rattle.statement_parser.specs.declared.language.Place.{Place}
use Rattle.statement_parser.specs.declared.line.Line.{Line as ReadLine}
use Rattle.map_machine.specs.declared.Kind.{Kind}
use Rattle.map_machine.specs.declared.Kind.TheVariants.{Model, Shown, Refused}
use Rattle.map_machine.specs.States.{MapState}
use Rattle.map_machine.specs.Replies.{refused_reply}
use Rattle.map_machine.specs.Causes.{line_cause}
use Rattle.map_machine.specs.Answers.{answer_to}
use Rattle.map_machine.specs.LineReads.{reads_by, line_reads}
use Rattle.map_machine.specs.Steps.{Stepped, later, unchanged, step_by, step_of}
use Rattle.map_session.specs.Asked.{IsRead}
use Rattle.map_session.specs.Causes.{line_told}
use Rattle.map_session.specs.Said.{Says, Does}
use Rattle.map_session.specs.Answered.{Steps}
use Rattle.map_session.specs.declared.replies.Reply.{Reply}
use Rattle.map_session.proofs.EditSteps.{state}

some_same : {A : Type 0} (x y : A) → Some x ≡ Some y → x ≡ y
some_same x y e = cc

-- ---- lines

pub read_at : (p q : Place) (line : List ℕ) (r : Result ReadLine LineRefusal) → p ≡ q → IsLineRead (line_of (rows_at p) line) line_view r → IsLineRead (line_of (rows_at q) line) line_view r
read_at p q line r e h = subst (λ (o : Place). IsLineRead (line_of (rows_at o) line) line_view r) e h

pub stepped : (s t : MapState) (line : List ℕ) (x : Line) (r : Result Reply NoMemory) → line_of (rows_at s.place) line ≡ Ok x → Does s t (step_by s (Ok x)) r → Steps s t line r
unfolding step_of
stepped s t line x r e d = subst (λ (y : Result Line SpecRefusal). Does s t (step_by s y) r) (sym e) d

pub stepped_reads : (s : MapState) (line : List ℕ) (x : Line) (a b : TallyState) → line_of (rows_at s.place) line ≡ Ok x → IsRead (reads_by s (Ok x)) a b → IsRead (line_reads s line) a b
unfolding line_reads
stepped_reads s line x a b e r = subst (λ (y : Result Line SpecRefusal). IsRead (reads_by s y) a b) (sym e) r

pub stepped_empty : (s : MapState) (line : List ℕ) (x : Line) (kind : Kind) (reply : Reply) → line_of (rows_at s.place) line ≡ Ok x → step_by s (Ok x) ≡ unchanged s [] kind → Says [] kind reply → Steps s s line (Ok reply)
stepped_empty s line x kind reply is step says = stepped s s line x (Ok reply) is (subst (λ (d : Stepped). Does s s d (Ok reply)) (sym step) (refl, says.0, says.1))

pub stepped_model : (h : Header) (p set : Place) (whole : WholeState) (pasts : List Past) (s : MapState) (line : List ℕ) (l : Language) (reply : Reply) → state h p whole pasts ≡ s → set ≡ later l
    → line_of (rows_at s.place) line ≡ Ok (lines.model l) → Says [] Model reply → Steps s (state h set whole pasts) line (Ok reply)
stepped_model h p set whole pasts s line l reply same e is says =
    let new = ap (λ (q : Place). state h q whole pasts) e ∙ ap (λ (u : MapState). let t : MapState = record u { place = later l } in t) same in
    stepped s (state h set whole pasts) line (lines.model l) (Ok reply) is (new, says.0, says.1)

ask_done : (s : MapState) (q : lines.Request) (r : Result Reply NoMemory) → IfOk r (Says (answer_to s q) Shown) → Does s s (step_by s (Ok (lines.ask q))) r
ask_done s q (Ok reply) says = (refl, says.0, says.1)
ask_done s q (Err e) says = refl

pub stepped_ask : (s : MapState) (line : List ℕ) (q : lines.Request) (r : Result Reply NoMemory) → line_of (rows_at s.place) line ≡ Ok (lines.ask q) → IfOk r (Says (answer_to s q) Shown) → Steps s s line r
stepped_ask s line q r is says = stepped s s line (lines.ask q) r is (ask_done s q r says)

-- ---- bytes that are no line

line_turned : (s : MapState) (line : List ℕ) (r : LineRefusal) (text : List ℕ) → IsLineRead (line_of (rows_at s.place) line) line_view (Err r) → line_told r ≡ Some text
    → (x : SpecRefusal) × (line_of (rows_at s.place) line ≡ Err x) × (line_cause x ≡ text)
line_turned s line (a_line.Long n) text a t = (long n, a, some_same _ _ t)
line_turned s line (a_line.Syntax at) text a t = (syntax at, a, some_same _ _ t)
line_turned s line (a_line.Operation at) text a t = (operation at, a, some_same _ _ t)
line_turned s line (a_line.Number at) text a t = (number at, a, some_same _ _ t)
line_turned s line a_line.NoMemory text a t = absurd (cc)

pub stepped_refused : (s : MapState) (line : List ℕ) (r : LineRefusal) (cause text : List ℕ) (reply : Result Reply NoMemory) → IsLineRead (line_of (rows_at s.place) line) line_view (Err r) → line_told r ≡ Some cause
    → text ≡ cause → IfOk reply (Says (refused_reply text) Refused) → Steps s s line reply
unfolding step_of
stepped_refused s line r cause text (Ok reply) a t same says =
    let f = line_turned s line r cause a t in
    subst (λ (y : Result Line SpecRefusal). Does s s (step_by s y) (Ok reply)) (sym f.1)
    (refl, says.0 ∙ ap refused_reply (same ∙ sym f.2), says.1)
stepped_refused s line r cause text (Err e) a t same says = refl

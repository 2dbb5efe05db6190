-- The canonical text of a procedure reads back.
use Rattle.std.proofs.Common.{◌≡◌, ◌≤◌, ℕ, zero, suc, Bool, true, false, List, [], ◌∷◌, ◌++◌, length, Option, Some, None, Ok, Err, refl, sym, ap, subst, ◌∙◌, append_assoc, length-append, arith, inl}
use Rattle.std.specs.Prelude.{codes, bytes_eq}
use Rattle.std.proofs.lemmas.List.{append-nil}
use Rattle.map_words.specs.Bytes.{Text}
use Rattle.map_words.specs.Names.{is_plain, is_reserved, is_among}
use Rattle.grammar_core.specs.Rules.{ends}
use Rattle.grammar_core.specs.Run.{run}
use Rattle.grammar_core.specs.Readers.{◌>>=◌, Read, one_at, end_at, starts}
use Rattle.grammar_core.proofs.FirstFault.{found_so, only_so}
use Rattle.grammar_core.proofs.Parts.{tail_ends}
use Rattle.grammar_core.proofs.Reading.{end_reads}
use Rattle.map_defs.specs.Statements.{Written, Inner, Procedure}
use Rattle.statement_parser.specs.Lines.{Manner, Line, define, define_procedure, edit}
use Rattle.statement_parser.specs.Scopes.{Scope, has_name, names_before}
use Rattle.statement_parser.specs.Places.{the, name_of, tests, reading}
use Rattle.statement_parser.specs.Bodies.{body_rule}
use Rattle.statement_parser.specs.Commands.{find_command, command_named}
use Rattle.statement_parser.specs.Grammar.{line_rule, IsLine}
use Rattle.statement_parser.specs.ProcedureRules.{fresh_of, procedure_line}
use Rattle.statement_parser.specs.ReadBodies.{body_at}
use Rattle.statement_parser.specs.ReadProcedures.{names_at, parameters_at, inner_at, result_at, named_inner_at, statements_at, procedure_at}
use Rattle.statement_parser.specs.ReadLine.{started_at, line_at}
use Rattle.statement_parser.specs.Canonical.{written_text}
use Rattle.statement_parser.specs.Formed.{Each, IsWritten, AreInScope, IsFresh, AreFresh, IsInner, AreInner, IsProcedure}
use Rattle.statement_parser.specs.There.{HasCommand, IsWrittenThere, AreInnerThere}
use Rattle.statement_parser.specs.ProcedureTexts.{names_after, names_text, statements_after, statements_text, procedure_text}
use Rattle.statement_parser.specs.ReadingBack.{ReadsBack}
use Rattle.statement_parser.specs.Texts.{seen, is_short, LineText, worded}
use Rattle.statement_parser.specs.declared.command.Command.TheVariants.{Procedure as Procedures}
use Rattle.statement_parser.proofs.Parts.{IsStop}
use Rattle.statement_parser.proofs.BodyParts.{body_local, body_reads, healthy_body}
use Rattle.statement_parser.proofs.BackWords.{written_in, written_tail, body_back}
use Rattle.statement_parser.proofs.BackBytes.{texts_from, texts_are, from_word, IsWord, word_good, no_bad, plain_word, Follows, space_follows, mark_follows, written_then, Good, good_append, statement_good}
use Rattle.statement_parser.proofs.Recutting.{no_word_of, untailed_line}
use Rattle.statement_parser.proofs.LineParts.{line_reads}

-- ---- words

one_is : {A : Type 0} (f : Text → Option A) (due : Bool) (w : Text) (v : A) (ws : List Text) → f w ≡ Some v → one_at reading f due (w ∷ ws) ≡ Ok (v, ws)
one_is f due w v ws e = rw e refl

module _ (m : Manner) (scope : Scope) (w : Written) (formed : IsWritten w) (there : IsWrittenThere m w) (within : AreInScope scope w) where
  abbrev made : Written → Line
  made v = edit (define [] v)

  ran : run (tests m) (body_rule scope m (λ v. ends (made v))) (written_tail w) ≡ Ok (made w)
  ran = only_so (tests m) (body_rule scope m (λ v. ends (made v))) (written_tail w) (made w) (healthy_body m scope (λ v. ends (made v)) (λ v. tail_ends (tests m) (made v))).sound (body_back scope m made w (written_in scope w formed within) there)

  body_exact : body_at scope m (written_tail w) ≡ Ok (w, [])
  body_exact = go (body_at scope m (written_tail w)) (body_reads m scope (λ v ws. end_at ws >>= λ e. Ok (made v)) (λ v. ends (made v)) (λ v. tail_ends (tests m) (made v)) (λ v. end_reads (tests m) (made v)) (written_tail w) ∙ ran)
    where
      go : (r : Read Text Written) → (r >>= λ p. end_at p.1 >>= λ e. Ok (made p.0)) ≡ Ok (made w) → r ≡ Ok (w, [])
      go (Err f) e = absurd cc
      go (Ok (v, [])) e = (let same : v ≡ w = cc in ap (λ v. Ok (v, [])) same)
      go (Ok (v, u ∷ us)) e = absurd cc

  -- whatever follows a semicolon
  pub body_then : (us : List Text) → IsStop us → body_at scope m (written_tail w ++ us) ≡ Ok (w, us)
  body_then us stop = body_local m scope us stop (written_tail w) w [] body_exact

abbrev names_words : List Text → List Text
names_words [] = []
names_words (n ∷ ns) = codes "," ∷ n ∷ names_words ns

-- the words of the statements before the last, and of the last
abbrev statements_words : List Inner → Written → List Text
statements_words [] last = codes "result" ∷ codes "=" ∷ written_tail last
statements_words (i ∷ is) last = i.name ∷ codes "=" ∷ (written_tail i.written ++ codes ";" ∷ statements_words is last)

fresh_back : (ns : List Text) (q : Text) → IsFresh ns q → fresh_of ns q ≡ Some q
fresh_back ns q h = rw (h.0, h.1) refl

names_back : (n : ℕ) (front qs rest : List Text) → length qs ≤ n → AreFresh front qs → starts (the (codes ",")) rest ≡ false → names_at n front (names_words qs ++ rest) ≡ Ok (front ++ qs, rest)
unfolding names_at
names_back zero front [] rest l h none = ap (λ ps. Ok (ps, rest)) (sym (append-nil front))
names_back zero front (q ∷ qs) rest l h none = absurd (omega arith)
names_back (suc n) front [] rest l h none = rw none (ap (λ ps. Ok (ps, rest)) (sym (append-nil front)))
names_back (suc n) front (q ∷ qs) rest l h none =
    ap (λ x. x >>= λ p. names_at n (front ++ p.0 ∷ []) p.1) (one_is (fresh_of front) false q q (names_words qs ++ rest) (fresh_back front q h.0))
    ∙ names_back n (front ++ q ∷ []) qs rest (omega arith) h.1 none
    ∙ ap (λ ps. Ok (ps, rest)) (append_assoc front (q ∷ []) qs)

no_result : (n : Text) → is_plain n ≡ true → bytes_eq n (codes "result") ≡ false
unfolding is_plain is_reserved is_among
no_result n p = no_word_of n (codes "result") p refl

names-push : (ps : List Text) (is : List Inner) (i : Inner) → names_before ps (is ++ i ∷ []) ≡ names_before ps is ++ i.name ∷ []
names-push ps [] i = refl
names-push ps (j ∷ js) i = names-push (ps ++ j.name ∷ []) js i

module _ (m : Manner) where
  named_inner_back : (ns : List Text) (i : Inner) (rest : List Text) → IsFresh ns i.name → IsInner ns i.written → IsWrittenThere m i.written
      → named_inner_at m ns (i.name ∷ codes "=" ∷ (written_tail i.written ++ codes ";" ∷ rest)) ≡ Ok (i, rest)
  unfolding named_inner_at inner_at
  named_inner_back ns i rest new inner there =
      let named = λ (q : Text) (w : Written). let i : Inner = record { name = q; written = w } in i in
      let semi = λ (q : Text) (p : Written × List Text). one_at reading (the (codes ";")) false p.1 >>= λ u. Ok (named q p.0, u.1) in
      ap (λ x. x >>= λ q. (one_at reading (the (codes "=")) false q.1 >>= λ u. body_at (has_name ns) m u.1) >>= semi q.0) (one_is (fresh_of ns) false i.name i.name (codes "=" ∷ (written_tail i.written ++ codes ";" ∷ rest)) (fresh_back ns i.name new))
      ∙ ap (λ x. x >>= semi i.name) (body_then m (has_name ns) i.written inner.0 there inner.1 (codes ";" ∷ rest) refl)

  result_back : (ps : List Text) (is : List Inner) (last : Written) → IsInner (names_before ps is) last → IsWrittenThere m last
      → result_at m ps is (codes "result" ∷ codes "=" ∷ written_tail last) ≡ Ok (is ++ record { name = codes "result"; written = last } ∷ [])
  unfolding result_at inner_at
  result_back ps is last inner there =
      let named = λ (w : Written). let i : Inner = record { name = codes "result"; written = w } in i in
      ap (λ x. x >>= λ w. end_at w.1 >>= λ e. Ok (is ++ named w.0 ∷ [])) (body_exact m (has_name (names_before ps is)) last inner.0 there inner.1)

  statements_back : (ps : List Text) (n : ℕ) (is front : List Inner) (last : Written) (ns : List Text) → names_before ps is ≡ ns → length front ≤ n → AreInner ns front → AreInnerThere m front → IsInner (names_before ns front) last → IsWrittenThere m last
      → statements_at m ps n is (statements_words front last) ≡ Ok (is ++ (front ++ record { name = codes "result"; written = last } ∷ []))
  unfolding statements_at
  statements_back ps zero is [] last ns e l inner there res here = result_back ps is last (subst (λ ks. IsInner ks last) (sym e) res) here
  statements_back ps zero is (i ∷ fs) last ns e l inner there res here = absurd (omega arith)
  statements_back ps (suc n) is [] last ns e l inner there res here = result_back ps is last (subst (λ ks. IsInner ks last) (sym e) res) here
  statements_back ps (suc n) is (i ∷ fs) last ns e l inner there res here =
      let final = let i : Inner = record { name = codes "result"; written = last } in i in
      rw (no_result i.name inner.0.0)
      (ap (λ x. x >>= λ i. statements_at m ps n (is ++ i.0 ∷ []) i.1) (named_inner_back (names_before ps is) i (statements_words fs last) (subst (λ ks. IsFresh ks i.name) (sym e) inner.0) (subst (λ ks. IsInner ks i.written) (sym e) inner.1) there.0)
      ∙ statements_back ps n (is ++ i ∷ []) fs last (ns ++ i.name ∷ []) (names-push ps is i ∙ ap (λ ks. ks ++ i.name ∷ []) e) (omega arith) inner.2 there.1 res here
      ∙ ap Ok (append_assoc is (i ∷ []) (fs ++ final ∷ [])))

  parameters_back : (a : Text) (qs rest : List Text) → is_plain a ≡ true → length qs ≤ 7 → AreFresh (a ∷ []) qs → parameters_at (codes "(" ∷ a ∷ (names_words qs ++ codes ")" ∷ codes ":" ∷ rest)) ≡ Ok (a ∷ qs, rest)
  unfolding parameters_at
  parameters_back a qs rest p l h =
      let colon = λ (ps : List Text × List Text). one_at reading (the (codes ")")) false ps.1 >>= λ v. one_at reading (the (codes ":")) false v.1 >>= λ c. Ok (ps.0, c.1) in
      ap (λ x. x >>= λ a. names_at 7 (a.0 ∷ []) a.1 >>= colon) (one_is name_of false a a (names_words qs ++ codes ")" ∷ codes ":" ∷ rest) (rw p refl))
      ∙ ap (λ x. x >>= colon) (names_back 7 (a ∷ []) qs (codes ")" ∷ codes ":" ∷ rest) l h refl)

  procedure_back : (p a : Text) (qs : List Text) (front : List Inner) (last : Written) → is_plain p ≡ true → is_plain a ≡ true → length qs ≤ 7 → AreFresh (a ∷ []) qs → length front ≤ 15 → AreInner (a ∷ qs) front → AreInnerThere m front
      → IsInner (names_before (a ∷ qs) front) last → IsWrittenThere m last
      → procedure_at m (p ∷ codes "(" ∷ a ∷ (names_words qs ++ codes ")" ∷ codes ":" ∷ statements_words front last)) ≡ Ok (procedure_line p (a ∷ qs) (front ++ record { name = codes "result"; written = last } ∷ []))
  unfolding procedure_at
  procedure_back p a qs front last hp ha l h few inner there res here =
      let body = λ (p : Text) (ps : List Text × List Text). statements_at m ps.0 15 [] ps.1 >>= λ is. Ok (procedure_line p ps.0 is) in
      ap (λ x. x >>= λ p. parameters_at p.1 >>= body p.0) (one_is name_of false p p (codes "(" ∷ a ∷ (names_words qs ++ codes ")" ∷ codes ":" ∷ statements_words front last)) (rw hp refl))
      ∙ ap (λ x. x >>= body p) (parameters_back a qs (statements_words front last) ha l h)
      ∙ ap (λ x. x >>= λ is. Ok (procedure_line p (a ∷ qs) is)) (statements_back (a ∷ qs) 15 [] front last (a ∷ qs) refl few inner there res here)

-- ---- the words of the bytes

names_then : (ns : List Text) (rest : Text) (us : List Text) → Each (λ n. is_plain n ≡ true) ns → Follows rest us → Follows (names_after ns ++ rest) (names_words ns ++ us)
names_then [] rest us h f = f
names_then (n ∷ ns) rest us h f =
    let ih = names_then ns rest us h.1 f in
    let more = names_words ns ++ us in
    let one : texts_from None ((n ++ names_after ns) ++ rest) ≡ n ∷ more =
    ap (texts_from None) (append_assoc n (names_after ns) rest) ∙ from_word n (names_after ns ++ rest) more (plain_word n h.0) ih.0 ih.1 in
    mark_follows 44 (32 ∷ ((n ++ names_after ns) ++ rest)) (n ∷ more) refl refl one

abbrev last_inner : Written → Inner
last_inner w = record { name = codes "result"; written = w }

after_text : (is : List Inner) (i : Inner) → statements_after (is ++ i ∷ []) ≡ 59 ∷ 32 ∷ statements_text (is ++ i ∷ [])
after_text [] i = refl
after_text (j ∷ js) i = refl

-- statements and the last, each formed
abbrev AreWritten : List Inner → Type 0
AreWritten is = Each (λ (i : Inner). (is_plain i.name ≡ true) × IsWritten i.written) is

inner_written : (ns : List Text) (is : List Inner) → AreInner ns is → AreWritten is
inner_written ns [] h = tt
inner_written ns (i ∷ is) h = ((h.0.0, h.1.0), inner_written (ns ++ i.name ∷ []) is h.2)

fresh_plain : (ns ps : List Text) → AreFresh ns ps → Each (λ n. is_plain n ≡ true) ps
fresh_plain ns [] h = tt
fresh_plain ns (p ∷ ps) h = (h.0.0, fresh_plain (ns ++ p ∷ []) ps h.1)

result_word : IsWord (codes "result")
result_word = inl (λ e. cc, refl)

statements_seen : (front : List Inner) (last : Written) → AreWritten front → IsWritten last → texts_from None (statements_text (front ++ last_inner last ∷ [])) ≡ statements_words front last
statements_seen [] last h k = written_then (codes "result") last [] [] result_word k (λ t. refl, refl) ∙ ap (λ ts. codes "result" ∷ codes "=" ∷ ts) (append-nil (written_tail last))
statements_seen (i ∷ is) last h k =
    let rest = statements_text (is ++ last_inner last ∷ []) in
    let ih = statements_seen is last h.1 k in
    let semi = mark_follows 59 (32 ∷ rest) (statements_words is last) refl refl ih in
    ap (λ t. texts_from None (written_text i.name i.written ++ t)) (after_text is (last_inner last)) ∙ written_then i.name i.written (59 ∷ 32 ∷ rest) (codes ";" ∷ statements_words is last) (plain_word i.name h.0.0) h.0.1 semi

-- ---- bytes of a line

names_good : (ns : List Text) → Each (λ n. is_plain n ≡ true) ns → Good (names_after ns)
names_good [] h = refl
names_good (n ∷ ns) h = good_append n (names_after ns) (word_good n (plain_word n h.0)) (names_good ns h.1)

further_good : (front : List Inner) (last : Written) → AreWritten front → IsWritten last → Good (statements_after (front ++ last_inner last ∷ []))
further_good [] last h k = good_append (written_text (codes "result") last) [] (statement_good (codes "result") last refl k) refl
further_good (i ∷ is) last h k =
    good_append (written_text i.name i.written) (statements_after (is ++ last_inner last ∷ [])) (statement_good i.name i.written (word_good i.name (plain_word i.name h.0.0)) h.0.1) (further_good is last h.1 k)

statements_good : (front : List Inner) (last : Written) → AreWritten front → IsWritten last → Good (statements_text (front ++ last_inner last ∷ []))
statements_good front last h k = subst (λ t. Good t) (after_text front (last_inner last)) (further_good front last h k)

-- ---- lines

each_front : {A : Type 0} (P : A → Type 0) (xs : List A) (y : A) → Each P (xs ++ y ∷ []) → Each P xs × P y
each_front P [] y h = (tt, h.0)
each_front P (x ∷ xs) y h = let r = each_front P xs y h.1 in ((h.0, r.0), r.1)

module _ (m : Manner) (n a : Text) (qs : List Text) (front : List Inner) (last : Written) (plain_n : is_plain n ≡ true) (plain_a : is_plain a ≡ true) (few : length qs ≤ 7) (new : AreFresh (a ∷ []) qs) (short_body : length front ≤ 15)
    (inner : AreInner (a ∷ qs) front) (there : AreInnerThere m front) (result : IsInner (names_before (a ∷ qs) front) last) (here : IsWrittenThere m last) where
  abbrev whole : Procedure
  whole = record { name = n; takes = a ∷ qs; body = front ++ last_inner last ∷ [] }

  abbrev words : List Text
  words = n ∷ codes "(" ∷ a ∷ (names_words qs ++ codes ")" ∷ codes ":" ∷ statements_words front last)

  abbrev statements : Text
  statements = statements_text (front ++ last_inner last ∷ [])

  cut : texts_from None (procedure_text whole) ≡ codes "procedure" ∷ words
  cut =
      let said = statements_seen front last (inner_written (a ∷ qs) front inner) result.0 in
      let colon = mark_follows 58 (32 ∷ statements) (statements_words front last) refl refl said in
      let close = mark_follows 41 (58 ∷ 32 ∷ statements) (codes ":" ∷ statements_words front last) refl refl colon.1 in
      let names = names_then qs (41 ∷ 58 ∷ 32 ∷ statements) (codes ")" ∷ codes ":" ∷ statements_words front last) (fresh_plain (a ∷ []) qs new) close in
      let after = names_words qs ++ codes ")" ∷ codes ":" ∷ statements_words front last in
      let rest = names_text (a ∷ qs) ++ 41 ∷ 58 ∷ 32 ∷ statements in
      let first : texts_from None rest ≡ a ∷ after =
      ap (texts_from None) (append_assoc a (names_after qs) (41 ∷ 58 ∷ 32 ∷ statements)) ∙ from_word a (names_after qs ++ 41 ∷ 58 ∷ 32 ∷ statements) after (plain_word a plain_a) names.0 names.1 in
      let opened = mark_follows 40 rest (a ∷ after) refl refl first in
      let named : texts_from None (n ++ 40 ∷ rest) ≡ words = from_word n (40 ∷ rest) (codes "(" ∷ a ∷ after) (plain_word n plain_n) opened.0 opened.1 in
      let space = space_follows (n ++ 40 ∷ rest) words named in
      from_word (codes "procedure") (32 ∷ (n ++ 40 ∷ rest)) words (inl (λ e. cc, refl)) space.0 space.1

  seen_words : seen (procedure_text whole) ≡ codes "procedure" ∷ words
  seen_words = untailed_line (procedure_text whole) (codes "procedure") words (texts_are 1 None (procedure_text whole) ∙ cut) (λ k. refl)

  good : Good (procedure_text whole)
  good =
      let plains = fresh_plain (a ∷ []) qs new in
      good_append n (40 ∷ (names_text (a ∷ qs) ++ 41 ∷ 58 ∷ 32 ∷ statements)) (word_good n (plain_word n plain_n))
      (good_append (names_text (a ∷ qs)) (41 ∷ 58 ∷ 32 ∷ statements) (good_append a (names_after qs) (word_good a (plain_word a plain_a)) (names_good qs plains))
      (statements_good front last (inner_written (a ∷ qs) front inner) result.0))

  read : command_named m (codes "procedure") ≡ Some Procedures → line_at m (codes "procedure" ∷ words) ≡ Ok (edit (define_procedure whole))
  unfolding line_at
  read e = ap (λ c. started_at m c (codes "procedure") words) e ∙ procedure_back m n a qs front last plain_n plain_a few new short_body inner there result here

  line_back : command_named m (codes "procedure") ≡ Some Procedures → is_short (procedure_text whole) ≡ true → LineText m (procedure_text whole) (edit (define_procedure whole))
  line_back e short =
      worded short refl (no_bad (procedure_text whole) good)
      (subst (λ ts. IsLine m ts (edit (define_procedure whole))) (sym seen_words) (found_so (tests m) (line_rule m) (codes "procedure" ∷ words) (edit (define_procedure whole)) (sym (line_reads m (codes "procedure" ∷ words)) ∙ read e)))

found : (m : Manner) → HasCommand m Procedures → command_named m (codes "procedure") ≡ Some Procedures
unfolding command_named find_command
found m h = rw h refl

procedure_is_back : (m : Manner) (n : Text) (takes : List Text) (body : List Inner) → IsProcedure (record { name = n; takes = takes; body = body }) → HasCommand m Procedures → AreInnerThere m body
    → is_short (procedure_text (record { name = n; takes = takes; body = body })) ≡ true → LineText m (procedure_text (record { name = n; takes = takes; body = body })) (edit (define_procedure (record { name = n; takes = takes; body = body })))
procedure_is_back m n [] body h command there short = absurd (let l = h.some.0 in omega arith)
procedure_is_back m n (a ∷ qs) body h command there short =
    let front = h.body.before in
    let last = h.body.last in
    let made = λ (b : List Inner). let p : Procedure = record { name = n; takes = a ∷ qs; body = b } in p in
    let parts = each_front (λ (i : Inner). IsWrittenThere m i.written) front (last_inner last) (subst (AreInnerThere m) h.body.whole there) in
    let most : length front ≤ 15 = most_of front body last h.few h.body.whole in
    let some = h.some.1 in
    subst (λ b. LineText m (procedure_text (made b)) (edit (define_procedure (made b)))) (sym h.body.whole)
    (line_back m n a qs front last h.name h.takes.0.0 (omega arith) h.takes.1 most h.body.inner parts.0 h.body.result parts.1 (found m command)
    (subst (λ b. is_short (procedure_text (made b)) ≡ true) h.body.whole short))
  where
    most_of : (front body : List Inner) (last : Written) → length body ≤ 16 → body ≡ front ++ last_inner last ∷ [] → length front ≤ 15
    most_of front body last l e = let k : length body ≡ length (front ++ last_inner last ∷ []) = ap length e in omega (arith, length-append front (last_inner last ∷ []))

pub reads_back : (p : Procedure) (text : Text) → text ≡ procedure_text p → ReadsBack p text
reads_back p text e m h there short =
    subst (λ t. LineText m t (edit (define_procedure p))) (sym e) (procedure_is_back m p.name p.takes p.body h there.0 there.1 (subst (λ t. is_short t ≡ true) e short))

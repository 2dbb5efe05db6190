-- Procedures, to the end of their lines.
use Rattle.std.proofs.Common.{◌≡◌, ◌+◌, ◌≤◌, ℕ, zero, suc, Bool, true, false, cond, not, ◌&&◌, List, [], ◌∷◌, ◌++◌, length, Some, None, Result, Ok, refl, sym, ap, subst, ◌∙◌, arith, append_assoc, length-append}
use Rattle.std.specs.Prelude.{codes, is_some}
use Rattle.std.proofs.lemmas.List.{append-nil}
use Rattle.map_words.specs.Bytes.{Text}
use Rattle.map_words.specs.Names.{is_plain, is_reserved, is_among}
use Rattle.map_defs.specs.Statements.{Written, Inner}
use Rattle.grammar_core.specs.declared.Fault.{Fault}
use Rattle.grammar_core.specs.Rules.{Rule, node, on, next, after, ◌<|>◌}
use Rattle.grammar_core.specs.Refusals.{Begins}
use Rattle.grammar_core.specs.Run.{is_node}
use Rattle.grammar_core.specs.Readers.{◌>>=◌, Read, one_at, end_at, starts}
use Rattle.grammar_core.proofs.Ends.{ends_next, ends_also}
use Rattle.grammar_core.proofs.Parts.{NoBody, through, healthy_node, all_on, all_or, tail_ends}
use Rattle.grammar_core.proofs.Reading.{assoc, cond_k, IsPlace, next_tail, also_reads, end_reads}
use Rattle.statement_parser.specs.Lines.{Manner, Line}
use Rattle.statement_parser.specs.Scopes.{has_name, names_before}
use Rattle.statement_parser.specs.Places.{the, name_of, tests, reading}
use Rattle.statement_parser.specs.ProcedureRules.{fresh_of, further_names, inner_part, result_rule, statements_rule, procedure_line, procedure_rule}
use Rattle.statement_parser.specs.ReadProcedures.{names_at, parameters_at, inner_at, result_at, named_inner_at, statements_at, procedure_at}
use Rattle.statement_parser.specs.Formed.{IsBetween, IsFresh, AreFresh, IsInner, AreInner, IsBody}
use Rattle.statement_parser.specs.There.{HasCommand, IsWrittenThere, AreInnerThere}
use Rattle.statement_parser.specs.declared.command.Command.TheVariants.{Procedure}
use Rattle.statement_parser.proofs.PlaceFacts.{IsOpen, name_open, the_place}
use Rattle.statement_parser.proofs.Placing.{placed_k}
use Rattle.statement_parser.proofs.Parts.{IsGood, IsPart, one_part, pure_part, weaker, then_part, word_then, word_place, either_part, IsRest, weaker_rest, then_rest}
use Rattle.statement_parser.proofs.BodyParts.{all-push, equals_body}
use Rattle.statement_parser.proofs.FreshNames.{new_name}

fresh_free : (ns : List Text) → fresh_of ns (codes "LocalSum") ≡ None
unfolding is_plain is_reserved is_among
fresh_free ns = refl

fresh_number : (ns : List Text) → fresh_of ns (codes "01") ≡ None
unfolding is_plain
fresh_number ns = refl

fresh_formed : (ns : List Text) (w q : Text) → fresh_of ns w ≡ Some q → IsFresh ns q
fresh_formed ns w q e = go (is_plain w) (has_name ns w) refl refl e
  where
    go : (b c : Bool) → is_plain w ≡ b → has_name ns w ≡ c → cond (b && not c) (Some w) None ≡ Some q → IsFresh ns q
    go true false k l e = let h : w ≡ q = cc in subst (IsFresh ns) h (k, l)
    go true true k l e = absurd cc
    go false c k l e = absurd cc

fresh-push : (ns ps : List Text) (q : Text) → AreFresh ns ps → IsFresh (ns ++ ps) q → AreFresh ns (ps ++ q ∷ [])
fresh-push ns [] q h k = (subst (λ us. IsFresh us q) (append-nil ns) k, tt)
fresh-push ns (p ∷ ps) q h k = (h.0, fresh-push (ns ++ p ∷ []) ps q h.1 (subst (λ us. IsFresh us q) (sym (append_assoc ns (p ∷ []) ps)) k))

inner-push : (ns : List Text) (is : List Inner) (i : Inner) → AreInner ns is → IsFresh (names_before ns is) i.name → IsInner (names_before ns is) i.written → AreInner ns (is ++ i ∷ [])
inner-push ns [] i h k l = (k, l, tt)
inner-push ns (j ∷ js) i h k l = (h.0, h.1, inner-push (ns ++ j.name ∷ []) js i h.2 k l)

module _ (m : Manner) where
  fresh_place : (ns : List Text) → IsPlace (tests m) (fresh_of ns) false
  fresh_place ns = record { free = fresh_free ns; number = ap is_some (fresh_number ns) }

  fresh_open : (ns : List Text) → length ns ≤ 7 → IsOpen m (IsFresh ns) (fresh_of ns) false
  fresh_open ns l = let new = new_name ns l in record { place = fresh_place ns; word = new.0; value = new.0; takes = new.1; gives = fresh_formed ns }

  -- ---- parameters

  abbrev AreTaken : List Text → Type 0
  AreTaken ps = IsBetween 1 8 (length ps) × AreFresh [] ps

  names_part : (n : ℕ) (ps : List Text) → length ps + n ≤ 8 → IsPart m (λ qs. 1 ≤ length ps → AreFresh [] ps → AreTaken qs) (names_at n ps) (λ r. further_names r n ps)
  unfolding names_at
  names_part zero ps most = pure_part m ps (λ some new. ((some, omega arith), new))
  names_part (suc n) ps most =
      let fresh = one_part m (fresh_of ps) false (fresh_open ps (omega arith)) in
      let more = λ (q : Text). names_part n (ps ++ q ∷ []) (omega (arith, length-append ps (q ∷ []))) in
      either_part m true (codes ",") (refl, refl) refl
      (λ here. word_then m (codes ",") (refl, refl) (then_part m fresh (λ q. weaker m (more q) (λ qs given new some old. given (omega (arith, length-append ps (q ∷ []))) (fresh-push [] ps q old new)))))
      (λ r tails. fresh.tail (λ q. further_names r n (ps ++ q ∷ [])) (λ q. (more q).tail r tails))
      (pure_part m ps (λ some new. ((some, omega arith), new)))

  parameters_part : IsPart m AreTaken parameters_at (λ r. next (the (codes "(")) (λ _. next name_of (λ a. further_names (λ ps. next (the (codes ")")) (λ _. next (the (codes ":")) (λ _. r ps))) 7 (a ∷ []))))
  unfolding parameters_at
  parameters_part =
      word_then m (codes "(") (refl, refl) (then_part m (one_part m name_of false (name_open m)) (λ a. then_part m (names_part 7 (a ∷ []) (omega arith)) (λ ps.
      word_then m (codes ")") (refl, refl) (word_then m (codes ":") (refl, refl) (pure_part m ps (λ given p. given (omega arith) ((p, refl), tt)))))))

  -- ---- statements

  inner_is : (ns : List Text) → IsPart m (λ w. IsInner ns w × IsWrittenThere m w) (inner_at m ns) (inner_part m ns)
  unfolding inner_at
  inner_is ns = weaker m (equals_body m (has_name ns)) (λ w k. ((k.0, k.2), k.1))

  module _ (make : List Inner → Line) (ps : List Text) where
    abbrev finish : List Inner → Result Line Fault
    finish body = Ok (make body)

    -- what a body of these parameters makes is formed, and so far it has these statements
    record AreSoFar (n : ℕ) (is : List Inner) : Type 0 where
      pub makes : (body : List Inner) → length body ≤ 16 → IsBody ps body → AreInnerThere m body → IsGood m (make body)
      pub most : length is + n ≤ 15
      pub inner : AreInner ps is
      pub there : AreInnerThere m is

    then_finish : {A C : Type 0} {P : A → Type 0} {h : List Text → Read Text A} {p : (A → Rule Text Line) → Rule Text Line} {q : A → Rule Text Line} (k : A → List Text → Result (List Inner) Fault)
        → IsPart m P h p → ((v : A) → IsRest m (P v × C) (λ ws. k v ws >>= finish) (q v)) → IsRest m C (λ ws. (h ws >>= λ x. k x.0 x.1) >>= finish) (p q)
    then_finish {h = h} {q = q} k a b = record {
      reads = λ ws. assoc (h ws) (λ x. k x.0 x.1) finish ∙ a.reads (λ v us. k v us >>= finish) q (λ v. (b v).tail) (λ v. (b v).reads) ws;
      tail = a.tail q (λ v. (b v).tail);
      formed = λ c. a.formed q (λ v x. (b v).formed (x, c));
    }

    abbrev ended : List Inner → Written → List Inner
    ended is w = is ++ record { name = codes "result"; written = w } ∷ []

    -- the last statement, after its name
    last_rest : (n : ℕ) (is : List Inner) → IsRest m (AreSoFar n is) (λ ws. (inner_at m (names_before ps is) ws >>= λ w. end_at w.1 >>= λ e. Ok (ended is w.0)) >>= finish) (result_rule m make ps is)
    last_rest n is = then_finish (λ w ws. end_at ws >>= λ e. Ok (ended is w)) (inner_is (names_before ps is)) (λ w. record {
      reads = λ ws. assoc (end_at ws) (λ e. Ok (ended is w)) finish ∙ end_reads (tests m) (make (ended is w)) ws;
      tail = tail_ends (tests m) (make (ended is w));
      formed = λ c.
          (let last : Inner = record { name = codes "result"; written = w } in
          let l = c.1.most in (
            c.1.makes (ended is w) (omega (arith, length-append is (last ∷ []))) (record { before = is; last = w; whole = refl; inner = c.1.inner; result = c.0.0 })
                (all-push (λ (i : Inner). IsWrittenThere m i.written) is last c.1.there c.0.1),
            λ w. tt,
          ));
    })

    result_rest : (n : ℕ) (is : List Inner) → IsRest m (AreSoFar n is) (λ ws. result_at m ps is ws >>= finish) (next (the (codes "result")) (λ _. result_rule m make ps is))
    unfolding result_at
    result_rest n is =
        then_finish (λ u ws. inner_at m (names_before ps is) ws >>= λ w. end_at w.1 >>= λ e. Ok (ended is w.0))
        (one_part m (the (codes "result")) false (word_place m (codes "result") (refl, refl))) (λ u. weaker_rest m (last_rest n is) (λ c. c.1))

    abbrev named : Text → Written → Inner
    named q w = record { name = q; written = w }

    -- a statement before the last, after its name
    named_part : (ns : List Text) (q : Text) → IsPart m (λ i. IsFresh ns q → IsFresh ns i.name × IsInner ns i.written × IsWrittenThere m i.written)
        (λ ws. inner_at m ns ws >>= λ w. one_at reading (the (codes ";")) false w.1 >>= λ u. Ok (named q w.0, u.1)) (λ r. inner_part m ns (λ w. next (the (codes ";")) (λ _. r (named q w))))
    named_part ns q = then_part m (inner_is ns) (λ w. word_then m (codes ";") (refl, refl) (pure_part m (named q w) (λ k new. (new, k.0, k.1))))

    statements_rest : (n : ℕ) (is : List Inner) → IsRest m (AreSoFar n is) (λ ws. statements_at m ps n is ws >>= finish) (statements_rule m make ps n is)
    unfolding statements_at named_inner_at
    statements_rest zero is = result_rest zero is
    statements_rest (suc n) is =
        let ns = names_before ps is in
        let result = result_rest (suc n) is in
        let last = λ (u : Unit {0}). result_rule m make ps is in
        let more = λ (i : Inner). statements_rest n (is ++ i ∷ []) in
        let rule = λ (i : Inner). statements_rule m make ps n (is ++ i ∷ []) in
        let goes = λ (i : Inner) (ws : List Text). statements_at m ps n (is ++ i ∷ []) ws >>= finish in
        let other = λ (q : Text). inner_part m ns (λ w. next (the (codes ";")) (λ _. rule (named q w))) in
        let others = λ (q : Text). (named_part ns q).tail rule (λ i. (more i).tail) in
        let begins : Begins (node None (on (the (codes "result")) last <|> on (fresh_of ns) other)) [] =
        through None (on (the (codes "result")) last <|> on (fresh_of ns) other) (codes "result") (last_rest (suc n) is).tail.healthy.begins in
        let none_here : NoBody (tests m) (on (the (codes "result")) last <|> on (fresh_of ns) other) = ap (λ o. is_node (after o other)) (fresh_free ns) in
        record {
          reads = λ ws.
              cond_k (starts (the (codes "result")) ws) (result_at m ps is ws) (named_inner_at m ns ws >>= λ i. statements_at m ps n (is ++ i.0 ∷ []) i.1) finish
              ∙ also_reads (tests m) (the (codes "result")) last (next (fresh_of ns) other) (λ ws. result_at m ps is ws >>= finish) (λ ws. (named_inner_at m ns ws >>= λ i. statements_at m ps n (is ++ i.0 ∷ []) i.1) >>= finish)
              (the_place m (codes "result") (refl, refl)) (λ u. refl) (next_tail (tests m) (fresh_of ns) other (fresh_free ns)) result.reads
              (λ ws.
              assoc (named_inner_at m ns ws) (λ i. statements_at m ps n (is ++ i.0 ∷ []) i.1) finish
              ∙ placed_k m (fresh_of ns) false (λ q ws. inner_at m ns ws >>= λ w. one_at reading (the (codes ";")) false w.1 >>= λ u. Ok (named q w.0, u.1)) goes other (fresh_place ns) (λ q. refl)
              (λ q. (named_part ns q).reads goes rule (λ i. (more i).tail) (λ i. (more i).reads)) ws) ws;
          tail = record {
            healthy = healthy_node (tests m) None (on (the (codes "result")) last <|> on (fresh_of ns) other) begins none_here
                (all_or (tests m) (on (the (codes "result")) last) (on (fresh_of ns) other)
                (all_on (tests m) (the (codes "result")) last (λ u. (last_rest (suc n) is).tail.healthy)) (all_on (tests m) (fresh_of ns) other (λ q. (others q).healthy)));
            node = refl;
            no_body = none_here;
          };
          formed = λ c.
              ends_also (IsGood m) (the (codes "result")) last (next (fresh_of ns) other) (λ w v e. (last_rest (suc n) is).formed c)
              (ends_next (IsGood m) (fresh_of ns) other (λ w q e. (named_part ns q).formed rule (λ i k. (let new = k (fresh_formed ns w q e) in let l = c.most in
              (more i).formed (record {
                makes = c.makes;
                most = omega (arith, length-append is (i ∷ []));
                inner = inner-push ps is i c.inner new.0 new.1;
                there = all-push (λ (i : Inner). IsWrittenThere m i.written) is i c.there new.2;
              })))));
        }

  pub procedure_rest : IsRest m (HasCommand m Procedure) (procedure_at m) (procedure_rule m)
  unfolding procedure_at
  procedure_rest =
      then_rest m (one_part m name_of false (name_open m)) (λ p. then_rest m parameters_part (λ ps.
      weaker_rest m (statements_rest (procedure_line p ps) ps 15 []) (λ c. record {
        makes = λ body few k there. (record { name = c.1.0; some = c.0.0; takes = c.0.1; few = few; body = k }, (c.1.1, there));
        most = omega arith;
        inner = tt;
        there = tt;
      })))

-- The words of a formed statement are its line.
use Rattle.std.proofs.Common.{◌≡◌, ℕ, zero, suc, ◌≤◌, ◌<◌, ◌^◌, ℤ, pos, Bool, true, false, cond, List, [], ◌∷◌, ◌++◌, length, Option, Some, None, refl, sym, ap, subst, ◌∙◌, append_assoc, arith}
use Rattle.std.specs.List.{list_any}
use Rattle.std.specs.Prelude.{◌||◌, codes, find, bytes_eq, option_map, IsTrue, nat_le, nat_abs, decimal}
use Rattle.std.proofs.lemmas.Bool.Decides.{nat_tests}
use Rattle.std.specs.Fmt.{signed_decimal}
use Rattle.std.specs.Ordering.{int_eq}
use Rattle.std.proofs.lemmas.List.{append-nil}
use Rattle.std.proofs.lemmas.Slice.Eq.{bytes_eq-Decides}
use Rattle.std.proofs.lemmas.Bool.Decides.{Decides-int_eq}
use Rattle.map_nums.specs.declared.Stat.{Stat}
use Rattle.map_nums.specs.declared.Stat.TheVariants.{Sum, Product}
use Rattle.map_nums.specs.declared.Rate.{Rate}
use Rattle.map_nums.specs.Numbers.{is_value, greatest_value, vmax}
use Rattle.map_words.specs.Bytes.{Text}
use Rattle.map_words.specs.Numbers.{if_between}
use Rattle.map_words.specs.Names.{is_plain, is_reserved, is_among}
use Rattle.grammar_core.specs.Rules.{Rule, Derives, node, ends, on, next, after, also, or_rule}
use Rattle.grammar_core.proofs.Ends.{next_derives, also_derives, rest_derives}
use Rattle.map_defs.specs.Ops.{Term, layer_term, number_term, Head, local_head, rating_head, focal_head, zonal_head, form_head, direction_head, flow_head, spread_head, nearest_head, sight_head, region_head, Op, of_one, of_two, local_op, rating_op, focal_op, direction_op, flow_op, sight_op}
use Rattle.map_defs.specs.Facts.{HasTerms}
use Rattle.map_defs.specs.Sight.{Sighting}
use Rattle.map_defs.specs.Incremental as incremental
use Rattle.map_defs.specs.Incremental.{linkage_form, length_form, partition_form, frontage_form, gradient_form, aspect_form}
use Rattle.map_defs.specs.Statements.{Written, plain, call}
use Rattle.statement_parser.specs.Lines.{Manner, define, Line, edit}
use Rattle.statement_parser.specs.Scopes.{Scope, anywhere}
use Rattle.statement_parser.specs.Operations.{operations, operation_text, operation_of, find_operation, operation_named}
use Rattle.statement_parser.specs.Forms.{form_of, form_row}
use Rattle.statement_parser.specs.Places.{the, maybe, name_of, value_of, count_of, disc_of, reach_of, limit_of, term_of, weights_of, cell_of, call_of}
use Rattle.statement_parser.specs.Bodies.{term_after, further_terms, optional_part, ignoring_part, statistic_body, pair_body, single_body, rate_part, with_rates, rating_body, radius_part, sight_part, radiates, focal_body, friction_part, spread_body, drainage_op, drainage_body, operation_body, call_body, body_rule}
use Rattle.statement_parser.specs.Commands.{command_text, commands, find_command, command_named}
use Rattle.statement_parser.specs.Grammar.{define_rule, command_rule, IsLine}
use Rattle.layer_tiles.specs.Cells.{IsCell}
use Rattle.statement_parser.specs.Formed.{Each, InScope, AreInScope, IsTerm, IsRate, IsBetween, IsRadius, IsSighting, IsHead, IsOp, IsWritten}
use Rattle.statement_parser.specs.There.{HasRow, MayIgnore, MayBe, IsOpThere, IsWrittenThere}
use Rattle.statement_parser.specs.Canonical.{cell_text, optional_texts, rates_texts, radius_texts, sight_texts, friction_texts, ignoring_texts, head_texts, op_texts}
use Rattle.statement_parser.specs.TermTexts.{term_text, terms_after, terms_texts}
use Rattle.statement_parser.specs.declared.operation.Operation.{Operation}
use Rattle.statement_parser.specs.declared.operation.Operation.TheVariants.{Local, Focal, Zonal, Incremental}
use Rattle.statement_parser.specs.declared.op.Form.TheVariants.{Linkage}
use Rattle.statement_parser.specs.declared.command.Command.{Command}
use Rattle.statement_parser.proofs.Numerals.{number_decimal, value_back, no_plain, no_null}
use Rattle.statement_parser.proofs.PlaceFacts.{maybe_free, operation_none, command_none, the_word}
use Rattle.statement_parser.proofs.FormedLines.{IsTermIn, IsRow}

-- ---- one place

name_back : (n : Text) → IsTrue (is_plain n) → name_of n ≡ Some n
name_back n h = rw h refl

term_back : (scope : Scope) (t : Term) → IsTermIn scope t → term_of scope (term_text t) ≡ Some t
term_back scope (layer_term n) h = rw (h.0, h.1) refl
term_back scope (number_term z) h = rw (no_plain z h.0) (ap (option_map number_term) (value_back z h.0))

cell_back : (c : Option ℤ) → IsCell c → cell_of (cell_text c) ≡ Some c
cell_back None h = refl
cell_back (Some z) h = rw (no_null z h) (ap (option_map Some) (value_back z h))

-- a place that is there
maybe_taken : {A : Type 0} (b : Bool) (f : Text → Option A) (w : Text) (v : A) → b ≡ true → f w ≡ Some v → maybe b f w ≡ Some v
maybe_taken true f w v e h = h
maybe_taken false f w v e h = absurd cc

-- a count in its range
nat_in : (a b : ℕ) → a ≤ b → nat_le a b ≡ true
nat_in a b h = grind (arith, nat_tests)

count_back : (low high n : ℕ) → IsBetween low high n → n < 2 ^ 64 → count_of (pos low) (pos high) (decimal n) ≡ Some n
count_back low high n h lt = ap (λ o. option_map nat_abs (if_between (pos low) (pos high) o)) (number_decimal n lt) ∙ rw (nat_in low n h.0, nat_in n high h.1) refl

-- each operation of the table is found by its name, computed
tabled : (o : Operation) → IsRow o → find_operation (operation_text o) ≡ Some o
unfolding find_operation
tabled (Local Sum) r = refl
tabled (Focal Product) r = absurd r
tabled (Zonal Product) r = absurd r
tabled (Incremental Linkage) r = refl
tabled o r = refl

named_back : (m : Manner) (o : Operation) → HasRow m o → IsRow o → operation_named m (operation_text o) ≡ Some o
unfolding operation_named
named_back m o there r = rw there (tabled o r)

-- ---- names

-- what has no plain name isn't found by one
none_named : {A : Type 0} (text : A → Text) (xs : List A) (t : Text) → Each (λ x. is_plain (text x) ≡ false) xs → is_plain t ≡ true → find (λ x. bytes_eq (text x) t) xs ≡ None
none_named text [] t each p = refl
none_named {A} text (x ∷ xs) t each p = go (bytes_eq (text x) t) refl (none_named text xs t each.1 p)
  where
    go : (b : Bool) → bytes_eq (text x) t ≡ b → find (λ x. bytes_eq (text x) t) xs ≡ None → ◌≡◌ {A = Option A} (cond b (Some x) (find (λ x. bytes_eq (text x) t) xs)) None
    go true e ih = absurd (let same : text x ≡ t = (bytes_eq-Decides (text x) t).0 e in let f : is_plain t ≡ false = ap is_plain (sym same) ∙ each.0 in cc)
    go false e ih = ih

each_false : {A : Type 0} (p : A → Bool) (xs : List A) → list_any p xs ≡ false → Each (λ x. p x ≡ false) xs
each_false p [] e = tt
each_false p (x ∷ xs) e = go (p x) refl e (each_false p xs)
  where
    go : (b : Bool) → p x ≡ b → (b || list_any p xs) ≡ false → (list_any p xs ≡ false → Each (λ x. p x ≡ false) xs) → Each (λ x. p x ≡ false) (x ∷ xs)
    go true h e rest = absurd cc
    go false h e rest = (h, rest e)

-- no word of a command is a name, computed
commands_reserved : Each (λ c. is_plain (command_text c) ≡ false) commands
unfolding is_plain is_reserved is_among
commands_reserved = each_false (λ c. is_plain (command_text c)) commands refl

-- nor is that of an operation
operations_reserved : Each (λ o. is_plain (operation_text o) ≡ false) operations
unfolding is_plain is_reserved is_among
operations_reserved = each_false (λ o. is_plain (operation_text o)) operations refl

no_command_found : (n : Text) → is_plain n ≡ true → find_command n ≡ None
unfolding find_command
no_command_found n p = none_named command_text commands n commands_reserved p

no_command : (m : Manner) (n : Text) → is_plain n ≡ true → command_named m n ≡ None
no_command m n p = command_none m n (no_command_found n p)

no_operation_found : (n : Text) → is_plain n ≡ true → find_operation n ≡ None
unfolding find_operation
no_operation_found n p = none_named operation_text operations n operations_reserved p

no_operation : (m : Manner) (n : Text) → is_plain n ≡ true → operation_named m n ≡ None
no_operation m n p = operation_none m n (no_operation_found n p)

-- ---- operations, at the end of a line

-- a word doesn't come next
abbrev Without : Text → List Text → Type 0
Without word ws = (w : Text) (us : List Text) → ws ≡ w ∷ us → the word w ≡ None

without_nil : (word : Text) → Without word []
without_nil word w us e = absurd cc

without_other : (word other : Text) (ws : List Text) → the word other ≡ None → Without word (other ∷ ws)
without_other word other ws none w us e = let same : other ≡ w = cc in ap (the word) (sym same) ∙ none

without_optional : (word other : Text) (default z : ℤ) (ws : List Text) → the word other ≡ None → Without word ws → Without word (optional_texts other default z ++ ws)
without_optional word other default z ws none h = go (int_eq z default)
  where
    go : (b : Bool) → Without word (cond b [] (other ∷ signed_decimal z ∷ []) ++ ws)
    go true = h
    go false = without_other word other (signed_decimal z ∷ ws) none

-- a formed head is written by a row of the table
pub row_of : (head : Head) → IsHead head → IsRow (operation_of head)
row_of (focal_head s r) h = h.0
row_of (zonal_head s) h = h
row_of head h = tt

-- what holds of one term, or of two, holds of a list of as many
of_one_term : (P : List Term → Type 0) (ts : List Term) → IsBetween 1 1 (length ts) → ((t : Term) → P (t ∷ [])) → P ts
of_one_term P [] n h = absurd (let l = n.0 in omega arith)
of_one_term P (t ∷ []) n h = h t
of_one_term P (t ∷ u ∷ ts) n h = absurd (let l = n.1 in omega arith)

of_two_terms : (P : List Term → Type 0) (ts : List Term) → IsBetween 2 2 (length ts) → ((t u : Term) → P (t ∷ u ∷ [])) → P ts
of_two_terms P [] n h = absurd (let l = n.0 in omega arith)
of_two_terms P (t ∷ ts) n h = of_one_term (λ us. P (t ∷ us)) ts ((let l = n.0 in omega arith), (let l = n.1 in omega arith)) (h t)

-- the words of a call, after its name
abbrev pub given_texts : List Term → List Text
given_texts [] = codes "(" ∷ codes ")" ∷ []
given_texts (t ∷ ts) = codes "(" ∷ term_text t ∷ (terms_after (codes ",") ts ++ codes ")" ∷ [])

-- the words of a body
abbrev pub written_tail : Written → List Text
written_tail (plain o) = op_texts o
written_tail (call p ts) = p ∷ given_texts ts

abbrev pub written_texts : Text → Written → List Text
written_texts n w = n ∷ codes "=" ∷ written_tail w

-- ---- in a scope

module _ (scope : Scope) where
  abbrev IsIn : Term → Type 0
  IsIn t = IsTermIn scope t

  abbrev IsOpIn : Op → Type 0
  IsOpIn o = IsHead o.head × HasTerms o × Each IsIn o.terms

  abbrev pub IsWrittenIn : Written → Type 0
  IsWrittenIn (plain o) = IsOpIn o
  IsWrittenIn (call p ts) = IsTrue (is_plain p) × (1 ≤ length ts) × (length ts ≤ 8) × Each IsIn ts

  each_in : (ts : List Term) → Each IsTerm ts → Each (InScope scope) ts → Each IsIn ts
  each_in [] h k = tt
  each_in (t ∷ ts) h k = ((h.0, k.0), each_in ts h.1 k.1)

  op_in : (o : Op) → IsOp o → Each (InScope scope) o.terms → IsOpIn o
  op_in o h k = (h.0, h.1, each_in o.terms h.2 k)

  pub written_in : (w : Written) → IsWritten w → AreInScope scope w → IsWrittenIn w
  written_in (plain o) h k = op_in o h k
  written_in (call p ts) h k = (h.0, h.1, h.2, each_in ts h.3 k)

  further_back : (word : Text) (f : List Term → Rule Text Line) (ws : List Text) (x : Line) → the word word ≡ Some tt → Without word ws → (n : ℕ) (us front : List Term) → length us ≤ n → Each IsIn us
      → Derives (f (front ++ us)) ws x → Derives (further_terms scope word f n front) (terms_after word us ++ ws) x
  further_back word f ws x same none zero [] front le h d = subst (λ (ts : List Term). Derives (f ts) ws x) (append-nil front) d
  further_back word f ws x same none zero (u ∷ us) front le h d = absurd (omega arith)
  further_back word f ws x same none (suc n) [] front le h d =
      rest_derives (the word) (λ _. next (term_of scope) (λ t. further_terms scope word f n (front ++ t ∷ []))) (f front) ws x none (subst (λ (ts : List Term). Derives (f ts) ws x) (append-nil front) d)
  further_back word f ws x same none (suc n) (u ∷ us) front le h d =
      also_derives (the word) (λ _. next (term_of scope) (λ t. further_terms scope word f n (front ++ t ∷ []))) (f front) word tt (term_text u ∷ (terms_after word us ++ ws)) x same
      (next_derives (term_of scope) (λ t. further_terms scope word f n (front ++ t ∷ [])) (term_text u) u (terms_after word us ++ ws) x (term_back scope u h.0)
      (further_back word f ws x same none n us (front ++ u ∷ []) (omega arith) h.1 (subst (λ (ts : List Term). Derives (f ts) ws x) (sym (append_assoc front (u ∷ []) us)) d)))

  module _ (mk : Op → Line) where
    abbrev last : Op → Rule Text Line
    last op = ends (mk op)

    pair_back : (word : Text) (head : Head) (a b : Term) → IsIn a → IsIn b → Derives (pair_body scope word head last) (codes "of" ∷ term_text a ∷ word ∷ term_text b ∷ []) (mk (of_two head a b))
    pair_back word head a b p q =
        let x = mk (of_two head a b) in
        next_derives (term_of scope) _ (term_text a) a (word ∷ term_text b ∷ []) x (term_back scope a p)
        (next_derives (the word) _ word tt (term_text b ∷ []) x (the_word word) (next_derives (term_of scope) (λ b. last (of_two head a b)) (term_text b) b [] x (term_back scope b q) refl))

  no_to : (rs : List Rate) → Without (codes "to") (rates_texts rs)
  no_to [] = without_nil (codes "to")
  no_to (r ∷ rs) = without_other (codes "to") (codes "with") _ refl

  -- a part of one place that may be left out
  part_back : {A : Type 0} (word : Text) (place : Text → Option A) (default v : A) (t : Text) (b : Bool) (g : A → Rule Text Line) (ws : List Text) (x : Line) → the word word ≡ Some tt → (b ≡ true → v ≡ default) → place t ≡ Some v → Without word ws
      → Derives (g v) ws x → Derives (optional_part word place default g) (cond b [] (word ∷ t ∷ []) ++ ws) x
  part_back {A} word place default v t true g ws x same left_out h none d = rest_derives (the word) (λ _. next place g) (g default) ws x none (subst (λ (y : A). Derives (g y) ws x) (left_out refl) d)
  part_back word place default v t false g ws x same left_out h none d = also_derives (the word) (λ _. next place g) (g default) word tt (t ∷ ws) x same (next_derives place g t v ws x h d)

  optional_back : (word : Text) (default z : ℤ) (g : ℤ → Rule Text Line) (ws : List Text) (x : Line) → the word word ≡ Some tt → IsTrue (is_value z) → Without word ws → Derives (g z) ws x
      → Derives (optional_part word value_of default g) (optional_texts word default z ++ ws) x
  optional_back word default z g ws x same h none d = part_back word value_of default z (signed_decimal z) (int_eq z default) g ws x same (Decides-int_eq z default).0 (value_back z h) none d

  rate_back : (g : Rate → Rule Text Line) (r : Rate) (ws : List Text) (x : Line) → IsRate r → Without (codes "to") ws → Derives (g r) ws x
      → Derives (rate_part g) (cell_text r.give ∷ codes "for" ∷ signed_decimal r.low ∷ (optional_texts (codes "to") r.low r.high ++ ws)) x
  rate_back g r ws x h none d =
      let rest = optional_texts (codes "to") r.low r.high ++ ws in
      next_derives cell_of _ (cell_text r.give) r.give (codes "for" ∷ signed_decimal r.low ∷ rest) x (cell_back r.give h.give)
      (next_derives value_of _ (signed_decimal r.low) r.low rest x (value_back r.low h.low)
      (optional_back (codes "to") r.low r.high (λ high. g (record { low = r.low; high = high; give = r.give })) ws x refl h.high none d))

  module _ (mk : List Rate → Line) where
    with_back : (n : ℕ) (rs front : List Rate) → length rs ≤ n → Each IsRate rs → Derives (with_rates (λ rs. ends (mk rs)) n front) (rates_texts rs) (mk (front ++ rs))
    with_back zero [] front le h = ap (λ rs. Some (mk rs)) (sym (append-nil front))
    with_back zero (r ∷ rs) front le h = absurd (omega arith)
    with_back (suc n) [] front le h = ap (λ rs. Some (mk rs)) (sym (append-nil front))
    with_back (suc n) (r ∷ rs) front le h =
        let g = λ (one : Rate). with_rates (λ rs. ends (mk rs)) n (front ++ one ∷ []) in
        also_derives (the (codes "with")) (λ _. rate_part g) (ends (mk front)) (codes "with") tt (cell_text r.give ∷ codes "for" ∷ signed_decimal r.low ∷ (optional_texts (codes "to") r.low r.high ++ rates_texts rs)) (mk (front ++ r ∷ rs)) refl
        (rate_back g r (rates_texts rs) (mk (front ++ r ∷ rs)) h.0 (no_to rs)
        (subst (λ (us : List Rate). Derives (g r) (rates_texts rs) (mk us)) (append_assoc front (r ∷ []) rs) (with_back n rs (front ++ r ∷ []) (omega arith) h.1)))

  rating_back : (mk : Op → Line) (t : Term) (rs : List Rate) → IsHead (rating_head rs) → IsIn t → Derives (rating_body scope (λ op. ends (mk op))) (codes "of" ∷ term_text t ∷ rates_texts rs) (mk (rating_op t rs))
  rating_back mk t [] h p = absurd (let l = h.0.0 in omega arith)
  rating_back mk t (r ∷ rs) h p =
      let x = mk (rating_op t (r ∷ rs)) in
      let l = h.0.1 in
      let g = λ (one : Rate). with_rates (λ rs. ends (mk (rating_op t rs))) 31 (one ∷ []) in
      next_derives (term_of scope) _ (term_text t) t (rates_texts (r ∷ rs)) x (term_back scope t p)
      (rate_back g r (rates_texts rs) x h.1.0 (no_to rs) (with_back (λ rs. mk (rating_op t rs)) 31 rs (r ∷ []) (omega arith) h.1.1))

  same_pos : (a b : ℕ) → int_eq (pos a) (pos b) ≡ true → a ≡ b
  same_pos a b e = let same : pos a ≡ pos b = (Decides-int_eq (pos a) (pos b)).0 e in cc

  -- a count that may be left out, at the end of a line
  count_part_back : (word : Text) (low high default n : ℕ) (g : ℕ → Rule Text Line) (x : Line) → the word word ≡ Some tt → IsBetween low high n → n < 2 ^ 64 → Derives (g n) [] x
      → Derives (optional_part word (count_of (pos low) (pos high)) default g) (optional_texts word (pos default) (pos n)) x
  count_part_back word low high default n g x same h lt d =
      subst (λ ws. Derives (optional_part word (count_of (pos low) (pos high)) default g) ws x) (append-nil (optional_texts word (pos default) (pos n)))
      (part_back word (count_of (pos low) (pos high)) default n (decimal n) (int_eq (pos n) (pos default)) g [] x same (same_pos n default) (count_back low high n h lt) (without_nil word) d)

  module _ (m : Manner) (mk : Op → Line) where
    abbrev ended : Op → Rule Text Line
    ended op = ends (mk op)

    radius_back : (s : Stat) (r : Option ℕ) (t : Term) → IsRadius r → Derives (radius_part s t ended) (radius_texts r) (mk (focal_op s r t))
    radius_back s None t h = refl
    radius_back s (Some n) t h =
        let lt : n < 2 ^ 64 = (let l = h.1 in omega arith) in
        also_derives (the (codes "at")) (λ _. next disc_of (λ r. ended (focal_op s r t))) (ended (focal_op s None t)) (codes "at") tt (decimal n ∷ []) (mk (focal_op s (Some n) t)) refl
        (next_derives disc_of (λ r. ended (focal_op s r t)) (decimal n) (Some n) [] (mk (focal_op s (Some n) t)) (ap (option_map Some) (count_back 1 32 n h lt)) refl)

    ignoring_back : (ignoring : Bool) (g : Bool → Rule Text Line) (x : Line) → MayIgnore m ignoring → Derives (g ignoring) [] x → Derives (ignoring_part m g) (ignoring_texts ignoring) x
    ignoring_back true g x there d =
        also_derives (maybe m.ignoring (the (codes "ignoring"))) (λ _. next (the (codes "nulls")) (λ _. g true)) (g false) (codes "ignoring") tt (codes "nulls" ∷ []) x (maybe_taken m.ignoring (the (codes "ignoring")) (codes "ignoring") tt there refl)
        (next_derives (the (codes "nulls")) (λ _. g true) (codes "nulls") tt [] x refl d)
    ignoring_back false g x there d =
        rest_derives (maybe m.ignoring (the (codes "ignoring"))) (λ _. next (the (codes "nulls")) (λ _. g true)) (g false) [] x (λ w us e. absurd cc) d

    no_and : (ignoring : Bool) → Without (codes "and") (ignoring_texts ignoring)
    no_and true = without_other (codes "and") (codes "ignoring") _ refl
    no_and false = without_nil (codes "and")

    statistic_back : (s : Stat) (ignoring : Bool) (ts : List Term) → IsBetween 2 8 (length ts) → MayIgnore m ignoring → Each IsIn ts
        → Derives (statistic_body scope m s ended) (codes "of" ∷ (terms_texts (codes "and") ts ++ ignoring_texts ignoring)) (mk (local_op s ignoring ts))
    statistic_back s ignoring [] n there h = absurd (let l = n.0 in omega arith)
    statistic_back s ignoring (a ∷ []) n there h = absurd (let l = n.0 in omega arith)
    statistic_back s ignoring (a ∷ b ∷ us) n there h =
        let x = mk (local_op s ignoring (a ∷ b ∷ us)) in
        let l = n.1 in
        let f = λ (ts : List Term). ignoring_part m (λ i. ended (local_op s i ts)) in
        let rest = terms_after (codes "and") us ++ ignoring_texts ignoring in
        next_derives (term_of scope) _ (term_text a) a (codes "and" ∷ term_text b ∷ rest) x (term_back scope a h.0)
        (next_derives (term_of scope) (λ b. further_terms scope (codes "and") f 6 (a ∷ b ∷ [])) (term_text b) b rest x (term_back scope b h.1.0)
        (further_back (codes "and") f (ignoring_texts ignoring) x refl (no_and ignoring) 6 us (a ∷ b ∷ []) (omega arith) h.1.1
        (ignoring_back ignoring (λ i. ended (local_op s i (a ∷ b ∷ us))) x there refl)))

    no_radiating : (b : Bool) (r : Option ℕ) (w : Text) (us : List Text) → radius_texts r ≡ w ∷ us → maybe b (the (codes "radiating")) w ≡ None
    no_radiating b None w us e = absurd cc
    no_radiating b (Some n) w us e = maybe_free b (the (codes "radiating")) w (without_other (codes "radiating") (codes "at") (decimal n ∷ []) refl w us e)

    abbrev near : Stat → Term → Rule Text Line
    near s a = also (on (maybe (radiates m s) (the (codes "radiating"))) (λ _. sight_part scope a ended)) (radius_part s a ended)

    focal_back : (s : Stat) (r : Option ℕ) (t : Term) → IsRadius r → IsIn t → Derives (focal_body scope m s ended) (codes "of" ∷ term_text t ∷ radius_texts r) (mk (focal_op s r t))
    focal_back s r t h p =
        next_derives (term_of scope) (near s) (term_text t) t (radius_texts r) (mk (focal_op s r t)) (term_back scope t p)
        (rest_derives (maybe (radiates m s) (the (codes "radiating"))) (λ _. sight_part scope t ended) (radius_part s t ended) (radius_texts r) (mk (focal_op s r t)) (no_radiating (radiates m s) r) (radius_back s r t h))

    heights_back : (s : Sighting) (t u : Term) → IsSighting s
        → Derives (optional_part (codes "from") value_of (pos 0) (λ from. optional_part (codes "to") value_of (pos 0) (λ to. optional_part (codes "within") reach_of 64 (λ reach. ended (sight_op (record { from = from; to = to; reach = reach }) t u))))) (sight_texts s) (mk (sight_op s t u))
    heights_back s t u h =
        let x = mk (sight_op s t u) in
        let within = optional_texts (codes "within") (pos 64) (pos s.reach) in
        let lt : s.reach < 2 ^ 64 = (let l = h.reach.1 in omega arith) in
        let no_from : Without (codes "from") within = subst (Without (codes "from")) (append-nil within) (without_optional (codes "from") (codes "within") (pos 64) (pos s.reach) [] refl (without_nil (codes "from"))) in
        let no_to : Without (codes "to") within = subst (Without (codes "to")) (append-nil within) (without_optional (codes "to") (codes "within") (pos 64) (pos s.reach) [] refl (without_nil (codes "to"))) in
        let from_rule = optional_part (codes "from") value_of (pos 0) (λ from. optional_part (codes "to") value_of (pos 0) (λ to. optional_part (codes "within") reach_of 64 (λ reach. ended (sight_op (record { from = from; to = to; reach = reach }) t u)))) in
        subst (λ ws. Derives from_rule ws x) (sym (append_assoc (optional_texts (codes "from") (pos 0) s.from) (optional_texts (codes "to") (pos 0) s.to) within))
        (optional_back (codes "from") (pos 0) s.from (λ from. optional_part (codes "to") value_of (pos 0) (λ to. optional_part (codes "within") reach_of 64 (λ reach. ended (sight_op (record { from = from; to = to; reach = reach }) t u)))) (optional_texts (codes "to") (pos 0) s.to ++ within) x refl h.from (without_optional (codes "from") (codes "to") (pos 0) s.to within refl no_from)
        (optional_back (codes "to") (pos 0) s.to (λ to. optional_part (codes "within") reach_of 64 (λ reach. ended (sight_op (record { from = s.from; to = to; reach = reach }) t u))) within x refl h.to no_to
        (count_part_back (codes "within") 1 64 64 s.reach (λ reach. ended (sight_op (record { from = s.from; to = s.to; reach = reach }) t u)) x refl h.reach lt refl)))

    sight_back : (s : Sighting) (t u : Term) → m.sight ≡ true → IsSighting s → IsIn t → IsIn u → Derives (focal_body scope m Sum ended) (codes "of" ∷ term_text t ∷ codes "radiating" ∷ codes "on" ∷ term_text u ∷ sight_texts s) (mk (sight_op s t u))
    sight_back s t u there h p q =
        let x = mk (sight_op s t u) in
        next_derives (term_of scope) (near Sum) (term_text t) t (codes "radiating" ∷ codes "on" ∷ term_text u ∷ sight_texts s) x (term_back scope t p)
        (also_derives (maybe m.sight (the (codes "radiating"))) (λ _. sight_part scope t ended) (radius_part Sum t ended) (codes "radiating") tt (codes "on" ∷ term_text u ∷ sight_texts s) x (maybe_taken m.sight (the (codes "radiating")) (codes "radiating") tt there refl)
        (next_derives (term_of scope) _ (term_text u) u (sight_texts s) x (term_back scope u q) (heights_back s t u h)))

    friction_back : (g : Term → Rule Text Line) (u : Term) (ws : List Text) (x : Line) → IsIn u → Without (codes "spreading") ws → Derives (g u) ws x → Derives (friction_part scope g) (friction_texts u ++ ws) x
    friction_back g (layer_term n) ws x h none d =
        also_derives (the (codes "spreading")) (λ _. term_after scope (codes "in") g) (g (number_term (pos 1))) (codes "spreading") tt (codes "in" ∷ n ∷ ws) x refl (next_derives (term_of scope) g n (layer_term n) ws x (term_back scope (layer_term n) h) d)
    friction_back g (number_term z) ws x h none d = go (int_eq z (pos 1)) refl
      where
        go : (b : Bool) → int_eq z (pos 1) ≡ b → Derives (friction_part scope g) (cond b [] (codes "spreading" ∷ codes "in" ∷ signed_decimal z ∷ []) ++ ws) x
        go true e =
            let one : z ≡ pos 1 = (Decides-int_eq z (pos 1)).0 e in
            rest_derives (the (codes "spreading")) (λ _. term_after scope (codes "in") g) (g (number_term (pos 1))) ws x none (subst (λ (y : ℤ). Derives (g (number_term y)) ws x) one d)
        go false e =
            also_derives (the (codes "spreading")) (λ _. term_after scope (codes "in") g) (g (number_term (pos 1))) (codes "spreading") tt (codes "in" ∷ signed_decimal z ∷ ws) x refl
            (next_derives (term_of scope) g (signed_decimal z) (number_term z) ws x (term_back scope (number_term z) h) d)

    spread_back : (make : ℕ → Head) (limit : ℕ) (t u : Term) → limit ≤ greatest_value → IsIn t → IsIn u
        → Derives (spread_body scope make ended) (codes "of" ∷ term_text t ∷ (friction_texts u ++ optional_texts (codes "within") vmax (pos limit))) (mk (of_two (make limit) t u))
    spread_back make limit t u most p q =
        let x = mk (of_two (make limit) t u) in
        let within = optional_texts (codes "within") vmax (pos limit) in
        let lt : limit < 2 ^ 64 = omega arith in
        let no_spreading : Without (codes "spreading") within = subst (Without (codes "spreading")) (append-nil within) (without_optional (codes "spreading") (codes "within") vmax (pos limit) [] refl (without_nil (codes "spreading"))) in
        next_derives (term_of scope) _ (term_text t) t (friction_texts u ++ within) x (term_back scope t p)
        (friction_back (λ friction. optional_part (codes "within") limit_of greatest_value (λ limit. ended (of_two (make limit) t friction))) u within x q no_spreading
        (count_part_back (codes "within") 0 greatest_value greatest_value limit (λ limit. ended (of_two (make limit) t u)) x refl (omega arith, most) lt refl))

    single_back : (head : Head) (t : Term) → IsIn t → Derives (single_body scope head ended) (codes "of" ∷ term_text t ∷ []) (mk (of_one head t))
    single_back head t p = next_derives (term_of scope) (λ a. ended (of_one head a)) (term_text t) t [] (mk (of_one head t)) (term_back scope t p) refl

    direction_back : (t : Term) → IsIn t → Derives (drainage_body scope ended) (codes "of" ∷ term_text t ∷ []) (mk (direction_op t))
    direction_back t p = next_derives (term_of scope) (λ a. optional_part (codes "carrying") (weights_of scope) None (λ w. ended (drainage_op a w))) (term_text t) t [] (mk (direction_op t)) (term_back scope t p) refl

    flow_back : (t u : Term) → IsIn t → IsIn u → Derives (drainage_body scope ended) (codes "of" ∷ term_text t ∷ codes "carrying" ∷ term_text u ∷ []) (mk (flow_op t u))
    flow_back t u p q =
        let x = mk (flow_op t u) in
        next_derives (term_of scope) (λ a. optional_part (codes "carrying") (weights_of scope) None (λ w. ended (drainage_op a w))) (term_text t) t (codes "carrying" ∷ term_text u ∷ []) x (term_back scope t p)
        (also_derives (the (codes "carrying")) (λ _. next (weights_of scope) (λ w. ended (drainage_op t w))) (ended (direction_op t)) (codes "carrying") tt (term_text u ∷ []) x refl
        (next_derives (weights_of scope) (λ w. ended (drainage_op t w)) (term_text u) (Some u) [] x (ap (option_map Some) (term_back scope u q)) refl))

  -- ---- bodies

  form_back : (f : incremental.Form) → form_of (form_row f) ≡ f
  form_back linkage_form = refl
  form_back length_form = refl
  form_back partition_form = refl
  form_back frontage_form = refl
  form_back gradient_form = refl
  form_back aspect_form = refl

  module _ (m : Manner) (mk : Op → Line) where
    -- a head and its terms are read back
    abbrev IsBack : Head → List Term → Type 0
    IsBack head ts = Each IsIn ts → Derives (operation_body scope m (λ op. ends (mk op)) (operation_of head)) (codes "of" ∷ head_texts head ts) (mk (record { head = head; terms = ts }))

    head_back : (head : Head) (ts : List Term) → IsHead head → HasTerms (record { head = head; terms = ts }) → MayBe m head → IsBack head ts
    head_back (local_head s ignoring) ts h n may = statistic_back m mk s ignoring ts n may
    head_back (rating_head rs) ts h n may = of_one_term (IsBack (rating_head rs)) ts n (λ t p. rating_back mk t rs h p.0)
    head_back (focal_head s r) ts h n may = of_one_term (IsBack (focal_head s r)) ts n (λ t p. focal_back m mk s r t h.1 p.0)
    head_back (zonal_head s) ts h n may = of_two_terms (IsBack (zonal_head s)) ts n (λ t u p. pair_back mk (codes "within") (zonal_head s) t u p.0 p.1.0)
    head_back (form_head f) ts h n may = of_one_term (IsBack (form_head f)) ts n (λ t p.
        subst (λ g. Derives (single_body scope (form_head (form_of (form_row f))) (λ op. ends (mk op))) (codes "of" ∷ term_text t ∷ []) (mk (of_one (form_head g) t))) (form_back f) (single_back m mk (form_head (form_of (form_row f))) t p.0))
    head_back region_head ts h n may = of_one_term (IsBack region_head) ts n (λ t p. single_back m mk region_head t p.0)
    head_back direction_head ts h n may = of_one_term (IsBack direction_head) ts n (λ t p. direction_back m mk t p.0)
    head_back flow_head ts h n may = of_two_terms (IsBack flow_head) ts n (λ t u p. flow_back m mk t u p.0 p.1.0)
    head_back (spread_head limit) ts h n may = of_two_terms (IsBack (spread_head limit)) ts n (λ t u p. spread_back m mk spread_head limit t u h p.0 p.1.0)
    head_back (nearest_head limit) ts h n may = of_two_terms (IsBack (nearest_head limit)) ts n (λ t u p. spread_back m mk nearest_head limit t u h p.0 p.1.0)
    head_back (sight_head s) ts h n may = of_two_terms (IsBack (sight_head s)) ts n (λ t u p. sight_back m mk s t u may h p.0 p.1.0)
    head_back head ts h n may = of_two_terms (IsBack head) ts n (λ t u p. pair_back mk (codes "and") head t u p.0 p.1.0)

  module _ (m : Manner) (mk : Written → Line) where
    abbrev whole : Written → Rule Text Line
    whole w = ends (mk w)

    abbrev done : Op → Line
    done op = mk (plain op)

    abbrev callers : Text → Rule Text Line
    callers p = call_body scope (λ ts. whole (call p ts))

    -- an operation's name, and then what follows it
    by_name : (o : Operation) (ws : List Text) (x : Line) → HasRow m o → IsRow o → Derives (operation_body scope m (λ op. ends (done op)) o) ws x → Derives (body_rule scope m whole) (operation_text o ∷ ws) x
    by_name o ws x there row d = also_derives (operation_named m) (operation_body scope m (λ op. ends (done op))) (node None (on (call_of m) callers)) (operation_text o) o ws x (named_back m o there row) d

    op_back : (o : Op) → IsOpIn o → IsOpThere m o → Derives (body_rule scope m whole) (op_texts o) (mk (plain o))
    op_back o h there = by_name (operation_of o.head) (codes "of" ∷ head_texts o.head o.terms) (done o) there.0 (row_of o.head h.0) (head_back m done o.head o.terms h.0 h.1 there.1 h.2)

    call_back : (p : Text) (ts : List Term) → m.calls ≡ true → IsWrittenIn (call p ts) → Derives (body_rule scope m whole) (p ∷ given_texts ts) (mk (call p ts))
    call_back p [] there h = absurd (let l = h.1 in omega arith)
    call_back p (a ∷ us) there h =
        let x = mk (call p (a ∷ us)) in
        let ws = term_text a ∷ (terms_after (codes ",") us ++ codes ")" ∷ []) in
        let few : length us ≤ 7 = (let l = h.2 in omega arith) in
        let r = node None (on (call_of m) callers) in
        rest_derives (operation_named m) (operation_body scope m (λ op. ends (done op))) r (p ∷ codes "(" ∷ ws) x
        (λ w us e. (let same : p ≡ w = cc in subst (λ q. operation_named m q ≡ None) same (no_operation m p h.0)))
        (next_derives (call_of m) callers p p (codes "(" ∷ ws) x (maybe_taken m.calls name_of p p there (name_back p h.0))
        (next_derives (term_of scope) (λ a. further_terms scope (codes ",") (λ ts. next (the (codes ")")) (λ _. whole (call p ts))) 7 (a ∷ [])) (term_text a) a (terms_after (codes ",") us ++ codes ")" ∷ []) x (term_back scope a h.3.0)
        (further_back (codes ",") (λ ts. next (the (codes ")")) (λ _. whole (call p ts))) (codes ")" ∷ []) x refl (without_other (codes ",") (codes ")") [] refl) 7 us (a ∷ []) few h.3.1 refl)))

  pub body_back : (m : Manner) (mk : Written → Line) (w : Written) → IsWrittenIn w → IsWrittenThere m w → Derives (body_rule scope m (λ w. ends (mk w))) (written_tail w) (mk w)
  body_back m mk (plain o) h there = op_back m mk o h there
  body_back m mk (call p ts) h there = call_back m mk p ts there h

-- ---- lines

all_anywhere : (ts : List Term) → Each (InScope anywhere) ts
all_anywhere [] = tt
all_anywhere (layer_term n ∷ ts) = (refl, all_anywhere ts)
all_anywhere (number_term z ∷ ts) = (tt, all_anywhere ts)

written_anywhere : (w : Written) → AreInScope anywhere w
written_anywhere (plain o) = all_anywhere o.terms
written_anywhere (call p ts) = all_anywhere ts

pub words_back : (m : Manner) (n : Text) (w : Written) → IsTrue (is_plain n) → IsWritten w → IsWrittenThere m w → IsLine m (written_texts n w) (edit (define n w))
words_back m n w p h there = start (command_named m n) (name_of n) (no_command m n p) (name_back n p) (body_back anywhere m (λ w. edit (define n w)) w (written_in anywhere w h (written_anywhere w)) there)
  where
    start : (c : Option Command) (named : Option Text) → c ≡ None → named ≡ Some n → Derives (define_rule m n) (codes "=" ∷ written_tail w) (edit (define n w))
        → Derives (or_rule (after c (command_rule m)) (after named (define_rule m))) (codes "=" ∷ written_tail w) (edit (define n w))
    start None None e f d = absurd cc
    start None (Some k) e f d = let same : n ≡ k = cc in subst (λ (t : Text). Derives (define_rule m t) (codes "=" ∷ written_tail w) (edit (define n w))) same d
    start (Some c) named e f d = absurd cc

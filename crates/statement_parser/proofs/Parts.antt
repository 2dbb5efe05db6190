-- Parts of lines, as they are read and as they are ruled: what holds of a part made of parts.
use Rattle.std.proofs.Common.{◌≡◌, ℕ, true, false, Bool, cond, List, [], ◌∷◌, ◌++◌, Option, Some, None, Result, Ok, Err, refl, sym, ap, subst, ◌∙◌}
use Rattle.std.specs.Prelude.{codes, is_some, bytes_eq}
use Rattle.map_words.specs.Bytes.{Text}
use Rattle.grammar_core.specs.declared.Kind.{Kind}
use Rattle.grammar_core.specs.declared.Fault.{Fault}
use Rattle.grammar_core.specs.Rules.{Rule, ends, end_of, step, on, next, after, also, ◌<|>◌}
use Rattle.grammar_core.specs.Refusals.{Begins}
use Rattle.grammar_core.specs.Run.{run}
use Rattle.grammar_core.specs.Readers.{◌>>=◌, Read, taken, one_at, end_at, starts}
use Rattle.grammar_core.proofs.FirstFault.{Sound, next_sound}
use Rattle.grammar_core.proofs.Ends.{AllEnds, ends_next, ends_also, rest_derives}
use Rattle.grammar_core.proofs.Parts.{Tail, healthy_node, tail_ends, tail_next, tail_also}
use Rattle.grammar_core.proofs.Reading.{assoc, cond_k, Reads, also_reads, end_reads}
use Rattle.statement_parser.specs.Lines.{Manner, Line}
use Rattle.statement_parser.specs.Places.{the, maybe, tests, reading}
use Rattle.statement_parser.specs.Formed.{IsFormed}
use Rattle.statement_parser.specs.There.{IsThere}
use Rattle.statement_parser.proofs.PlaceFacts.{IsFree, IsOpen, the_place, the_word}
use Rattle.statement_parser.proofs.Placing.{placed, part_none}

-- ---- what is read doesn't depend on the words after a semicolon

-- nothing follows, or a semicolon
abbrev pub IsStop : List Text → Type 0
IsStop [] = Unit {0}
IsStop (w ∷ ws) = w ≡ codes ";"

starts_stop : {A : Type 0} (f : Text → Option A) (us : List Text) → f (codes ";") ≡ None → IsStop us → starts f us ≡ false
starts_stop f [] none stop = refl
starts_stop f (w ∷ ws) none stop = ap (λ t. is_some (f t)) stop ∙ ap is_some none

module _ (us : List Text) where
  -- with the words us after what is left, the same is read
  abbrev pub IsLocal : {A : Type 0} → (List Text → Read Text A) → Type 0
  IsLocal {A} h = (ws : List Text) (v : A) (rest : List Text) → h ws ≡ Ok (v, rest) → h (ws ++ us) ≡ Ok (v, rest ++ us)

  abbrev extend : {A : Type 0} → Read Text A → Read Text A
  extend (Ok p) = Ok (p.0, p.1 ++ us)
  extend (Err f) = Err f

  pure : {A : Type 0} (x : A) → IsLocal (λ ws. Ok (x, ws))
  pure x ws v rest e = ap extend e

  pub bind : {A B : Type 0} (h : List Text → Read Text A) (k : A → List Text → Read Text B) → IsLocal h → ((v : A) → IsLocal (k v)) → IsLocal (λ ws. h ws >>= λ p. k p.0 p.1)
  bind {A} {B} h k lh lk ws v rest e = go (h ws) refl e
    where
      go : (r : Read Text A) → h ws ≡ r → (r >>= λ p. k p.0 p.1) ≡ Ok (v, rest) → (h (ws ++ us) >>= λ p. k p.0 p.1) ≡ Ok (v, rest ++ us)
      go (Err f) e g = absurd cc
      go (Ok p) e g = ap (λ r. r >>= λ p. k p.0 p.1) (lh ws p.0 p.1 e) ∙ lk p.0 p.1 v rest g

  pub one : {A : Type 0} (f : Text → Option A) (due : Bool) → IsLocal (one_at reading f due)
  one f due [] v rest e = absurd cc
  one {A} f due (w ∷ ws) v rest e = go _ _ _ _ (f w) e
    where
      go : (j k : Kind) (m n : ℕ) (o : Option A) → taken o j m ws ≡ Ok (v, rest) → taken o k n (ws ++ us) ≡ Ok (v, rest ++ us)
      go j k m n None e = absurd cc
      go j k m n (Some x) e = ap extend e

  -- a part that begins with a word, where b is true, or else another
  choice : {A : Type 0} (b : Bool) (word : Text) (there left_out : List Text → Read Text A) → bytes_eq (codes ";") word ≡ false → IsStop us → (b ≡ true → IsLocal there) → IsLocal left_out
      → IsLocal (λ ws. cond (starts (maybe b (the word)) ws) (there ws) (left_out ws))
  choice true word there left_out free stop lt lo [] v rest e = rw (starts_stop (the word) us (rw free refl) stop) (lo [] v rest e)
  choice {A} true word there left_out free stop lt lo (w ∷ ws) v rest e = go (is_some (the word w)) e
    where
      go : (b : Bool) → cond b (there (w ∷ ws)) (left_out (w ∷ ws)) ≡ Ok (v, rest) → cond b (there (w ∷ (ws ++ us))) (left_out (w ∷ (ws ++ us))) ≡ Ok (v, rest ++ us)
      go true e = lt refl (w ∷ ws) v rest e
      go false e = lo (w ∷ ws) v rest e
  choice false word there left_out free stop lt lo [] v rest e = rw (starts_stop (maybe false (the word)) us refl stop) (lo [] v rest e)
  choice false word there left_out free stop lt lo (w ∷ ws) v rest e = lo (w ∷ ws) v rest e

-- ---- parts

module _ (m : Manner) where
  -- formed, and there
  abbrev pub IsGood : Line → Type 0
  IsGood x = IsFormed x × IsThere m x

  abbrev pub Formed : Rule Text Line → Type 0
  Formed r = AllEnds IsGood r

  abbrev pub Tails : {A : Type 0} → (A → Rule Text Line) → Type 0
  Tails {A} r = (v : A) → Tail (tests m) (r v)

  -- what follows a value
  abbrev pub Goes : Type 0 → Type 0
  Goes A = A → List Text → Result Line Fault

  -- a part, read by h and with the rule p, whose values are P
  pub record IsPart {A : Type 0} (P : A → Type 0) (h : List Text → Read Text A) (p : (A → Rule Text Line) → Rule Text Line) : Type 0 where
    pub local : (us : List Text) → IsStop us → IsLocal us h
    pub reads : (k : Goes A) (r : A → Rule Text Line) → Tails r → Reads (tests m) k r → (ws : List Text) → (h ws >>= λ x. k x.0 x.1) ≡ run (tests m) (p r) ws
    pub tail : (r : A → Rule Text Line) → Tails r → Tail (tests m) (p r)
    pub formed : (r : A → Rule Text Line) → ((v : A) → P v → Formed (r v)) → Formed (p r)

  pub one_part : {A : Type 0} {P : A → Type 0} (f : Text → Option A) (due : Bool) → IsOpen m P f due → IsPart P (one_at reading f due) (next f)
  one_part f due o = record {
    local = λ us stop. one us f due;
    reads = λ k r tails reads. placed m f due k r o.place (λ v. (tails v).node) reads;
    tail = λ r tails. tail_next (tests m) f r o.word o.value o.takes o.place.free (λ v. (tails v).healthy);
    formed = λ r h. ends_next IsGood f r (λ w v e. h v (o.gives w v e));
  }

  -- this value, and no word
  pub pure_part : {A : Type 0} {P : A → Type 0} (x : A) → P x → IsPart P (λ ws. Ok (x, ws)) (λ r. r x)
  pure_part x p = record { local = λ us stop. pure us x; reads = λ k r tails reads. reads x; tail = λ r tails. tails x; formed = λ r h. h x p }

  pub weaker : {A : Type 0} {P Q : A → Type 0} {h : List Text → Read Text A} {p : (A → Rule Text Line) → Rule Text Line} → IsPart P h p → ((v : A) → P v → Q v) → IsPart Q h p
  weaker a w = record { local = a.local; reads = a.reads; tail = a.tail; formed = λ r h. a.formed r (λ v x. h v (w v x)) }

  -- a part read by what gives the same
  pub same_part : {A : Type 0} {P : A → Type 0} {h j : List Text → Read Text A} {p : (A → Rule Text Line) → Rule Text Line} → IsPart P h p → ((ws : List Text) → h ws ≡ j ws) → IsPart P j p
  same_part a e = record {
    local = λ us stop ws v rest f. sym (e (ws ++ us)) ∙ a.local us stop ws v rest (e ws ∙ f);
    reads = λ k r tails reads ws. ap (λ o. o >>= λ x. k x.0 x.1) (sym (e ws)) ∙ a.reads k r tails reads ws;
    tail = a.tail;
    formed = a.formed;
  }

  -- one part after the other
  pub then_part : {A B : Type 0} {P : A → Type 0} {Q : B → Type 0} {h : List Text → Read Text A} {p : (A → Rule Text Line) → Rule Text Line} {k : A → List Text → Read Text B} {q : A → (B → Rule Text Line) → Rule Text Line}
      → IsPart P h p → ((v : A) → IsPart (λ w. P v → Q w) (k v) (q v)) → IsPart Q (λ ws. h ws >>= λ x. k x.0 x.1) (λ r. p (λ v. q v r))
  then_part {h = h} {k = k} {q = q} a b = record {
    local = λ us stop. bind us h k (a.local us stop) (λ v. (b v).local us stop);
    reads = λ g r tails reads ws. assoc (h ws) (λ x. k x.0 x.1) (λ x. g x.0 x.1) ∙ a.reads (λ v us. k v us >>= λ x. g x.0 x.1) (λ v. q v r) (λ v. (b v).tail r tails) (λ v. (b v).reads g r tails reads) ws;
    tail = λ r tails. a.tail (λ v. q v r) (λ v. (b v).tail r tails);
    formed = λ r f. a.formed (λ v. q v r) (λ v x. (b v).formed r (λ w y. f w (y x)));
  }

  -- a word that no operation and no number is
  pub word_place : (word : Text) → IsFree word → IsOpen m (λ u. Unit {0}) (the word) false
  word_place word e = record { place = the_place m word e; word = word; value = tt; takes = the_word word; gives = λ w v e. tt }

  pub word_then : {A : Type 0} {P : A → Type 0} {k : List Text → Read Text A} {q : (A → Rule Text Line) → Rule Text Line} (word : Text) → IsFree word
      → IsPart P k q → IsPart P (λ ws. one_at reading (the word) false ws >>= λ u. k u.1) (λ r. next (the word) (λ _. q r))
  word_then word e a = then_part (one_part (the word) false (word_place word e)) (λ u. weaker a (λ v x t. x))

  -- an optional part that may be there or not
  pub tail_maybe : (b : Bool) (word : Text) (q : Unit {0} → Rule Text Line) (r : Rule Text Line) → the word (codes "LocalSum") ≡ None → ((u : Unit {0}) → Tail (tests m) (q u)) → Tail (tests m) r
      → Tail (tests m) (also (on (maybe b (the word)) q) r)
  tail_maybe true word q r free h tail = tail_also (tests m) (the word) q r word tt (the_word word) free h tail
  tail_maybe false word q r free h tail =
      let line = tail.healthy.begins in
      let begins : Begins (also (on (maybe false (the word)) q) r) [] = (line.0, line.1, rest_derives (maybe false (the word)) q r line.0 line.1 (λ w us e. refl) line.2) in
      record { healthy = healthy_node (tests m) (end_of r) (on (maybe false (the word)) q <|> step r) begins tail.no_body (after_each r tail.healthy.sound); node = refl; no_body = tail.no_body }
    where
      after_each : (r : Rule Text Line) → Sound (tests m) r → (w : Text) → Sound (tests m) (step r w)
      after_each r s w = next_sound (tests m) r w s

  either_reads : (b : Bool) (word : Text) (h left : List Text → Result Line Fault) (q l : Rule Text Line) → IsFree word
      → (b ≡ true → (ws : List Text) → h ws ≡ run (tests m) (next (the word) (λ _. q)) ws) → Tail (tests m) q → ((ws : List Text) → left ws ≡ run (tests m) l ws) → Tail (tests m) l
      → (ws : List Text) → cond (starts (maybe b (the word)) ws) (h ws) (left ws) ≡ run (tests m) (also (on (maybe b (the word)) (λ _. q)) l) ws
  either_reads true word h left q l e there inner other tail =
      also_reads (tests m) (the word) (λ _. q) l h left (the_place m word e) (λ u. inner.node) (record { node = tail.node; no_body = tail.no_body }) (there refl) other
  either_reads false word h left q l e there inner other tail = part_none m (the word) (λ _. q) l h left other

  either_formed : (b : Bool) (word : Text) (q l : Rule Text Line) → (b ≡ true → Formed (next (the word) (λ _. q))) → Formed l → Formed (also (on (maybe b (the word)) (λ _. q)) l)
  either_formed true word q l there other = ends_also IsGood (the word) (λ _. q) l (λ w v e. subst (λ o. Formed (after o (λ _. q))) e ((there refl).1 w)) other
  either_formed false word q l there other = ends_also IsGood (maybe false (the word)) (λ _. q) l (λ w v e. absurd cc) other

  pub either_part : {A : Type 0} {P : A → Type 0} {h left : List Text → Read Text A} {q l : (A → Rule Text Line) → Rule Text Line} (b : Bool) (word : Text)
      → IsFree word → bytes_eq (codes ";") word ≡ false
      → (b ≡ true → IsPart P h (λ r. next (the word) (λ _. q r))) → ((r : A → Rule Text Line) → Tails r → Tail (tests m) (q r)) → IsPart P left l
      → IsPart P (λ ws. cond (starts (maybe b (the word)) ws) (h ws) (left ws)) (λ r. also (on (maybe b (the word)) (λ _. q r)) (l r))
  either_part {h = h} {left = left} {q = q} {l = l} b word e s there inner other = record {
    local = λ us stop. choice us b word h left s stop (λ here. (there here).local us stop) (other.local us stop);
    reads = λ k r tails reads ws.
        cond_k (starts (maybe b (the word)) ws) (h ws) (left ws) (λ x. k x.0 x.1)
        ∙ either_reads b word (λ ws. h ws >>= λ x. k x.0 x.1) (λ ws. left ws >>= λ x. k x.0 x.1) (q r) (l r) e (λ here. (there here).reads k r tails reads) (inner r tails) (other.reads k r tails reads) (other.tail r tails) ws;
    tail = λ r tails. tail_maybe b word (λ _. q r) (l r) (rw e.0 refl) (λ u. inner r tails) (other.tail r tails);
    formed = λ r k. either_formed b word (q r) (l r) (λ here. (there here).formed r k) (other.formed r k);
  }

  -- ---- to the end of a line

  -- what is read by h and with the rule r, and where C holds is formed and there
  pub record IsRest (C : Type 0) (h : List Text → Result Line Fault) (r : Rule Text Line) : Type 0 where
    pub reads : (ws : List Text) → h ws ≡ run (tests m) r ws
    pub tail : Tail (tests m) r
    pub formed : C → Formed r

  pub end_rest : {C : Type 0} (x : Line) → (C → IsGood x) → IsRest C (λ ws. end_at ws >>= λ e. Ok x) (ends x)
  end_rest x good = record { reads = end_reads (tests m) x; tail = tail_ends (tests m) x; formed = λ c. (good c, λ w. tt) }

  pub weaker_rest : {C D : Type 0} {h : List Text → Result Line Fault} {r : Rule Text Line} → IsRest C h r → (D → C) → IsRest D h r
  weaker_rest a w = record { reads = a.reads; tail = a.tail; formed = λ d. a.formed (w d) }

  pub then_rest : {A C : Type 0} {P : A → Type 0} {h : List Text → Read Text A} {p : (A → Rule Text Line) → Rule Text Line} {k : A → List Text → Result Line Fault} {q : A → Rule Text Line}
      → IsPart P h p → ((v : A) → IsRest (P v × C) (k v) (q v)) → IsRest C (λ ws. h ws >>= λ x. k x.0 x.1) (p q)
  then_rest {k = k} {q = q} a b = record {
    reads = a.reads k q (λ v. (b v).tail) (λ v. (b v).reads);
    tail = a.tail q (λ v. (b v).tail);
    formed = λ c. a.formed q (λ v x. (b v).formed (x, c));
  }

  pub either_rest : {C : Type 0} {h left : List Text → Result Line Fault} {q l : Rule Text Line} (b : Bool) (word : Text) → IsFree word
      → (b ≡ true → IsRest C h (next (the word) (λ _. q))) → Tail (tests m) q → IsRest C left l
      → IsRest C (λ ws. cond (starts (maybe b (the word)) ws) (h ws) (left ws)) (also (on (maybe b (the word)) (λ _. q)) l)
  either_rest {h = h} {left = left} {q = q} {l = l} b word e there inner other = record {
    reads = either_reads b word h left q l e (λ here. (there here).reads) inner other.reads other.tail;
    tail = tail_maybe b word (λ _. q) l (rw e.0 refl) (λ u. inner) other.tail;
    formed = λ c. either_formed b word q l (λ here. (there here).formed c) (other.formed c);
  }

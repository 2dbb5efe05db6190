-- Reading refuses a text with its first fault, and no other.
use Rattle.std.proofs.Common.{◌≡◌, ℕ, ◌+◌, true, false, cond, List, [], ◌∷◌, ◌++◌, length, Option, Some, None, Result, Ok, Err, refl, sym, ap, subst, ◌∙◌, inl, inr, arith}
use Rattle.std.specs.Prelude.{◌⊎◌}
use Rattle.std.proofs.lemmas.Bool.{cond-true, cond-false, cases_Bool}
use Rattle.map_nums.specs.Grids.{IsSize, is_size, Cells, cells_in}
use Rattle.grid_text.specs.Heads.{Head, new_key, with_pair, pairs_in, head_in}
use Rattle.grid_text.specs.Contents.{cells_from, grid_after, grid_in}
use Rattle.grid_text.specs.Faults.{Fault, key, number, limits, few, more, cell, range, or_fault, ◌>>=◌}
use Rattle.grid_text.specs.Grammar.{AreCells}
use Rattle.grid_text.specs.Headed.{Headed}
use Rattle.grid_text.specs.Keys.{nothing, key_of, is_there, with_value, begins_with_letter}
use Rattle.grid_text.specs.Pairs.{Entry, BeginsNoPair}
use Rattle.grid_text.specs.Saying.{SaysHead}
use Rattle.grid_text.specs.Places.{pair_in}
use Rattle.grid_text.specs.BadKeys.{IsBad, Lacks}
use Rattle.grid_text.specs.Refusals.{BadKey, BadNumber, BadCells, BadAfter, RefusedGrid, RefusesAll}
use Rattle.grid_text.specs.Tokens.{Token, tokens_of, first_at}
use Rattle.grid_text.specs.declared.found.Found.{Found}
use Rattle.grid_text.specs.declared.keys.Key.{Key}
use Rattle.grid_text.proofs.BadCells.{either, same_fault, Broken, broken, to_fault}
use Rattle.grid_text.proofs.Entries.{Holds, holds_nothing, holds-once}
use Rattle.grid_text.proofs.GrammarLaw.{head-said, head-found, no_pair}
use Rattle.grid_text.proofs.GridReading.{IsSize-true, is_size-true, is_size-false, grid_in-head}
use Rattle.grid_text.proofs.HeadFaults.{head-lacks, lacks-head}
use Rattle.grid_text.proofs.HeaderWalk.{after_pairs, Stops, Walk, walk, new_key-is, named_key}
use Rattle.grid_text.proofs.PairLists.{then_pairs, pairs_in-pair}
use Rattle.grid_text.proofs.SaidKeys.{no_key-names, there-said, new-said, said-new, said-bad, no_value-said, said-no_value}

-- ---- from what reading answers

-- a key that is no new key
not_new : (f : Found) (entries : List Entry) (name : Token) (fault : Fault) → Holds f entries → new_key f name ≡ Err fault → IsBad name.text entries × (fault ≡ key name.at)
not_new f entries name fault holds e = by_key (key_of name.text) refl
  where
    by_key : (o : Option Key) → key_of name.text ≡ o → IsBad name.text entries × (fault ≡ key name.at)
    by_key None k =
        let known : new_key f name ≡ Err (key name.at) = ap (λ (o : Option Key). or_fault (key name.at) o >>= λ k. cond (is_there k f) (Err (key name.at)) (Ok k)) k in
        (inl (no_key-names name.text k), same_fault (new_key f name) fault (key name.at) e known)
    by_key (Some key_found) k =
        elim (cases_Bool (is_there key_found f)) [
          | inl t ↦
              let known : new_key f name ≡ Err (key name.at) = ap (λ (o : Option Key). or_fault (key name.at) o >>= λ k. cond (is_there k f) (Err (key name.at)) (Ok k)) k ∙ cond-true _ _ _ t in
              (inr (there-said name.text key_found f entries holds k t), same_fault (new_key f name) fault (key name.at) e known)
          | inr t ↦ absurd (let good : new_key f name ≡ Ok key_found = new_key-is f name key_found k t in cc)
        ]

-- a pair that is not read
bad_pair : (end : ℕ) (f : Found) (entries : List Entry) (name : Token) (tokens : List Token) (fault : Fault) → Holds f entries → begins_with_letter name.text ≡ true → pair_in end f name tokens ≡ Err fault → BadAfter end entries (name ∷ tokens) fault
bad_pair end f entries name [] fault holds l e =
    elim (either (new_key f name)) [
      | inl k ↦
          let n = named_key f name k.0 k.1 in
          let known : pair_in end f name [] ≡ Err (number end) = ap (λ (r : Result Key Fault). r >>= λ k. Err (number end)) k.1 in
          subst (BadAfter end entries (name ∷ [])) (same_fault (pair_in end f name []) (number end) fault known e) (l, new-said name.text k.0 f entries holds n.0 n.1, refl)
      | inr x ↦
          let known : pair_in end f name [] ≡ Err x.0 = ap (λ (r : Result Key Fault). r >>= λ k. Err (number end)) x.1 in
          let bad = not_new f entries name x.0 holds x.1 in
          subst (BadAfter end entries (name ∷ [])) (sym bad.1 ∙ same_fault (pair_in end f name []) x.0 fault known e) (inl (l, bad.0), refl)
    ]
bad_pair end f entries name (value ∷ tokens) fault holds l e =
    elim (either (new_key f name)) [
      | inl k ↦
          let n = named_key f name k.0 k.1 in
          let start : pair_in end f name (value ∷ tokens) ≡ (or_fault (number value.at) (with_value f k.0 value.text) >>= λ more. Ok (more, tokens)) =
          ap (λ (r : Result Key Fault). r >>= λ k. with_pair f k value >>= λ more. Ok (more, tokens)) k.1 in
          by_value k.0 n start (with_value f k.0 value.text) refl
      | inr x ↦
          let known : pair_in end f name (value ∷ tokens) ≡ Err x.0 = ap (λ (r : Result Key Fault). r >>= λ k. with_pair f k value >>= λ more. Ok (more, tokens)) x.1 in
          let bad = not_new f entries name x.0 holds x.1 in
          subst (BadAfter end entries (name ∷ value ∷ tokens)) (sym bad.1 ∙ same_fault (pair_in end f name (value ∷ tokens)) x.0 fault known e) (inl (l, bad.0), refl)
    ]
  where
    by_value : (k : Key) → (key_of name.text ≡ Some k) × (is_there k f ≡ false) → pair_in end f name (value ∷ tokens) ≡ (or_fault (number value.at) (with_value f k value.text) >>= λ more. Ok (more, tokens))
        → (o : Option Found) → with_value f k value.text ≡ o → BadAfter end entries (name ∷ value ∷ tokens) fault
    by_value k n start None v =
        let known : pair_in end f name (value ∷ tokens) ≡ Err (number value.at) = start ∙ ap (λ (o : Option Found). or_fault (number value.at) o >>= λ more. Ok (more, tokens)) v in
        subst (BadAfter end entries (name ∷ value ∷ tokens)) (same_fault (pair_in end f name (value ∷ tokens)) (number value.at) fault known e)
        (l, new-said name.text k f entries holds n.0 n.1, no_value-said f name.text value.text k n.0 v, refl)
    by_value k n start (Some g) v =
        absurd (let good = start ∙ ap (λ (o : Option Found). or_fault (number value.at) o >>= λ more. Ok (more, tokens)) v in cc)

bad_end : (end : ℕ) (entries : List Entry) (rest : List Token) → BeginsNoPair rest → Lacks entries → BadKey end entries rest (first_at end rest)
bad_end end entries [] n lacks = (lacks, refl)
bad_end end entries (token ∷ tokens) n lacks = (inr (n, lacks), refl)

cells_fault : (end : ℕ) (entries : List Entry) (rest : List Token) (head : Head) (fault : Fault) → BeginsNoPair rest → SaysHead entries head → IsSize head.size → Broken head.null (cells_in head.size) rest fault → BadAfter end entries rest fault
cells_fault end entries rest head (key at) n s z b = absurd (no_key_there b.left b.bad)
  where
    no_key_there : (left : List Token) → BadCells head.null (cells_in head.size) b.cells left (key at) → ⊥
    no_key_there [] h = h
    no_key_there (t ∷ ts) h = h
cells_fault end entries rest head (number at) n s z b = absurd (no_number_there b.left b.bad)
  where
    no_number_there : (left : List Token) → BadCells head.null (cells_in head.size) b.cells left (number at) → ⊥
    no_number_there [] h = h
    no_number_there (t ∷ ts) h = h
cells_fault end entries rest head (limits r c) n s z b = absurd (no_limits_there b.left b.bad)
  where
    no_limits_there : (left : List Token) → BadCells head.null (cells_in head.size) b.cells left (limits r c) → ⊥
    no_limits_there [] h = h
    no_limits_there (t ∷ ts) h = h
cells_fault end entries rest head (few h w) n s z b = (n, (head, s, (z, (b.cells, b.good, b.left, b.split, b.are, b.bad))))
cells_fault end entries rest head (more at) n s z b = (n, (head, s, (z, (b.cells, b.good, b.left, b.split, b.are, b.bad))))
cells_fault end entries rest head (cell i) n s z b = (n, (head, s, (z, (b.cells, b.good, b.left, b.split, b.are, b.bad))))
cells_fault end entries rest head (range i) n s z b = (n, (head, s, (z, (b.cells, b.good, b.left, b.split, b.are, b.bad))))

abbrev with_cells : Head → Result Cells Fault → Result Headed Fault
with_cells head r = r >>= λ cells. Ok (record { header = head.header; grid = record { size = head.size; cells = cells } })

-- after a header without a further key
rest_fault : (end : ℕ) (f : Found) (entries : List Entry) (rest : List Token) (fault : Fault) → Holds f entries → BeginsNoPair rest
    → (head_in (first_at end rest) f >>= λ head. grid_after head rest) ≡ Err fault → BadAfter end entries rest fault
rest_fault end f entries rest fault holds n e =
    elim (either (head_in (first_at end rest) f)) [
      | inl h ↦
          let head : Head = h.0 in
          let said = head-said (first_at end rest) f entries head holds h.1 in
          let after : grid_after head rest ≡ Err fault = sym (ap (λ (r : Result Head Fault). r >>= λ head. grid_after head rest) h.1) ∙ e in
          elim (cases_Bool (is_size head.size)) [
            | inl z ↦
                let cells : with_cells head (cells_from head.null (cells_in head.size) 0 rest) ≡ Err fault = sym (cond-true _ _ _ z) ∙ after in
                by_cells head said (IsSize-true head.size z) cells (either (cells_from head.null (cells_in head.size) 0 rest))
            | inr z ↦
                let known : grid_after head rest ≡ Err (limits head.size.rows head.size.columns) = cond-false _ _ _ z in
                subst (BadAfter end entries rest) (same_fault (grid_after head rest) (limits head.size.rows head.size.columns) fault known after)
                (n, (head, said, ((λ s. let t : is_size head.size ≡ true = is_size-true head.size s in let u : true ≡ false = sym t ∙ z in absurd cc), refl, refl)))
          ]
      | inr x ↦
          let lacks = head-lacks (first_at end rest) f entries x.0 holds x.1 in
          let known : (head_in (first_at end rest) f >>= λ head. grid_after head rest) ≡ Err x.0 = ap (λ (r : Result Head Fault). r >>= λ head. grid_after head rest) x.1 in
          subst (BadAfter end entries rest) (lacks.1 ∙ same_fault (head_in (first_at end rest) f >>= λ head. grid_after head rest) x.0 fault known e) (bad_end end entries rest n lacks.0)
    ]
  where
    by_cells : (head : Head) → SaysHead entries head → IsSize head.size
        → with_cells head (cells_from head.null (cells_in head.size) 0 rest) ≡ Err fault
        → ((cells : Cells) × (cells_from head.null (cells_in head.size) 0 rest ≡ Ok cells)) ⊎ ((x : Fault) × (cells_from head.null (cells_in head.size) 0 rest ≡ Err x)) → BadAfter end entries rest fault
    by_cells head said z e (inl cells) =
        absurd (let good = ap (with_cells head) cells.1 in cc)
    by_cells head said z e (inr x) =
        let known = ap (with_cells head) x.1 in
        let same : x.0 ≡ fault = same_fault (with_cells head (cells_from head.null (cells_in head.size) 0 rest)) x.0 fault known e in
        cells_fault end entries rest head fault n said z
        (broken head.null (cells_in head.size) rest fault rest [] [] refl tt (omega arith) (x.1 ∙ ap (λ (g : Fault). Err g) same))

-- ---- the whole, from reading

refused_pairs : (bytes : List ℕ) (fault : Fault) → pairs_in (length bytes + 1) nothing (tokens_of bytes) ≡ Err fault → grid_in bytes ≡ Err fault
unfolding grid_in
refused_pairs bytes fault e =
    ap (λ (r : Result (Found × List Token) Fault). r >>= λ pairs. head_in (first_at (length bytes + 1) pairs.1) pairs.0 >>= λ head. grid_after head pairs.1) e

stopped : (bytes : List ℕ) (fault : Fault) (w : Walk (length bytes + 1) nothing [] (tokens_of bytes)) (rest : List Token) → w.rest ≡ rest → Stops (length bytes + 1) w.found rest → grid_in bytes ≡ Err fault → BadAfter (length bytes + 1) w.entries rest fault
stopped bytes fault w [] r s e =
    rest_fault (length bytes + 1) w.found w.entries [] fault w.holds tt (sym (grid_in-head bytes w.found [] (w.same ∙ ap (pairs_in (length bytes + 1) w.found) r)) ∙ e)
stopped bytes fault w (name ∷ tokens) r (inl l) e =
    rest_fault (length bytes + 1) w.found w.entries (name ∷ tokens) fault w.holds l
    (sym (grid_in-head bytes w.found (name ∷ tokens) (w.same ∙ ap (pairs_in (length bytes + 1) w.found) r ∙ no_pair (length bytes + 1) w.found (name ∷ tokens) l)) ∙ e)
stopped bytes fault w (name ∷ tokens) r (inr b) e =
    let x = b.1 in
    let known : grid_in bytes ≡ Err x.0 = refused_pairs bytes x.0 (w.same ∙ ap (pairs_in (length bytes + 1) w.found) r ∙ pairs_in-pair (length bytes + 1) w.found name tokens b.0 ∙ ap (then_pairs (length bytes + 1)) x.1) in
    bad_pair (length bytes + 1) w.found w.entries name tokens fault w.holds b.0 (x.1 ∙ ap (λ (g : Fault). Err g) (same_fault (grid_in bytes) x.0 fault known e))

pub read-refused : (bytes : List ℕ) (fault : Fault) → grid_in bytes ≡ Err fault → RefusedGrid bytes fault
read-refused bytes fault e =
    let w = walk (length bytes + 1) nothing [] (tokens_of bytes) holds_nothing in
    record { entries = w.entries; rest = w.rest; pairs = w.pairs; once = holds-once w.found w.entries w.holds; bad = stopped bytes fault w w.rest refl w.stops e }

-- ---- to what reading answers

-- a bad key is not read
bad_key_read : (f : Found) (entries : List Entry) (name : Token) → Holds f entries → IsBad name.text entries → new_key f name ≡ Err (key name.at)
bad_key_read f entries name holds bad =
    elim (said-bad name.text f entries holds bad) [
      | inl n ↦ ap (λ (o : Option Key). or_fault (key name.at) o >>= λ k. cond (is_there k f) (Err (key name.at)) (Ok k)) n
      | inr k ↦ ap (λ (o : Option Key). or_fault (key name.at) o >>= λ k. cond (is_there k f) (Err (key name.at)) (Ok k)) k.1 ∙ cond-true _ _ _ k.2
    ]

no_new_key : (end : ℕ) (f : Found) (name : Token) (tokens : List Token) (fault : Fault) → new_key f name ≡ Err fault → pair_in end f name tokens ≡ Err fault
no_new_key end f name [] fault e = ap (λ (r : Result Key Fault). r >>= λ k. Err (number end)) e
no_new_key end f name (value ∷ tokens) fault e = ap (λ (r : Result Key Fault). r >>= λ k. with_pair f k value >>= λ more. Ok (more, tokens)) e

-- reading comes to the entries' end
record Come (bytes : List ℕ) (entries : List Entry) (rest : List Token) : Type 0 where
  found : Found
  same : pairs_in (length bytes + 1) nothing (tokens_of bytes) ≡ pairs_in (length bytes + 1) found rest
  holds : Holds found entries

bad_pair_read : (bytes : List ℕ) (entries : List Entry) (name : Token) (tokens : List Token) (fault : Fault) (c : Come bytes entries (name ∷ tokens)) → begins_with_letter name.text ≡ true → pair_in (length bytes + 1) c.found name tokens ≡ Err fault → grid_in bytes ≡ Err fault
bad_pair_read bytes entries name tokens fault c l e =
    refused_pairs bytes fault (c.same ∙ pairs_in-pair (length bytes + 1) c.found name tokens l ∙ ap (then_pairs (length bytes + 1)) e)

read_on : (bytes : List ℕ) (entries : List Entry) (rest : List Token) (c : Come bytes entries rest) → BeginsNoPair rest → grid_in bytes ≡ (head_in (first_at (length bytes + 1) rest) c.found >>= λ head. grid_after head rest)
read_on bytes entries rest c n = grid_in-head bytes c.found rest (c.same ∙ no_pair (length bytes + 1) c.found rest n)

lacking : (bytes : List ℕ) (entries : List Entry) (rest : List Token) (at : ℕ) → Come bytes entries rest → BeginsNoPair rest → Lacks entries → first_at (length bytes + 1) rest ≡ at → grid_in bytes ≡ Err (key at)
lacking bytes entries rest at c n lacks e =
    read_on bytes entries rest c n
    ∙ ap (λ (r : Result Head Fault). r >>= λ head. grid_after head rest) (lacks-head (first_at (length bytes + 1) rest) c.found entries c.holds lacks)
    ∙ ap (λ (k : ℕ). Err (key k)) e

key_read : (bytes : List ℕ) (entries : List Entry) (rest : List Token) (at : ℕ) → Come bytes entries rest → BadKey (length bytes + 1) entries rest at → grid_in bytes ≡ Err (key at)
key_read bytes entries [] at c b = lacking bytes entries [] at c tt b.0 (sym b.1)
key_read bytes entries (token ∷ tokens) at c b =
    elim b.0 [
      | inl bad ↦
          bad_pair_read bytes entries token tokens (key token.at) c bad.0 (no_new_key (length bytes + 1) c.found token tokens (key token.at) (bad_key_read c.found entries token c.holds bad.1))
          ∙ ap (λ (k : ℕ). Err (key k)) (sym b.1)
      | inr lack ↦ lacking bytes entries (token ∷ tokens) at c lack.0 lack.1 (sym b.1)
    ]

number_read : (bytes : List ℕ) (entries : List Entry) (rest : List Token) (at : ℕ) → Come bytes entries rest → BadNumber (length bytes + 1) entries rest at → grid_in bytes ≡ Err (number at)
number_read bytes entries [] at c b = absurd b
number_read bytes entries (name ∷ []) at c b =
    let k = said-new name.text c.found entries c.holds b.1 in
    bad_pair_read bytes entries name [] (number (length bytes + 1)) c b.0 (ap (λ (r : Result Key Fault). r >>= λ k. Err (number (length bytes + 1))) (new_key-is c.found name k.key k.is k.new))
    ∙ ap (λ (k : ℕ). Err (number k)) (sym b.2)
number_read bytes entries (name ∷ value ∷ tokens) at c b =
    let k = said-new name.text c.found entries c.holds b.1 in
    let none = said-no_value c.found name.text value.text k.key k.is b.2 in
    bad_pair_read bytes entries name (value ∷ tokens) (number value.at) c b.0
    (ap (λ (r : Result Key Fault). r >>= λ k. with_pair c.found k value >>= λ more. Ok (more, tokens)) (new_key-is c.found name k.key k.is k.new)
    ∙ ap (λ (o : Option Found). or_fault (number value.at) o >>= λ more. Ok (more, tokens)) none)
    ∙ ap (λ (k : ℕ). Err (number k)) (sym b.3)

headed : (bytes : List ℕ) (entries : List Entry) (rest : List Token) (head : Head) → Come bytes entries rest → BeginsNoPair rest → SaysHead entries head → grid_in bytes ≡ grid_after head rest
headed bytes entries rest head c n s =
    read_on bytes entries rest c n ∙ ap (λ (r : Result Head Fault). r >>= λ head. grid_after head rest) (head-found (first_at (length bytes + 1) rest) c.found entries head c.holds s)

limits_read : (bytes : List ℕ) (entries : List Entry) (rest : List Token) (head : Head) (r k : ℕ) → Come bytes entries rest → BeginsNoPair rest → SaysHead entries head → (IsSize head.size → ⊥) × (r ≡ head.size.rows) × (k ≡ head.size.columns) → grid_in bytes ≡ Err (limits r k)
limits_read bytes entries rest head r k c n s b =
    headed bytes entries rest head c n s ∙ cond-false _ _ _ (is_size-false head.size b.0) ∙ (λ i. Err (limits (sym b.1 i) (sym b.2 i)))

cells_read : (bytes : List ℕ) (entries : List Entry) (rest good left : List Token) (head : Head) (cells : Cells) (fault : Fault) → Come bytes entries rest → BeginsNoPair rest → SaysHead entries head → IsSize head.size
    → rest ≡ good ++ left → AreCells head.null good cells → BadCells head.null (cells_in head.size) cells left fault → grid_in bytes ≡ Err fault
cells_read bytes entries rest good left head cells fault c n s z split are bad =
    headed bytes entries rest head c n s
    ∙ cond-true _ _ _ (is_size-true head.size z)
    ∙ ap (with_cells head)
    (ap (cells_from head.null (cells_in head.size) 0) split ∙ to_fault head.null (cells_in head.size) 0 good cells cells left fault are (omega arith) bad)

after_read : (bytes : List ℕ) (entries : List Entry) (rest : List Token) (fault : Fault) → Come bytes entries rest → BadAfter (length bytes + 1) entries rest fault → grid_in bytes ≡ Err fault
after_read bytes entries rest (key at) c b = key_read bytes entries rest at c b
after_read bytes entries rest (number at) c b = number_read bytes entries rest at c b
after_read bytes entries rest (limits r k) c b = let h = b.1 in limits_read bytes entries rest h.0 r k c b.0 h.1 h.2
after_read bytes entries rest (few have need) c b = let h = b.1 in let w = h.2 in let x = w.1 in cells_read bytes entries rest x.1 x.2 h.0 x.0 (few have need) c b.0 h.1 w.0 x.3 x.4 x.5
after_read bytes entries rest (more at) c b = let h = b.1 in let w = h.2 in let x = w.1 in cells_read bytes entries rest x.1 x.2 h.0 x.0 (more at) c b.0 h.1 w.0 x.3 x.4 x.5
after_read bytes entries rest (cell i) c b = let h = b.1 in let w = h.2 in let x = w.1 in cells_read bytes entries rest x.1 x.2 h.0 x.0 (cell i) c b.0 h.1 w.0 x.3 x.4 x.5
after_read bytes entries rest (range i) c b = let h = b.1 in let w = h.2 in let x = w.1 in cells_read bytes entries rest x.1 x.2 h.0 x.0 (range i) c b.0 h.1 w.0 x.3 x.4 x.5

pub refused-read : (bytes : List ℕ) (fault : Fault) → RefusedGrid bytes fault → grid_in bytes ≡ Err fault
refused-read bytes fault r =
    let a = after_pairs (length bytes + 1) r.entries nothing [] (tokens_of bytes) r.rest r.pairs holds_nothing r.once in
    after_read bytes r.entries r.rest fault (record { found = a.found; same = a.same; holds = a.holds }) r.bad

pub refuses_all : RefusesAll
refuses_all bytes fault = (refused-read bytes fault, read-refused bytes fault)

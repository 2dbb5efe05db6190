-- The pairs that stand first are read as what they say, and reading stops where the grammar's pairs stop.
use Rattle.std.proofs.Common.{◌≡◌, ℕ, true, false, cond, List, [], ◌∷◌, ◌++◌, Option, Some, Result, Ok, Err, refl, sym, ap, subst, ◌∙◌, inl, inr, append_assoc}
use Rattle.std.specs.Prelude.{◌⊎◌}
use Rattle.std.proofs.lemmas.Bool.{cond-false, cases_Bool}
use Rattle.std.proofs.lemmas.List.{append-nil}
use Rattle.grid_text.specs.Heads.{new_key, with_pair, pairs_in}
use Rattle.grid_text.specs.Faults.{Fault, key, number, or_fault, ◌>>=◌}
use Rattle.grid_text.specs.Keys.{key_of, is_there, with_value, begins_with_letter}
use Rattle.grid_text.specs.Pairs.{Entry, Says, HasPairs}
use Rattle.grid_text.specs.Saying.{Once}
use Rattle.grid_text.specs.Places.{pair_in}
use Rattle.grid_text.specs.Tokens.{Token}
use Rattle.grid_text.specs.declared.found.Found.{Found}
use Rattle.grid_text.specs.declared.keys.Key.{Key}
use Rattle.grid_text.proofs.Entries.{key_for, put, says-spells, says-value, value-said, Holds, holds_put, is_new}
use Rattle.grid_text.proofs.KeyNames.{key-spelled, key-spells, key-letter}
use Rattle.grid_text.proofs.PairLists.{then_pairs, pairs_in-pair}
use Rattle.grid_text.proofs.SoundHeaders.{bind_ok, ok_is, or_fault_ok, chosen_ok}

pub new_key-is : (f : Found) (name : Token) (k : Key) → key_of name.text ≡ Some k → is_there k f ≡ false → new_key f name ≡ Ok k
new_key-is f name k e n =
    ap (λ (o : Option Key). or_fault (key name.at) o >>= λ k. cond (is_there k f) (Err (key name.at)) (Ok k)) e ∙ cond-false _ _ _ n

-- a pair that says an entry is read as it
pub pair-said : (end : ℕ) (f : Found) (name value : Token) (tokens : List Token) (e : Entry) → Says name.text value.text e → is_there (key_for e) f ≡ false → pair_in end f name (value ∷ tokens) ≡ Ok (put f e, tokens)
pair-said end f name value tokens e s n =
    let named : new_key f name ≡ Ok (key_for e) = new_key-is f name (key_for e) (key-spelled name.text (key_for e) (says-spells name.text value.text e s)) n in
    ap (λ (r : Result Key Fault). r >>= λ k. with_pair f k value >>= λ more. Ok (more, tokens)) named
    ∙ ap (λ (o : Option Found). or_fault (number value.at) o >>= λ more. Ok (more, tokens)) (says-value f name.text value.text e s)

-- what is found after pairs, and that reading goes on from there
pub record After (end : ℕ) (f : Found) (seen entries : List Entry) (tokens rest : List Token) : Type 0 where
  pub found : Found
  pub same : pairs_in end f tokens ≡ pairs_in end found rest
  pub holds : Holds found (seen ++ entries)

pub after_pairs : (end : ℕ) (entries : List Entry) (f : Found) (seen : List Entry) (tokens rest : List Token) → HasPairs tokens entries rest → Holds f seen → Once (seen ++ entries) → After end f seen entries tokens rest
after_pairs end [] f seen tokens rest h holds once = record { found = f; same = ap (pairs_in end f) h; holds = subst (Holds f) (sym (append-nil seen)) holds }
after_pairs end (e ∷ entries) f seen [] rest h holds once = absurd h
after_pairs end (e ∷ entries) f seen (name ∷ []) rest h holds once = absurd h
after_pairs end (e ∷ entries) f seen (name ∷ value ∷ tokens) rest h holds once =
    let new = is_new f seen e entries holds once in
    let joined : (seen ++ e ∷ []) ++ entries ≡ seen ++ (e ∷ entries) = append_assoc seen (e ∷ []) entries in
    let more = after_pairs end entries (put f e) (seen ++ e ∷ []) tokens rest h.1 (holds_put f seen e holds new) (subst Once (sym joined) once) in
    record {
      found = more.found;
      same =
          pairs_in-pair end f name (value ∷ tokens) (key-letter name.text (key_for e) (says-spells name.text value.text e h.0))
          ∙ ap (then_pairs end) (pair-said end f name value tokens e h.0 new)
          ∙ more.same;
      holds = subst (Holds more.found) joined more.holds;
    }

-- what comes after the last pair is no pair, or a bad one
abbrev pub Stops : ℕ → Found → List Token → Type 0
Stops end f [] = Unit {0}
Stops end f (name ∷ tokens) = (begins_with_letter name.text ≡ false) ⊎ ((begins_with_letter name.text ≡ true) × ((fault : Fault) × (pair_in end f name tokens ≡ Err fault)))

pub record Walk (end : ℕ) (f : Found) (seen : List Entry) (tokens : List Token) : Type 0 where
  pub entries : List Entry
  pub rest : List Token
  pub found : Found
  pub pairs : HasPairs tokens entries rest
  pub same : pairs_in end f tokens ≡ pairs_in end found rest
  pub holds : Holds found (seen ++ entries)
  pub stops : Stops end found rest

stay : (end : ℕ) (f : Found) (seen : List Entry) (tokens : List Token) → Holds f seen → Stops end f tokens → Walk end f seen tokens
stay end f seen tokens holds stops = record {
  entries = [];
  rest = tokens;
  found = f;
  pairs = refl;
  same = refl;
  holds = subst (Holds f) (sym (append-nil seen)) holds;
  stops = stops;
}

either : {A : Type 0} (r : Result A Fault) → ((a : A) × (r ≡ Ok a)) ⊎ ((fault : Fault) × (r ≡ Err fault))
either (Ok a) = inl (a, refl)
either (Err fault) = inr (fault, refl)

never_whole : (r : Result Key Fault) (at : ℕ) (p : Found × List Token) → (r >>= λ k. Err (number at)) ≡ Ok p → ⊥
never_whole (Ok k) at p e = cc
never_whole (Err fault) at p e = cc

pub named_key : (f : Found) (name : Token) (k : Key) → new_key f name ≡ Ok k → (key_of name.text ≡ Some k) × (is_there k f ≡ false)
named_key f name k e =
    let p = bind_ok (or_fault (key name.at) (key_of name.text)) (λ k. cond (is_there k f) (Err (key name.at)) (Ok k)) k e in
    let named : key_of name.text ≡ Some p.0 = or_fault_ok (key name.at) (key_of name.text) p.0 p.1 in
    elim (chosen_ok (is_there p.0 f) (Err (key name.at)) (Ok p.0) k p.2) [
      | inl h ↦ absurd (let b = h.1 in cc)
      | inr h ↦
          let same : p.0 ≡ k = ok_is p.0 k h.1 in
          (named ∙ ap (λ (k : Key). Some k) same, ap (λ k. is_there k f) (sym same) ∙ h.0)
    ]

-- a pair that was read
record Read (end : ℕ) (f : Found) (name value : Token) (tokens : List Token) : Type 0 where
  entry : Entry
  says : Says name.text value.text entry
  new : is_there (key_for entry) f ≡ false

read_said : (end : ℕ) (f : Found) (name value : Token) (tokens : List Token) (p : Found × List Token) → pair_in end f name (value ∷ tokens) ≡ Ok p → Read end f name value tokens
read_said end f name value tokens p e =
    let a = bind_ok (new_key f name) (λ k. with_pair f k value >>= λ more. Ok (more, tokens)) p e in
    let b = bind_ok (with_pair f a.0 value) (λ more. Ok (more, tokens)) p a.2 in
    let named = named_key f name a.0 a.1 in
    let said = value-said f name.text value.text a.0 b.0 (key-spells name.text a.0 named.0) (or_fault_ok (number value.at) (with_value f a.0 value.text) b.0 b.1) in
    record { entry = said.entry; says = said.says; new = ap (λ k. is_there k f) said.key ∙ named.1 }

pub walk : (end : ℕ) (f : Found) (seen : List Entry) (tokens : List Token) → Holds f seen → Walk end f seen tokens
walk end f seen [] holds = stay end f seen [] holds tt
walk end f seen (name ∷ []) holds =
    elim (cases_Bool (begins_with_letter name.text)) [
      | inl l ↦
          elim (either (pair_in end f name [])) [
            | inl p ↦ absurd (never_whole (new_key f name) end p.0 p.1)
            | inr p ↦ stay end f seen (name ∷ []) holds (inr (l, p))
          ]
      | inr l ↦ stay end f seen (name ∷ []) holds (inl l)
    ]
walk end f seen (name ∷ value ∷ tokens) holds =
    elim (cases_Bool (begins_with_letter name.text)) [
      | inl l ↦
          elim (either (pair_in end f name (value ∷ tokens))) [
            | inl p ↦
                let r = read_said end f name value tokens p.0 p.1 in
                let w = walk end (put f r.entry) (seen ++ r.entry ∷ []) tokens (holds_put f seen r.entry holds r.new) in
                record {
                  entries = r.entry ∷ w.entries;
                  rest = w.rest;
                  found = w.found;
                  pairs = (r.says, w.pairs);
                  same = pairs_in-pair end f name (value ∷ tokens) l ∙ ap (then_pairs end) (pair-said end f name value tokens r.entry r.says r.new) ∙ w.same;
                  holds = subst (Holds w.found) (append_assoc seen (r.entry ∷ []) w.entries) w.holds;
                  stops = w.stops;
                }
            | inr p ↦ stay end f seen (name ∷ value ∷ tokens) holds (inr (l, p))
          ]
      | inr l ↦ stay end f seen (name ∷ value ∷ tokens) holds (inl l)
    ]

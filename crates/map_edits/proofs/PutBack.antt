-- The parts of an earlier state are put back, and entries are as they were before one was put or dropped.
use Rattle.std.proofs.Common.{◌≡◌, ℕ, zero, suc, true, false, List, [], ◌∷◌, Some, None, slice_get, bytes_eq, inl, inr, Ok, refl, sym, ap, ◌∙◌}
use Rattle.std.proofs.lemmas.Bool.{true≢false, cases_Bool}
use Rattle.std.proofs.lemmas.Option.{none-some, same_Some}
use Rattle.map_nums.specs.Grids.{Size}
use Rattle.map_defs.specs.Ops.{Name}
use Rattle.map_edits.specs.Entries.{Def, Entry, find_def, put_entry, drop_entry}
use Rattle.map_edits.specs.EntriesAt.{entry_at}
use Rattle.map_edits.specs.EngineStates.{value_of}
use Rattle.map_edits.specs.Faults.{fault_of}
use Rattle.map_edits.specs.Laws.{IsApart}
use Rattle.map_edits.specs.WholeStates.{WholeState}
use Rattle.map_edits.specs.Pasts.{Past, with_parts}
use Rattle.map_edits.specs.WholeEdits.{put_back}
use Rattle.map_edits.specs.Counted.{done, accept_counted}
use Rattle.map_edits.proofs.Among.{same_name, bytes_eq-self}

-- ---- the whole state

-- it is never refused
pub accept_put_back : (s : WholeState) (p : Past) → accept_counted s (put_back p) ≡ Ok (done p.touch s (with_parts s p.parts))
unfolding accept_counted
accept_put_back s p = refl

-- how many edits were accepted plays no part in faults
pub fault_by_entries : (size : Size) (es : List Entry) (a b : ℕ) → fault_of (record { size = size; entries = es; number = a }) ≡ fault_of (record { size = size; entries = es; number = b })
unfolding fault_of value_of
fault_by_entries size es a b = refl

-- a name that isn't there differs from the first
record IsElsewhere (e : Entry) (es : List Entry) (n : Name) : Type 0 where
  differs : bytes_eq e.name n ≡ false
  rest : find_def es n ≡ None

elsewhere : (e : Entry) (es : List Entry) (n : Name) → find_def (e ∷ es) n ≡ None → IsElsewhere e es n
elsewhere e es n none = elim (cases_Bool (bytes_eq e.name n)) [ inl h ↦ let there : Some e.def ≡ None = rw h at none in absurd cc | inr h ↦ record { differs = h; rest = rw h at none } ]

-- ---- an entry is put, and dropped or put again

pub drop_none : (es : List Entry) (n : Name) → find_def es n ≡ None → drop_entry es n ≡ es
drop_none [] n none = refl
drop_none (e ∷ es) n none = let r = elsewhere e es n none in simp r.differs (ap (λ q. e ∷ q) (drop_none es n r.rest))

pub drop_put : (es : List Entry) (n : Name) (d : Def) → find_def es n ≡ None → drop_entry (put_entry es n d) n ≡ es
drop_put [] n d none = simp bytes_eq-self
drop_put (e ∷ es) n d none = let r = elsewhere e es n none in simp r.differs (ap (λ q. e ∷ q) (drop_put es n d r.rest))

pub put_put : (es : List Entry) (n : Name) (d c : Def) → put_entry (put_entry es n d) n c ≡ put_entry es n c
put_put [] n d c = simp bytes_eq-self
put_put (e ∷ es) n d c = elim (cases_Bool (bytes_eq e.name n)) [ inl h ↦ simp h | inr h ↦ simp h (ap (λ q. e ∷ q) (put_put es n d c)) ]

pub put_same : (es : List Entry) (n : Name) (d : Def) → find_def es n ≡ Some d → put_entry es n d ≡ es
put_same [] n d found = absurd (none-some d found)
put_same (e ∷ es) n d found = elim (cases_Bool (bytes_eq e.name n)) [
  | inl h ↦ let own : Some e.def ≡ Some d = rw h at found in simp h (ap (λ q. record e { def = q } ∷ es) (sym (same_Some e.def d own)))
  | inr h ↦ simp h (ap (λ q. e ∷ q) (put_same es n d (rw h at found)))
]

-- ---- an entry is put at its place

pub find_at : (es : List Entry) (k : ℕ) (n : Name) (d : Def) → find_def es n ≡ None → find_def (entry_at es k n d) n ≡ Some d
find_at es zero n d none = simp bytes_eq-self
find_at [] (suc k) n d none = simp bytes_eq-self
find_at (e ∷ es) (suc k) n d none = let r = elsewhere e es n none in simp r.differs (find_at es k n d r.rest)

pub drop_at : (es : List Entry) (k : ℕ) (n : Name) (d : Def) → find_def es n ≡ None → drop_entry (entry_at es k n d) n ≡ es
drop_at es zero n d none = simp bytes_eq-self (drop_none es n none)
drop_at [] (suc k) n d none = simp bytes_eq-self
drop_at (e ∷ es) (suc k) n d none = let r = elsewhere e es n none in simp r.differs (ap (λ q. e ∷ q) (drop_at es k n d r.rest))

-- what stands at a place is there
never_at : (es : List Entry) (k : ℕ) (n : Name) (d : Def) → slice_get es k ≡ Some (record { name = n; def = d }) → find_def es n ≡ None → ⊥
never_at [] k n d at none = absurd (none-some (record { name = n; def = d }) at)
never_at (e ∷ es) zero n d at none =
    let r = elsewhere e es n none in
    let named : e.name ≡ n = ap (λ (q : Entry). q.name) (same_Some e (record { name = n; def = d }) at) in
    true≢false (sym (ap (λ q. bytes_eq q n) named ∙ bytes_eq-self n) ∙ r.differs)
never_at (e ∷ es) (suc k) n d at none = never_at es k n d at (elsewhere e es n none).rest

pub at_dropped : (es : List Entry) (k : ℕ) (n : Name) (d : Def) → IsApart es → slice_get es k ≡ Some (record { name = n; def = d }) → entry_at (drop_entry es n) k n d ≡ es
at_dropped [] k n d apart at = absurd (none-some (record { name = n; def = d }) at)
at_dropped (e ∷ es) zero n d apart at =
    let is : e ≡ record { name = n; def = d } = same_Some e (record { name = n; def = d }) at in
    let named : e.name ≡ n = ap (λ (q : Entry). q.name) is in
    let same : bytes_eq e.name n ≡ true = ap (λ q. bytes_eq q n) named ∙ bytes_eq-self n in
    simp same (ap (λ q. record { name = n; def = d } ∷ q) (drop_none es n (ap (find_def es) (sym named) ∙ apart.0)) ∙ ap (λ q. q ∷ es) (sym is))
at_dropped (e ∷ es) (suc k) n d apart at = elim (cases_Bool (bytes_eq e.name n)) [
  | inl h ↦ absurd (never_at es k n d at (ap (find_def es) (sym (same_name e.name n h)) ∙ apart.0))
  | inr h ↦ simp h (ap (λ q. e ∷ q) (at_dropped es k n d apart.1 at))
]

-- Lines that are put one after another.
use Rattle.std.proofs.Common.{◌≡◌, ◌≤◌, ◌+◌, ◌++◌, ℕ, zero, suc, List, [], ◌∷◌, length, take, Option, Some, None, refl, sym, ap, ◌∙◌, arith, add-one}
use Rattle.std.specs.Option.{option_map}
use Rattle.std.specs.List.{slice_get, flat_map}
use Rattle.std.proofs.lemmas.Grind.{flat_map-append}
use Rattle.std.proofs.lemmas.List.{append-nil}
use Rattle.map_edits.specs.Entries.{Def, Entry, source, statement}
use Rattle.map_machine.specs.Listing.{entry_line}
use Rattle.live_engine.specs.Listed.{Listed, listed}
use Rattle.map_session.specs.Lines.{listed_line}

-- the things up to a place that is there, and the one at it
taken : {A : Type 0} (xs : List A) (k : ℕ) (x : A) → Some x ≡ slice_get xs k → (take (suc k) xs ≡ take k xs ++ x ∷ []) × (suc k ≤ length xs)
taken [] k x e = absurd (cc)
taken (y ∷ ys) zero x e = (cc, omega arith)
taken {A} (y ∷ ys) (suc k) x e =
    let r = taken ys k x e in
    (ap (λ (zs : List A). y ∷ zs) r.0, omega (arith, r.1))

pub one_more : {A : Type 0} (line : A → List ℕ) (xs : List A) (k : ℕ) (x : A) (before after : List ℕ) → Some x ≡ slice_get xs k
    → before ≡ flat_map line (take k xs) → after ≡ before ++ line x → (after ≡ flat_map line (take (k + 1) xs)) × (k + 1 ≤ length xs)
one_more {A} line xs k x before after here b a =
    let r = taken xs k x here in
    (a ∙ rw (add-one k, b, r.0, flat_map-append line (take k xs) (x ∷ []), append-nil (line x)) refl, omega (arith, r.1))

-- ---- names as they are listed

some_same : {A : Type 0} (x y : A) → Some x ≡ Some y → x ≡ y
some_same x y e = cc

def_listed : (n : List ℕ) (d : Def) → entry_line (record { name = n; def = d }) ≡ listed_line (listed (record { name = n; def = d }))
def_listed n (source grid) = refl
def_listed n (statement w flats) = refl

found : (o : Option Entry) (l : Listed) → Some l ≡ option_map listed o → (e : Entry) × (Some e ≡ o) × (entry_line e ≡ listed_line l)
found None l e = absurd (cc)
found (Some x) l e = (x, refl, def_listed x.name x.def ∙ ap listed_line (sym (some_same l (listed x) e)))

pub one_more_entry : (es : List Entry) (k : ℕ) (l : Listed) (before after : List ℕ) → Some l ≡ option_map listed (slice_get es k)
    → before ≡ flat_map entry_line (take k es) → after ≡ before ++ listed_line l → (after ≡ flat_map entry_line (take (k + 1) es)) × (k + 1 ≤ length es)
one_more_entry es k l before after here b a =
    let r = found (slice_get es k) l here in
    one_more entry_line es k r.0 before after r.1 b (a ∙ ap (λ (line : List ℕ). before ++ line) (sym r.2))

-- A key is found exactly where the entries say it.
use Rattle.std.proofs.Common.{◌≡◌, ℕ, pos, Bool, true, false, List, [], ◌∷◌, Option, Some, None, refl, sym, ap, subst, ◌∙◌, inl, inr}
use Rattle.std.specs.Prelude.{◌⊎◌, filter, is_some}
use Rattle.std.proofs.lemmas.Bool.{cond-true, cond-false, cases_Bool}
use Rattle.grid_text.specs.Keys.{key_of, is_there, with_value}
use Rattle.grid_text.specs.Pairs.{Entry, Says}
use Rattle.grid_text.specs.Saying.{is_columns, is_rows, is_x, is_y, is_size_entry, is_null}
use Rattle.grid_text.specs.Pairs as pairs
use Rattle.grid_text.specs.BadKeys.{Names, IsSaid, IsNew, IsBad}
use Rattle.grid_text.specs.declared.found.Found.{Found}
use Rattle.grid_text.specs.declared.keys.Key.{Key}
use Rattle.grid_text.specs.declared.keys.Key.TheVariants as keys
use Rattle.grid_text.proofs.Entries.{key_for, put, says-spells, says-value, value-said, listed, Holds}
use Rattle.grid_text.proofs.KeyNames.{Spells, key-spelled, key-spells}

-- the entries under a key
abbrev is_of : Key → Entry → Bool
is_of keys.Columns = is_columns
is_of keys.Rows = is_rows
is_of (keys.X center) = is_x
is_of (keys.Y center) = is_y
is_of keys.Size = is_size_entry
is_of keys.Null = is_null

-- a name's key, whose entries are of the kind
record Named (name : List ℕ) (entry : Entry) : Type 0 where
  key : Key
  is : key_of name ≡ Some key
  kind : is_of key entry ≡ true

named : (name : List ℕ) (entry : Entry) → Names name entry → Named name entry
named name (pairs.columns n) h = record { key = keys.Columns; is = key-spelled name keys.Columns h; kind = refl }
named name (pairs.rows n) h = record { key = keys.Rows; is = key-spelled name keys.Rows h; kind = refl }
named name (pairs.x corner) (inl h) = record { key = keys.X false; is = key-spelled name (keys.X false) h; kind = refl }
named name (pairs.x corner) (inr h) = record { key = keys.X true; is = key-spelled name (keys.X true) h; kind = refl }
named name (pairs.y corner) (inl h) = record { key = keys.Y false; is = key-spelled name (keys.Y false) h; kind = refl }
named name (pairs.y corner) (inr h) = record { key = keys.Y true; is = key-spelled name (keys.Y true) h; kind = refl }
named name (pairs.size text) h = record { key = keys.Size; is = key-spelled name keys.Size h; kind = refl }
named name (pairs.null z) h = record { key = keys.Null; is = key-spelled name keys.Null h; kind = refl }

named_kind : (name : List ℕ) (k : Key) (entry : Entry) → key_of name ≡ Some k → Names name entry → is_of k entry ≡ true
named_kind name k entry e h =
    let n = named name entry h in
    let both : Some n.key ≡ Some k = sym n.is ∙ e in
    let same : n.key ≡ k = cc in
    subst (λ (k : Key). is_of k entry ≡ true) same n.kind

-- a token without a key names nothing
pub no_key-names : (name : List ℕ) → key_of name ≡ None → (entry : Entry) → Names name entry → ⊥
no_key-names name e entry h = let n = named name entry h in let both : Some n.key ≡ None = sym n.is ∙ e in cc

kind_names : (name : List ℕ) (k : Key) (entry : Entry) → Spells name k → is_of k entry ≡ true → Names name entry
kind_names name keys.Columns (pairs.columns n) s e = s
kind_names name keys.Columns (pairs.rows n) s e = absurd cc
kind_names name keys.Columns (pairs.x c) s e = absurd cc
kind_names name keys.Columns (pairs.y c) s e = absurd cc
kind_names name keys.Columns (pairs.size t) s e = absurd cc
kind_names name keys.Columns (pairs.null z) s e = absurd cc
kind_names name keys.Rows (pairs.rows n) s e = s
kind_names name keys.Rows (pairs.columns n) s e = absurd cc
kind_names name keys.Rows (pairs.x c) s e = absurd cc
kind_names name keys.Rows (pairs.y c) s e = absurd cc
kind_names name keys.Rows (pairs.size t) s e = absurd cc
kind_names name keys.Rows (pairs.null z) s e = absurd cc
kind_names name (keys.X true) (pairs.x c) s e = inr s
kind_names name (keys.X false) (pairs.x c) s e = inl s
kind_names name (keys.X b) (pairs.columns n) s e = absurd cc
kind_names name (keys.X b) (pairs.rows n) s e = absurd cc
kind_names name (keys.X b) (pairs.y c) s e = absurd cc
kind_names name (keys.X b) (pairs.size t) s e = absurd cc
kind_names name (keys.X b) (pairs.null z) s e = absurd cc
kind_names name (keys.Y true) (pairs.y c) s e = inr s
kind_names name (keys.Y false) (pairs.y c) s e = inl s
kind_names name (keys.Y b) (pairs.columns n) s e = absurd cc
kind_names name (keys.Y b) (pairs.rows n) s e = absurd cc
kind_names name (keys.Y b) (pairs.x c) s e = absurd cc
kind_names name (keys.Y b) (pairs.size t) s e = absurd cc
kind_names name (keys.Y b) (pairs.null z) s e = absurd cc
kind_names name keys.Size (pairs.size t) s e = s
kind_names name keys.Size (pairs.columns n) s e = absurd cc
kind_names name keys.Size (pairs.rows n) s e = absurd cc
kind_names name keys.Size (pairs.x c) s e = absurd cc
kind_names name keys.Size (pairs.y c) s e = absurd cc
kind_names name keys.Size (pairs.null z) s e = absurd cc
kind_names name keys.Null (pairs.null z) s e = s
kind_names name keys.Null (pairs.columns n) s e = absurd cc
kind_names name keys.Null (pairs.rows n) s e = absurd cc
kind_names name keys.Null (pairs.x c) s e = absurd cc
kind_names name keys.Null (pairs.y c) s e = absurd cc
kind_names name keys.Null (pairs.size t) s e = absurd cc

-- a key names some entry
some_entry : (name : List ℕ) (k : Key) → Spells name k → (entry : Entry) × Names name entry
some_entry name keys.Columns h = (pairs.columns 0, h)
some_entry name keys.Rows h = (pairs.rows 0, h)
some_entry name (keys.X true) h = (pairs.x (record { center = true; text = [] }), inr h)
some_entry name (keys.X false) h = (pairs.x (record { center = false; text = [] }), inl h)
some_entry name (keys.Y true) h = (pairs.y (record { center = true; text = [] }), inr h)
some_entry name (keys.Y false) h = (pairs.y (record { center = false; text = [] }), inl h)
some_entry name keys.Size h = (pairs.size [], h)
some_entry name keys.Null h = (pairs.null (pos 0), h)

listed_none : {A : Type 0} (entry : A → Entry) (o : Option A) (l : List Entry) → is_some o ≡ false → l ≡ listed entry o → l ≡ []
listed_none entry None l n e = e
listed_none entry (Some a) l n e = absurd cc

listed_some : {A : Type 0} (entry : A → Entry) (o : Option A) (l : List Entry) → is_some o ≡ true → l ≡ listed entry o → (l ≡ [] → ⊥)
listed_some entry None l n e z = cc
listed_some entry (Some a) l n e z = cc

not_there : (k : Key) (f : Found) (entries : List Entry) → Holds f entries → is_there k f ≡ false → filter (is_of k) entries ≡ []
not_there keys.Columns f entries h n = listed_none pairs.columns f.columns _ n h.columns
not_there keys.Rows f entries h n = listed_none pairs.rows f.rows _ n h.rows
not_there (keys.X b) f entries h n = listed_none pairs.x f.x _ n h.x
not_there (keys.Y b) f entries h n = listed_none pairs.y f.y _ n h.y
not_there keys.Size f entries h n = listed_none pairs.size f.size _ n h.size
not_there keys.Null f entries h n = listed_none pairs.null f.null _ n h.null

there : (k : Key) (f : Found) (entries : List Entry) → Holds f entries → is_there k f ≡ true → (filter (is_of k) entries ≡ [] → ⊥)
there keys.Columns f entries h n = listed_some pairs.columns f.columns _ n h.columns
there keys.Rows f entries h n = listed_some pairs.rows f.rows _ n h.rows
there (keys.X b) f entries h n = listed_some pairs.x f.x _ n h.x
there (keys.Y b) f entries h n = listed_some pairs.y f.y _ n h.y
there keys.Size f entries h n = listed_some pairs.size f.size _ n h.size
there keys.Null f entries h n = listed_some pairs.null f.null _ n h.null

none_said : (name : List ℕ) (k : Key) (entries : List Entry) → key_of name ≡ Some k → filter (is_of k) entries ≡ [] → IsSaid name entries → ⊥
none_said name k [] e z h = h
none_said name k (entry ∷ entries) e z (inl h) =
    let kind : filter (is_of k) (entry ∷ entries) ≡ entry ∷ filter (is_of k) entries = cond-true _ _ _ (named_kind name k entry e h) in
    cc
none_said name k (entry ∷ entries) e z (inr h) =
    elim (cases_Bool (is_of k entry)) [
      | inl t ↦ let kind : filter (is_of k) (entry ∷ entries) ≡ entry ∷ filter (is_of k) entries = cond-true _ _ _ t in absurd cc
      | inr t ↦ none_said name k entries e (sym (cond-false _ _ _ t) ∙ z) h
    ]

some_said : (name : List ℕ) (k : Key) (entries : List Entry) → Spells name k → (filter (is_of k) entries ≡ [] → ⊥) → IsSaid name entries
some_said name k [] s n = absurd (n refl)
some_said name k (entry ∷ entries) s n =
    elim (cases_Bool (is_of k entry)) [
      | inl t ↦ inl (kind_names name k entry s t)
      | inr t ↦ inr (some_said name k entries s (λ z. n (cond-false _ _ _ t ∙ z)))
    ]

-- a key that is found is said
pub there-said : (name : List ℕ) (k : Key) (f : Found) (entries : List Entry) → Holds f entries → key_of name ≡ Some k → is_there k f ≡ true → IsSaid name entries
there-said name k f entries h e t = some_said name k entries (key-spells name k e) (there k f entries h t)

-- a key that isn't found is new
pub new-said : (name : List ℕ) (k : Key) (f : Found) (entries : List Entry) → Holds f entries → key_of name ≡ Some k → is_there k f ≡ false → IsNew name entries
new-said name k f entries h e n = (some_entry name k (key-spells name k e), none_said name k entries e (not_there k f entries h n))

-- a new key is a key that isn't found
pub record NewKey (name : List ℕ) (f : Found) : Type 0 where
  pub key : Key
  pub is : key_of name ≡ Some key
  pub new : is_there key f ≡ false

pub said-new : (name : List ℕ) (f : Found) (entries : List Entry) → Holds f entries → IsNew name entries → NewKey name f
said-new name f entries h new =
    let entry = new.0 in
    let n = named name entry.0 entry.1 in
    elim (cases_Bool (is_there n.key f)) [
      | inl t ↦ absurd (new.1 (there-said name n.key f entries h n.is t))
      | inr t ↦ record { key = n.key; is = n.is; new = t }
    ]

some_key : (o : Option Key) → (o ≡ None) ⊎ ((k : Key) × (o ≡ Some k))
some_key None = inl refl
some_key (Some k) = inr (k, refl)

-- a bad key is none, or found already
pub said-bad : (name : List ℕ) (f : Found) (entries : List Entry) → Holds f entries → IsBad name entries → (key_of name ≡ None) ⊎ ((k : Key) × (key_of name ≡ Some k) × (is_there k f ≡ true))
said-bad name f entries h bad =
    elim (some_key (key_of name)) [
      | inl n ↦ inl n
      | inr k ↦
          elim (cases_Bool (is_there k.0 f)) [
            | inl t ↦ inr (k.0, k.1, t)
            | inr t ↦
                absurd (elim bad [
                  | inl never ↦ let e = some_entry name k.0 (key-spells name k.0 k.1) in never e.0 e.1
                  | inr said ↦ none_said name k.0 entries k.1 (not_there k.0 f entries h t) said
                ])
          ]
    ]

-- a value is of its key's form exactly where a pair says something
pub no_value-said : (f : Found) (name value : List ℕ) (k : Key) → key_of name ≡ Some k → with_value f k value ≡ None → (entry : Entry) → Says name value entry → ⊥
no_value-said f name value k e n entry s =
    let named : key_of name ≡ Some (key_for entry) = key-spelled name (key_for entry) (says-spells name value entry s) in
    let both : Some k ≡ Some (key_for entry) = sym e ∙ named in
    let same : k ≡ key_for entry = cc in
    let value : with_value f k value ≡ Some (put f entry) = ap (λ k. with_value f k value) same ∙ says-value f name value entry s in
    cc

some_found : (o : Option Found) → (o ≡ None) ⊎ ((g : Found) × (o ≡ Some g))
some_found None = inl refl
some_found (Some g) = inr (g, refl)

pub said-no_value : (f : Found) (name value : List ℕ) (k : Key) → key_of name ≡ Some k → ((entry : Entry) → Says name value entry → ⊥) → with_value f k value ≡ None
said-no_value f name value k e never =
    elim (some_found (with_value f k value)) [
      | inl n ↦ n
      | inr g ↦ absurd (let said = value-said f name value k g.0 (key-spells name k e) g.1 in never said.entry said.says)
    ]

-- A token is a key of the table exactly where reading finds one.
use Rattle.std.proofs.Common.{◌≡◌, ℕ, ◌+◌, ◌<◌, ◌≤◌, Bool, true, false, cond, List, [], ◌∷◌, map, nat_lt, Option, Some, codes, refl, ap, subst, ◌∙◌, inl, inr, arith}
use Rattle.std.specs.Prelude.{◌⊎◌, if◌then◌else◌, bytes_eq, nat_le, ◌&&◌, ◌||◌}
use Rattle.std.specs.Char.{is_ascii_alphabetic, to_ascii_lowercase}
use Rattle.std.proofs.lemmas.Bool.{cases_lt, lt-ltb, le-ltb, le-leb, and_from}
use Rattle.std.proofs.lemmas.Slice.Eq.{bytes_eq-Decides}
use Rattle.grid_text.specs.Keys.{key_table, key_in, key_of, begins_with_letter}
use Rattle.grid_text.specs.Pairs.{IsKey}
use Rattle.grid_text.specs.declared.keys.Key.{Key}
use Rattle.grid_text.specs.declared.keys.Key.TheVariants.{Columns, Rows, X, Y, Size, Null}

-- the token spells this key
abbrev pub Spells : List ℕ → Key → Type 0
Spells name Columns = IsKey (codes "ncols") name
Spells name Rows = IsKey (codes "nrows") name
Spells name (X center) = IsKey (if center then codes "xllcenter" else codes "xllcorner") name
Spells name (Y center) = IsKey (if center then codes "yllcenter" else codes "yllcorner") name
Spells name Size = IsKey (codes "cellsize") name
Spells name Null = IsKey (codes "nodata_value") name

pub key-spelled : (name : List ℕ) (k : Key) → Spells name k → key_of name ≡ Some k
key-spelled name Columns h = ap (key_in key_table) h
key-spelled name Rows h = ap (key_in key_table) h
key-spelled name (X true) h = ap (key_in key_table) h
key-spelled name (X false) h = ap (key_in key_table) h
key-spelled name (Y true) h = ap (key_in key_table) h
key-spelled name (Y false) h = ap (key_in key_table) h
key-spelled name Size h = ap (key_in key_table) h
key-spelled name Null h = ap (key_in key_table) h

-- some row has this text and this key
abbrev InRows : List (List ℕ × Key) → List ℕ → Key → Type 0
InRows [] text k = ⊥
InRows (row ∷ rows) text k = ((text ≡ row.0) × (row.1 ≡ k)) ⊎ InRows rows text k

chosen_key : (b : Bool) (k : Key) (x : Option Key) (found : Key) → cond b (Some k) x ≡ Some found → ((b ≡ true) × (k ≡ found)) ⊎ (x ≡ Some found)
chosen_key true k x found e = inl (refl, cc)
chosen_key false k x found e = inr e

in_rows : (rows : List (List ℕ × Key)) (text : List ℕ) (k : Key) → key_in rows text ≡ Some k → InRows rows text k
in_rows [] text k e = absurd cc
in_rows (row ∷ rows) text k e =
    elim (chosen_key (bytes_eq text row.0) row.1 (key_in rows text) k e) [
      | inl h ↦ inl ((bytes_eq-Decides text row.0).0 h.0, h.1)
      | inr h ↦ inr (in_rows rows text k h)
    ]

spelled_row : (name text : List ℕ) (key k : Key) → (map to_ascii_lowercase name ≡ text) × (key ≡ k) → (map to_ascii_lowercase name ≡ text → Spells name key) → Spells name k
spelled_row name text key k h f = subst (Spells name) h.1 (f h.0)

pub key-spells : (name : List ℕ) (k : Key) → key_of name ≡ Some k → Spells name k
key-spells name k e =
    elim (in_rows key_table (map to_ascii_lowercase name) k e) [
      | inl h ↦ spelled_row name (codes "ncols") Columns k h (λ s. s)
      | inr (inl h) ↦ spelled_row name (codes "nrows") Rows k h (λ s. s)
      | inr (inr (inl h)) ↦ spelled_row name (codes "xllcorner") (X false) k h (λ s. s)
      | inr (inr (inr (inl h))) ↦ spelled_row name (codes "xllcenter") (X true) k h (λ s. s)
      | inr (inr (inr (inr (inl h)))) ↦ spelled_row name (codes "yllcorner") (Y false) k h (λ s. s)
      | inr (inr (inr (inr (inr (inl h))))) ↦ spelled_row name (codes "yllcenter") (Y true) k h (λ s. s)
      | inr (inr (inr (inr (inr (inr (inl h)))))) ↦ spelled_row name (codes "cellsize") Size k h (λ s. s)
      | inr (inr (inr (inr (inr (inr (inr (inl h))))))) ↦ spelled_row name (codes "nodata_value") Null k h (λ s. s)
      | inr (inr (inr (inr (inr (inr (inr (inr h))))))) ↦ absurd h
    ]

lower_beyond : (b : ℕ) → 91 ≤ b → to_ascii_lowercase b ≡ b
lower_beyond b p = ap (λ t. cond t b (cond (nat_lt b 91) (b + 32) b)) (le-ltb b 65 (omega arith)) ∙ ap (λ t. cond t (b + 32) b) (le-ltb b 91 p)

lower_below : (b : ℕ) → b < 65 → to_ascii_lowercase b ≡ b
lower_below b p = ap (λ t. cond t b (cond (nat_lt b 91) (b + 32) b)) (lt-ltb b 65 p)

in_range_true : (low high b : ℕ) → low ≤ b → b ≤ high → (nat_le low b && nat_le b high) ≡ true
in_range_true low high b p q = and_from (nat_le low b) (nat_le b high) (le-leb low b p) (le-leb b high q)

or_from_left : (x y : Bool) → x ≡ true → (x || y) ≡ true
or_from_left true y e = refl
or_from_left false y e = absurd cc

or_from_right : (x y : Bool) → y ≡ true → (x || y) ≡ true
or_from_right true y e = refl
or_from_right false y e = e

letter_from_lower : (b c : ℕ) → 97 ≤ c → c ≤ 122 → to_ascii_lowercase b ≡ c → is_ascii_alphabetic b ≡ true
letter_from_lower b c p q e =
    elim (cases_lt b 65) [
      | inl l ↦ absurd (omega (arith, lower_below b l, e))
      | inr l ↦
          elim (cases_lt b 91) [
            | inl m ↦ or_from_left _ _ (in_range_true 65 90 b l (omega (arith, m)))
            | inr m ↦ or_from_right _ _ (in_range_true 97 122 b (omega (arith, lower_beyond b m, e)) (omega (arith, lower_beyond b m, e)))
          ]
    ]

letter_first : (name word : List ℕ) (c : ℕ) → IsKey (c ∷ word) name → 97 ≤ c → c ≤ 122 → begins_with_letter name ≡ true
letter_first [] word c h p q = absurd cc
letter_first (b ∷ name) word c h p q = letter_from_lower b c p q (let e : to_ascii_lowercase b ≡ c = cc in e)

-- each key begins with a letter
pub key-letter : (name : List ℕ) (k : Key) → Spells name k → begins_with_letter name ≡ true
key-letter name Columns h = letter_first name (codes "cols") 110 h (omega arith) (omega arith)
key-letter name Rows h = letter_first name (codes "rows") 110 h (omega arith) (omega arith)
key-letter name (X true) h = letter_first name (codes "llcenter") 120 h (omega arith) (omega arith)
key-letter name (X false) h = letter_first name (codes "llcorner") 120 h (omega arith) (omega arith)
key-letter name (Y true) h = letter_first name (codes "llcenter") 121 h (omega arith) (omega arith)
key-letter name (Y false) h = letter_first name (codes "llcorner") 121 h (omega arith) (omega arith)
key-letter name Size h = letter_first name (codes "ellsize") 99 h (omega arith) (omega arith)
key-letter name Null h = letter_first name (codes "odata_value") 110 h (omega arith) (omega arith)

-- What a pair says, and what is found with it.
use Rattle.std.proofs.Common.{◌≡◌, ℕ, ◌≤◌, Bool, true, false, List, [], ◌∷◌, ◌++◌, length, Option, Some, None, refl, sym, ap, ◌∙◌, arith}
use Rattle.std.specs.Prelude.{filter, is_some}
use Rattle.std.specs.Option.{option_map}
use Rattle.std.proofs.lemmas.Bool.{cond-true}
use Rattle.std.proofs.lemmas.List.{append-nil}
use Rattle.std.proofs.lemmas.List.Elements.{filter-append}
use Rattle.std.proofs.lemmas.Option.{cond_some}
use Rattle.grid_text.specs.Keys.{nothing, is_there, with_value, decimal_in}
use Rattle.grid_text.specs.Decimals.{is_decimal}
use Rattle.grid_text.specs.Numbers.{count_in, number_in}
use Rattle.grid_text.specs.Pairs.{Entry, columns, rows, x, y, size, null, Says}
use Rattle.grid_text.specs.Saying.{Once, is_columns, is_rows, is_x, is_y, is_size_entry, is_null}
use Rattle.grid_text.specs.declared.found.Found.{Found}
use Rattle.grid_text.specs.declared.keys.Key.{Key}
use Rattle.grid_text.specs.declared.keys.Key.TheVariants as keys
use Rattle.grid_text.proofs.KeyNames.{Spells}
use Rattle.grid_text.proofs.SoundHeaders.{mapped_some}

abbrev pub key_for : Entry → Key
key_for (columns n) = keys.Columns
key_for (rows n) = keys.Rows
key_for (x corner) = keys.X corner.center
key_for (y corner) = keys.Y corner.center
key_for (size text) = keys.Size
key_for (null z) = keys.Null

abbrev pub put : Found → Entry → Found
put f (columns n) = record f { columns = Some n }
put f (rows n) = record f { rows = Some n }
put f (x corner) = record f { x = Some corner }
put f (y corner) = record f { y = Some corner }
put f (size text) = record f { size = Some text }
put f (null z) = record f { null = Some z }

pub says-spells : (name value : List ℕ) (e : Entry) → Says name value e → Spells name (key_for e)
says-spells name value (columns n) h = h.0
says-spells name value (rows n) h = h.0
says-spells name value (x corner) h = h.0
says-spells name value (y corner) h = h.0
says-spells name value (size text) h = h.0
says-spells name value (null z) h = h.0

decimal_there : (text t : List ℕ) → is_decimal text ≡ true → t ≡ text → decimal_in text ≡ Some t
decimal_there text t d e = cond-true _ _ _ d ∙ ap (λ (s : List ℕ). Some s) (sym e)

pub says-value : (f : Found) (name value : List ℕ) (e : Entry) → Says name value e → with_value f (key_for e) value ≡ Some (put f e)
says-value f name value (columns n) h = ap (option_map (λ n. record f { columns = Some n })) h.1
says-value f name value (rows n) h = ap (option_map (λ n. record f { rows = Some n })) h.1
says-value f name value (x corner) h = ap (option_map (λ t. record f { x = Some (record { center = corner.center; text = t }) })) (decimal_there value corner.text h.1 h.2)
says-value f name value (y corner) h = ap (option_map (λ t. record f { y = Some (record { center = corner.center; text = t }) })) (decimal_there value corner.text h.1 h.2)
says-value f name value (size text) h = ap (option_map (λ t. record f { size = Some t })) (decimal_there value text h.1 h.2)
says-value f name value (null z) h = ap (option_map (λ z. record f { null = Some z })) h.1

-- what a pair says that reading found
pub record Said (f : Found) (name value : List ℕ) (k : Key) (g : Found) : Type 0 where
  pub entry : Entry
  pub says : Says name value entry
  pub key : key_for entry ≡ k
  pub found : put f entry ≡ g

pub value-said : (f : Found) (name value : List ℕ) (k : Key) (g : Found) → Spells name k → with_value f k value ≡ Some g → Said f name value k g
value-said f name value keys.Columns g s e =
    let p = mapped_some (λ n. record f { columns = Some n }) (count_in value) g e in
    record { entry = columns p.0; says = (s, p.1); key = refl; found = p.2 }
value-said f name value keys.Rows g s e =
    let p = mapped_some (λ n. record f { rows = Some n }) (count_in value) g e in
    record { entry = rows p.0; says = (s, p.1); key = refl; found = p.2 }
value-said f name value (keys.X center) g s e =
    let p = mapped_some (λ t. record f { x = Some (record { center = center; text = t }) }) (decimal_in value) g e in
    let d = cond_some (is_decimal value) value p.0 p.1 in
    record { entry = x (record { center = center; text = p.0 }); says = (s, d.0, sym d.1); key = refl; found = p.2 }
value-said f name value (keys.Y center) g s e =
    let p = mapped_some (λ t. record f { y = Some (record { center = center; text = t }) }) (decimal_in value) g e in
    let d = cond_some (is_decimal value) value p.0 p.1 in
    record { entry = y (record { center = center; text = p.0 }); says = (s, d.0, sym d.1); key = refl; found = p.2 }
value-said f name value keys.Size g s e =
    let p = mapped_some (λ t. record f { size = Some t }) (decimal_in value) g e in
    let d = cond_some (is_decimal value) value p.0 p.1 in
    record { entry = size p.0; says = (s, d.0, sym d.1); key = refl; found = p.2 }
value-said f name value keys.Null g s e =
    let p = mapped_some (λ z. record f { null = Some z }) (number_in value) g e in
    record { entry = null p.0; says = (s, p.1); key = refl; found = p.2 }

-- the entries of one kind that are found
abbrev pub listed : {A : Type 0} → (A → Entry) → Option A → List Entry
listed entry None = []
listed entry (Some a) = entry a ∷ []

-- what is found says these entries
pub record Holds (f : Found) (entries : List Entry) : Type 0 where
  pub columns : filter is_columns entries ≡ listed columns f.columns
  pub rows : filter is_rows entries ≡ listed rows f.rows
  pub x : filter is_x entries ≡ listed x f.x
  pub y : filter is_y entries ≡ listed y f.y
  pub size : filter is_size_entry entries ≡ listed size f.size
  pub null : filter is_null entries ≡ listed null f.null

pub holds_nothing : Holds nothing []
holds_nothing = record { columns = refl; rows = refl; x = refl; y = refl; size = refl; null = refl }

other : (is : Entry → Bool) (seen : List Entry) (e : Entry) (l : List Entry) → filter is (e ∷ []) ≡ [] → filter is seen ≡ l → filter is (seen ++ e ∷ []) ≡ l
other is seen e l n h = filter-append is seen (e ∷ []) ∙ ap (λ es. filter is seen ++ es) n ∙ append-nil (filter is seen) ∙ h

own : {A : Type 0} (is : Entry → Bool) (seen : List Entry) (e : Entry) (entry : A → Entry) (o : Option A) → filter is (e ∷ []) ≡ e ∷ [] → is_some o ≡ false → filter is seen ≡ listed entry o → filter is (seen ++ e ∷ []) ≡ e ∷ []
own is seen e entry None alone n h = filter-append is seen (e ∷ []) ∙ ap (λ es. es ++ filter is (e ∷ [])) h ∙ alone
own is seen e entry (Some a) alone n h = absurd cc

-- one more entry
pub holds_put : (f : Found) (seen : List Entry) (e : Entry) → Holds f seen → is_there (key_for e) f ≡ false → Holds (put f e) (seen ++ e ∷ [])
holds_put f seen (columns n) h new = record {
  columns = own is_columns seen (columns n) columns f.columns refl new h.columns;
  rows = other is_rows seen (columns n) _ refl h.rows;
  x = other is_x seen (columns n) _ refl h.x;
  y = other is_y seen (columns n) _ refl h.y;
  size = other is_size_entry seen (columns n) _ refl h.size;
  null = other is_null seen (columns n) _ refl h.null;
}
holds_put f seen (rows n) h new = record {
  columns = other is_columns seen (rows n) _ refl h.columns;
  rows = own is_rows seen (rows n) rows f.rows refl new h.rows;
  x = other is_x seen (rows n) _ refl h.x;
  y = other is_y seen (rows n) _ refl h.y;
  size = other is_size_entry seen (rows n) _ refl h.size;
  null = other is_null seen (rows n) _ refl h.null;
}
holds_put f seen (x c) h new = record {
  columns = other is_columns seen (x c) _ refl h.columns;
  rows = other is_rows seen (x c) _ refl h.rows;
  x = own is_x seen (x c) x f.x refl new h.x;
  y = other is_y seen (x c) _ refl h.y;
  size = other is_size_entry seen (x c) _ refl h.size;
  null = other is_null seen (x c) _ refl h.null;
}
holds_put f seen (y c) h new = record {
  columns = other is_columns seen (y c) _ refl h.columns;
  rows = other is_rows seen (y c) _ refl h.rows;
  x = other is_x seen (y c) _ refl h.x;
  y = own is_y seen (y c) y f.y refl new h.y;
  size = other is_size_entry seen (y c) _ refl h.size;
  null = other is_null seen (y c) _ refl h.null;
}
holds_put f seen (size t) h new = record {
  columns = other is_columns seen (size t) _ refl h.columns;
  rows = other is_rows seen (size t) _ refl h.rows;
  x = other is_x seen (size t) _ refl h.x;
  y = other is_y seen (size t) _ refl h.y;
  size = own is_size_entry seen (size t) size f.size refl new h.size;
  null = other is_null seen (size t) _ refl h.null;
}
holds_put f seen (null z) h new = record {
  columns = other is_columns seen (null z) _ refl h.columns;
  rows = other is_rows seen (null z) _ refl h.rows;
  x = other is_x seen (null z) _ refl h.x;
  y = other is_y seen (null z) _ refl h.y;
  size = other is_size_entry seen (null z) _ refl h.size;
  null = own is_null seen (null z) null f.null refl new h.null;
}

new_one : {A : Type 0} (is : Entry → Bool) (seen : List Entry) (e : Entry) (es : List Entry) (entry : A → Entry) (o : Option A) → filter is (e ∷ es) ≡ e ∷ filter is es → filter is seen ≡ listed entry o → length (filter is (seen ++ (e ∷ es))) ≤ 1 → is_some o ≡ false
new_one is seen e es entry None first h l = refl
new_one is seen e es entry (Some a) first h l =
    let all : filter is (seen ++ (e ∷ es)) ≡ (entry a ∷ []) ++ (e ∷ filter is es) = filter-append is seen (e ∷ es) ∙ ap (λ l. l ++ filter is (e ∷ es)) h ∙ ap (λ l. (entry a ∷ []) ++ l) first in
    absurd (omega (arith, l, ap length all))

-- an entry of a key that is there once is new
pub is_new : (f : Found) (seen : List Entry) (e : Entry) (es : List Entry) → Holds f seen → Once (seen ++ (e ∷ es)) → is_there (key_for e) f ≡ false
is_new f seen (columns n) es h o = new_one is_columns seen (columns n) es columns f.columns refl h.columns o.columns
is_new f seen (rows n) es h o = new_one is_rows seen (rows n) es rows f.rows refl h.rows o.rows
is_new f seen (x c) es h o = new_one is_x seen (x c) es x f.x refl h.x o.x
is_new f seen (y c) es h o = new_one is_y seen (y c) es y f.y refl h.y o.y
is_new f seen (size t) es h o = new_one is_size_entry seen (size t) es size f.size refl h.size o.size
is_new f seen (null z) es h o = new_one is_null seen (null z) es null f.null refl h.null o.null

few_listed : {A : Type 0} (entry : A → Entry) (o : Option A) (l : List Entry) → l ≡ listed entry o → length l ≤ 1
few_listed entry None l e = omega (arith, ap length e)
few_listed entry (Some a) l e = omega (arith, ap length e)

-- what is found is there once
pub holds-once : (f : Found) (entries : List Entry) → Holds f entries → Once entries
holds-once f entries h = record {
  columns = few_listed columns f.columns _ h.columns;
  rows = few_listed rows f.rows _ h.rows;
  x = few_listed x f.x _ h.x;
  y = few_listed y f.y _ h.y;
  size = few_listed size f.size _ h.size;
  null = few_listed null f.null _ h.null;
}

-- What is found in a header is of its keys' forms.
use Rattle.std.proofs.Common.{◌≡◌, ℕ, Bool, true, false, cond, ℤ, List, [], ◌∷◌, Option, Some, None, Result, Ok, Err, refl, sym, ap, subst, ◌∙◌, inl, inr}
use Rattle.std.specs.Prelude.{IsTrue, IfSome, ◌⊎◌}
use Rattle.std.specs.Option.{option_map}
use Rattle.std.proofs.lemmas.Option.{cond_some, option_and_then_some}
use Rattle.grid_text.specs.Heads.{Head, new_key, with_pair, pairs_in, head_in, null_or_default}
use Rattle.grid_text.specs.Faults.{Fault, key, number, or_fault, ◌>>=◌}
use Rattle.grid_text.specs.Headers.{IsDecimal, IsHeader}
use Rattle.grid_text.specs.Keys.{nothing, with_value, decimal_in, begins_with_letter}
use Rattle.grid_text.specs.Numbers.{is_short, number_in, count_in, whole_in}
use Rattle.grid_text.specs.Decimals.{is_decimal}
use Rattle.grid_text.specs.Tokens.{Token}
use Rattle.grid_text.specs.declared.Corner.{Corner}
use Rattle.grid_text.specs.declared.found.Found.{Found}
use Rattle.grid_text.specs.declared.keys.Key.{Key}
use Rattle.grid_text.specs.declared.keys.Key.TheVariants.{Columns, Rows, X, Y, Size, Null}

pub record IsSound (f : Found) : Type 0 where
  pub x : IfSome f.x (λ c. IsDecimal c.text)
  pub y : IfSome f.y (λ c. IsDecimal c.text)
  pub size : IfSome f.size IsDecimal
  pub null : IfSome f.null (λ z. IsTrue (is_short z))

pub sound_nothing : IsSound nothing
sound_nothing = record { x = tt; y = tt; size = tt; null = tt }

-- the value of a step that did not fail
pub bind_ok : {A B : Type 0} (r : Result A Fault) (f : A → Result B Fault) (y : B) → (r >>= f) ≡ Ok y → (x : A) × (r ≡ Ok x) × (f x ≡ Ok y)
bind_ok (Ok x) f y e = (x, refl, e)
bind_ok (Err d) f y e = absurd cc

pub or_fault_ok : {A : Type 0} (fault : Fault) (o : Option A) (a : A) → or_fault fault o ≡ Ok a → o ≡ Some a
or_fault_ok fault None a e = absurd cc
or_fault_ok fault (Some b) a e = cc

pub mapped_some : {A B : Type 0} (h : A → B) (o : Option A) (b : B) → option_map h o ≡ Some b → (a : A) × (o ≡ Some a) × (h a ≡ b)
mapped_some h None b e = absurd cc
mapped_some h (Some a) b e = (a, refl, cc)

pub chosen_ok : {A : Type 0} (b : Bool) (x y : Result A Fault) (a : A) → cond b x y ≡ Ok a → ((b ≡ true) × (x ≡ Ok a)) ⊎ ((b ≡ false) × (y ≡ Ok a))
chosen_ok true x y a e = inl (refl, e)
chosen_ok false x y a e = inr (refl, e)

pub decimal_is : (text t : List ℕ) → decimal_in text ≡ Some t → IsDecimal t
decimal_is text t e = let p = cond_some (is_decimal text) text t e in subst IsDecimal p.1 p.0

pub number_is : (text : List ℕ) (z : ℤ) → number_in text ≡ Some z → (whole_in text ≡ Some z) × IsTrue (is_short z)
number_is text z e = option_and_then_some (λ z. cond (is_short z) (Some z) None) (whole_in text) z e (λ y w s. let p = cond_some (is_short y) y z s in (w ∙ ap (λ (k : ℤ). Some k) p.1, subst (λ (k : ℤ). IsTrue (is_short k)) p.1 p.0))

sound_value : (f g : Found) (k : Key) (text : List ℕ) → with_value f k text ≡ Some g → IsSound f → IsSound g
sound_value f g Columns text e s =
    let p = mapped_some (λ n. record f { columns = Some n }) (count_in text) g e in
    subst IsSound p.2 (record { x = s.x; y = s.y; size = s.size; null = s.null })
sound_value f g Rows text e s =
    let p = mapped_some (λ n. record f { rows = Some n }) (count_in text) g e in
    subst IsSound p.2 (record { x = s.x; y = s.y; size = s.size; null = s.null })
sound_value f g (X center) text e s =
    let p = mapped_some (λ t. record f { x = Some (record { center = center; text = t }) }) (decimal_in text) g e in
    subst IsSound p.2 (record { x = decimal_is text p.0 p.1; y = s.y; size = s.size; null = s.null })
sound_value f g (Y center) text e s =
    let p = mapped_some (λ t. record f { y = Some (record { center = center; text = t }) }) (decimal_in text) g e in
    subst IsSound p.2 (record { x = s.x; y = decimal_is text p.0 p.1; size = s.size; null = s.null })
sound_value f g Size text e s =
    let p = mapped_some (λ t. record f { size = Some t }) (decimal_in text) g e in
    subst IsSound p.2 (record { x = s.x; y = s.y; size = decimal_is text p.0 p.1; null = s.null })
sound_value f g Null text e s =
    let p = mapped_some (λ z. record f { null = Some z }) (number_in text) g e in
    subst IsSound p.2 (record { x = s.x; y = s.y; size = s.size; null = (number_is text p.0 p.1).1 })

pub ok_is : {A : Type 0} (x y : A) → (let r : Result A Fault = Ok x in r ≡ Ok y) → x ≡ y
ok_is x y e = cc

same_pair : (f g : Found) (rest left : List Token) → IsSound f → (let r : Result (Found × List Token) Fault = Ok (f, rest) in r ≡ Ok (g, left)) → IsSound g
same_pair f g rest left s e =
    let before : Found × List Token = (f, rest) in
    let after : Found × List Token = (g, left) in
    subst IsSound (ap (λ (p : Found × List Token). p.0) (ok_is before after e)) s

pub sound_pairs : (end : ℕ) (f g : Found) (tokens left : List Token) → pairs_in end f tokens ≡ Ok (g, left) → IsSound f → IsSound g
sound_pairs end f g [] left e s = same_pair f g [] left s e
sound_pairs end f g (name ∷ []) left e s =
    elim (chosen_ok (begins_with_letter name.text) (new_key f name >>= λ k. Err (number end)) (Ok (f, name ∷ [])) (g, left) e) [
      | inl h ↦ absurd (let p = bind_ok (new_key f name) (λ k. Err (number end)) (g, left) h.1 in cc)
      | inr h ↦ same_pair f g (name ∷ []) left s h.1
    ]
sound_pairs end f g (name ∷ value ∷ tokens) left e s =
    elim (chosen_ok (begins_with_letter name.text) (new_key f name >>= λ k. with_pair f k value >>= λ more. pairs_in end more tokens) (Ok (f, name ∷ value ∷ tokens)) (g, left) e) [
      | inl h ↦
          let p = bind_ok (new_key f name) (λ k. with_pair f k value >>= λ more. pairs_in end more tokens) (g, left) h.1 in
          let q = bind_ok (with_pair f p.0 value) (λ more. pairs_in end more tokens) (g, left) p.2 in
          sound_pairs end q.0 g tokens left q.2 (sound_value f q.0 p.0 value.text (or_fault_ok (number value.at) (with_value f p.0 value.text) q.0 q.1) s)
      | inr h ↦ same_pair f g (name ∷ value ∷ tokens) left s h.1
    ]

pub record HeadParts (end : ℕ) (f : Found) (h : Head) : Type 0 where
  pub columns : f.columns ≡ Some h.size.columns
  pub rows : f.rows ≡ Some h.size.rows
  pub x : f.x ≡ Some h.header.x
  pub y : f.y ≡ Some h.header.y
  pub size : f.size ≡ Some h.header.size
  pub null : h.null ≡ null_or_default f.null

pub head_parts : (end : ℕ) (f : Found) (h : Head) → head_in end f ≡ Ok h → HeadParts end f h
head_parts end f h e =
    let made : ℕ → ℕ → Corner → Corner → List ℕ → Head = λ c r x y s. record { header = record { x = x; y = y; size = s }; size = record { rows = r; columns = c }; null = null_or_default f.null } in
    let p1 = bind_ok (or_fault (key end) f.columns) (λ c. or_fault (key end) f.rows >>= λ r. or_fault (key end) f.x >>= λ x. or_fault (key end) f.y >>= λ y. or_fault (key end) f.size >>= λ s. Ok (made c r x y s)) h e in
    let p2 = bind_ok (or_fault (key end) f.rows) (λ r. or_fault (key end) f.x >>= λ x. or_fault (key end) f.y >>= λ y. or_fault (key end) f.size >>= λ s. Ok (made p1.0 r x y s)) h p1.2 in
    let p3 = bind_ok (or_fault (key end) f.x) (λ x. or_fault (key end) f.y >>= λ y. or_fault (key end) f.size >>= λ s. Ok (made p1.0 p2.0 x y s)) h p2.2 in
    let p4 = bind_ok (or_fault (key end) f.y) (λ y. or_fault (key end) f.size >>= λ s. Ok (made p1.0 p2.0 p3.0 y s)) h p3.2 in
    let p5 = bind_ok (or_fault (key end) f.size) (λ s. Ok (made p1.0 p2.0 p3.0 p4.0 s)) h p4.2 in
    let same : made p1.0 p2.0 p3.0 p4.0 p5.0 ≡ h = let q = p5.2 in cc in
    subst (HeadParts end f) same (record {
      columns = or_fault_ok (key end) f.columns p1.0 p1.1;
      rows = or_fault_ok (key end) f.rows p2.0 p2.1;
      x = or_fault_ok (key end) f.x p3.0 p3.1;
      y = or_fault_ok (key end) f.y p4.0 p4.1;
      size = or_fault_ok (key end) f.size p5.0 p5.1;
      null = refl;
    })

sound_null : (o : Option ℤ) → IfSome o (λ z. IsTrue (is_short z)) → IsTrue (is_short (null_or_default o))
sound_null None s = refl
sound_null (Some z) s = s

pub record IsSoundHead (h : Head) : Type 0 where
  pub header : IsHeader h.header
  pub null : IsTrue (is_short h.null)

pub sound_head : (end : ℕ) (f : Found) (h : Head) → head_in end f ≡ Ok h → IsSound f → IsSoundHead h
sound_head end f h e s =
    let p = head_parts end f h e in
    record {
      header = record {
        x = subst (λ o. IfSome o (λ c. IsDecimal c.text)) p.x s.x;
        y = subst (λ o. IfSome o (λ c. IsDecimal c.text)) p.y s.y;
        size = subst (λ o. IfSome o IsDecimal) p.size s.size;
      };
      null = subst (λ (z : ℤ). IsTrue (is_short z)) (sym p.null) (sound_null f.null s.null);
    }

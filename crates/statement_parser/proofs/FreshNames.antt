-- Of eight names one is none of seven.
use Rattle.std.proofs.Common.{◌≡◌, ◌≤◌, ◌<◌, suc, Bool, true, false, cond, ◌||◌, List, [], ◌∷◌, length, Some, refl, subst, arith}
use Rattle.std.specs.Prelude.{codes, bytes_eq}
use Rattle.std.proofs.lemmas.Slice.Eq.{bytes_eq-Decides}
use Rattle.map_words.specs.Bytes.{Text}
use Rattle.map_words.specs.Names.{is_plain, is_reserved, is_among}
use Rattle.statement_parser.specs.Scopes.{has_name}
use Rattle.statement_parser.specs.ProcedureRules.{fresh_of}
use Rattle.statement_parser.specs.Formed.{Each}

same_bytes : (t : Text) → bytes_eq t t ≡ true
same_bytes t = (bytes_eq-Decides t t).1 refl

abbrev Apart : List Text → Type 0
Apart [] = Unit {0}
Apart (c ∷ cs) = (has_name cs c ≡ false) × Apart cs

-- the names but for the first that is p
abbrev without : Text → List Text → List Text
without p [] = []
without p (c ∷ cs) = cond (bytes_eq c p) cs (c ∷ without p cs)

length_without : (p : Text) (cs : List Text) → length cs ≤ suc (length (without p cs))
length_without p [] = omega arith
length_without p (c ∷ cs) = go (bytes_eq c p) (length_without p cs)
  where
    go : (b : Bool) → length cs ≤ suc (length (without p cs)) → length (c ∷ cs) ≤ suc (length (cond b cs (c ∷ without p cs)))
    go true h = omega arith
    go false h = omega arith

each_without : (P : Text → Type 0) (p : Text) (cs : List Text) → Each P cs → Each P (without p cs)
each_without P p [] h = tt
each_without P p (c ∷ cs) h = go (bytes_eq c p) (each_without P p cs h.1)
  where
    go : (b : Bool) → Each P (without p cs) → Each P (cond b cs (c ∷ without p cs))
    go true k = h.1
    go false k = (h.0, k)

either_false : (a b : Bool) → (a || b) ≡ false → (a ≡ false) × (b ≡ false)
either_false true b e = absurd cc
either_false false b e = (refl, e)

-- what isn't among the names isn't among fewer
has_fewer : (p q : Text) (cs : List Text) → has_name cs q ≡ false → has_name (without p cs) q ≡ false
has_fewer p q [] h = refl
has_fewer p q (c ∷ cs) h = go (bytes_eq c p) (has_fewer p q cs (either_false (bytes_eq c q) (has_name cs q) h).1)
  where
    go : (b : Bool) → has_name (without p cs) q ≡ false → has_name (cond b cs (c ∷ without p cs)) q ≡ false
    go true k = (either_false (bytes_eq c q) (has_name cs q) h).1
    go false k = rw ((either_false (bytes_eq c q) (has_name cs q) h).0, k) refl

apart_without : (p : Text) (cs : List Text) → Apart cs → Apart (without p cs)
apart_without p [] h = tt
apart_without p (c ∷ cs) h = go (bytes_eq c p) (apart_without p cs h.1)
  where
    go : (b : Bool) → Apart (without p cs) → Apart (cond b cs (c ∷ without p cs))
    go true k = h.1
    go false k = (has_fewer p c cs h.0, k)

has_none : (p : Text) (cs : List Text) → Apart cs → has_name (without p cs) p ≡ false
has_none p [] h = refl
has_none p (c ∷ cs) h = go (bytes_eq c p) refl (has_none p cs h.1)
  where
    go : (b : Bool) → bytes_eq c p ≡ b → has_name (without p cs) p ≡ false → has_name (cond b cs (c ∷ without p cs)) p ≡ false
    go true e k = subst (λ t. has_name cs t ≡ false) ((bytes_eq-Decides c p).0 e) h.0
    go false e k = rw (e, k) refl

record IsNew (ps cs : List Text) (q : Text) : Type 0 where
  pub plain : is_plain q ≡ true
  pub among : has_name cs q ≡ true
  pub new : has_name ps q ≡ false

new_among : (ps cs : List Text) → Apart cs → Each (λ c. is_plain c ≡ true) cs → length ps < length cs → (q : Text) × IsNew ps cs q
new_among ps [] a h l = absurd (omega arith)
new_among [] (c ∷ cs) a h l = (c, record { plain = h.0; among = rw (same_bytes c) refl; new = refl })
new_among (p ∷ ps) (c ∷ cs) a h l =
    let all = c ∷ cs in
    let fewer = length_without p all in
    let r = new_among ps (without p all) (apart_without p all a) (each_without (λ c. is_plain c ≡ true) p all h) (omega arith) in
    (r.0, record { plain = r.1.plain; among = kept r.0 (has_name all r.0) refl r.1.among; new = rw (other r.0 (bytes_eq p r.0) refl r.1.among, r.1.new) refl })
  where
    kept : (q : Text) (b : Bool) → has_name (c ∷ cs) q ≡ b → has_name (without p (c ∷ cs)) q ≡ true → b ≡ true
    kept q true e f = refl
    kept q false e f = absurd (let g : has_name (without p (c ∷ cs)) q ≡ false = has_fewer p q (c ∷ cs) e in cc)

    other : (q : Text) (b : Bool) → bytes_eq p q ≡ b → has_name (without p (c ∷ cs)) q ≡ true → b ≡ false
    other q false e f = refl
    other q true e f = absurd (let g : has_name (without p (c ∷ cs)) q ≡ false = subst (λ t. has_name (without p (c ∷ cs)) t ≡ false) ((bytes_eq-Decides p q).0 e) (has_none p (c ∷ cs) a) in cc)

abbrev letters : List Text
letters = codes "a" ∷ codes "b" ∷ codes "c" ∷ codes "d" ∷ codes "e" ∷ codes "f" ∷ codes "g" ∷ codes "h" ∷ []

letters_apart : Apart letters
letters_apart = (refl, (refl, (refl, (refl, (refl, (refl, (refl, (refl, tt))))))))

letters_plain : Each (λ c. is_plain c ≡ true) letters
unfolding is_plain is_reserved is_among
letters_plain = (refl, (refl, (refl, (refl, (refl, (refl, (refl, (refl, tt))))))))

-- beside at most seven names there is another
pub new_name : (ps : List Text) → length ps ≤ 7 → (q : Text) × (fresh_of ps q ≡ Some q)
new_name ps l =
    let r = new_among ps letters letters_apart letters_plain (omega arith) in
    (r.0, rw (r.1.plain, r.1.new) refl)

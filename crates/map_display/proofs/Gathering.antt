-- The marks of one layer, gathered one by one: the first of a value stays.
use Rattle.std.proofs.Common.{◌≡◌, ◌≢◌, Bool, true, false, cond, List, [], ◌∷◌, ◌++◌, ℕ, ℤ, refl, sym, ◌∙◌, ap, Option, Some, None, bytes_eq, is_some, option_map, not, map, take, get_or, length, ◌+◌, ◌<◌}
use Rattle.std.specs.Prelude.{◌&&◌}
use Rattle.std.specs.Ordering.{int_eq}
use Rattle.std.proofs.lemmas.Bool.Decides.{Decides-int_eq}
use Rattle.map_defs.specs.Ops.{Name}
use Rattle.std.proofs.lemmas.List.{map_more}
use Rattle.map_edits.specs.Marks.{Mark, is_mark, find_mark}
use Rattle.map_marks.specs.declared.mark.Mark.{Mark as Held}
use Rattle.map_marks.specs.Views.{mark_of}

-- one more mark that stands for something else
push_other : (marks : List Mark) (m : Mark) (n : Name) (z : ℤ) → is_mark n z m ≡ false → find_mark (marks ++ m ∷ []) n z ≡ find_mark marks n z
push_other [] m n z h = rw h refl
push_other (x ∷ xs) m n z h = by_test (is_mark n z x) refl (push_other xs m n z h)
  where
    by_test : (b : Bool) → is_mark n z x ≡ b → find_mark (xs ++ m ∷ []) n z ≡ find_mark xs n z → find_mark ((x ∷ xs) ++ m ∷ []) n z ≡ find_mark (x ∷ xs) n z
    by_test true e rest = rw e refl
    by_test false e rest = rw e rest

-- one for what has one already
push_after : (marks : List Mark) (m : Mark) (n : Name) (z : ℤ) → is_some (find_mark marks n z) ≡ true → find_mark (marks ++ m ∷ []) n z ≡ find_mark marks n z
push_after [] m n z h = absurd (cc)
push_after (x ∷ xs) m n z h = by_test (is_mark n z x) refl (push_after xs m n z)
  where
    by_test : (b : Bool) → is_mark n z x ≡ b → (is_some (find_mark xs n z) ≡ true → find_mark (xs ++ m ∷ []) n z ≡ find_mark xs n z) → find_mark ((x ∷ xs) ++ m ∷ []) n z ≡ find_mark (x ∷ xs) n z
    by_test true e rest = rw e refl
    by_test false e rest = rw e (rest (rw e at h))

-- the first one
push_new : (marks : List Mark) (m : Mark) (n : Name) (z : ℤ) → is_some (find_mark marks n z) ≡ false → is_mark n z m ≡ true → find_mark (marks ++ m ∷ []) n z ≡ Some m.text
push_new [] m n z h t = rw t refl
push_new (x ∷ xs) m n z h t = by_test (is_mark n z x) refl (push_new xs m n z)
  where
    by_test : (b : Bool) → is_mark n z x ≡ b → (is_some (find_mark xs n z) ≡ false → is_mark n z m ≡ true → find_mark (xs ++ m ∷ []) n z ≡ Some m.text) → find_mark ((x ∷ xs) ++ m ∷ []) n z ≡ Some m.text
    by_test true e rest = let k : true ≡ false = rw e at h in absurd (cc)
    by_test false e rest = rw e (rest (rw e at h) t)

mark_of_other_layer : (m : Mark) (n : Name) (z : ℤ) → bytes_eq m.name n ≡ false → is_mark n z m ≡ false
mark_of_other_layer m n z h = rw h refl

mark_of_other_value : (m : Mark) (n : Name) (z : ℤ) → int_eq m.value z ≡ false → is_mark n z m ≡ false
mark_of_other_value m n z h = by_test (bytes_eq m.name n) refl
  where
    by_test : (b : Bool) → bytes_eq m.name n ≡ b → is_mark n z m ≡ false
    by_test true e = rw (e, h) refl
    by_test false e = rw e refl

-- f tells of each value what stands for it
abbrev pub Tells : List Mark → Name → (ℤ → Option (List ℕ)) → Type 0
Tells marks n f = (z : ℤ) → f z ≡ find_mark marks n z

pub tells_without : (marks : List Mark) (m : Mark) (n : Name) (f : ℤ → Option (List ℕ)) → bytes_eq m.name n ≡ false → Tells marks n f → Tells (marks ++ m ∷ []) n f
tells_without marks m n f h t = λ z. t z ∙ sym (push_other marks m n z (mark_of_other_layer m n z h))

pub tells_already : (marks : List Mark) (m : Mark) (n : Name) (f : ℤ → Option (List ℕ)) → is_some (f m.value) ≡ true → Tells marks n f → Tells (marks ++ m ∷ []) n f
tells_already marks m n f h t = λ z. by_test z (int_eq m.value z) refl
  where
    by_test : (z : ℤ) (b : Bool) → int_eq m.value z ≡ b → f z ≡ find_mark (marks ++ m ∷ []) n z
    by_test z true e =
        let same : m.value ≡ z = (Decides-int_eq m.value z).0 e in
        let there : is_some (find_mark marks n z) ≡ true = ap is_some (sym (t z)) ∙ ap (λ (y : ℤ). is_some (f y)) (sym same) ∙ h in
        t z ∙ sym (push_after marks m n z there)
    by_test z false e = t z ∙ sym (push_other marks m n z (mark_of_other_value m n z e))

pub tells_new : (marks : List Mark) (m : Mark) (n : Name) (f g : ℤ → Option (List ℕ)) → bytes_eq m.name n ≡ true → is_some (f m.value) ≡ false → ((z : ℤ) → g z ≡ cond (int_eq m.value z) (Some m.text) (f z)) → Tells marks n f → Tells (marks ++ m ∷ []) n g
tells_new marks m n f g h k u t = λ z. by_test z (int_eq m.value z) refl
  where
    by_test : (z : ℤ) (b : Bool) → int_eq m.value z ≡ b → g z ≡ find_mark (marks ++ m ∷ []) n z
    by_test z true e =
        let same : m.value ≡ z = (Decides-int_eq m.value z).0 e in
        let none : is_some (find_mark marks n z) ≡ false = ap is_some (sym (t z)) ∙ ap (λ (y : ℤ). is_some (f y)) (sym same) ∙ k in
        let mark : is_mark n z m ≡ true = rw (h, e) refl in
        u z ∙ rw e (sym (push_new marks m n z none mark))
    by_test z false e = u z ∙ rw e (t z ∙ sym (push_other marks m n z (mark_of_other_value m n z e)))

-- ---- the marks as the code holds them

pub taken_more : (items : List Held) (i : ℕ) (m : Held) → i < length items → m ≡ get_or items i m → map mark_of (take (i + 1) items) ≡ map mark_of (take i items) ++ mark_of m ∷ []
taken_more items i m l e = map_more mark_of items i m l ∙ ap (λ (x : Held). map mark_of (take i items) ++ mark_of x ∷ []) (sym e)

pub not_true : (b : Bool) → not b ≡ true → b ≡ false
not_true true e = absurd (cc)
not_true false e = refl

pub not_false : (b : Bool) → not b ≡ false → b ≡ true
not_false true e = refl
not_false false e = absurd (cc)

pub some_map : {X Y : Type 0} (g : X → Y) (o : Option X) → is_some (option_map g o) ≡ is_some o
some_map g None = refl
some_map g (Some x) = refl

pub map_cond : {X Y : Type 0} (g : X → Y) (b : Bool) (o p : Option X) → option_map g (cond b o p) ≡ cond b (option_map g o) (option_map g p)
map_cond g true o p = refl
map_cond g false o p = refl

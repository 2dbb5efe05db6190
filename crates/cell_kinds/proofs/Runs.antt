-- One more place of a list whose runs are gathered.
use Rattle.std.proofs.Common.{◌≡◌, ◌⊎◌, inl, inr, ℕ, ◌+◌, ◌<◌, ◌≤◌, Bool, true, false, List, [], ◌∷◌, ◌++◌, length, get_or, drop, map, refl, sym, ◌∙◌, ap, arith, append_assoc}
use Rattle.std.proofs.lemmas.Bool.{cases_lt, false_from_ne_true}
use Rattle.std.proofs.lemmas.List.{drop_more, drop_all}
use Rattle.cell_kinds.specs.Runs.{put_front, runs_of}

-- the first run begins n places earlier
abbrev pub longer : {X : Type 0} → ℕ → List (X × ℕ) → List (X × ℕ)
longer n [] = []
longer n (e ∷ es) = (e.0, n + e.1) ∷ es

module _ {X : Type 0} (same : X → X → Bool) {K : Type 0} (f : X × ℕ → K) where
  -- the kept runs, and those of the rest of which so many places of the first are counted already
  pub record IsGathered (xs : List X) (kept : List K) (count i : ℕ) : Type 0 where
    pub behind : count ≤ i
    pub all : map f (runs_of same xs) ≡ kept ++ map f (longer count (runs_of same (drop i xs)))

  not_longer : (es : List (X × ℕ)) → longer 0 es ≡ es
  not_longer [] = refl
  not_longer (e ∷ es) = let z : 0 + e.1 ≡ e.1 = omega arith in ap (λ (n : ℕ). (e.0, n) ∷ es) z

  longer_on : (y : X) (n : ℕ) (zs : List X) (es : List (X × ℕ)) → same y y ≡ true → longer n (put_front same y (put_front same y es)) ≡ longer (n + 1) (put_front same y es)
  longer_on y n zs [] t = rw t (let e : n + (1 + 1) ≡ n + 1 + 1 = omega arith in ap (λ (k : ℕ). (y, k) ∷ []) e)
  longer_on y n zs (e ∷ es) t = by_test (same y e.0) refl
    where
      by_test : (b : Bool) → same y e.0 ≡ b → longer n (put_front same y (put_front same y (e ∷ es))) ≡ longer (n + 1) (put_front same y (e ∷ es))
      by_test true h = rw (h, t) (let k : n + (e.1 + 1 + 1) ≡ n + 1 + (e.1 + 1) = omega arith in ap (λ (k : ℕ). (y, k) ∷ es) k)
      by_test false h = rw (h, t) (let k : n + (1 + 1) ≡ n + 1 + 1 = omega arith in ap (λ (k : ℕ). (y, k) ∷ e ∷ es) k)

  -- the next element is the same
  on_here : (y : X) (n : ℕ) (zs : List X) → same y y ≡ true → longer n (runs_of same (y ∷ y ∷ zs)) ≡ longer (n + 1) (runs_of same (y ∷ zs))
  on_here y n zs t = longer_on y n zs (runs_of same zs) t

  -- y starts a run of its own before these elements
  abbrev pub OthersFollow : X → List X → Type 0
  OthersFollow y [] = Unit {0}
  OthersFollow y (z ∷ zs) = same y z ≡ false

  first_is : (z : X) (es : List (X × ℕ)) (y : X) → same y z ≡ false → put_front same y (put_front same z es) ≡ (y, 1) ∷ put_front same z es
  first_is z [] y h = rw h refl
  first_is z (e ∷ es) y h = by_test (same z e.0) refl
    where
      by_test : (b : Bool) → same z e.0 ≡ b → put_front same y (put_front same z (e ∷ es)) ≡ (y, 1) ∷ put_front same z (e ∷ es)
      by_test true k = rw (k, h) refl
      by_test false k = rw (k, h) refl

  end_here : (y : X) (n : ℕ) (zs : List X) → OthersFollow y zs → longer n (runs_of same (y ∷ zs)) ≡ (y, n + 1) ∷ runs_of same zs
  end_here y n [] h = refl
  end_here y n (z ∷ zs) h = ap (longer n) (first_is z (runs_of same zs) y h)

  gathered_on : (xs : List X) (kept : List K) (count i : ℕ) (y : X) (zs : List X) → drop i xs ≡ y ∷ y ∷ zs → drop (i + 1) xs ≡ y ∷ zs → same y y ≡ true → IsGathered xs kept count i → IsGathered xs kept (count + 1) (i + 1)
  gathered_on xs kept count i y zs d e t g =
      record {
        behind = omega (arith, g.behind);
        all =
            g.all
            ∙ ap (λ (l : List X). kept ++ map f (longer count (runs_of same l))) d
            ∙ ap (λ (es : List (X × ℕ)). kept ++ map f es) (on_here y count zs t)
            ∙ ap (λ (l : List X). kept ++ map f (longer (count + 1) (runs_of same l))) (sym e);
      }

  gathered_end : (xs : List X) (kept next : List K) (count i : ℕ) (y : X) (zs : List X) → drop i xs ≡ y ∷ zs → drop (i + 1) xs ≡ zs → OthersFollow y zs → next ≡ kept ++ f (y, count + 1) ∷ [] → IsGathered xs kept count i → IsGathered xs next 0 (i + 1)
  gathered_end xs kept next count i y zs d e h k g =
      record {
        behind = omega arith;
        all =
            g.all
            ∙ ap (λ (l : List X). kept ++ map f (longer count (runs_of same l))) d
            ∙ ap (λ (es : List (X × ℕ)). kept ++ map f es) (end_here y count zs h)
            ∙ sym (append_assoc kept (f (y, count + 1) ∷ []) (map f (runs_of same zs)))
            ∙ ap (λ (l : List K). l ++ map f (runs_of same zs)) (sym k)
            ∙ ap (λ (es : List (X × ℕ)). next ++ map f es) (sym (not_longer (runs_of same zs)))
            ∙ ap (λ (l : List X). next ++ map f (longer 0 (runs_of same l))) (sym e);
      }

  module _ (itself : (x : X) → same x x ≡ true) (tells : (x y : X) → same x y ≡ true → x ≡ y) (xs : List X) (i : ℕ) (d : X) (here : i < length xs) where
    pub gathered_same : (kept : List K) (count : ℕ) → (i + 1 < length xs) × (get_or xs (i + 1) d ≡ get_or xs i d) → IsGathered xs kept count i → IsGathered xs kept (count + 1) (i + 1)
    gathered_same kept count s g =
        let y = get_or xs i d in
        let zs = drop (i + 1 + 1) xs in
        let next : drop (i + 1) xs ≡ y ∷ zs = drop_more xs (i + 1) d s.0 ∙ ap (λ (x : X). x ∷ zs) s.1 in
        gathered_on xs kept count i y zs (drop_more xs i d here ∙ ap (λ (l : List X). y ∷ l) next) next (itself y) g

    others_follow : ((i + 1 < length xs) × (get_or xs (i + 1) d ≡ get_or xs i d) → ⊥) → OthersFollow (get_or xs i d) (drop (i + 1) xs)
    others_follow stop = by_end (cases_lt (i + 1) (length xs))
      where
        by_end : (i + 1 < length xs) ⊎ (length xs ≤ i + 1) → OthersFollow (get_or xs i d) (drop (i + 1) xs)
        by_end (inl l) = rw (drop_more xs (i + 1) d l) (false_from_ne_true (same (get_or xs i d) (get_or xs (i + 1) d)) (λ t. stop (l, sym (tells _ _ t))))
        by_end (inr l) = rw (drop_all (i + 1) xs l) tt

    pub gathered_last : (kept next : List K) (count : ℕ) → ((i + 1 < length xs) × (get_or xs (i + 1) d ≡ get_or xs i d) → ⊥) → next ≡ kept ++ f (get_or xs i d, count + 1) ∷ [] → IsGathered xs kept count i → IsGathered xs next 0 (i + 1)
    gathered_last kept next count stop e g = gathered_end xs kept next count i (get_or xs i d) (drop (i + 1) xs) (drop_more xs i d here) refl (others_follow stop) e g

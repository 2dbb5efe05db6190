-- The changes of the first statements.
use Rattle.std.proofs.Common.{◌≡◌, ℕ, zero, suc, ◌+◌, ◌<◌, ◌≤◌, [], ◌∷◌, ◌++◌, length, get_or, ◌⊎◌, inl, inr, refl, sym, ap, ◌∙◌, arith}
use Rattle.std.proofs.lemmas.Bool.{cases_lt}
use Rattle.std.proofs.lemmas.List.{length_push, get_or_push, get_or_append_left}
use Rattle.layer_tiles.specs.Changes.{ChangeState}
use Rattle.map_waves.specs.Plans.{Plan, changes_to, change_at}

changes_start : (p : Plan) → changes_to p 0 ≡ []
unfolding changes_to
changes_start p = refl

changes_next : (p : Plan) (k : ℕ) → changes_to p (suc k) ≡ changes_to p k ++ change_at p k ∷ []
unfolding changes_to
changes_next p k = refl

changes_length : (p : Plan) (k : ℕ) → length (changes_to p k) ≡ k
changes_length p zero = ap length (changes_start p)
changes_length p (suc k) = let rest : length (changes_to p k) ≡ k = changes_length p k in
    let pushed : length (changes_to p k ++ change_at p k ∷ []) ≡ length (changes_to p k) + 1 = length_push (changes_to p k) (change_at p k) in
    let next : length (changes_to p (suc k)) ≡ length (changes_to p k ++ change_at p k ∷ []) = ap length (changes_next p k) in
    omega arith

-- each stays as more follow
pub changes_at : (p : Plan) (j k : ℕ) (d : ChangeState) → j < k → get_or (changes_to p k) j d ≡ change_at p j
changes_at p j zero d h = absurd (omega arith)
changes_at p j (suc k) d h = ap (λ cs. get_or cs j d) (changes_next p k) ∙ go (cases_lt j k) (changes_at p j k d)
  where
    go : (j < k) ⊎ (k ≤ j) → (j < k → get_or (changes_to p k) j d ≡ change_at p j) → get_or (changes_to p k ++ change_at p k ∷ []) j d ≡ change_at p j
    go (inl less) rest =
        let count = changes_length p k in
        get_or_append_left (changes_to p k) (change_at p k ∷ []) d j (omega arith) ∙ rest less
    go (inr more) rest =
        let same : j ≡ k = omega arith in
        let count : length (changes_to p k) ≡ j = changes_length p k ∙ sym same in
        get_or_push (changes_to p k) (change_at p k) d j count ∙ ap (change_at p) (sym same)

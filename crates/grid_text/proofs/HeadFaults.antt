-- A header without a key that is needed.
use Rattle.std.proofs.Common.{◌≡◌, ℕ, List, [], ◌∷◌, Option, Some, None, Result, Ok, Err, refl, sym, ap, ◌∙◌, inl, inr}
use Rattle.std.specs.Prelude.{◌⊎◌}
use Rattle.grid_text.specs.Heads.{Head, head_in, null_or_default}
use Rattle.grid_text.specs.Faults.{Fault, key, or_fault, ◌>>=◌}
use Rattle.grid_text.specs.Pairs.{Entry}
use Rattle.grid_text.specs.Pairs as pairs
use Rattle.grid_text.specs.BadKeys.{Lacks}
use Rattle.grid_text.specs.declared.Corner.{Corner}
use Rattle.grid_text.specs.declared.found.Found.{Found}
use Rattle.grid_text.proofs.Entries.{listed, Holds}

-- where a step failed
refused_at : {A B : Type 0} (fault : Fault) (o : Option A) (f : A → Result B Fault) (e : Fault) → (or_fault fault o >>= f) ≡ Err e → ((o ≡ None) × (fault ≡ e)) ⊎ ((a : A) × (o ≡ Some a) × (f a ≡ Err e))
refused_at fault None f e h = inl (refl, cc)
refused_at fault (Some a) f e h = inr (a, refl, h)

none_listed : {A : Type 0} (entry : A → Entry) (o : Option A) (l : List Entry) → l ≡ listed entry o → o ≡ None → l ≡ []
none_listed entry o l h n = h ∙ ap (listed entry) n

never_whole : (h : Head) (e : Fault) → (let r : Result Head Fault = Ok h in r ≡ Err e) → ⊥
never_whole h e x = cc

pub head-lacks : (end : ℕ) (f : Found) (entries : List Entry) (fault : Fault) → Holds f entries → head_in end f ≡ Err fault → Lacks entries × (key end ≡ fault)
head-lacks end f entries fault h e =
    let made : ℕ → ℕ → Corner → Corner → List ℕ → Head = λ c r x y s. record { header = record { x = x; y = y; size = s }; size = record { rows = r; columns = c }; null = null_or_default f.null } in
    elim (refused_at (key end) f.columns (λ c. or_fault (key end) f.rows >>= λ r. or_fault (key end) f.x >>= λ x. or_fault (key end) f.y >>= λ y. or_fault (key end) f.size >>= λ s. Ok (made c r x y s)) fault e) [
      | inl n ↦ (inl (none_listed pairs.columns f.columns _ h.columns n.0), n.1)
      | inr c ↦
          elim (refused_at (key end) f.rows (λ r. or_fault (key end) f.x >>= λ x. or_fault (key end) f.y >>= λ y. or_fault (key end) f.size >>= λ s. Ok (made c.0 r x y s)) fault c.2) [
            | inl n ↦ (inr (inl (none_listed pairs.rows f.rows _ h.rows n.0)), n.1)
            | inr r ↦
                elim (refused_at (key end) f.x (λ x. or_fault (key end) f.y >>= λ y. or_fault (key end) f.size >>= λ s. Ok (made c.0 r.0 x y s)) fault r.2) [
                  | inl n ↦ (inr (inr (inl (none_listed pairs.x f.x _ h.x n.0))), n.1)
                  | inr x ↦
                      elim (refused_at (key end) f.y (λ y. or_fault (key end) f.size >>= λ s. Ok (made c.0 r.0 x.0 y s)) fault x.2) [
                        | inl n ↦ (inr (inr (inr (inl (none_listed pairs.y f.y _ h.y n.0)))), n.1)
                        | inr y ↦
                            elim (refused_at (key end) f.size (λ s. Ok (made c.0 r.0 x.0 y.0 s)) fault y.2) [
                              | inl n ↦ (inr (inr (inr (inr (none_listed pairs.size f.size _ h.size n.0)))), n.1)
                              | inr s ↦ absurd (never_whole (made c.0 r.0 x.0 y.0 s.0) fault s.2)
                            ]
                      ]
                ]
          ]
    ]

listed_none : {A : Type 0} (entry : A → Entry) (o : Option A) (l : List Entry) → l ≡ listed entry o → l ≡ [] → o ≡ None
listed_none entry None l h n = refl
listed_none entry (Some a) l h n = let both : entry a ∷ [] ≡ [] = sym h ∙ n in absurd cc

step : {A B : Type 0} (fault : Fault) (o : Option A) (f : A → Result B Fault) → ((a : A) → f a ≡ Err fault) → (or_fault fault o >>= f) ≡ Err fault
step fault None f h = refl
step fault (Some a) f h = h a

stop : {A B : Type 0} (fault : Fault) (o : Option A) (f : A → Result B Fault) → o ≡ None → (or_fault fault o >>= f) ≡ Err fault
stop fault o f n = ap (λ o. or_fault fault o >>= f) n

pub lacks-head : (end : ℕ) (f : Found) (entries : List Entry) → Holds f entries → Lacks entries → head_in end f ≡ Err (key end)
lacks-head end f entries h (inl n) = stop (key end) f.columns _ (listed_none pairs.columns f.columns _ h.columns n)
lacks-head end f entries h (inr (inl n)) = step (key end) f.columns _ (λ c. stop (key end) f.rows _ (listed_none pairs.rows f.rows _ h.rows n))
lacks-head end f entries h (inr (inr (inl n))) = step (key end) f.columns _ (λ c. step (key end) f.rows _ (λ r. stop (key end) f.x _ (listed_none pairs.x f.x _ h.x n)))
lacks-head end f entries h (inr (inr (inr (inl n)))) =
    step (key end) f.columns _ (λ c. step (key end) f.rows _ (λ r. step (key end) f.x _ (λ x. stop (key end) f.y _ (listed_none pairs.y f.y _ h.y n))))
lacks-head end f entries h (inr (inr (inr (inr n)))) =
    step (key end) f.columns _ (λ c. step (key end) f.rows _ (λ r. step (key end) f.x _ (λ x. step (key end) f.y _ (λ y. stop (key end) f.size _ (listed_none pairs.size f.size _ h.size n)))))

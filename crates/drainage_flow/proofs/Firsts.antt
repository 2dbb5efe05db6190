-- What cells bring, one place after another.
use Rattle.std.proofs.Common.{◌≡◌, ℕ, ◌+◌, ◌<◌, List, [], ◌∷◌, ◌++◌, length, get_or, sym, ◌∙◌, ap, arith, inl, inr, ℤ, pos}
use Rattle.std.proofs.lemmas.Bool.{cases_lt}
use Rattle.std.proofs.lemmas.List.{get_or_append_left, get_or_push, length-append}
use Rattle.map_nums.specs.Grids.{Cells, cell_at}
use Rattle.drainage_flow.specs.FlowNets.{IsSmall, brought}
use Rattle.drainage_flow.specs.Pouring.{flow_in}
use Rattle.drainage_flow.specs.First.{AreBrought}

-- ---- one more place

more_of : {A : Type 0} (d : A) (f : ℕ → A) (n : ℕ) (xs : List A) (x : A) → length xs ≡ n → ((c : ℕ) → c < n → get_or xs c d ≡ f c) → x ≡ f n → (c : ℕ) → c < n + 1 → get_or (xs ++ x ∷ []) c d ≡ f c
more_of d f n xs x e below here c l = elim (cases_lt c n) as (λ _. get_or (xs ++ x ∷ []) c d ≡ f c) [
  | inl h ↦ get_or_append_left xs (x ∷ []) d c (omega (arith, e, h)) ∙ below c h
  | inr h ↦ (let q : c ≡ n = omega arith in get_or_push xs x d c (e ∙ sym q) ∙ here ∙ ap f (sym q))
]

pub brought_more : (surface weights : Cells) (n : ℕ) (amounts new : List ℤ) (z : ℤ) → AreBrought surface weights n amounts → z ≡ brought (cell_at surface n) (cell_at weights n) → IsSmall z → new ≡ amounts ++ z ∷ [] → AreBrought surface weights (n + 1) new
brought_more surface weights n amounts new z b e s q = rw (q)
    record {
      count = length-append amounts (z ∷ []) ∙ omega (arith, b.count);
      each = more_of (pos 0) (λ c. brought (cell_at surface c) (cell_at weights c)) n amounts z b.count b.each e;
      small = λ c m. elim (cases_lt c n) as (λ _. IsSmall (flow_in (amounts ++ z ∷ []) c)) [
        | inl k ↦ rw (get_or_append_left amounts (z ∷ []) (pos 0) c (omega (arith, b.count, k))) (b.small c k)
        | inr k ↦ rw (get_or_push amounts z (pos 0) c (omega (arith, b.count, k, m))) s
      ];
    }

-- Two lists side by side, in a loop over their zip.
use Rattle.std.proofs.Common.{◌≡◌, ℕ, min, List, [], ◌++◌, length, drop, ap, ◌∙◌, sym, arith}
use Rattle.std.proofs.lemmas.List.{at_drop_all, append-nil}

-- a text that is put pair by pair: at the end nothing of it is left
pub all_put : {A B : Type 0} (F : List A → List B → List ℕ) (xs : List A) (ys : List B) (n : ℕ) (text whole : List ℕ) → n ≡ min (length xs) (length ys) → length ys ≡ length xs → F [] [] ≡ [] → text ++ F (drop n xs) (drop n ys) ≡ whole → text ≡ whole
all_put {A} {B} F xs ys n text whole end same none left =
    let first : drop n xs ≡ [] = at_drop_all (λ (zs : List A). zs) xs n (omega arith) in
    let second : drop n ys ≡ [] = at_drop_all (λ (zs : List B). zs) ys n (omega arith) in
    sym (append-nil text) ∙ ap (λ (rest : List ℕ). text ++ rest) (sym (ap (λ (zs : List A). F zs (drop n ys)) first ∙ ap (F []) second ∙ none)) ∙ left

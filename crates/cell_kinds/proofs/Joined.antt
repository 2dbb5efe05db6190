-- Runs of which those of one cell that follow one another are put together.
use Rattle.std.proofs.Common.{◌≡◌, ℕ, zero, suc, ◌+◌, ◌<◌, ◌≤◌, Bool, true, false, List, [], ◌∷◌, ◌++◌, length, get_or, drop, replicate, map, refl, sym, ◌∙◌, ap, subst, arith, ℤ, Option, append_assoc, length-append}
use Rattle.std.specs.Prelude.{if◌then◌else◌}
use Rattle.std.proofs.lemmas.Bool.{false_from_ne_true}
use Rattle.std.proofs.lemmas.List.{drop_more, length-replicate}
use Rattle.map_nums.specs.Grids.{Cells}
use Rattle.map_defs.specs.Cells.{same_cell}
use Rattle.cell_kinds.specs.declared.kinds.Kind.{Kind}
use Rattle.cell_kinds.specs.declared.kinds.Run.{Run}
use Rattle.cell_kinds.specs.Counted.{kind_from}
use Rattle.cell_kinds.specs.Runs.{put_front, runs_of}
use Rattle.cell_kinds.specs.Expanded.{expanded}
use Rattle.cell_kinds.proofs.Compared.{cell_itself, cell_is}

-- the runs with n more of a cell in front
abbrev pub put_run : Option ℤ → ℕ → List (Option ℤ × ℕ) → List (Option ℤ × ℕ)
put_run c n [] = (c, n) ∷ []
put_run c n (e ∷ es) = if same_cell c e.0 then (c, n + e.1) ∷ es else (c, n) ∷ e ∷ es

front_run : (c : Option ℤ) (es : List (Option ℤ × ℕ)) → put_front same_cell c es ≡ put_run c 1 es
front_run c [] = refl
front_run c (e ∷ es) = by_test (same_cell c e.0) refl
  where
    by_test : (b : Bool) → same_cell c e.0 ≡ b → put_front same_cell c (e ∷ es) ≡ put_run c 1 (e ∷ es)
    by_test true h = rw h (let k : e.1 + 1 ≡ 1 + e.1 = omega arith in ap (λ (k : ℕ). (c, k) ∷ es) k)
    by_test false h = rw h refl

run_same : (c : Option ℤ) (n m : ℕ) (es : List (Option ℤ × ℕ)) → put_run c n (put_run c m es) ≡ put_run c (n + m) es
run_same c n m [] = rw (cell_itself c) refl
run_same c n m (e ∷ es) = by_test (same_cell c e.0) refl
  where
    by_test : (b : Bool) → same_cell c e.0 ≡ b → put_run c n (put_run c m (e ∷ es)) ≡ put_run c (n + m) (e ∷ es)
    by_test true h = rw (h, cell_itself c) (let k : n + (m + e.1) ≡ n + m + e.1 = omega arith in ap (λ (k : ℕ). (c, k) ∷ es) k)
    by_test false h = rw (h, cell_itself c) refl

run_other : (c d : Option ℤ) (n m : ℕ) (es : List (Option ℤ × ℕ)) → same_cell c d ≡ false → put_run c n (put_run d m es) ≡ (c, n) ∷ put_run d m es
run_other c d n m [] t = rw t refl
run_other c d n m (e ∷ es) t = by_test (same_cell d e.0) refl
  where
    by_test : (b : Bool) → same_cell d e.0 ≡ b → put_run c n (put_run d m (e ∷ es)) ≡ (c, n) ∷ put_run d m (e ∷ es)
    by_test true h = rw (h, t) refl
    by_test false h = rw (h, t) refl

runs_of-repeated : (n : ℕ) (c : Option ℤ) (ys : Cells) → 0 < n → runs_of same_cell (replicate n c ++ ys) ≡ put_run c n (runs_of same_cell ys)
runs_of-repeated zero c ys l = absurd (omega arith)
runs_of-repeated (suc zero) c ys l = front_run c (runs_of same_cell ys)
runs_of-repeated (suc (suc n)) c ys l =
    let rest = runs_of same_cell ys in
    let e : 1 + suc n ≡ suc (suc n) = omega arith in
    ap (λ (es : List (Option ℤ × ℕ)). put_front same_cell c es) (runs_of-repeated (suc n) c ys (omega arith))
    ∙ front_run c (put_run c (suc n) rest)
    ∙ run_same c 1 (suc n) rest
    ∙ ap (λ (k : ℕ). put_run c k rest) e

-- the kinds that are done, and the one in hand before the runs that are left
pub record IsJoined (runs : List Run) (done : List Kind) (kind : Kind) (left : List Run) : Type 0 where
  pub all : map kind_from (runs_of same_cell (expanded runs)) ≡ done ++ map kind_from (put_run kind.cell kind.count (runs_of same_cell (expanded left)))
  pub few : kind.count + length (expanded left) ≤ length (expanded runs)

expanded_length : (r : Run) (rs : List Run) → length (expanded (r ∷ rs)) ≡ r.count + length (expanded rs)
expanded_length r rs = omega (arith, length-append (replicate r.count r.cell) (expanded rs), length-replicate r.count r.cell)

pub joined_first : (r : Run) (rs : List Run) → 0 < r.count → IsJoined (r ∷ rs) [] (record { cell = r.cell; count = r.count }) rs
joined_first r rs l = record {
  all = ap (λ (es : List (Option ℤ × ℕ)). map kind_from es) (runs_of-repeated r.count r.cell (expanded rs) l);
  few = omega (arith, expanded_length r rs);
}

module _ (runs : List Run) (done : List Kind) (kind : Kind) where
  pub joined_next : (rest : List Run) (i : ℕ) (r : Run) → i < length rest → r ≡ get_or rest i r → IsJoined runs done kind (drop i rest) → IsJoined runs done kind (r ∷ drop (i + 1) rest)
  joined_next rest i r l e g = subst (λ (left : List Run). IsJoined runs done kind left) (drop_more rest i r l ∙ ap (λ (s : Run). s ∷ drop (i + 1) rest) (sym e)) g

  module _ (r : Run) (left : List Run) (l : 0 < r.count) (g : IsJoined runs done kind (r ∷ left)) where
    one_by_one : map kind_from (runs_of same_cell (expanded runs)) ≡ done ++ map kind_from (put_run kind.cell kind.count (put_run r.cell r.count (runs_of same_cell (expanded left))))
    one_by_one =
        g.all ∙ ap (λ (es : List (Option ℤ × ℕ)). done ++ map kind_from (put_run kind.cell kind.count es)) (runs_of-repeated r.count r.cell (expanded left) l)

    pub joined_same : r.cell ≡ kind.cell → IsJoined runs done (record { cell = kind.cell; count = kind.count + r.count }) left
    joined_same e =
        let rest = runs_of same_cell (expanded left) in
        record {
          all =
              one_by_one
              ∙ ap (λ (c : Option ℤ). done ++ map kind_from (put_run kind.cell kind.count (put_run c r.count rest))) e
              ∙ ap (λ (es : List (Option ℤ × ℕ)). done ++ map kind_from es) (run_same kind.cell kind.count r.count rest);
          few = omega (arith, g.few, expanded_length r left);
        }

    pub joined_other : (next : List Kind) → (r.cell ≡ kind.cell → ⊥) → next ≡ done ++ kind ∷ [] → IsJoined runs next (record { cell = r.cell; count = r.count }) left
    joined_other next ne n =
        let rest = runs_of same_cell (expanded left) in
        let t : same_cell kind.cell r.cell ≡ false = false_from_ne_true (same_cell kind.cell r.cell) (λ u. ne (sym (cell_is kind.cell r.cell u))) in
        record {
          all =
              one_by_one
              ∙ ap (λ (es : List (Option ℤ × ℕ)). done ++ map kind_from es) (run_other kind.cell r.cell kind.count r.count rest t)
              ∙ sym (append_assoc done (kind ∷ []) (map kind_from (put_run r.cell r.count rest)))
              ∙ ap (λ (ks : List Kind). ks ++ map kind_from (put_run r.cell r.count rest)) (sym n);
          few = omega (arith, g.few, expanded_length r left);
        }

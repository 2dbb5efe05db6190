-- The rows of a grid's text.
use Rattle.std.proofs.Common.{◌≡◌, ℕ, zero, suc, ◌+◌, ◌*◌, List, [], take, drop, map, refl, sym, ap, ◌∙◌, ◌++◌, arith, append_assoc, add-one, codes}
use Rattle.std.specs.List.{flat_map, range_with_len}
use Rattle.std.proofs.lemmas.List.{append-nil}
use Rattle.map_nums.specs.Grids.{Size, Cells}
use Rattle.grid_text.specs.declared.Header.{Header}
use Rattle.grid_text.specs.Printed.{cell_text, spaced, row_text, header_text, rows_text, grid_text}

-- one more piece
rows-more : (f : ℕ → List ℕ) (a n : ℕ) → flat_map f (range_with_len a (suc n)) ≡ flat_map f (range_with_len a n) ++ f (a + n)
rows-more f a zero = append-nil (f a) ∙ ap f (omega arith)
rows-more f a (suc n) =
    ap (λ rest. f a ++ rest) (rows-more f (a + 1) n)
    ∙ sym (append_assoc (f a) (flat_map f (range_with_len (a + 1) n)) (f (a + 1 + n)))
    ∙ ap (λ i. (f a ++ flat_map f (range_with_len (a + 1) n)) ++ f i) (omega arith)

-- one more row
pub next_row : (start text now : List ℕ) (s : Size) (cells : Cells) (r : ℕ) → text ≡ start ++ flat_map (row_text s cells) (range_with_len 0 r) → now ≡ text ++ row_text s cells r → now ≡ start ++ flat_map (row_text s cells) (range_with_len 0 (r + 1))
next_row start text now s cells r t n =
    let f = row_text s cells in
    let before = flat_map f (range_with_len 0 r) in
    rw (n, t, add-one)
    (append_assoc start before (f r) ∙ ap (λ x. start ++ x) (sym (rows-more f 0 r ∙ ap (λ i. before ++ f i) (omega arith))))

-- the header, and all rows
pub whole_text : (start middle text : List ℕ) (h : Header) (e s : Size) (cells : Cells) → start ≡ [] → middle ≡ start ++ header_text h e → e ≡ s → text ≡ middle ++ rows_text s cells → text ≡ grid_text h s cells
unfolding grid_text
whole_text start middle text h e s cells a m z t = rw (t, m, a, z) refl

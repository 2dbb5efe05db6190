-- A line of cells, each with a blank after it until the line ends.
use Rattle.std.proofs.Common.{◌≡◌, ◌<◌, ◌-◌, ◌+◌, ℕ, List, [], ◌∷◌, ◌++◌, length, take, map, Option, ℤ, sym, ap, ◌∙◌, append_assoc, length-append, codes, arith}
use Rattle.std.proofs.lemmas.List.{append-nil, take_at}
use Rattle.std.proofs.lemmas.List.Concat.{flat_map-append}
use Rattle.map_nums.specs.Grids.{Cells}
use Rattle.grid_text.specs.Blanks.{blanked}
use Rattle.grid_text.specs.Printed.{spaced, cell_text}

-- the cells of one more tile
pub next_piece : (start text now : List ℕ) (row piece next : Cells) → text ≡ start ++ blanked row → now ≡ text ++ blanked piece → row ++ piece ≡ next → now ≡ start ++ blanked next
next_piece start text now row piece next t n e =
    n ∙ ap (λ x. x ++ blanked piece) t ∙ append_assoc start (blanked row) (blanked piece)
    ∙ ap (λ x. start ++ x) (sym (flat_map-append (λ (z : Option ℤ). cell_text z ++ codes " ") row piece) ∙ ap blanked e)

blanked-spaced : (cells : Cells) → 0 < length cells → blanked cells ≡ spaced (map cell_text cells) ++ codes " "
blanked-spaced [] l = absurd (omega (arith, l))
blanked-spaced (x ∷ []) l = append-nil (cell_text x ++ codes " ")
blanked-spaced (x ∷ y ∷ cells) l = rw (blanked-spaced (y ∷ cells) (omega arith)) (simp append_assoc)

-- a line feed in place of the last blank
pub ended_line : (start text now : List ℕ) (cells : Cells) → 0 < length cells → text ≡ start ++ blanked cells → now ≡ take (length text - 1) text ++ codes "\n" → now ≡ start ++ (spaced (map cell_text cells) ++ codes "\n")
ended_line start text now cells l t n =
    let words = spaced (map cell_text cells) in
    let front = start ++ words in
    let split : text ≡ front ++ codes " " = t ∙ ap (λ x. start ++ x) (blanked-spaced cells l) ∙ sym (append_assoc start words (codes " ")) in
    let kept : take (length text - 1) text ≡ front = ap (λ (x : List ℕ). take (length x - 1) x) split ∙ take_at front (codes " ") (length (front ++ codes " ") - 1) (omega (arith, length-append front (codes " "))) in
    n ∙ ap (λ x. x ++ codes "\n") kept ∙ append_assoc start words (codes "\n")

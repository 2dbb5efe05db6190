-- Whole texts of displays.
use Rattle.std.proofs.Common.{◌≡◌, ℕ, ◌+◌, ◌*◌, ◌<◌, ◌≤◌, List, [], ◌∷◌, ◌++◌, length, map, refl, sym, ap, ◌∙◌, append_assoc, codes, decimal, arith, ℤ, Option}
use Rattle.std.specs.List.{flat_map, range_with_len}
use Rattle.std.proofs.lemmas.List.{length-map}
use Rattle.std.proofs.lemmas.List.Folds.{flat_map-map}
use Rattle.map_nums.specs.Grids.{Size, Cells}
use Rattle.map_nums.specs.Tiles.{tiles_down, tiles_across}
use Rattle.grid_text.specs.Printed.{spaced}
use Rattle.map_defs.specs.Ops.{Name}
use Rattle.map_defs.specs.Kinds.{Pair, kinds_of, how_many, pairs_of}
use Rattle.map_edits.specs.Marks.{Mark}
use Rattle.map_machine.specs.Causes.{counted, counted_twice}
use Rattle.map_machine.specs.Signs.{sign_of}
use Rattle.map_machine.specs.Displays.{row_in, show_reply, kind_line, legend_reply, pair_line, table_reply, stamps_reply}
use Rattle.cell_kinds.specs.declared.kinds.Kind.{Kind}
use Rattle.cell_kinds.specs.declared.combinations.Combination.{Combination}
use Rattle.cell_kinds.specs.Counted.{counted_kinds, counted_pairs, combination_of}
use Rattle.map_display.specs.Lines.{counted_kind, combination_line}

-- a legend's head, and its lines
pub whole_legend : (n : Name) (cells : Cells) (labels symbols : List Mark) (kinds : List Kind) (head now : List ℕ)
    → kinds ≡ counted_kinds cells → head ≡ counted (codes "legend " ++ n) (length kinds) ++ codes "\n" → now ≡ head ++ flat_map (counted_kind n labels symbols) kinds
    → now ≡ legend_reply n cells labels symbols
whole_legend n cells labels symbols kinds head now e h m =
    let count : length kinds ≡ length (kinds_of cells) = ap length e ∙ length-map (kinds_of cells) (λ (c : Option ℤ). record { cell = c; count = how_many cells c }) in
    let lines : flat_map (counted_kind n labels symbols) kinds ≡ flat_map (kind_line n cells labels symbols) (kinds_of cells) =
    ap (flat_map (counted_kind n labels symbols)) e ∙ flat_map-map (counted_kind n labels symbols) (λ (c : Option ℤ). record { cell = c; count = how_many cells c }) (kinds_of cells) in
    m ∙ ap (λ (t : List ℕ). t ++ flat_map (counted_kind n labels symbols) kinds) h
    ∙ ap (λ (k : ℕ). (counted (codes "legend " ++ n) k ++ codes "\n") ++ flat_map (counted_kind n labels symbols) kinds) count
    ∙ ap (λ (t : List ℕ). (counted (codes "legend " ++ n) (length (kinds_of cells)) ++ codes "\n") ++ t) lines

-- a table's head, and its lines
pub whole_table : (z v : Name) (zones values : Cells) (pairs : List Combination) (head now : List ℕ)
    → pairs ≡ counted_pairs zones values → head ≡ counted ((codes "table " ++ z) ++ codes " " ++ v) (length pairs) ++ codes "\n" → now ≡ head ++ flat_map combination_line pairs
    → now ≡ table_reply z v zones values
whole_table z v zones values pairs head now e h m =
    let count : length pairs ≡ length (pairs_of zones values) = ap length e ∙ length-map (pairs_of zones values) combination_of in
    let lines : flat_map combination_line pairs ≡ flat_map pair_line (pairs_of zones values) = ap (flat_map combination_line) e ∙ flat_map-map combination_line combination_of (pairs_of zones values) in
    m ∙ ap (λ (t : List ℕ). t ++ flat_map combination_line pairs) h
    ∙ ap (λ (k : ℕ). (counted ((codes "table " ++ z) ++ codes " " ++ v) k ++ codes "\n") ++ flat_map combination_line pairs) count
    ∙ ap (λ (t : List ℕ). (counted ((codes "table " ++ z) ++ codes " " ++ v) (length (pairs_of zones values)) ++ codes "\n") ++ t) lines

-- the head of a show, and its lines
pub whole_show : (n : Name) (size : Size) (cells : Cells) (symbols : List Mark) (word room rows columns head now : List ℕ) (r c : ℕ)
    → word ≡ codes "show " ++ n → room ≡ word → rows ≡ counted room r → columns ≡ counted rows c → head ≡ columns ++ codes "\n" → r ≡ size.rows → c ≡ size.columns
    → now ≡ head ++ flat_map (λ (i : ℕ). map (sign_of symbols n) (row_in size.columns cells i) ++ codes "\n") (range_with_len 0 size.rows)
    → now ≡ show_reply n (record { size = size; cells = cells }) symbols
whole_show n size cells symbols word room rows columns head now r c e f g h k p q m =
    let lines = flat_map (λ (i : ℕ). map (sign_of symbols n) (row_in size.columns cells i) ++ codes "\n") (range_with_len 0 size.rows) in
    let first : rows ≡ counted (codes "show " ++ n) size.rows = g ∙ ap (λ (t : List ℕ). counted t r) (f ∙ e) ∙ ap (λ (i : ℕ). counted (codes "show " ++ n) i) p in
    let both : columns ≡ counted_twice (codes "show " ++ n) size.rows size.columns = h ∙ ap (λ (t : List ℕ). counted t c) first ∙ ap (λ (i : ℕ). counted (counted (codes "show " ++ n) size.rows) i) q in
    m ∙ ap (λ (t : List ℕ). t ++ lines) (k ∙ ap (λ (t : List ℕ). t ++ codes "\n") both)

-- the head of stamps, and their lines
pub whole_stamps : (n : Name) (size : Size) (stamps word rows columns head now : List ℕ) (r c : ℕ)
    → word ≡ codes "stamps " ++ n → rows ≡ counted word r → columns ≡ counted rows c → head ≡ columns ++ codes "\n" → r ≡ tiles_down size → c ≡ tiles_across size
    → now ≡ head ++ flat_map (λ (i : ℕ). spaced (map decimal (row_in (tiles_across size) stamps i)) ++ codes "\n") (range_with_len 0 (tiles_down size))
    → now ≡ stamps_reply n size stamps
whole_stamps n size stamps word rows columns head now r c e g h k p q m =
    let lines = flat_map (λ (i : ℕ). spaced (map decimal (row_in (tiles_across size) stamps i)) ++ codes "\n") (range_with_len 0 (tiles_down size)) in
    let first : rows ≡ counted (codes "stamps " ++ n) (tiles_down size) = g ∙ ap (λ (t : List ℕ). counted t r) e ∙ ap (λ (i : ℕ). counted (codes "stamps " ++ n) i) p in
    let both : columns ≡ counted_twice (codes "stamps " ++ n) (tiles_down size) (tiles_across size) = h ∙ ap (λ (t : List ℕ). counted t c) first ∙ ap (λ (i : ℕ). counted (counted (codes "stamps " ++ n) (tiles_down size)) i) q in
    m ∙ ap (λ (t : List ℕ). t ++ lines) (k ∙ ap (λ (t : List ℕ). t ++ codes "\n") both)

-- a line of a legend, part by part
pub kind_told : (start cell tail t₁ t₂ t₃ t₄ t₅ now : List ℕ) (sign k : ℕ)
    → t₁ ≡ start ++ cell → t₂ ≡ counted t₁ k → t₃ ≡ t₂ ++ codes " " → t₄ ≡ t₃ ++ sign ∷ [] → t₅ ≡ t₄ ++ tail → now ≡ t₅ ++ codes "\n"
    → now ≡ start ++ (counted cell k ++ codes " " ++ sign ∷ [] ++ tail ++ codes "\n")
kind_told start cell tail t₁ t₂ t₃ t₄ t₅ now sign k a b c d e f = rw (f, e, d, c, b, a) (simp append_assoc)

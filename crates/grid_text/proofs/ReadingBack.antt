-- What is printed reads back.
use Rattle.std.proofs.Common.{◌≡◌, ℕ, zero, suc, ◌+◌, ◌*◌, ◌<◌, Bool, true, false, List, [], ◌∷◌, ◌++◌, length, map, take, drop, Option, Some, None, ℤ, codes, decimal, refl, sym, ap, subst, ◌∙◌, arith, append_assoc, length-take, length-drop, zero-mul}
use Rattle.std.specs.Prelude.{if◌then◌else◌}
use Rattle.std.specs.Fmt.{signed_decimal}
use Rattle.std.specs.List.{flat_map, range_with_len}
use Rattle.std.proofs.lemmas.List.{drop-drop, take_all}
use Rattle.std.proofs.Math.Seq.{take-add}
use Rattle.map_nums.specs.Grids.{Size, IsSize, Cells, cells_in, cell_at}
use Rattle.layer_tiles.specs.Cells.{IsCell}
use Rattle.grid_text.specs.Grammar.{AreCells}
use Rattle.grid_text.specs.Pairs.{Entry, IsKey, Says, HasPairs, BeginsNoPair}
use Rattle.grid_text.specs.Pairs as pairs
use Rattle.grid_text.specs.Printed.{cell_text, null_number, spaced, row_text, rows_text, header_text, grid_text, x_key, y_key}
use Rattle.grid_text.specs.ReadBack.{ReadsBack}
use Rattle.grid_text.specs.Tokens.{is_white, tokens_from, tokens_of}
use Rattle.grid_text.specs.declared.Corner.{Corner}
use Rattle.grid_text.specs.declared.Header.{Header}
use Rattle.grid_text.proofs.CellTexts.{number-no_letter}
use Rattle.grid_text.proofs.DecimalWords.{decimal-word}
use Rattle.grid_text.proofs.GrammarLaw.{text-read}
use Rattle.grid_text.proofs.NumberTexts.{cell_word, cell_says, decimal_word, count_decimal, null_word, null_in_header}
use Rattle.grid_text.proofs.Splits.{token}
use Rattle.grid_text.proofs.WordTexts.{IsWord, word_first}

-- ---- the cells

-- each is null or in the range
abbrev AreInRange : Cells → Type 0
AreInRange [] = Unit {0}
AreInRange (c ∷ cells) = IsCell c × AreInRange cells

all_in_range : (cells : Cells) → ((i : ℕ) → IsCell (cell_at cells i)) → AreInRange cells
all_in_range [] each = tt
all_in_range (c ∷ cells) each = (each 0, all_in_range cells (λ i. each (suc i)))

-- cells, and what follows them
record CellsThen (n : ℕ) (bytes rest : List ℕ) (front : Cells) : Type 0 where
  next : ℕ
  are : (cells : Cells) → AreCells null_number (tokens_from next rest) cells → AreCells null_number (tokens_from n bytes) (front ++ cells)

cell_then : (n : ℕ) (c : Option ℤ) (space : ℕ) (rest : List ℕ) → IsCell c → is_white space ≡ true → CellsThen n (cell_text c ++ (space ∷ rest)) rest (c ∷ [])
cell_then n c space rest h w =
    let first = word_first n (cell_text c) space rest (cell_word c h) w in
    record { next = first.next; are = λ cells a. subst (λ ts. AreCells null_number ts (c ∷ cells)) (sym first.tokens) (cell_says c h, a) }

row_then : (n : ℕ) (c : Option ℤ) (row : Cells) (rest : List ℕ) → AreInRange (c ∷ row) → CellsThen n (spaced (map cell_text (c ∷ row)) ++ (10 ∷ rest)) rest (c ∷ row)
row_then n c [] rest h = cell_then n c 10 rest h.0 refl
row_then n c (d ∷ row) rest h =
    let tail : List ℕ = spaced (map cell_text (d ∷ row)) ++ (10 ∷ rest) in
    let first = cell_then n c 32 tail h.0 refl in
    let more = row_then first.next d row rest h.1 in
    let text : spaced (map cell_text (c ∷ d ∷ row)) ++ (10 ∷ rest) ≡ cell_text c ++ (32 ∷ tail) =
    append_assoc (cell_text c ++ codes " ") (spaced (map cell_text (d ∷ row))) (10 ∷ rest) ∙ append_assoc (cell_text c) (codes " ") tail in
    record { next = more.next; are = λ cells a. subst (λ bytes. AreCells null_number (tokens_from n bytes) ((c ∷ d ∷ row) ++ cells)) (sym text) (first.are ((d ∷ row) ++ cells) (more.are cells a)) }

line_then : (n : ℕ) (row : Cells) (rest : List ℕ) → 0 < length row → AreInRange row → CellsThen n ((spaced (map cell_text row) ++ codes "\n") ++ rest) rest row
line_then n [] rest some h = absurd (omega (arith, some))
line_then n (c ∷ row) rest some h =
    let line = row_then n c row rest h in
    record { next = line.next; are = λ cells a. subst (λ bytes. AreCells null_number (tokens_from n bytes) ((c ∷ row) ++ cells)) (sym (append_assoc (spaced (map cell_text (c ∷ row))) (codes "\n") rest)) (line.are cells a) }

in_range_take : (k : ℕ) (cells : Cells) → AreInRange cells → AreInRange (take k cells)
in_range_take zero cells h = tt
in_range_take (suc k) [] h = tt
in_range_take (suc k) (c ∷ cells) h = (h.0, in_range_take k cells h.1)

in_range_drop : (k : ℕ) (cells : Cells) → AreInRange cells → AreInRange (drop k cells)
in_range_drop zero cells h = h
in_range_drop (suc k) [] h = tt
in_range_drop (suc k) (c ∷ cells) h = in_range_drop k cells h.1

row_length : (columns a m : ℕ) (cells : Cells) → length cells ≡ (a + suc m) * columns → length (take columns (drop (a * columns) cells)) ≡ columns
row_length columns a m cells n =
    let whole : (a + suc m) * columns ≡ a * columns + (columns + m * columns) = omega arith in
    let left : length (drop (a * columns) cells) ≡ columns + m * columns = length-drop (a * columns) cells ∙ omega (arith, n, whole) in
    length-take columns (drop (a * columns) cells) ∙ omega (arith, left)

rows_join : (columns a m : ℕ) (cells : Cells) → take (suc m * columns) (drop (a * columns) cells) ≡ take columns (drop (a * columns) cells) ++ take (m * columns) (drop ((a + 1) * columns) cells)
rows_join columns a m cells =
    let count : suc m * columns ≡ columns + m * columns = omega arith in
    let start : a * columns + columns ≡ (a + 1) * columns = omega arith in
    ap (λ k. take k (drop (a * columns) cells)) count
    ∙ take-add columns (m * columns) (drop (a * columns) cells)
    ∙ ap (λ cs. take columns (drop (a * columns) cells) ++ take (m * columns) cs) (drop-drop columns (a * columns) cells ∙ ap (λ k. drop k cells) start)

-- the rows from a on
rows_are : (m a n : ℕ) (s : Size) (cells : Cells) → AreInRange cells → 0 < s.columns → length cells ≡ (a + m) * s.columns → AreCells null_number (tokens_from n (flat_map (row_text s cells) (range_with_len a m))) (take (m * s.columns) (drop (a * s.columns) cells))
rows_are zero a n s cells h some count = subst (λ k. AreCells null_number [] (take k (drop (a * s.columns) cells))) (sym (zero-mul s.columns)) tt
rows_are (suc m) a n s cells h some count =
    let row : Cells = take s.columns (drop (a * s.columns) cells) in
    let rest : List ℕ = flat_map (row_text s cells) (range_with_len (a + 1) m) in
    let size : length row ≡ s.columns = row_length s.columns a m cells count in
    let line = line_then n row rest (omega (arith, size, some)) (in_range_take s.columns (drop (a * s.columns) cells) (in_range_drop (a * s.columns) cells h)) in
    let more = rows_are m (a + 1) line.next s cells h some (count ∙ ap (λ k. k * s.columns) (omega arith)) in
    subst (AreCells null_number (tokens_from n ((spaced (map cell_text row) ++ codes "\n") ++ rest))) (sym (rows_join s.columns a m cells)) (line.are _ more)

grid_cells : (n : ℕ) (s : Size) (cells : Cells) → AreInRange cells → IsSize s → length cells ≡ cells_in s → AreCells null_number (tokens_from n (rows_text s cells)) cells
grid_cells n s cells h z count =
    let all : take (s.rows * s.columns) (drop (0 * s.columns) cells) ≡ cells = ap (λ k. take (s.rows * s.columns) (drop k cells)) (zero-mul s.columns) ∙ take_all (s.rows * s.columns) cells (omega (arith, count)) in
    subst (AreCells null_number (tokens_from n (rows_text s cells))) all (rows_are s.rows 0 n s cells h z.some_column (count ∙ ap (λ k. k * s.columns) (omega arith)))

cells_no_pair : (tokens : List _) (cells : Cells) → AreCells null_number tokens cells → BeginsNoPair tokens
cells_no_pair [] cells h = tt
cells_no_pair (t ∷ tokens) [] h = absurd h
cells_no_pair (t ∷ tokens) (None ∷ cells) h = number-no_letter t.text null_number h.0
cells_no_pair (t ∷ tokens) (Some z ∷ cells) h = number-no_letter t.text z h.0.0

-- ---- the header

-- a line of a key and its value, and the lines after it
record LineThen (n : ℕ) (bytes rest : List ℕ) (e : Entry) : Type 0 where
  next : ℕ
  say : (entries : List Entry) (left : List _) → HasPairs (tokens_from next rest) entries left → HasPairs (tokens_from n bytes) (e ∷ entries) left

line_says : (n : ℕ) (name value rest : List ℕ) (e : Entry) → IsWord name → IsWord value → Says name value e → LineThen n (name ++ (32 ∷ (value ++ (10 ∷ rest)))) rest e
line_says n name value rest e a b s =
    let first = word_first n name 32 (value ++ (10 ∷ rest)) a refl in
    let second = word_first first.next value 10 rest b refl in
    record { next = second.next; say = λ entries left h. subst (λ ts. HasPairs ts (e ∷ entries) left) (sym (first.tokens ∙ ap (λ ts. token n name ∷ ts) second.tokens)) (s, h) }

abbrev x_name : Bool → List ℕ
x_name center = if center then codes "xllcenter" else codes "xllcorner"

abbrev y_name : Bool → List ℕ
y_name center = if center then codes "yllcenter" else codes "yllcorner"

x_is_word : (center : Bool) → IsWord (x_name center)
x_is_word true = record { some = omega arith; solid = refl }
x_is_word false = record { some = omega arith; solid = refl }

y_is_word : (center : Bool) → IsWord (y_name center)
y_is_word true = record { some = omega arith; solid = refl }
y_is_word false = record { some = omega arith; solid = refl }

x_is_key : (center : Bool) → IsKey (x_name center) (x_name center)
x_is_key true = refl
x_is_key false = refl

y_is_key : (center : Bool) → IsKey (y_name center) (y_name center)
y_is_key true = refl
y_is_key false = refl

x_key-name : (c : Corner) → x_key c ≡ x_name c.center ++ codes " "
x_key-name c = name_then c.center
  where
    name_then : (b : Bool) → (if b then codes "xllcenter " else codes "xllcorner ") ≡ x_name b ++ codes " "
    name_then true = refl
    name_then false = refl

y_key-name : (c : Corner) → y_key c ≡ y_name c.center ++ codes " "
y_key-name c = name_then c.center
  where
    name_then : (b : Bool) → (if b then codes "yllcenter " else codes "yllcorner ") ≡ y_name b ++ codes " "
    name_then true = refl
    name_then false = refl

abbrev line : List ℕ → List ℕ → List ℕ → List ℕ
line name value rest = name ++ (32 ∷ (value ++ (10 ∷ rest)))

abbrev lines : Header → Size → List ℕ → List ℕ
lines h s rest =
    line (codes "ncols") (decimal s.columns) (line (codes "nrows") (decimal s.rows) (line (x_name h.x.center) h.x.text (line (y_name h.y.center) h.y.text
    (line (codes "cellsize") h.size (line (codes "NODATA_value") (signed_decimal null_number) rest)))))

regroup : (a b c d e x xs f g y ys h k l m n o rest : List ℕ)
    → (a ++ b ++ c ++ d ++ e ++ (x ++ xs) ++ f ++ g ++ (y ++ ys) ++ h ++ k ++ l ++ m ++ n ++ o) ++ rest
    ≡ a ++ (b ++ (c ++ (d ++ (e ++ (x ++ (xs ++ (f ++ (g ++ (y ++ (ys ++ (h ++ (k ++ (l ++ (m ++ (n ++ (o ++ rest))))))))))))))))
regroup a b c d e x xs f g y ys h k l m n o rest = simp append_assoc

by_lines : (h : Header) (s : Size) (rest : List ℕ) → header_text h s ++ rest ≡ lines h s rest
by_lines h s rest =
    rw (x_key-name h.x, y_key-name h.y)
    (regroup (codes "ncols ") (decimal s.columns) (codes "\nnrows ") (decimal s.rows) (codes "\n") (x_name h.x.center) (codes " ") h.x.text (codes "\n") (y_name h.y.center) (codes " ") h.y.text
    (codes "\ncellsize ") h.size (codes "\nNODATA_value ") (signed_decimal null_number) (codes "\n") rest)

pub reads_back : ReadsBack
unfolding grid_text
reads_back h s cells header z count range =
    let rows : List ℕ = rows_text s cells in
    let l6 : List ℕ = line (codes "NODATA_value") (signed_decimal null_number) rows in
    let l5 : List ℕ = line (codes "cellsize") h.size l6 in
    let l4 : List ℕ = line (y_name h.y.center) h.y.text l5 in
    let l3 : List ℕ = line (x_name h.x.center) h.x.text l4 in
    let l2 : List ℕ = line (codes "nrows") (decimal s.rows) l3 in
    let a = line_says 1 (codes "ncols") (decimal s.columns) l2 (pairs.columns s.columns) (record { some = omega arith; solid = refl }) (decimal_word s.columns (omega (arith, z.most_columns))) (refl, count_decimal s.columns z.most_columns) in
    let b = line_says a.next (codes "nrows") (decimal s.rows) l3 (pairs.rows s.rows) (record { some = omega arith; solid = refl }) (decimal_word s.rows (omega (arith, z.most_rows))) (refl, count_decimal s.rows z.most_rows) in
    let c = line_says b.next (x_name h.x.center) h.x.text l4 (pairs.x h.x) (x_is_word h.x.center) (decimal-word h.x.text header.x) (x_is_key h.x.center, header.x, refl) in
    let d = line_says c.next (y_name h.y.center) h.y.text l5 (pairs.y h.y) (y_is_word h.y.center) (decimal-word h.y.text header.y) (y_is_key h.y.center, header.y, refl) in
    let e = line_says d.next (codes "cellsize") h.size l6 (pairs.size h.size) (record { some = omega arith; solid = refl }) (decimal-word h.size header.size) (refl, header.size, refl) in
    let f = line_says e.next (codes "NODATA_value") (signed_decimal null_number) rows (pairs.null null_number) (record { some = omega arith; solid = refl }) null_word (refl, null_in_header) in
    let cs = grid_cells f.next s cells (all_in_range cells range.each) z count in
    let left = tokens_from f.next rows in
    let e6 : List Entry = pairs.null null_number ∷ [] in
    let e5 : List Entry = pairs.size h.size ∷ e6 in
    let e4 : List Entry = pairs.y h.y ∷ e5 in
    let e3 : List Entry = pairs.x h.x ∷ e4 in
    let e2 : List Entry = pairs.rows s.rows ∷ e3 in
    text-read (grid_text h s cells) (record { header = h; grid = record { size = s; cells = cells } }) (record {
      entries = pairs.columns s.columns ∷ e2;
      rest = left;
      null = null_number;
      pairs = subst (λ bytes. HasPairs (tokens_of bytes) (pairs.columns s.columns ∷ e2) left) (sym (by_lines h s rows))
          (a.say e2 left (b.say e3 left (c.say e4 left (d.say e5 left (e.say e6 left (f.say [] left refl))))));
      ends = cells_no_pair left cells cs;
      header = record { columns = refl; rows = refl; x = refl; y = refl; size = refl; null = refl };
      limits = z;
      cells = cs;
      count = count;
    })

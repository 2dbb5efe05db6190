-- A grid's text is read as its header and its cells.
use Rattle.std.proofs.Common.{◌≡◌, ℕ, suc, ◌+◌, ◌^◌, ◌==◌, true, false, ℤ, pos, negsuc, w64, to_z, of_z, List, [], ◌∷◌, length, Option, Result, Ok, Err, refl, sym, ap, subst, ◌∙◌, ⊎_elim, inl, inr, arith}
use Rattle.std.proofs.lemmas.Bool.{cond-true, cond-false, cases_Bool, and_parts, and_from, lt-ltb, le-leb, ltb-true, leb-true, eqb-true}
use Rattle.std.specs.Prelude.{IsTrue, FitsSigned}
use Rattle.std.proofs.lemmas.Int.{to_z-of_z}
use Rattle.map_nums.specs.Grids.{Size, IsSize, is_size, Cells, cells_in, longest_side, largest_area}
use Rattle.layer_tiles.specs.Layers.{LayerState, layer_of}
use Rattle.grid_text.specs.Heads.{Head, pairs_in, head_in}
use Rattle.grid_text.specs.Contents.{cell_in, cells_from, grid_after, grid_in}
use Rattle.grid_text.specs.Faults.{Fault, limits, few, more, ◌>>=◌}
use Rattle.grid_text.specs.Keys.{nothing}
use Rattle.grid_text.specs.Numbers.{is_short}
use Rattle.grid_text.specs.Reads.{Refuses, Reads}
use Rattle.grid_text.specs.Tokens.{Token, tokens_of, first_at}
use Rattle.grid_text.specs.declared.GridRefusal.{GridRefusal}
use Rattle.grid_text.specs.declared.found.Found.{Found}
use Rattle.grid_text.proofs.CellLists.{refuses-same}
use Rattle.grid_text.proofs.SoundHeaders.{bind_ok, ok_is, chosen_ok, sound_nothing, sound_pairs, sound_head}

pub is_size-true : (s : Size) → IsSize s → is_size s ≡ true
is_size-true s h =
    and_from _ _
    (and_from _ _ (and_from _ _ (and_from _ _ (lt-ltb 0 s.rows h.some_row) (le-leb s.rows longest_side h.most_rows)) (lt-ltb 0 s.columns h.some_column))
    (le-leb s.columns longest_side h.most_columns))
    (le-leb (cells_in s) largest_area h.most_cells)

pub IsSize-true : (s : Size) → is_size s ≡ true → IsSize s
IsSize-true s e =
    let a = and_parts _ _ e in
    let b = and_parts _ _ a.0 in
    let c = and_parts _ _ b.0 in
    let d = and_parts _ _ c.0 in
    record { some_row = ltb-true _ _ d.0; most_rows = leb-true _ _ d.1; some_column = ltb-true _ _ c.1; most_columns = leb-true _ _ b.1; most_cells = leb-true _ _ a.1 }

pub is_size-false : (s : Size) → (IsSize s → ⊥) → is_size s ≡ false
is_size-false s n = ⊎_elim (λ t. absurd (n (IsSize-true s t))) (λ f. f) (cases_Bool (is_size s))

pub grid_in-pairs : (bytes : List ℕ) (refusal : GridRefusal) → Refuses refusal (pairs_in (length bytes + 1) nothing (tokens_of bytes)) → Refuses refusal (grid_in bytes)
unfolding grid_in
grid_in-pairs bytes refusal h =
    refuses-same refusal (pairs_in (length bytes + 1) nothing (tokens_of bytes)) (grid_in bytes)
    (λ f e. ap (λ (r : Result (Found × List Token) Fault). r >>= λ pairs. head_in (first_at (length bytes + 1) pairs.1) pairs.0 >>= λ head. grid_after head pairs.1) e) h

-- after the pairs
pub grid_in-head : (bytes : List ℕ) (found : Found) (left : List Token) → pairs_in (length bytes + 1) nothing (tokens_of bytes) ≡ Ok (found, left)
    → grid_in bytes ≡ (head_in (first_at (length bytes + 1) left) found >>= λ head. grid_after head left)
unfolding grid_in
grid_in-head bytes found left e =
    ap (λ (r : Result (Found × List Token) Fault). r >>= λ pairs. head_in (first_at (length bytes + 1) pairs.1) pairs.0 >>= λ head. grid_after head pairs.1) e

pub no_head : (bytes : List ℕ) (found : Found) (left : List Token) (end : ℕ) (refusal : GridRefusal) → pairs_in (length bytes + 1) nothing (tokens_of bytes) ≡ Ok (found, left) → end ≡ first_at (length bytes + 1) left
    → Refuses refusal (head_in end found) → Refuses refusal (grid_in bytes)
no_head bytes found left end refusal e at h =
    refuses-same refusal (head_in end found) (grid_in bytes)
    (λ f b. grid_in-head bytes found left e ∙ ap (λ (r : Result Head Fault). r >>= λ head. grid_after head left) (ap (λ n. head_in n found) (sym at) ∙ b)) h

-- after the header
pub grid_in-after : (bytes : List ℕ) (found : Found) (left : List Token) (end : ℕ) (head : Head) → pairs_in (length bytes + 1) nothing (tokens_of bytes) ≡ Ok (found, left) → end ≡ first_at (length bytes + 1) left
    → head_in end found ≡ Ok head → grid_in bytes ≡ grid_after head left
grid_in-after bytes found left end head e at h =
    grid_in-head bytes found left e ∙ ap (λ (r : Result Head Fault). r >>= λ head. grid_after head left) (ap (λ n. head_in n found) (sym at) ∙ h)

pub no_size : (head : Head) (left : List Token) → (IsSize head.size → ⊥) → grid_after head left ≡ Err (limits head.size.rows head.size.columns)
no_size head left n = cond-false _ _ _ (is_size-false head.size n)

after_size : (head : Head) (left : List Token) → IsSize head.size → grid_after head left ≡ (cells_from head.null (cells_in head.size) 0 left >>= λ cells. Ok (record { header = head.header; grid = record { size = head.size; cells = cells } }))
after_size head left z = cond-true _ _ _ (is_size-true head.size z)

pub no_cells : (bytes : List ℕ) (head : Head) (left : List Token) (need : ℕ) (refusal : GridRefusal) → grid_in bytes ≡ grid_after head left → IsSize head.size → need ≡ cells_in head.size
    → Refuses refusal (cells_from head.null need 0 left) → Refuses refusal (grid_in bytes)
no_cells bytes head left need refusal e z n h =
    refuses-same refusal (cells_from head.null need 0 left) (grid_in bytes)
    (λ f b. e ∙ after_size head left z ∙ ap (λ (r : Result Cells Fault). r >>= λ cells. Ok (record { header = head.header; grid = record { size = head.size; cells = cells } })) (ap (λ k. cells_from head.null k 0 left) (sym n) ∙ b)) h

pub all_read : (bytes : List ℕ) (head : Head) (left : List Token) (need : ℕ) (cells : Cells) → grid_in bytes ≡ grid_after head left → IsSize head.size → need ≡ cells_in head.size
    → cells_from head.null need 0 left ≡ Ok cells → grid_in bytes ≡ Ok (record { header = head.header; grid = record { size = head.size; cells = cells } })
all_read bytes head left need cells e z n h =
    e ∙ after_size head left z ∙ ap (λ (r : Result Cells Fault). r >>= λ cells. Ok (record { header = head.header; grid = record { size = head.size; cells = cells } })) (ap (λ k. cells_from head.null k 0 left) (sym n) ∙ h)

one_more : (have : ℕ) (c : Option ℤ) (cells all : Cells) (need : ℕ) → have + 1 + length cells ≡ need → c ∷ cells ≡ all → have + length all ≡ need
one_more have c cells all need n e = omega (arith, n, ap length e)

-- as many cells as are needed
pub cells_count : (null : ℤ) (need have : ℕ) (tokens : List Token) (cells : Cells) → cells_from null need have tokens ≡ Ok cells → have + length cells ≡ need
cells_count null need have [] cells e =
    elim (chosen_ok (have == need) (Ok []) (Err (few have need)) cells e) [
      | inl h ↦ omega (arith, eqb-true have need h.0, ap length (ok_is [] cells h.1))
      | inr h ↦ absurd (let f = h.1 in cc)
    ]
cells_count null need have (token ∷ tokens) cells e =
    elim (chosen_ok (have == need) (Err (more token.at)) (cell_in null (have + 1) token.text >>= λ c. cells_from null need (have + 1) tokens >>= λ cells. Ok (c ∷ cells)) cells e) [
      | inl h ↦ absurd (let f = h.1 in cc)
      | inr h ↦
          let p = bind_ok (cell_in null (have + 1) token.text) (λ c. cells_from null need (have + 1) tokens >>= λ cells. Ok (c ∷ cells)) cells h.1 in
          let q = bind_ok (cells_from null need (have + 1) tokens) (λ cells. Ok (p.0 ∷ cells)) cells p.2 in
          one_more have p.0 q.0 cells need (cells_count null need (have + 1) tokens q.0 q.1) (ok_is (p.0 ∷ q.0) cells q.2)
    ]

-- the grid that was read
pub grid_read : (bytes : List ℕ) (stamp : ℕ) (head : Head) (left : List Token) (need : ℕ) (cells listed : Cells) (extent : Size) (layer : LayerState) → grid_in bytes ≡ grid_after head left → IsSize extent → extent ≡ head.size → need ≡ cells_in extent
    → cells_from head.null need 0 left ≡ Ok cells → layer ≡ layer_of extent listed stamp → listed ≡ cells → Reads bytes stamp (Ok (record { header = head.header; layer = layer }))
grid_read bytes stamp head left need cells listed extent layer e z same n h l is =
    let read : grid_in bytes ≡ Ok (record { header = head.header; grid = record { size = head.size; cells = cells } }) = all_read bytes head left need cells e (subst IsSize same z) (n ∙ ap cells_in same) h in
    subst (λ (l : LayerState). Reads bytes stamp (Ok (record { header = head.header; layer = l }))) (sym l)
    (read ∙ ap (λ s. Ok (record { header = head.header; grid = record { size = s; cells = cells } })) (sym same) ∙ ap (λ (cs : Cells). Ok (record { header = head.header; grid = record { size = extent; cells = cs } })) (sym is), refl)

short_fits : (z : ℤ) → IsTrue (is_short z) → FitsSigned w64 z
short_fits (pos n) h = record { sfits = omega (arith, ltb-true n (10 ^ 18) h) }
short_fits (negsuc n) h = record { sfits = omega (arith, ltb-true (suc n) (10 ^ 18) h) }

pub null_short : (bytes : List ℕ) (found : Found) (left : List Token) (end : ℕ) (head : Head) → pairs_in (length bytes + 1) nothing (tokens_of bytes) ≡ Ok (found, left) → head_in end found ≡ Ok head → IsTrue (is_short head.null)
null_short bytes found left end head e h = (sound_head end found head h (sound_pairs (length bytes + 1) nothing found (tokens_of bytes) left e sound_nothing)).null

-- the number that stands for null is kept in a word
pub null_kept : (bytes : List ℕ) (found : Found) (left : List Token) (end : ℕ) (head : Head) → pairs_in (length bytes + 1) nothing (tokens_of bytes) ≡ Ok (found, left) → head_in end found ≡ Ok head → to_z w64 (of_z w64 head.null) ≡ head.null
null_kept bytes found left end head e h = to_z-of_z w64 head.null (short_fits head.null (null_short bytes found left end head e h))

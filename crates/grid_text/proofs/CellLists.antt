-- Cells that are read one after another.
use Rattle.std.proofs.Common.{◌≡◌, ℕ, ◌+◌, ℤ, List, [], ◌++◌, length, Result, Ok, Err, sym, ap, ◌∙◌}
use Rattle.std.proofs.lemmas.List.{append-nil}
use Rattle.std.proofs.lemmas.Bool.{eq-eqb, cond-true}
use Rattle.map_nums.specs.Grids.{Cells}
use Rattle.grid_text.specs.Contents.{cells_from}
use Rattle.grid_text.specs.Faults.{Fault, ◌>>=◌}
use Rattle.grid_text.specs.Reads.{Refuses}
use Rattle.grid_text.specs.Tokens.{Token}
use Rattle.grid_text.specs.declared.GridRefusal.{GridRefusal}
use Rattle.grid_text.specs.declared.GridRefusal.TheVariants as refusals

-- a fault that is handed on
pub refuses-same : {A B : Type 0} (refusal : GridRefusal) (r : Result A Fault) (s : Result B Fault) → ((f : Fault) → r ≡ Err f → s ≡ Err f) → Refuses refusal r → Refuses refusal s
refuses-same (refusals.Key at) r s h e = h _ e
refuses-same (refusals.Number at) r s h e = h _ e
refuses-same (refusals.Size rows columns) r s h e = h _ e
refuses-same (refusals.Few have need) r s h e = h _ e
refuses-same (refusals.More at) r s h e = h _ e
refuses-same (refusals.Cell index) r s h e = h _ e
refuses-same (refusals.Range index) r s h e = h _ e
refuses-same refusals.NoMemory r s h e = tt

-- these cells, and then those that are read
abbrev pub with_front : Cells → Result Cells Fault → Result Cells Fault
with_front front read = read >>= λ cells. Ok (front ++ cells)

-- the end after it
pub all_cells : (null : ℤ) (need : ℕ) (front : Cells) (left : List Token) (total : Result Cells Fault) → left ≡ [] → length front ≡ need → with_front front (cells_from null need (length front) left) ≡ total → total ≡ Ok front
all_cells null need front left total e n so_far =
    sym so_far
    ∙ ap (λ ts. with_front front (cells_from null need (length front) ts)) e
    ∙ ap (with_front front) (cond-true _ _ _ (eq-eqb (length front) need n))
    ∙ ap (λ (all : Cells). Ok all) (append-nil front)

-- Branches that are tried as jobs, each from the same state.
use Rattle.std.proofs.Common.{◌≡◌, ◌<◌, ◌+◌, ℕ, zero, suc, List, [], ◌∷◌, length, get_or, slice_get, Some, Result, Ok, Err, refl, sym, ap, subst, ◌∙◌, arith}
use Rattle.std.specs.Prelude.{Vec, IfOk}
use Rattle.std.specs.List.{sum_by, range_with_len}
use Rattle.std.specs.declared.alloc.Global.{Global}
use Rattle.std.proofs.lemmas.List.{length-map}
use Rattle.std.proofs.lemmas.List.Sums.{sum_by-cons}
use Rattle.std.proofs.lemmas.Option.{slice_get_within, get_or_from_slice_get}
use Rattle.layer_tiles.specs.Tallies.{TallyState, RisesBy}
use Rattle.layer_tiles.proofs.Rising.{rises_within}
use Rattle.statement_parser.specs.Lines.{Item}
use Rattle.statement_parser.specs.Formed.{Each, IsItem}
use Rattle.statement_parser.specs.Views.{items_view, branches_view}
use Rattle.statement_parser.specs.declared.line.Item as items
use Rattle.map_edits.specs.WholeStates.{WholeState}
use Rattle.map_machine.specs.RequestReads.{items_reads, branches_reads}
use Rattle.what_if.specs.Tried.{branch_at, AreTold, AreBranchesTold}
use Rattle.what_if.specs.declared.items.Told.{Told}

-- ---- a branch

-- the branch of a number, and the items that its job has
pub branch_is : (bs : List (Vec items.Item Global)) (k : ℕ) (x : Vec items.Item Global) → slice_get bs k ≡ Some x → items_view x.items ≡ branch_at (branches_view bs) k
branch_is [] k x at = absurd cc
branch_is (b ∷ bs) zero x at = let same : b ≡ x = cc in ap (λ (v : Vec items.Item Global). items_view v.items) (sym same)
branch_is (b ∷ bs) (suc k) x at = branch_is bs k x at

pub branch_formed : (bs : List (List Item)) (k : ℕ) → Each (Each IsItem) bs → k < length bs → Each IsItem (branch_at bs k)
branch_formed [] k each less = absurd (omega (arith, less))
branch_formed (b ∷ bs) zero each less = each.0
branch_formed (b ∷ bs) (suc k) each less = branch_formed bs k each.1 (omega (arith, less))

pub branches_many : (bs : List (Vec items.Item Global)) → length (branches_view bs) ≡ length bs
branches_many bs = length-map bs (λ (b : Vec items.Item Global). items_view b.items)

-- ---- all branches

-- from one place on
sum_on : (f : ℕ → ℕ) (a n : ℕ) → sum_by f (range_with_len (a + 1) n) ≡ sum_by (λ k. f (suc k)) (range_with_len a n)
sum_on f a zero = refl
sum_on f a (suc n) =
    let next : a + 1 ≡ suc a = omega arith in
    let first : f (a + 1) ≡ f (suc a) = ap f next in
    let rest = sum_on f (a + 1) n in
    omega (arith, first, rest, sum_by-cons f (a + 1) (range_with_len (a + 1 + 1) n), sum_by-cons (λ k. f (suc k)) a (range_with_len (a + 1) n))

-- the jobs may read what the branches may read
looks_all : (s : WholeState) (bs : List (List Item)) → sum_by (λ k. (items_reads s (branch_at bs k)).looks) (range_with_len 0 (length bs)) ≡ (branches_reads s bs).looks
looks_all s [] = refl
looks_all s (b ∷ bs) =
    let f : ℕ → ℕ = λ k. (items_reads s (branch_at (b ∷ bs) k)).looks in
    let rest = looks_all s bs in
    let on = sum_on f 0 (length bs) in
    omega (arith, rest, on, sum_by-cons f 0 (range_with_len (0 + 1) (length bs)))

picks_all : (s : WholeState) (bs : List (List Item)) → sum_by (λ k. (items_reads s (branch_at bs k)).picks) (range_with_len 0 (length bs)) ≡ (branches_reads s bs).picks
picks_all s [] = refl
picks_all s (b ∷ bs) =
    let f : ℕ → ℕ = λ k. (items_reads s (branch_at (b ∷ bs) k)).picks in
    let rest = picks_all s bs in
    let on = sum_on f 0 (length bs) in
    omega (arith, rest, on, sum_by-cons f 0 (range_with_len (0 + 1) (length bs)))

pub reads_all : (s : WholeState) (bs : List (List Item)) (n : ℕ) (a b : TallyState) → n ≡ length bs
    → RisesBy (sum_by (λ k. (items_reads s (branch_at bs k)).looks) (range_with_len 0 n)) (sum_by (λ k. (items_reads s (branch_at bs k)).picks) (range_with_len 0 n)) a b → RisesBy (branches_reads s bs).looks (branches_reads s bs).picks a b
reads_all s bs n a b many r =
    rises_within _ _ _ _ a b (omega (arith, looks_all s bs)) (omega (arith, picks_all s bs))
    (subst (λ m. RisesBy (sum_by (λ k. (items_reads s (branch_at bs k)).looks) (range_with_len 0 m)) (sum_by (λ k. (items_reads s (branch_at bs k)).picks) (range_with_len 0 m)) a b) many r)

all_told : (s : WholeState) (bs : List (List Item)) (ts : List (Vec Told Global)) → length ts ≡ length bs → ((k : ℕ) (t : Vec Told Global) → slice_get ts k ≡ Some t → AreTold s (branch_at bs k) t.items) → AreBranchesTold s bs ts
all_told s [] [] many each = tt
all_told s [] (t ∷ ts) many each = absurd (omega (arith, many))
all_told s (b ∷ bs) [] many each = absurd (omega (arith, many))
all_told s (b ∷ bs) (t ∷ ts) many each = (each zero t refl, all_told s bs ts (omega (arith, many)) (λ k u at. each (suc k) u at))

-- the answers of all jobs, in their order
pub branches_told : {E F : Type 0} (s : WholeState) (bs : List (List Item)) (n : ℕ) (answers : List (Result (Vec Told Global) E)) (r : Result (Vec (Vec Told Global) Global) F) → length bs ≡ n → length answers ≡ n
    → ((k : ℕ) (d : Result (Vec Told Global) E) → k < n → IfOk (get_or answers k d) (λ t. AreTold s (branch_at bs k) t.items)) → IfOk r (λ ts. length ts.items ≡ length answers)
    → IfOk r (λ ts. (k : ℕ) (t : Vec Told Global) → slice_get ts.items k ≡ Some t → slice_get answers k ≡ Some (Ok t)) → IfOk r (λ ts. AreBranchesTold s bs ts.items)
branches_told s bs n answers (Err e) few all each many from = tt
branches_told {E} s bs n answers (Ok ts) few all each many from =
    all_told s bs ts.items (many ∙ all ∙ sym few)
    (λ k t at.
    (let there = from k t at in
    let within : k < n = omega (arith, all, slice_get_within answers k (Ok t) there) in
    subst (λ (x : Result (Vec Told Global) E). IfOk x (λ t. AreTold s (branch_at bs k) t.items)) (get_or_from_slice_get answers k (Ok t) (Ok t) there) (each k (Ok t) within)))

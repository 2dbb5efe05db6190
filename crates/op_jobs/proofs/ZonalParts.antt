-- What parts of a map's tiles count, and the looks that it takes.
use Rattle.std.proofs.Common.{◌≡◌, ℕ, zero, suc, ◌+◌, ◌-◌, ◌*◌, ◌<◌, Bool, true, false, List, [], ◌∷◌, length, Option, Some, None, slice_get, refl, sym, ap, subst, ◌∙◌, arith, IsTrue, cond}
use Rattle.std.specs.Prelude.{IfSome, Vec, is_some, option_map}
use Rattle.std.specs.Borrow.{Bor}
use Rattle.std.specs.List.{sum_by, range_with_len}
use Rattle.std.specs.declared.alloc.Global.{Global}
use Rattle.std.proofs.lemmas.List.Sums.{sum_by-cons}
use Rattle.map_nums.specs.declared.Stat.{Stat}
use Rattle.map_nums.specs.Grids.{Size, Cells}
use Rattle.map_nums.specs.Tiles.{tiles_in}
use Rattle.map_defs.specs.Operate.{operand}
use Rattle.map_defs.specs.Ops.{Op, Term, zonal_op}
use Rattle.layer_tiles.specs.Changes.{ChangeState}
use Rattle.layer_tiles.specs.Operands.{cells_after}
use Rattle.layer_tiles.specs.Tallies.{TallyState, RisesBy}
use Rattle.layer_tiles.proofs.Rising.{rises_then, rises_within}
use Rattle.zonal_totals.specs.Ranges.{CountsState, AreRanges}
use Rattle.map_waves.specs.Found.{AreFound}
use Rattle.map_waves.specs.Keeping.{kept_now, was_of}
use Rattle.map_waves.specs.declared.keeping.Kept.{Kept}
use Rattle.map_waves.proofs.Totals.{sum_next}
use Rattle.op_jobs.specs.Classes.{is_zonal}
use Rattle.op_jobs.specs.Grounds.{IsCounts, AreAllCounts, IsGroundOf, IsGrounded, IsPart, laying, grounding, finding}
use Rattle.op_jobs.specs.Parts.{part_start}
use Rattle.op_jobs.specs.declared.beside.Beside.{Beside}
use Rattle.op_jobs.specs.Repairs.{head_of}
use Rattle.op_jobs.specs.declared.ground.Ground.{Ground}
use Rattle.op_jobs.specs.declared.ground.Ground.TheVariants as a_ground
use Rattle.op_jobs.specs.declared.own.Lone.TheVariants.{Flow, Spread, Regions}
use Rattle.op_jobs.specs.declared.own.Repair.{Repair}
use Rattle.op_jobs.specs.declared.own.Repair.TheVariants.{Alone, Nearest}
use Rattle.op_jobs.specs.declared.ground.Part.{Part}
use Rattle.op_jobs.specs.declared.ground.Part.TheVariants.{Counts}
use Rattle.op_jobs.proofs.Bands.{part_first, part_last, part_rises, parts_all}
use Rattle.op_jobs.proofs.Repairing.{not_zonal}

no : false ≡ true → ⊥
no e = cc

-- ---- looks

counted_to : (all n m : ℕ) → 0 < n → sum_by (λ (k : ℕ). 2 * (part_start all n (suc k) - part_start all n k)) (range_with_len 0 m) ≡ 2 * part_start all n m
counted_to all n zero some = omega (arith, part_first all n some)
counted_to all n (suc m) some =
    let f : ℕ → ℕ = λ k. 2 * (part_start all n (suc k) - part_start all n k) in
    let more : sum_by f (range_with_len 0 (suc m)) ≡ sum_by f (range_with_len 0 m) + 2 * (part_start all n (suc m) - part_start all n m) = (let here : 0 + m ≡ m = omega arith in sum_next f 0 m ∙ ap (λ j. sum_by f (range_with_len 0 m) + 2 * (part_start all n (suc j) - part_start all n j)) here) in
    omega (arith, more, counted_to all n m some, part_rises all n 0 m some (omega arith))

-- the parts of a zonal statement's tiles
pub tiles_counted : (s : Size) (op : Op) (operands : List ChangeState) (n : ℕ) → IsTrue (is_zonal op) → 0 < n → sum_by (finding s op operands n) (range_with_len 0 n) ≡ 2 * tiles_in s
tiles_counted s op operands n z some =
    rw (z) (counted_to (tiles_in s) n n some ∙ ap (λ m. 2 * m) (part_last (tiles_in s) n some))

quiet : (xs : List ℕ) → sum_by (λ (k : ℕ). 0) xs ≡ 0
quiet [] = refl
quiet (x ∷ xs) = omega (arith, quiet xs, sum_by-cons (λ (k : ℕ). 0) x xs)

-- bands
bands_quiet : (s : Size) (op : Op) (operands : List ChangeState) (n : ℕ) → is_zonal op ≡ false → sum_by (finding s op operands n) (range_with_len 0 n) ≡ 0
bands_quiet s op operands n other =
    rw (other) (quiet (range_with_len 0 n))

pub none_was : (kept : Option (Bor (Kept Beside))) → false ≡ is_some kept → was_of (kept_now kept) ≡ None
none_was None e = refl
none_was (Some k) e = absurd (no e)

-- laying the ground and finding all parts take the looks of both
pub all_found : (s : Size) (op : Op) (was : Option Cells) (operands : List ChangeState) (n : ℕ) (a b c : TallyState) → was ≡ None → 0 < n → RisesBy (laying s op) 0 a b → RisesBy (sum_by (finding s op operands n) (range_with_len 0 n)) 0 b c → RisesBy (grounding s op was operands) 0 a c
all_found s op was operands n a b c none some r q =
    let looks : grounding s op was operands ≡ 2 * tiles_in s = ap (λ w. grounding s op w operands) none in
    let y = sum_by (finding s op operands n) (range_with_len 0 n) in
    rises_within (laying s op + y) (0 + 0) (grounding s op was operands) 0 a c (omega (arith, looks, both (is_zonal op) refl)) (omega arith) (rises_then (laying s op) 0 y 0 a b c r q)
  where
    both : (v : Bool) → v ≡ is_zonal op → laying s op + sum_by (finding s op operands n) (range_with_len 0 n) ≡ 2 * tiles_in s
    both true e = let none : laying s op ≡ 0 = ap (λ b. cond b 0 (2 * tiles_in s)) (sym e) in omega (arith, none, tiles_counted s op operands n (sym e) some)
    both false e = let all : laying s op ≡ 2 * tiles_in s = ap (λ b. cond b 0 (2 * tiles_in s)) (sym e) in omega (arith, all, bands_quiet s op operands n (sym e))

-- ---- what is found

pub part_rises_by : (s : Size) (op : Op) (operands : List ChangeState) (n k : ℕ) (a b : TallyState) → IsTrue (is_zonal op) → RisesBy (2 * (part_start (tiles_in s) n (suc k) - part_start (tiles_in s) n k)) 0 a b → RisesBy (finding s op operands n k) 0 a b
part_rises_by s op operands n k a b z r = rw (z) r

pub all_counts : (s : Size) (op : Op) (operands : List ChangeState) (ground : Ground) (parts : List Part) (stat : Stat) (t u : Term) → op ≡ zonal_op stat t u → AreFound IsGrounded IsPart s op operands ground parts → AreAllCounts s (operand (cells_after operands) 0) (operand (cells_after operands) 1) parts
all_counts s op operands ground parts stat t u is found = record {
  some = found.from.some;
  each = λ k p e. counts ground found.from.of (length parts) k p (found.each k p e);
}
  where
    other : (repair : Repair) → op.head ≡ head_of repair → ⊥
    other repair of = no (sym (not_zonal repair op.head of) ∙ ap (λ (o : Op). is_zonal o) is)

    counts : (ground : Ground) → IsGroundOf op ground → (n k : ℕ) (p : Part) → IsPart s op operands ground n k p → IsCounts s (operand (cells_after operands) 0) (operand (cells_after operands) 1) n k p
    counts a_ground.Zones of n k p h = h
    counts (a_ground.Costs g) of n k p h = absurd (other (Alone (Spread g.limit)) of)
    counts (a_ground.Nearest g) of n k p h = absurd (other (Nearest g.limit) of)
    counts (a_ground.Flow g) of n k p h = absurd (other (Alone Flow) of)
    counts (a_ground.Regions cells) of n k p h = absurd (other (Alone Regions) of)

pub counts_found : (s : Size) (op : Op) (operands : List ChangeState) (found : Option (Ground × Vec Part Global)) (stat : Stat) (t u : Term) → op ≡ zonal_op stat t u → IfSome found (λ q. AreFound IsGrounded IsPart s op operands q.0 q.1.items)
    → IfSome (option_map (λ (q : Ground × Vec Part Global). q.1) found) (λ parts. AreAllCounts s (operand (cells_after operands) 0) (operand (cells_after operands) 1) parts.items)
counts_found s op operands None stat t u is h = tt
counts_found s op operands (Some q) stat t u is h = all_counts s op operands q.0 q.1.items stat t u is h

-- ---- the book of them

module _ (s : Size) (values zones : Cells) (n : ℕ) (some : 0 < n) where
  abbrev all : ℕ
  all = tiles_in s

  ranges_all : (cs : List CountsState) → length cs ≡ n → ((k : ℕ) (c : CountsState) → slice_get cs k ≡ Some c → IsCounts s values zones n k (Counts c)) → AreRanges s values zones 0 all cs
  ranges_all cs count each =
      subst (λ m. AreRanges s values zones m all cs) (part_first all n some)
      (parts_all n (part_start all n) (λ k c. IsCounts s values zones n k (Counts c)) (λ m cs. AreRanges s values zones m all cs) (part_last all n some) (λ k c cs is rest. (part_start all n (suc k), omega (arith, part_rises all n 0 k some (omega arith)), is, rest)) cs count each)

pub ranges_are : (s : Size) (values zones : Cells) (cs : List CountsState) (parts : List Part) → AreAllCounts s values zones parts → length cs ≡ length parts → ((k : ℕ) (c : CountsState) → slice_get cs k ≡ Some c → slice_get parts k ≡ Some (Counts c)) → AreRanges s values zones 0 (tiles_in s) cs
ranges_are s values zones cs parts are count from = ranges_all s values zones (length parts) are.some cs count (λ k c e. are.each k (Counts c) (from k c e))

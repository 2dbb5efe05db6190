-- How a repair begins.
use Rattle.std.proofs.Common.{◌≡◌, ℕ, zero, suc, ◌<◌, ◌≤◌, List, length, map, Option, Some, None, refl, sym, ◌∙◌, arith, ℤ}
use Rattle.std.specs.Prelude.{◌==◌, if◌then◌else◌}
use Rattle.std.proofs.lemmas.Bool.Decides.{nat_tests}
use Rattle.std.proofs.lemmas.List.{ext_get_or}
use Rattle.std.proofs.lemmas.List.FromFn.{get_or-map-range_with_len, length-map-range_with_len}
use Rattle.map_nums.specs.Grids.{Size, Cells, cell_at, cells_in, places}
use Rattle.map_defs.specs.Nets.{Net, IsWithin}
use Rattle.tile_work.specs.Working.{begun_cells, base_of}
use Rattle.least_costs.specs.Ranks.{sum_to, changed}
use Rattle.least_costs.specs.Queue.{IsQueued}
use Rattle.least_costs.specs.Best.{IsRepairing, same}

-- ---- cells that a working layer begins with

pub begun_count : (s : Size) (before : Option (List (Option ℤ))) → length (begun_cells s before) ≡ cells_in s
unfolding begun_cells
begun_count s before = length-map-range_with_len (cell_at (base_of before)) 0 (cells_in s)

pub begun_same : (s : Size) (cells : Cells) → length cells ≡ cells_in s → begun_cells s (Some cells) ≡ cells
unfolding begun_cells
begun_same s cells n =
    ext_get_or None (map (cell_at cells) (places s)) cells (length-map-range_with_len (cell_at cells) 0 (cells_in s) ∙ sym n)
    (λ i l. let m : i < cells_in s = omega (arith, l, length-map-range_with_len (cell_at cells) 0 (cells_in s)) in get_or-map-range_with_len (cell_at cells) 0 (cells_in s) i i None m (omega arith))

-- ---- nothing has moved

sum_none : (f : ℕ → ℕ) (n : ℕ) → ((j : ℕ) → f j ≡ 0) → sum_to f n ≡ 0
sum_none f zero h = refl
sum_none f (suc n) h = omega (arith, h n, sum_none f n h)

same_none : (a b : ℕ) → b ≡ a → ◌≡◌ {A = ℕ} (if a == b then 0 else 1) 0
same_none a b e = grind (arith, nat_tests)

none_moved : (old d : ℕ → ℕ) (n : ℕ) → ((i : ℕ) → d i ≡ old i) → changed old d n ≡ 0
unfolding changed
none_moved old d n e = sum_none (λ j. if old j == d j then 0 else 1) n (λ j. same_none (old j) (d j) (e j))

pub start : (g : Net) (old d : ℕ → ℕ) (entries : List (ℕ × ℕ)) → IsWithin g d → ((i : ℕ) → d i ≡ old i) → ((i : ℕ) → d i ≤ g.top) → ((i : ℕ) → IsQueued g d entries i) → IsRepairing g old d entries 0
start g old d entries w e m q = record {
  within = w;
  old_most = λ i. omega (arith, e i, m i);
  most = m;
  queued = q;
  ranked = λ i. same (e i);
  moved_is = sym (none_moved old d g.size e);
}

-- A zone that a patch does not list has the statistic that it had.
use Rattle.std.proofs.Common.{◌≡◌, ◌≢◌, inl, inr, ℕ, List, Contains, sym, ◌∙◌, arith, ℤ}
use Rattle.std.proofs.lemmas.Bool.{cases_lt}
use Rattle.map_nums.specs.declared.Stat.{Stat}
use Rattle.map_nums.specs.Grids.{Size, Cells, cell_at, places}
use Rattle.map_nums.proofs.Reorders.{statistic_of-permutation}
use Rattle.map_defs.specs.Zonal.{zone_numbers, zone_statistic}
use Rattle.zonal_totals.specs.Books.{pairs_in}
use Rattle.zonal_totals.specs.ChangedZones.{AreChangedZones}
use Rattle.zonal_totals.proofs.Bags.{same_bag, cells_count}
use Rattle.zonal_totals.specs.declared.pairs.Pair.{Pair}

abbrev pub pair_of : ℤ → ℤ → Pair
pair_of z k = record { zone = z; key = k }

pub same_counts : (stat : Stat) (s : Size) (values zones values' zones' : Cells) (z : ℤ) → ((k : ℤ) → pairs_in s (cell_at zones) (cell_at values) (pair_of z k) ≡ pairs_in s (cell_at zones') (cell_at values') (pair_of z k)) → zone_statistic stat s values zones z ≡ zone_statistic stat s values' zones' z
unfolding zone_numbers
same_counts stat s values zones values' zones' z h =
    statistic_of-permutation stat (zone_numbers s values zones z) (zone_numbers s values' zones' z)
    (same_bag (zone_numbers s values zones z) (zone_numbers s values' zones' z) (λ k. cells_count values zones (pair_of z k) (places s) ∙ h k ∙ sym (cells_count values' zones' (pair_of z k) (places s))))

same_nat : (a b : ℕ) → (a ≢ b → ⊥) → a ≡ b
same_nat a b h =
    elim (cases_lt a b) [
      | inl l ↦ absurd (h (λ e. omega arith))
      | inr l ↦ elim (cases_lt b a) [ inl m ↦ absurd (h (λ e. omega arith)) | inr m ↦ omega arith ]
    ]

pub unlisted : (stat : Stat) (zs : List ℤ) (s : Size) (values zones values' zones' : Cells) (z : ℤ) → AreChangedZones zs s values zones values' zones' → (Contains zs z → ⊥) → zone_statistic stat s values zones z ≡ zone_statistic stat s values' zones' z
unlisted stat zs s values zones values' zones' z a n =
    same_counts stat s values zones values' zones' z (λ k. same_nat _ _ (λ d. n ((a.exact z).1 (k, d))))

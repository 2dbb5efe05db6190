-- Incremental operations, worked.
use Rattle.std.specs.Prelude.{◌≡◌, ℤ, [], ◌∷◌, Option, None}
use Rattle.map_nums.specs.Grids.{Cells}
use Rattle.map_defs.specs.Incremental.{Form, linkage_form, length_form, partition_form, frontage_form, gradient_form, aspect_form, form_at}
use Rattle.map_rows.specs.Words.{some, nums, by}

abbrev pub nine : Cells
nine = nums (1 ∷ 2 ∷ 3 ∷ 4 ∷ 5 ∷ 6 ∷ 7 ∷ 8 ∷ 9 ∷ [])

abbrev pub line : Cells
line = nums (1 ∷ 1 ∷ 2 ∷ 2 ∷ 1 ∷ 2 ∷ 2 ∷ 2 ∷ 1 ∷ [])

-- of the only cell
abbrev pub of_one : Form → Option ℤ → Option ℤ
of_one form c = form_at form (by 1 1) (c ∷ []) 0

-- of the middle cell
abbrev pub in_middle : Form → Cells → Option ℤ
in_middle form cells = form_at form (by 3 3) cells 4

pub record FormRows : Type 0 where
  pub one_linkage : of_one linkage_form (some 7) ≡ some 0
  pub one_length : of_one length_form (some 7) ≡ some 0
  pub one_partition : of_one partition_form (some 7) ≡ some 15
  pub one_frontage : of_one frontage_form (some 7) ≡ some 40
  pub one_gradient : of_one gradient_form (some 7) ≡ some 0
  pub one_aspect : of_one aspect_form (some 7) ≡ some 0
  pub null_linkage : of_one linkage_form None ≡ None
  pub null_length : of_one length_form None ≡ None
  pub null_partition : of_one partition_form None ≡ None
  pub null_frontage : of_one frontage_form None ≡ None
  pub null_gradient : of_one gradient_form None ≡ None
  pub null_aspect : of_one aspect_form None ≡ None
  pub linkage : in_middle linkage_form line ≡ some 137
  pub length : in_middle length_form line ≡ some 19
  pub partition : in_middle partition_form line ≡ some 14
  pub frontage : in_middle frontage_form line ≡ some 30
  pub gradient : in_middle gradient_form nine ≡ some 25
  pub aspect : in_middle aspect_form nine ≡ some 1

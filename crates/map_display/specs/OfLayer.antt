-- The marks of one layer by value, as the code holds them.
use Rattle.std.specs.Prelude.{◌≡◌, ℕ, ◌<◌, ℤ, pos, List, length, slice_index_or, Option, Some, None, option_map}
use Rattle.std.specs.HashMap.{get}
use Rattle.std.specs.Ordering.{int_eq}
use Rattle.map_defs.specs.Ops.{Name}
use Rattle.map_edits.specs.Marks.{Mark, find_mark}
use Rattle.map_machine.specs.Signs.{sign_of}
use Rattle.map_display.specs.declared.layer_marks.LayerMarks.{LayerMarks}
use Rattle.map_display.specs.declared.signs.Signs.{Signs}
use Rattle.map_display.specs.declared.legends.Key.{Key}

-- for each value what stands for it in layer n
abbrev pub AreOf : List Mark → Name → LayerMarks → Type 0
AreOf marks n held = (z : ℤ) → option_map (λ t. t.now) (get int_eq held.texts z) ≡ find_mark marks n z

-- the signs of layer n, those of the first numbers in a table
pub record AreSigns (symbols : List Mark) (n : Name) (signs : Signs) : Type 0 where
  pub marks : AreOf symbols n signs.marks
  pub table : (k : ℕ) (d : ℕ) → k < length signs.table.items → slice_index_or signs.table.items k d ≡ sign_of symbols n (Some (pos k))

-- the labels and the signs of layer n
pub record IsKey (texts symbols : List Mark) (n : Name) (key : Key) : Type 0 where
  pub labels : AreOf texts n key.labels
  pub signs : AreSigns symbols n key.signs

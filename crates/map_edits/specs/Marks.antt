-- Labels and symbols: what stands for a value of a layer.
use Rattle.std.specs.Prelude.{ℕ, ℤ, Bool, not, ◌&&◌, List, ◌∷◌, filter, find, Option, option_map, bytes_eq}
use Rattle.std.specs.Ordering.{int_eq}
use Rattle.map_defs.specs.Ops.{Name}

-- the text of a label, or the one byte of a symbol
pub record Mark : Type 0 where
  pub name : List ℕ
  pub value : ℤ
  pub text : List ℕ

abbrev pub is_mark : Name → ℤ → Mark → Bool
is_mark n z m = bytes_eq m.name n && int_eq m.value z

abbrev pub find_mark : List Mark → Name → ℤ → Option (List ℕ)
find_mark marks n z = option_map (λ (m : Mark). m.text) (find (is_mark n z) marks)

-- an earlier one of the same name and value is replaced
abbrev pub put_mark : List Mark → Name → ℤ → List ℕ → List Mark
put_mark marks n z text = record { name = n; value = z; text = text } ∷ filter (λ m. not (is_mark n z m)) marks

abbrev pub drop_marks : List Mark → Name → List Mark
drop_marks marks n = filter (λ (m : Mark). not (bytes_eq m.name n)) marks

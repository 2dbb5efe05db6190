-- The words of worked sessions: a map of one cell, statements, a procedure and edits.
use Rattle.std.specs.Prelude.{false, ℕ, pos, [], ◌∷◌, Some, codes}
use Rattle.map_nums.specs.Grids.{Size, Grid}
use Rattle.map_nums.specs.declared.Stat.{Stat}
use Rattle.map_nums.specs.declared.Stat.TheVariants as stats
use Rattle.map_defs.specs.Ops.{Name, layer_term, number_term, local_op}
use Rattle.map_defs.specs.Statements.{Written, plain, call, Procedure}
use Rattle.map_edits.specs.EditForms.{Rectangle, load, paint, define}
use Rattle.map_edits.specs.WholeEdits.{WholeEdit, of_names}

abbrev pub cell : Size
cell = record { rows = 1; columns = 1 }

abbrev pub one_cell : ℕ → Grid
one_cell n = record { size = cell; cells = Some (pos n) ∷ [] }

abbrev pub corner : Rectangle
corner = record { top = 1; left = 1; bottom = 1; right = 1 }

abbrev pub beyond_corner : Rectangle
beyond_corner = record { top = 1; left = 1; bottom = 2; right = 1 }

-- a statistic of a layer and a number
abbrev pub with_number : Stat → Name → ℕ → Written
with_number stat n k = plain (local_op stat false (layer_term n ∷ number_term (pos k) ∷ []))

-- takes a layer and a number, and doubles their sum
abbrev pub twice : Procedure
twice = record {
  name = codes "Twice";
  takes = codes "P" ∷ codes "K" ∷ [];
  body = record { name = codes "x"; written = plain (local_op stats.Sum false (layer_term (codes "P") ∷ layer_term (codes "K") ∷ [])) }
      ∷ record { name = codes "result"; written = with_number stats.Product (codes "x") 2 } ∷ [];
}

-- its call
abbrev pub twice_of : Name → ℕ → Written
twice_of n k = call (codes "Twice") (layer_term n ∷ number_term (pos k) ∷ [])

abbrev pub put : Name → ℕ → WholeEdit
put n k = of_names (load n (one_cell k))

abbrev pub repaint : Name → ℕ → WholeEdit
repaint n k = of_names (paint n corner (Some (pos k)))

abbrev pub write : Name → Written → WholeEdit
write n w = of_names (define n w)

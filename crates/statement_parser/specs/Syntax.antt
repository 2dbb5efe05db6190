-- How each operation is written after its name.
use Rattle.std.specs.Prelude.{ℕ, codes}
use Rattle.map_nums.specs.declared.Stat.{Stat}
use Rattle.map_words.specs.Bytes.{Text}
use Rattle.map_defs.specs.Ops.{Head, difference_head, ratio_head, zonal_head, form_head, spread_head, nearest_head, region_head}
use Rattle.statement_parser.specs.Forms.{form_of}
use Rattle.statement_parser.specs.declared.operation.Operation.{Operation}
use Rattle.statement_parser.specs.declared.operation.Operation.TheVariants.{Local, Difference, Ratio, Rating, Focal, Proximity, Neighbor, Insularity, Zonal, Incremental, Drainage}

pub data Syntax : Type 0 where
  -- "of" term
  one_term : Head → Syntax
  -- "of" term word term
  two_terms : Text → Head → Syntax
  -- "of" term "and" term {"and" term} ["ignoring" "nulls"]
  many_terms : Stat → Syntax
  -- "of" term "with" rate {"with" rate}
  rated : Syntax
  -- "of" term, and then what radiates or a radius
  around : Stat → Syntax
  -- "of" term ["spreading" "in" term] ["within" LIMIT]
  spreading : (ℕ → Head) → Syntax
  -- "of" term ["carrying" term]
  draining : Syntax

abbrev pub syntax_of : Operation → Syntax
syntax_of (Local s) = many_terms s
syntax_of Difference = two_terms (codes "and") difference_head
syntax_of Ratio = two_terms (codes "and") ratio_head
syntax_of Rating = rated
syntax_of (Focal s) = around s
syntax_of Proximity = spreading spread_head
syntax_of Neighbor = spreading nearest_head
syntax_of Insularity = one_term region_head
syntax_of (Zonal s) = two_terms (codes "within") (zonal_head s)
syntax_of (Incremental form) = one_term (form_head (form_of form))
syntax_of Drainage = draining

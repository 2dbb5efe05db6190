-- What holds of each operation, by its head.
use Rattle.std.specs.Prelude.{ℕ, ◌≤◌, Bool, true, false, length, Option, Some, None}
use Rattle.map_nums.specs.declared.Stat.{Stat}
use Rattle.map_defs.specs.Ops.{Head, local_head, difference_head, ratio_head, rating_head, focal_head, zonal_head, form_head, direction_head, flow_head, spread_head, nearest_head, sight_head, region_head, Op}

-- where a cell comes from
pub data Class : Type 0 where
  -- from the operands' cells at its place
  local_class : Class
  -- from those at most so many rows and columns off
  near_class : ℕ → Class
  -- from the statistic of its zone
  zonal_class : Stat → Class
  -- from the viewers that see it, at most so many rows and columns off
  sight_class : ℕ → Class
  -- from the paths that lead to it
  path_class : Class
  -- from those of least cost, no greater than this, that lead to it
  nearest_class : ℕ → Class
  -- from its region
  region_class : Class

pub record Facts : Type 0 where
  pub class : Class
  -- how many terms it takes
  pub least : ℕ
  pub most : ℕ

abbrev pub takes : ℕ → Class → Facts
takes n class = record { class = class; least = n; most = n }

abbrev pub radius_of : Option ℕ → ℕ
radius_of None = 1
radius_of (Some r) = r

abbrev pub facts : Head → Facts
facts (local_head stat ignoring) = record { class = local_class; least = 2; most = 8 }
facts difference_head = takes 2 local_class
facts ratio_head = takes 2 local_class
facts (rating_head rates) = takes 1 local_class
facts (focal_head stat r) = takes 1 (near_class (radius_of r))
facts (zonal_head stat) = takes 2 (zonal_class stat)
facts (form_head form) = takes 1 (near_class 1)
facts direction_head = takes 1 (near_class 1)
facts flow_head = takes 2 path_class
facts (spread_head limit) = takes 2 path_class
facts (nearest_head limit) = takes 2 (nearest_class limit)
facts (sight_head sight) = takes 2 (sight_class sight.reach)
facts region_head = takes 1 region_class

abbrev pub class_of : Op → Class
class_of op = (facts op.head).class

-- as many terms as its head takes
abbrev pub HasTerms : Op → Type 0
HasTerms op = ((facts op.head).least ≤ length op.terms) × (length op.terms ≤ (facts op.head).most)

-- ---- by class

-- how many rows and columns off a changed operand cell is felt
abbrev pub reach_in : Class → ℕ
reach_in (near_class r) = r
reach_in (sight_class r) = r
reach_in class = 0

-- its results are repaired place by place from changed cells on, which is counted as work
abbrev pub is_repaired : Class → Bool
is_repaired path_class = true
is_repaired (nearest_class limit) = true
is_repaired region_class = true
is_repaired class = false

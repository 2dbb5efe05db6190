-- The names of a state: sources with their grids, and statements as they were written, with their flat statements.
use Rattle.std.specs.Prelude.{ℕ, not, List, [], ◌∷◌, filter, find, Option, option_map, bytes_eq, if◌then◌else◌}
use Rattle.map_nums.specs.Grids.{Grid}
use Rattle.map_defs.specs.Ops.{Name}
use Rattle.map_defs.specs.Statements.{Flat, Written}

-- what a name stands for
pub data Def : Type 0 where
  source : Grid → Def
  -- as it was written, and its flat statements in order, its own the last
  statement : Written → List Flat → Def

pub record Entry : Type 0 where
  pub name : List ℕ
  pub def : Def

abbrev pub find_def : List Entry → Name → Option Def
find_def entries n = option_map (λ (e : Entry). e.def) (find (λ (e : Entry). bytes_eq e.name n) entries)

-- the entries with this name: in its place where it is there, else at the end
abbrev pub put_entry : List Entry → Name → Def → List Entry
put_entry [] n d = record { name = n; def = d } ∷ []
put_entry (e ∷ es) n d = if bytes_eq e.name n then record e { def = d } ∷ es else e ∷ put_entry es n d

abbrev pub drop_entry : List Entry → Name → List Entry
drop_entry entries n = filter (λ (e : Entry). not (bytes_eq e.name n)) entries

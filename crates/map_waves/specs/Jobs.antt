-- The jobs of a statement.
use Rattle.std.specs.Prelude.{◌≡◌, ℕ, List, Option}
use Rattle.map_nums.specs.Grids.{Size, Cells}
use Rattle.layer_tiles.specs.Changes.{ChangeState}
use Rattle.map_waves.specs.Keeping.{was_of, aside_of}
use Rattle.map_waves.specs.declared.keeping.Aside.{Aside}
use Rattle.map_waves.specs.declared.keeping.Kept.{Kept}

-- so many jobs over these operands; `own` is what they share
pub record JobsState (O B W : Type 0) : Type 0 where
  pub size : Size
  pub op : O
  pub operands : List ChangeState
  pub kept : Option (Kept B)
  pub count : ℕ
  pub own : W

abbrev pub was_in : {O B W : Type 0} → JobsState O B W → Option Cells
was_in {O} {B} {W} j = was_of j.kept

abbrev pub aside_in : {O B W : Type 0} → JobsState O B W → Option (Aside B)
aside_in {O} {B} {W} j = aside_of j.kept

-- the jobs are those of this operation over these operands, from what was kept
pub record AreOver {O B W : Type 0} (j : JobsState O B W) (s : Size) (o : O) (these : List ChangeState) (own : Option (Kept B)) : Type 0 where
  pub size : j.size ≡ s
  pub op : j.op ≡ o
  pub operands : j.operands ≡ these
  pub kept : j.kept ≡ own

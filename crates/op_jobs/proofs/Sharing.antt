-- What jobs share is right for their statement.
use Rattle.std.proofs.Common.{◌≡◌, ℕ, ◌<◌, true, List, [], ◌∷◌, length, Option, Some, None, refl, sym, ◌∙◌, ap, subst, arith, IsTrue, IsFalse}
use Rattle.std.specs.Prelude.{filter, nat_lt, IfSome}
use Rattle.std.specs.List.{All}
use Rattle.std.specs.Borrow.{Bor}
use Rattle.map_nums.specs.Grids.{Size, Cells}
use Rattle.map_nums.specs.Tiles.{tiles, tiles_in}
use Rattle.map_defs.specs.Facts.{Class, local_class, near_class, is_repaired}
use Rattle.map_defs.specs.Ops.{Op}
use Rattle.map_defs.specs.Damage.{reach_of}
use Rattle.map_defs.specs.Sight.{most_viewers}
use Rattle.map_defs.specs.Viewers.{viewers_by}
use Rattle.layer_tiles.specs.Changes.{ChangeState}
use Rattle.layer_tiles.specs.Operands.{size_of}
use Rattle.damage_sets.specs.Sets.{TileSetState, has_tile}
use Rattle.damage_sets.specs.Damage.{damage_of}
use Rattle.statement_parser.specs.Views.{op_view}
use Rattle.map_waves.specs.Statements.{damage_by}
use Rattle.map_waves.specs.Operands.{IsOperand}
use Rattle.map_waves.specs.Keeping.{kept_now, was_of, IsRightKept}
use Rattle.map_waves.specs.Jobs.{was_in}
use Rattle.map_waves.specs.declared.keeping.Aside.TheVariants.{Other}
use Rattle.map_waves.specs.declared.keeping.Kept.{Kept}
use Rattle.op_jobs.specs.Beside.{suits, suits_in}
use Rattle.op_jobs.specs.Classes.{by_reach, by_reach_in, is_plain_in}
use Rattle.op_jobs.specs.Operands.{AreOperandsOf}
use Rattle.op_jobs.specs.Owning.{reached, IsOwn, AreTileJobs}
use Rattle.op_jobs.specs.Sound.{StatementJobs, IsSound}
use Rattle.op_jobs.specs.declared.beside.Beside.{Beside}
use Rattle.op_jobs.specs.declared.beside.Beside.TheVariants.{Nothing}
use Rattle.op_jobs.specs.declared.own.Own.{Own}
use Rattle.op_jobs.specs.declared.own.Own.TheVariants as an_own
use Rattle.op_jobs.specs.declared.own.TileJobs.{TileJobs}
use Rattle.op_jobs.proofs.Ranges.{terms_some}
use Rattle.op_jobs.proofs.Reached.{reached_list, all_list}

-- ---- operands

pub size_first : (s : Size) (operands : List ChangeState) → 0 < length operands → All (λ c. c.size ≡ s) operands → size_of operands ≡ s
size_first s [] some are = absurd (omega arith)
size_first s (c ∷ rest) some are = are 0 c (omega arith)

pub size_is : (s : Size) (operands : List ChangeState) → 0 < length operands → All (IsOperand s) operands → size_of operands ≡ s
size_is s operands some are = size_first s operands some (λ k c l. (are k c l).size)

pub extent_is : (s : Size) (op : Op) (operands : List ChangeState) → AreOperandsOf s op operands → size_of operands ≡ s
extent_is s op operands are = size_is s operands (omega (arith, are.count, terms_some op are.formed)) are.each

-- ---- what is kept

pub kept_size : (s : Size) (op : Op) (operands : List ChangeState) (kept : Option (Kept Beside)) (t : ℕ) → IsRightKept suits s op operands kept → t < tiles_in s → IfSome kept (λ k. t < tiles_in k.layer.size)
kept_size s op operands None t is l = tt
kept_size s op operands (Some k) t is l = subst (λ z. t < tiles_in z) (sym is.size) l

pub size_kept : (s : Size) (op : Op) (operands : List ChangeState) (kept : Option (Kept Beside)) → IsRightKept suits s op operands kept → (k : Kept Beside) → kept ≡ Some k → k.layer.size ≡ s
size_kept s op operands None is k e = absurd cc
size_kept s op operands (Some x) is k e = let same : k ≡ x = cc in ap (λ (y : Kept Beside). y.layer.size) same ∙ is.size

-- ---- the tiles

-- those that are found where a layer is kept
pub reached_some : (r : ℕ) (s : Size) (operands : List ChangeState) (kept : Option (Bor (Kept Beside))) (k : Bor (Kept Beside)) (set : TileSetState) → kept ≡ Some k → size_of operands ≡ s → set ≡ damage_of r (size_of operands) operands → set ≡ reached r s (was_of (kept_now kept)) operands
reached_some r s operands kept k set e size is =
    let P : Option (Bor (Kept Beside)) → Type 0 = λ o. set ≡ reached r s (was_of (kept_now o)) operands in
    subst P (sym e) (subst (λ z. set ≡ damage_of r z operands) size is)

pub listed_is : (s : Size) (op : Op) (was : Option Cells) (operands : List ChangeState) (r : ℕ) (set : TileSetState) (list : List ℕ) → by_reach op ≡ true → r ≡ reach_of op → set ≡ reached r s was operands → list ≡ filter (has_tile set) (tiles set.size) → list ≡ damage_by s op was operands
listed_is s op None operands r set list by e is items =
    let P : TileSetState → Type 0 = λ d. list ≡ filter (has_tile d) (tiles d.size) in
    subst P is items ∙ all_list s op operands
listed_is s op (Some w) operands r set list by e is items =
    let P : TileSetState → Type 0 = λ d. list ≡ filter (has_tile d) (tiles d.size) in
    let Q : ℕ → Type 0 = λ n. list ≡ filter (has_tile (damage_of n s operands)) (tiles s) in
    subst Q e (subst P is items) ∙ reached_list s op operands w by

-- ---- those whose tiles come from the operands alone

pub record IsPlain (s : Size) (c : Class) (cells : List Cells) : Type 0 where
  pub by : by_reach_in c ≡ true
  pub class : IsFalse (is_repaired c)
  pub beside_is : suits_in c s cells (Other Nothing)
  pub viewers : IsFalse (nat_lt most_viewers (viewers_by c cells))

pub plain_is : (s : Size) (class : Class) (cells : List Cells) → IsTrue (is_plain_in class) → IsPlain s class cells
plain_is s local_class cells e = record { by = refl; class = refl; beside_is = tt; viewers = refl }
plain_is s (near_class r) cells e = record { by = refl; class = refl; beside_is = tt; viewers = refl }
plain_is s class cells e = absurd cc

-- ---- of sound jobs

pub tile_own : (j : StatementJobs) (jobs : TileJobs) → IsSound j → j.own ≡ an_own.Tiles jobs → AreTileJobs j.size (op_view j.op) j.operands (was_in j) jobs
tile_own j jobs is e = let P : Own → Type 0 = λ o. IsOwn j.size (op_view j.op) j.operands (was_in j) o in subst P e is.own_is

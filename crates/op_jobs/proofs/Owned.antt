-- What jobs share is right, by the class of their operation.
use Rattle.std.proofs.Common.{◌≡◌, ℕ, ◌≤◌, List, length, Option, Some, None, refl, sym, ◌∙◌, arith, IsTrue, IsFalse}
use Rattle.std.specs.Prelude.{◌≢◌, Vec, filter, nat_lt, IfSome}
use Rattle.std.specs.declared.alloc.Global.{Global}
use Rattle.map_nums.specs.declared.Stat.{Stat}
use Rattle.map_nums.specs.declared.Stat.TheVariants.{Product}
use Rattle.map_nums.specs.Grids.{Size, Cells}
use Rattle.map_nums.specs.Tiles.{tiles}
use Rattle.map_defs.specs.Facts.{class_of}
use Rattle.map_defs.specs.Damage.{has_work}
use Rattle.map_defs.specs.Ops.{Op, Term, zonal_op, sight_op}
use Rattle.map_defs.specs.Operate.{operate, operand}
use Rattle.map_defs.specs.Sight.{viewer_count, most_viewers}
use Rattle.layer_tiles.specs.Changes.{ChangeState}
use Rattle.layer_tiles.specs.Operands.{cells_after}
use Rattle.layer_tiles.specs.Tallies.{TallyState, RisesBy}
use Rattle.layer_tiles.proofs.Rising.{rises_within}
use Rattle.damage_sets.specs.Sets.{has_tile}
use Rattle.statement_parser.specs.Formed.{IsNoProduct}
use Rattle.sight_lines.specs.Puts.{sighting_of}
use Rattle.sight_lines.specs.Viewed.{viewers_of}
use Rattle.sight_lines.specs.declared.tiles.Sight.{Sight}
use Rattle.zonal_totals.specs.Books.{BookState, IsBookOf}
use Rattle.map_waves.specs.Statements.{damage_by}
use Rattle.map_waves.specs.declared.keeping.Kept.{Kept}
use Rattle.op_jobs.specs.declared.beside.Beside.{Beside}
use Rattle.op_jobs.specs.Kernels.{kernel_reach}
use Rattle.op_jobs.specs.Lists.{IsFreshMade}
use Rattle.op_jobs.specs.Operands.{IsEdited}
use Rattle.op_jobs.specs.Owning.{reached, AreTileJobs}
use Rattle.op_jobs.specs.Repairs.{IsPlain}
use Rattle.op_jobs.specs.declared.kernels.Kernel.{Kernel}
use Rattle.op_jobs.specs.declared.kernels.Kernel.TheVariants as a_kernel
use Rattle.op_jobs.specs.declared.lists.FreshLayer.{FreshLayer}
use Rattle.op_jobs.specs.declared.own.TileJobs.{TileJobs}
use Rattle.op_jobs.proofs.Coming.{viewers_none}
use Rattle.op_jobs.proofs.Hits.{work_none}
use Rattle.op_jobs.proofs.LayerLists.{all_damaged}
use Rattle.op_jobs.proofs.Sharing.{plain_is, listed_is}

abbrev pub jobs_of : Vec ℕ Global → Kernel → TileJobs
jobs_of list kernel = record { tiles = list; kernel = kernel }

no_product : (stat : Stat) → IsNoProduct stat → stat ≢ Product
no_product Product is e = absurd is
no_product stat is e = absurd cc

module _ (s : Size) (operands : List ChangeState) (was : Option Cells) (list : Vec ℕ Global) where
  -- tile by tile from the operands alone
  pub plain_jobs : (op : Op) (kernel : Kernel) (r : ℕ) → IsPlain op kernel → length operands ≡ length op.terms → r ≡ kernel_reach kernel → list.items ≡ filter (has_tile (reached r s was operands)) (tiles (reached r s was operands).size) → AreTileJobs s op operands was (jobs_of list kernel)
  plain_jobs op kernel r is count reach listed =
      let t = plain_is s (class_of op) (cells_after operands) is.class in
      record {
        tiles = listed_is s op was operands r (reached r s was operands) list.items t.by (reach ∙ is.reach) refl listed;
        can = is.can s operands count;
        cells = is.cells s operands;
        beside_is = rw (is.alone) t.beside_is;
        work_is = is.idle ∙ sym (work_none s op was operands t.class);
        little = rw (is.idle) (omega arith);
        viewers = t.viewers;
      }

  -- over a book
  pub zonal_jobs : {stat : Stat} {v w : Term} {kept : Option (Kept Beside)} (t u : Term) (book : BookState) → IsEdited s (zonal_op stat v w) operands kept → book.size ≡ s → IsBookOf book (operand (cells_after operands) 0) (operand (cells_after operands) 1) → list.items ≡ damage_by s (zonal_op stat t u) was operands → AreTileJobs s (zonal_op stat t u) operands was (jobs_of list (a_kernel.Zonal stat book))
  unfolding operate
  zonal_jobs {stat} t u book edited size is listed = record {
    tiles = listed;
    can = (record { two = edited.operands_are.count; each = edited.operands_are.each }, no_product stat edited.operands_are.formed.0, size, is);
    cells = refl;
    beside_is = (size, is);
    work_is = sym (work_none s (zonal_op stat t u) was operands refl);
    little = omega arith;
    viewers = refl;
  }

  -- over the viewers
  pub sight_jobs : {v w : Term} {kept : Option (Kept Beside)} (sight : Sight) (t u : Term) → IsEdited s (sight_op (sighting_of sight) v w) operands kept → viewer_count (operand (cells_after operands) 0) ≤ most_viewers → list.items ≡ damage_by s (sight_op (sighting_of sight) t u) was operands → AreTileJobs s (sight_op (sighting_of sight) t u) operands was (jobs_of list (a_kernel.Sight sight (viewers_of s (operand (cells_after operands) 0))))
  unfolding operate
  sight_jobs sight t u edited few listed =
      let formed = edited.operands_are.formed.0 in
      let viewers : IsFalse (nat_lt most_viewers (viewer_count (operand (cells_after operands) 0))) = grind (arith, few) in
      record {
        tiles = listed;
        can = (record { two = edited.operands_are.count; each = edited.operands_are.each }, formed.reach.1, record { from_in_range = formed.from; to_in_range = formed.to }, refl);
        cells = refl;
        beside_is = refl;
        work_is = sym (work_none s (sight_op (sighting_of sight) t u) was operands refl);
        little = omega arith;
        viewers = viewers;
      }

-- a layer that was not there
pub fresh_jobs : (s : Size) (op : Op) (operands : List ChangeState) (list : Vec ℕ Global) (fresh : FreshLayer) → IsTrue (has_work op) → IsFreshMade s op operands fresh → list.items ≡ tiles s → AreTileJobs s op operands None (jobs_of list (a_kernel.Fresh fresh))
fresh_jobs s op operands list fresh works is listed = record {
  tiles = listed ∙ all_damaged s op operands;
  can = is.made_is.list_is;
  cells = is.made_is.cells;
  beside_is = is.beside_is;
  work_is = is.made_is.work_is;
  little = is.made_is.little;
  viewers = viewers_none (class_of op) (cells_after operands) works;
}

-- ---- looks

pub looks_within : {m n : ℕ} {a b : TallyState} → RisesBy m 0 a b → m ≤ n → RisesBy n 0 a b
looks_within {m} {n} {a} {b} r l = rises_within m 0 n 0 a b l (omega arith) r

-- ---- what is there

pub both_some : {X : Type 0} (P Q : X → Type 0) (o : Option X) → IfSome o P → IfSome o Q → IfSome o (λ x. P x × Q x)
both_some P Q None p q = tt
both_some P Q (Some x) p q = (p, q)

pub at_some : {X : Type 0} (P : X → Type 0) (o : Option X) (x : X) → o ≡ Some x → IfSome o P → P x
at_some P o x e p = rw (e) at p

pub for_some : {X : Type 0} (P Q : X → Type 0) (o : Option X) → ((x : X) → P x → Q x) → IfSome o P → IfSome o Q
for_some P Q None f p = tt
for_some P Q (Some x) f p = f x p

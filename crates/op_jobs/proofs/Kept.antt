-- What is kept of a statement, to the functions of its class.
use Rattle.std.proofs.Common.{◌≡◌, ℕ, true, List, [], ◌∷◌, length, Option, Some, None, Result, Ok, Err, ℤ, refl, sym, ◌∙◌, ap, subst, arith, IsTrue, IsFalse}
use Rattle.std.specs.Prelude.{is_some, IfSome}
use Rattle.std.specs.Borrow.{Bor}
use Rattle.std.specs.Option.{option_copied}
use Rattle.map_nums.specs.declared.Stat.{Stat}
use Rattle.map_nums.specs.Grids.{Size, Cells}
use Rattle.map_defs.specs.Facts.{Class, zonal_class, sight_class, nearest_class, class_of, is_repaired}
use Rattle.map_defs.specs.Ops.{Op, Term, zonal_op, sight_op}
use Rattle.map_defs.specs.Operate.{operate, operand}
use Rattle.map_defs.specs.Sight.{Sighting}
use Rattle.layer_tiles.specs.Changes.{ChangeState}
use Rattle.layer_tiles.specs.Layers.{LayerState}
use Rattle.layer_tiles.specs.Operands.{cells_after}
use Rattle.layer_tiles.specs.Patches.{PatchState}
use Rattle.layer_tiles.specs.declared.kernels.KernelRefusal.{KernelRefusal}
use Rattle.layer_tiles.specs.declared.kernels.KernelRefusal.TheVariants.{Overflow, NoMemory}
use Rattle.damage_sets.specs.Sets.{TileSetState}
use Rattle.tile_work.specs.Working.{before_of}
use Rattle.zonal_totals.specs.Books.{BookState}
use Rattle.statement_parser.specs.Views.{op_view}
use Rattle.map_waves.specs.Statements.{cells_were}
use Rattle.map_waves.specs.Jobs.{was_in, aside_in}
use Rattle.map_waves.specs.Keeping.{was_of, IsRightKept}
use Rattle.map_waves.specs.declared.keeping.Kept.{Kept}
use Rattle.map_waves.specs.declared.keeping.Aside.{Aside}
use Rattle.map_waves.specs.declared.keeping.Aside.TheVariants.{Other}
use Rattle.map_waves.specs.declared.keeping.Renewal.TheVariants.{Anew}
use Rattle.op_jobs.specs.Beside.{suits, suits_in, IsBook, AreViewers, book_at, book_in, viewers_at, kept_viewers, layer_in}
use Rattle.op_jobs.specs.Classes.{is_nearest_in}
use Rattle.op_jobs.specs.Operands.{IsEdited}
use Rattle.op_jobs.specs.Owning.{IsOwn, IsWholeJob, reached}
use Rattle.op_jobs.specs.Pieces.{IsWholeMade, IsWholePiece, IsWholeRepaired}
use Rattle.op_jobs.specs.Repairs.{IsRepairOf}
use Rattle.op_jobs.specs.Sound.{StatementJobs, IsSound, IsPiece, IsPieceOf, ArePieces, now_in}
use Rattle.damage_sets.specs.Counted.{count_any}
use Rattle.op_jobs.specs.Whole.{IsRightBefore, IsWholeAnswer}
use Rattle.op_jobs.specs.Zonal.{IsRightBook}
use Rattle.op_jobs.specs.declared.beside.Beside.{Beside}
use Rattle.op_jobs.specs.declared.beside.Beside.TheVariants.{Nothing, Book, Viewers}
use Rattle.op_jobs.specs.declared.own.Own.{Own}
use Rattle.op_jobs.specs.declared.own.Own.TheVariants as an_own
use Rattle.op_jobs.specs.declared.own.Lone.{Lone}
use Rattle.op_jobs.specs.declared.own.Repair.{Repair}
use Rattle.op_jobs.specs.declared.own.Repair.TheVariants.{Alone}
use Rattle.op_jobs.specs.declared.own.WholeJob.{WholeJob}
use Rattle.op_jobs.specs.declared.pieces.Piece.{Piece}
use Rattle.op_jobs.specs.declared.pieces.Piece.TheVariants.{Tile, Whole}
use Rattle.map_waves.specs.declared.keeping.Made.{Made}
use Rattle.op_jobs.proofs.Repairing.{alone_other}
use Rattle.op_jobs.proofs.WholeTiles.{alone_damaged, damage_counted}
use Rattle.op_jobs.proofs.Ranging.{wide_none}

-- ---- the book

pub right_book : (s : Size) (stat : Stat) (t u : Term) (operands : List ChangeState) (kept : Option (Kept Beside)) (r : Option (Bor BookState)) → option_copied r ≡ book_in kept → IsRightKept suits s (zonal_op stat t u) operands kept → IfSome r (λ book. IsRightBook stat s operands book.now)
unfolding operate
right_book s stat t u operands kept None e is = tt
right_book s stat t u operands None (Some b) e is = absurd cc
right_book s stat t u operands (Some k) (Some b) e is = at k.beside e is.beside
  where
    at : (x : Aside Beside) → Some b.now ≡ book_at x → IsBook s (operand (cells_were operands) 0) (operand (cells_were operands) 1) x → IsRightBook stat s operands b.now
    at (Other (Book c)) f q =
        let same : b.now ≡ c = cc in
        subst (IsRightBook stat s operands) (sym same) (record { there = is.there; size = q.0; book = q.1; in_range = wide_none s (zonal_op stat t u) (cells_were operands) is.faultless })
    at x f q = absurd q

copied_there : {X : Type 0} (r : Option (Bor X)) {o : Option X} → option_copied r ≡ o → is_some o ≡ is_some r
copied_there None e = sym (ap is_some e)
copied_there (Some b) e = sym (ap is_some e)

pub book_there : {s : Size} {stat : Stat} {t u : Term} {operands : List ChangeState} (kept : Option (Kept Beside)) (r : Option (Bor BookState)) → option_copied r ≡ book_in kept → IsEdited s (zonal_op stat t u) operands kept → is_some (was_of kept) ≡ is_some r
book_there None r e is = copied_there r e
book_there {s} {operands} (Some k) r e is = at k.beside is.right.beside ∙ copied_there r e
  where
    at : (x : Aside Beside) → IsBook s (operand (cells_were operands) 0) (operand (cells_were operands) 1) x → true ≡ is_some (book_at x)
    at (Other (Book c)) q = refl
    at x q = absurd q

-- ---- the viewers

pub viewers_there : {s : Size} {sight : Sighting} {t u : Term} {operands : List ChangeState} (kept : Option (Kept Beside)) (r : Option (Bor (List (ℕ × ℤ)))) → option_copied r ≡ kept_viewers kept → IsEdited s (sight_op sight t u) operands kept → is_some (was_of kept) ≡ is_some r
viewers_there None r e is = copied_there r e
viewers_there {s} {operands} (Some k) r e is = at k.beside is.right.beside ∙ copied_there r e
  where
    at : (x : Aside Beside) → AreViewers s (operand (cells_were operands) 0) x → true ≡ is_some (viewers_at x)
    at (Other (Viewers v)) q = refl
    at x q = absurd q

-- ---- the layer

pub right_layer : (z s : Size) (op : Op) (operands : List ChangeState) (kept : Option (Kept Beside)) (o : Option LayerState) → z ≡ s → o ≡ layer_in kept → IsRightKept suits s op operands kept → IsRightBefore z op operands o
right_layer z s op operands kept o size e is = let P : Size → Option LayerState → Type 0 = λ y x. IsRightBefore y op operands x in subst (λ y. P y o) (sym size) (subst (P s) (sym e) (at kept is))
  where
    at : (k : Option (Kept Beside)) → IsRightKept suits s op operands k → IsRightBefore s op operands (layer_in k)
    at None q = tt
    at (Some k) q = record { size = q.size; there = q.there; right = q.right }

pub before_is : (kept : Option (Kept Beside)) (o : Option LayerState) → o ≡ layer_in kept → before_of o ≡ was_of kept
before_is kept o e = ap before_of e ∙ at kept
  where
    at : (k : Option (Kept Beside)) → before_of (layer_in k) ≡ was_of k
    at None = refl
    at (Some k) = refl

pub whole_refusal : (s : Size) (op : Op) (was : Option Cells) (operands : List ChangeState) (e : KernelRefusal) → IsWholeAnswer s op was operands (Err e) → (aside : Option (Aside Beside)) → IsWholePiece s op was aside operands (Err e)
whole_refusal s op was operands (Overflow at) is aside = is
whole_refusal s op was operands NoMemory is aside = tt

-- ---- one job for all

pub piece_whole : (j : StatementJobs) (job : WholeJob) (k : ℕ) (r : Result Piece KernelRefusal) → j.own ≡ an_own.Whole job → IsWholePiece j.size (op_view j.op) (was_in j) (aside_in j) j.operands r → IsPiece j k r
unfolding IsPiece
piece_whole j job k r own p = let P : Own → Type 0 = λ o. IsPieceOf o j k r in subst P (sym own) p

pub whole_own : (j : StatementJobs) (job : WholeJob) → IsSound j → j.own ≡ an_own.Whole job → IsWholeJob j.size (op_view j.op) j.operands (was_in j) job
whole_own j job is e = let P : Own → Type 0 = λ o. IsOwn j.size (op_view j.op) j.operands (was_in j) o in subst P e is.own_is

pub reached_size : (s : Size) (was : Option Cells) (operands : List ChangeState) (set : TileSetState) → set ≡ reached 0 s was operands → set.size ≡ s
reached_size s None operands set e = ap (λ (d : TileSetState). d.size) e
reached_size s (Some w) operands set e = ap (λ (d : TileSetState). d.size) e

pub work_beside : (class : Class) (s : Size) (cells : List Cells) → IsTrue (is_repaired class) → IsFalse (is_nearest_in class) → suits_in class s cells (Other Nothing)
work_beside (zonal_class stat) s cells e f = absurd cc
work_beside (sight_class r) s cells e f = absurd cc
work_beside (nearest_class limit) s cells e f = absurd cc
work_beside class s cells e f = tt

module _ (j : StatementJobs) (job : WholeJob) (is : IsSound j) (own : j.own ≡ an_own.Whole job) where
  pub touched_size : job.touched.size ≡ j.size
  touched_size = reached_size j.size (was_in j) j.operands job.touched (whole_own j job is own).set_is

  -- where nothing stands beside the layer
  pub alone_repaired : (lone : Lone) (patch : PatchState) (work : ℕ) → job.repair ≡ Alone lone → IsWholeMade j.size (op_view j.op) (was_in j) j.operands patch work
      → IsWholeRepaired j.size (op_view j.op) (was_in j) (aside_in j) j.operands (record { patch = patch; beside = Anew (Other Nothing); evaluated = count_any job.touched patch None; worked = work })
  alone_repaired lone patch work repair made =
      let whole = whole_own j job is own in
      let class = class_of (op_view j.op) in
      let alone = alone_other lone (op_view j.op).head (subst (λ (r : Repair). IsRepairOf (op_view j.op) r) repair whole.repair_is) in
      record {
        repaired = record {
          size = made.size;
          cells = made.cells;
          exact = made.exact;
          can_put = tt;
          beside = λ b e. subst (λ (b : Aside Beside). suits j.size (op_view j.op) (cells_after j.operands) b) (sym e) (work_beside class j.size (cells_after j.operands) whole.class alone);
          evaluated = damage_counted j.size (op_view j.op) j.operands job.touched patch None (was_in j) whole.class made.size whole.set_is made.exact (λ w e t l. alone_damaged class j.size (cells_were j.operands) (cells_after j.operands) w (now_in j) t whole.class alone);
          worked = made.work_is;
          little = made.little;
        };
        narrow = made.narrow;
      }

  -- the piece of the one job
  pub whole_pieces : (pieces : List Piece) → length pieces ≡ 1 → ArePieces j pieces → (m : Made Beside) × (pieces ≡ Whole m ∷ []) × IsWholeRepaired j.size (op_view j.op) (was_in j) (aside_in j) j.operands m
  unfolding IsPiece
  whole_pieces [] n are = absurd (omega (arith, n))
  whole_pieces (p ∷ []) n are = at p (let P : Own → Type 0 = λ o. IsPieceOf o j 0 (Ok p) in subst P own (are 0 p refl))
    where
      at : (p : Piece) → IsWholePiece j.size (op_view j.op) (was_in j) (aside_in j) j.operands (Ok p) → (m : Made Beside) × (p ∷ [] ≡ Whole m ∷ []) × IsWholeRepaired j.size (op_view j.op) (was_in j) (aside_in j) j.operands m
      at (Whole m) is = (m, refl, is)
      at (Tile made) is = absurd is
  whole_pieces (p ∷ q ∷ pieces) n are = absurd (omega (arith, n))

-- What the jobs of a statement come to.
use Rattle.std.proofs.Common.{◌≡◌, ℕ, ◌+◌, ◌*◌, ◌^◌, ◌<◌, ◌≤◌, Bool, true, false, List, length, get_or, Option, Some, None, Result, Ok, Err, refl, sym, ◌∙◌, ap, subst, arith, IsTrue, IsFalse, slice_get}
use Rattle.std.specs.Prelude.{IsOk, option_map, nat_lt}
use Rattle.std.specs.List.{filter, range_with_len, position}
use Rattle.std.proofs.lemmas.List.FromFn.{length-range_with_len}
use Rattle.std.proofs.lemmas.List.Sums.{sum_by-le}
use Rattle.std.proofs.lemmas.Option.{slice_get-get_or}
use Rattle.map_nums.specs.Answers.{is_wide}
use Rattle.map_nums.specs.Grids.{Size, IsSize, Cells, cells_in, cell_at}
use Rattle.map_nums.specs.Tiles.{tiles_in, tile_of}
use Rattle.map_defs.specs.Facts.{Class, sight_class, class_of, is_repaired}
use Rattle.map_defs.specs.Ops.{Op}
use Rattle.map_defs.specs.Damage.{has_work}
use Rattle.map_defs.specs.Sight.{most_viewers}
use Rattle.map_defs.specs.Viewers.{viewers_by}
use Rattle.layer_tiles.specs.Answers.{IsLeastWide}
use Rattle.layer_tiles.specs.Operands.{cells_after}
use Rattle.layer_tiles.specs.declared.kernels.KernelRefusal.{KernelRefusal}
use Rattle.layer_tiles.specs.declared.kernels.KernelRefusal.TheVariants.{Overflow, NoMemory}
use Rattle.statement_parser.specs.Views.{op_view}
use Rattle.map_waves.specs.Statements.{work_by, fault_in, wide_at}
use Rattle.map_waves.specs.Answers.{AreJobs, AreAnswers, AllOk, IsLeastOverflow, total_of}
use Rattle.map_waves.specs.Jobs.{was_in, aside_in}
use Rattle.op_jobs.specs.Owning.{IsOwn, AreTileJobs, count_of}
use Rattle.op_jobs.specs.Pieces.{IsTilePiece, IsWholePiece}
use Rattle.op_jobs.specs.Sound.{StatementJobs, IsSound, IsPiece, IsPieceOf, now_in, damage_in, first, looks, picks, first_by, looks_by, picks_by}
use Rattle.op_jobs.specs.Tiling.{IsLeastUpTo}
use Rattle.op_jobs.specs.declared.pieces.Piece.{Piece}
use Rattle.op_jobs.specs.declared.pieces.Piece.TheVariants.{Tile, Whole}
use Rattle.op_jobs.specs.declared.own.Own.{Own}
use Rattle.op_jobs.specs.declared.own.Own.TheVariants as an_own
use Rattle.op_jobs.specs.declared.own.TileJobs.{TileJobs}
use Rattle.op_jobs.proofs.Hits.{is_hit, damage_is, damage_most, tiles_few, was_right, was_narrow, changed_hit, WasRight}
use Rattle.op_jobs.proofs.Grids.{made_count}
use Rattle.op_jobs.proofs.Listing.{listed, range_all}
use Rattle.op_jobs.proofs.Ranging.{narrow_in, position_none, position_wide, narrow_below, fault_is}

-- ---- one answer

-- it tells all cells of its tile below a bound
abbrev Tells : ℕ → Result Piece KernelRefusal → Type 0
Tells bound (Ok p) = Unit {0}
Tells bound (Err (Overflow at)) = bound ≤ at
Tells bound (Err NoMemory) = ⊥

answer_narrow : (s : Size) (was : Option Cells) (now : Cells) (t bound : ℕ) (r : Result Piece KernelRefusal) → IsSize s → IsTilePiece s was now t r → Tells bound r → (i : ℕ) → i < bound → i < cells_in s → tile_of s i ≡ t → IsFalse (is_wide (cell_at now i))
answer_narrow s was now t bound (Ok (Tile o)) h is tells i l m e = narrow_in s now t i h m e is.narrow
answer_narrow s was now t bound (Ok (Whole made)) h is tells i l m e = absurd is
answer_narrow s was now t bound (Err (Overflow at)) h is tells i l m e = is.least i (omega (arith, l, tells)) e
answer_narrow s was now t bound (Err NoMemory) h is tells i l m e = absurd tells

-- ---- sums

total_same : (m n : ℕ) → total_of (λ k. m) n ≤ n * m
total_same m n =
    let most = sum_by-le (λ k. m) m (range_with_len 0 n) (range_all (λ k. m ≤ m) n (λ k l. omega arith)) in
    omega (arith, most, ap (λ x. x * m) (length-range_with_len 0 n))

-- ---- of a statement without viewers

pub viewers_none : (class : Class) (cells : List Cells) → IsTrue (is_repaired class) → nat_lt most_viewers (viewers_by class cells) ≡ false
viewers_none (sight_class r) cells e = absurd cc
viewers_none class cells e = refl

module _ (j : StatementJobs) (is : IsSound j) where
  abbrev op : Op
  op = op_view j.op

  abbrev hit : ℕ → Bool
  hit = is_hit j.size op (was_in j) j.operands

  right : (w : Cells) → was_in j ≡ Some w → WasRight j.size op j.operands w
  right w e = was_right j.size op j.operands j.kept w is.edited.right e

  all_below : (bound : ℕ) → ((t i : ℕ) → t < tiles_in j.size → hit t ≡ true → i < bound → i < cells_in j.size → tile_of j.size i ≡ t → IsFalse (is_wide (cell_at (now_in j) i))) → (i : ℕ) → i < bound → i < cells_in j.size → IsFalse (is_wide (cell_at (now_in j) i))
  all_below bound good = narrow_below j.size (was_in j) (now_in j) hit is.size (changed_hit j.size op j.operands (was_in j) is.size right is.edited.operands_are.formed.1 is.edited.operands_are.count) (was_narrow j.size op j.operands (was_in j) is.size right) bound good

  now_count : length (now_in j) ≡ cells_in j.size
  now_count = made_count j.size op (cells_after j.operands)

  -- ---- a job for each tile

  module _ (jobs : TileJobs) (own : an_own.Tiles jobs ≡ j.own) (are : AreTileJobs j.size op j.operands (was_in j) jobs) where
    tiles_are : jobs.tiles.items ≡ filter hit (range_with_len 0 (tiles_in j.size))
    tiles_are = are.tiles ∙ damage_is j.size op (was_in j) j.operands

    -- the job of a tile of the damage
    job_of : (t : ℕ) → t < tiles_in j.size → hit t ≡ true → (k : ℕ) × (k < length jobs.tiles.items) × (get_or jobs.tiles.items k 0 ≡ t)
    job_of t l e =
        let P : List ℕ → Type 0 = λ ts. (k : ℕ) × (k < length ts) × (get_or ts k 0 ≡ t) in
        subst P (sym tiles_are) (listed hit (tiles_in j.size) t l e)

    count_here : j.count ≡ length jobs.tiles.items
    count_here = is.count_is ∙ ap count_of (sym own)

    piece_is : (k : ℕ) (r : Result Piece KernelRefusal) → IsPiece j k r → IsTilePiece j.size (was_in j) (now_in j) (get_or jobs.tiles.items k 0) r
    unfolding IsPiece
    piece_is k r p = let P : Own → Type 0 = λ o. IsPieceOf o j k r in subst P (sym own) p

    told : (rs : List (Result Piece KernelRefusal)) (bound : ℕ) → AreAnswers IsPiece j rs → ((k : ℕ) (r : Result Piece KernelRefusal) → slice_get rs k ≡ Some r → Tells bound r) → (i : ℕ) → i < bound → i < cells_in j.size → IsFalse (is_wide (cell_at (now_in j) i))
    told rs bound answers tells = all_below bound (λ t i l e b m at.
        let a = job_of t l e in
        let k = a.0 in
        let within : k < length rs = omega (arith, a.1, answers.count, count_here) in
        let r = get_or rs k (Err NoMemory) in
        let there : slice_get rs k ≡ Some r = slice_get-get_or rs k (Err NoMemory) within in
        answer_narrow j.size (was_in j) (now_in j) (get_or jobs.tiles.items k 0) bound r is.size (piece_is k r (answers.each k r there)) (tells k r there) i b m (at ∙ sym a.2))

    tile_none : (rs : List (Result Piece KernelRefusal)) → AreAnswers IsPiece j rs → AllOk rs → fault_in j.size op (cells_after j.operands) ≡ None
    tile_none rs answers ok =
        fault_is j.size op (cells_after j.operands) are.viewers
        ∙ ap (option_map (λ at. wide_at at)) (position_none j.size (now_in j) is.size now_count (λ i l m. told rs (cells_in j.size) answers (λ k r e. tells r (ok k r e)) i l l))
      where
        tells : (r : Result Piece KernelRefusal) → IsOk r → Tells (cells_in j.size) r
        tells (Ok p) e = tt
        tells (Err x) e = absurd cc

    tile_least : (rs : List (Result Piece KernelRefusal)) (at : ℕ) → AreAnswers IsPiece j rs → IsLeastOverflow rs at → fault_in j.size op (cells_after j.operands) ≡ Some (wide_at at)
    tile_least rs at answers least =
        let wide : IsLeastWide j.size (now_in j) (get_or jobs.tiles.items least.place 0) at = piece_is least.place (Err (Overflow at)) (answers.each least.place (Err (Overflow at)) least.is) in
        let first_wide : IsLeastUpTo j.size (now_in j) (tiles_in j.size) at = record { within = wide.within; wide = wide.wide; least = λ i l m. told rs at answers (λ k r e. tells k r e refl) i l (omega (arith, l, wide.within)) } in
        fault_is j.size op (cells_after j.operands) are.viewers
        ∙ ap (option_map (λ at. wide_at at)) (position_wide j.size (now_in j) at is.size now_count first_wide)
      where
        tells : (k : ℕ) (r : Result Piece KernelRefusal) → slice_get rs k ≡ Some r → r ≡ r → Tells at r
        tells k (Ok p) e same = tt
        tells k (Err (Overflow b)) e same = least.least k b e
        tells k (Err NoMemory) e same = absurd (least.enough k e)

  -- ---- one job

  whole_piece : (set : _) → an_own.Whole set ≡ j.own → (k : ℕ) (r : Result Piece KernelRefusal) → IsPiece j k r → IsWholePiece j.size op (was_in j) (aside_in j) j.operands r
  unfolding IsPiece
  whole_piece set own k r p = let P : Own → Type 0 = λ o. IsPieceOf o j k r in subst P (sym own) p

  whole_none : (set : _) → an_own.Whole set ≡ j.own → IsTrue (has_work op) → (rs : List (Result Piece KernelRefusal)) → AreAnswers IsPiece j rs → AllOk rs → fault_in j.size op (cells_after j.operands) ≡ None
  whole_none set own class rs answers ok =
      let r = get_or rs 0 (Err NoMemory) in
      let one : j.count ≡ 1 = is.count_is ∙ ap count_of (sym own) in
      let within : 0 < length rs = omega (arith, one, answers.count) in
      let there : slice_get rs 0 ≡ Some r = slice_get-get_or rs 0 (Err NoMemory) within in
      fault_is j.size op (cells_after j.operands) (viewers_none (class_of op) (cells_after j.operands) class)
      ∙ ap (option_map (λ at. wide_at at)) (narrow r (whole_piece set own 0 r (answers.each 0 r there)) (ok 0 r there))
    where
      narrow : (r : Result Piece KernelRefusal) → IsWholePiece j.size op (was_in j) (aside_in j) j.operands r → IsOk r → position is_wide (now_in j) ≡ None
      narrow (Ok (Tile o)) p e = absurd p
      narrow (Ok (Whole made)) p e = p.narrow
      narrow (Err x) p e = absurd cc

  whole_least : (set : _) → an_own.Whole set ≡ j.own → IsTrue (has_work op) → (rs : List (Result Piece KernelRefusal)) (at : ℕ) → AreAnswers IsPiece j rs → IsLeastOverflow rs at → fault_in j.size op (cells_after j.operands) ≡ Some (wide_at at)
  whole_least set own class rs at answers least =
      fault_is j.size op (cells_after j.operands) (viewers_none (class_of op) (cells_after j.operands) class)
      ∙ ap (option_map (λ at. wide_at at)) (whole_piece set own least.place (Err (Overflow at)) (answers.each least.place (Err (Overflow at)) least.is))

  -- ---- all of it

  few_by : (o : Own) → o ≡ j.own → IsOwn j.size op j.operands (was_in j) o → j.count < 2 ^ 31
  few_by (an_own.Tiles jobs) e are = omega (arith, count_here jobs e are, ap length are.tiles, damage_most j.size op (was_in j) j.operands, tiles_few j.size is.size)
  few_by (an_own.Whole set) e are = omega (arith, is.count_is, ap count_of e)

  looks_fit_by : (o : Own) → o ≡ j.own → IsOwn j.size op j.operands (was_in j) o → first_by o (damage_in j) + total_of (λ k. looks_by o (damage_in j)) j.count ≤ 60 * damage_in j
  looks_fit_by (an_own.Tiles jobs) e are = omega (arith, total_same 26 j.count, count_here jobs e are, ap length are.tiles)
  looks_fit_by (an_own.Whole set) e are = omega (arith, total_same (32 * damage_in j) j.count, ap (λ n. n * (32 * damage_in j)) (is.count_is ∙ ap count_of (sym e)))

  picks_fit_by : (o : Own) → o ≡ j.own → total_of (λ k. picks_by o (work_by j.size op (was_in j) j.operands)) j.count ≤ 1000 * work_by j.size op (was_in j) j.operands
  picks_fit_by (an_own.Tiles jobs) e = omega (arith, total_same 0 j.count)
  picks_fit_by (an_own.Whole set) e = let w = work_by j.size op (was_in j) j.operands in omega (arith, total_same (1000 * w) j.count, ap (λ n. n * (1000 * w)) (is.count_is ∙ ap count_of (sym e)))

  none_by : (o : Own) → o ≡ j.own → IsOwn j.size op j.operands (was_in j) o → (rs : List (Result Piece KernelRefusal)) → AreAnswers IsPiece j rs → AllOk rs → fault_in j.size op (cells_after j.operands) ≡ None
  none_by (an_own.Tiles jobs) e are = tile_none jobs e are
  none_by (an_own.Whole set) e are = whole_none set e are.class

  least_by : (o : Own) → o ≡ j.own → IsOwn j.size op j.operands (was_in j) o → (rs : List (Result Piece KernelRefusal)) (at : ℕ) → AreAnswers IsPiece j rs → IsLeastOverflow rs at → fault_in j.size op (cells_after j.operands) ≡ Some (wide_at at)
  least_by (an_own.Tiles jobs) e are = tile_least jobs e are
  least_by (an_own.Whole set) e are = whole_least set e are.class

  pub are_jobs : AreJobs op_view IsSound first looks picks IsPiece j
  are_jobs = record {
    is_sound = ∣ is ∣₁;
    few = few_by j.own refl is.own_is;
    looks_fit = looks_fit_by j.own refl is.own_is;
    picks_fit = picks_fit_by j.own refl;
    none_wide = none_by j.own refl is.own_is;
    least_wide = least_by j.own refl is.own_is;
  }

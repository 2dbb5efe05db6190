-- The tiles that changed, piece by piece: what the job of a tile answers, and what all pieces come to.
use Rattle.std.proofs.Common.{◌≡◌, ℕ, zero, suc, ◌+◌, ◌-◌, ◌^◌, ◌<◌, Bool, true, false, cond, List, [], ◌∷◌, ◌++◌, append_assoc, length, get_or, Option, Some, None, Result, Ok, refl, sym, ◌∙◌, ap, subst, arith, slice_get}
use Rattle.std.specs.Prelude.{unwrap_or}
use Rattle.std.specs.List.{filter, range_with_len, All}
use Rattle.std.specs.List.Sorted.{IsStrictlyIncreasing}
use Rattle.std.proofs.lemmas.List.{append-nil, get_or_default, map-append}
use Rattle.std.proofs.lemmas.Option.{slice_get_within}
use Rattle.std.proofs.lemmas.List.FromFn.{get_or-range_with_len, length-range_with_len}
use Rattle.std.proofs.lemmas.List.Kept.{IsStrictlyIncreasing-filter}
use Rattle.map_nums.specs.Grids.{Size, Cells, IsSize}
use Rattle.map_nums.specs.Tiles.{tiles, tiles_in}
use Rattle.map_defs.specs.Ops.{Op}
use Rattle.map_defs.specs.Damage.{changed_tiles}
use Rattle.map_defs.specs.Differences.{differs, tile_has}
use Rattle.layer_tiles.specs.Changes.{ChangeState}
use Rattle.layer_tiles.specs.Operands.{cells_after}
use Rattle.layer_tiles.specs.Patches.{IsAboveLast, numbers_of, patched}
use Rattle.layer_tiles.specs.Tiles.{Block, tile_block, IsBlockOf}
use Rattle.layer_tiles.specs.declared.kernels.KernelRefusal.{KernelRefusal}
use Rattle.layer_tiles.proofs.Whole.{tile_block_is}
use Rattle.layer_tiles.specs.Answers.{IsTileAnswer}
use Rattle.tile_work.proofs.Numbers.{rises_far}
use Rattle.statement_parser.specs.Views.{op_view}
use Rattle.map_waves.specs.Statements.{damage_by}
use Rattle.map_waves.specs.Jobs.{was_in, aside_in}
use Rattle.map_waves.specs.Keeping.{CanPut, IsPut, was_of}
use Rattle.map_waves.specs.Gathered.{IsRepaired}
use Rattle.map_waves.specs.declared.keeping.Made.{Made}
use Rattle.map_waves.specs.declared.keeping.Renewal.{Renewal}
use Rattle.map_waves.specs.declared.keeping.Kept.{Kept}
use Rattle.op_jobs.specs.Beside.{suits}
use Rattle.op_jobs.specs.Kernels.{beside_by}
use Rattle.op_jobs.specs.Changed.{is_changed}
use Rattle.op_jobs.specs.Pieces.{IsTilePiece, FitsTile, FitTiles, tiles_at, tiles_of, IsTileMade}
use Rattle.op_jobs.specs.Sound.{StatementJobs, IsSound, IsPiece, IsPieceOf, ArePieces, IsMadeOf, now_in}
use Rattle.op_jobs.specs.Others.{IsOther}
use Rattle.op_jobs.specs.declared.beside.Beside.{Beside}
use Rattle.op_jobs.specs.declared.pieces.Piece.{Piece}
use Rattle.op_jobs.specs.declared.pieces.Piece.TheVariants.{Tile, Whole}
use Rattle.op_jobs.specs.declared.own.Own.{Own}
use Rattle.op_jobs.specs.declared.own.TileJobs.{TileJobs}
use Rattle.op_jobs.specs.declared.own.Own.TheVariants as an_own
use Rattle.op_jobs.proofs.Grids.{made_count}
use Rattle.op_jobs.proofs.Hits.{is_hit, damage_is, changed_within, was_right, WasRight, damage_within}
use Rattle.op_jobs.proofs.Quiet.{numbered, numbers_are, changed_are, changed_makes, quiet_of_block, block_of_quiet}
use Rattle.op_jobs.proofs.Sharing.{tile_own}

-- ---- the job of a tile

-- the tiles of jobs lie in the grid
module _ (j : StatementJobs) (jobs : TileJobs) (is : IsSound j) (own : j.own ≡ an_own.Tiles jobs) where
  pub tiles_within : All (λ u. u < tiles_in j.size) jobs.tiles.items
  tiles_within = subst (All (λ u. u < tiles_in j.size)) (sym (tile_own j jobs is own).tiles) (damage_within j.size (op_view j.op) (was_in j) j.operands)

  pub job_tile : (k t : ℕ) → k < length jobs.tiles.items → t ≡ get_or jobs.tiles.items k t → t < tiles_in j.size
  job_tile k t l e = subst (λ u. u < tiles_in j.size) (sym e) (tiles_within k t l)

-- the tile is told where it changed
other_is : (s : Size) (now : Cells) (t : ℕ) (kept : Option (Kept Beside)) (b : Block) (r : Option Block) → IsSize s → t < tiles_in s → ((k : Kept Beside) → kept ≡ Some k → k.layer.size ≡ s) → b ≡ tile_block s now t → IsOther kept t b r → r ≡ cond (is_changed s (was_of kept) now t) (Some (tile_block s now t)) None
other_is s now t None b r h l size e is = is ∙ ap (λ x. Some x) e
other_is s now t (Some k) b None h l size e is =
    let same : tile_block s k.layer.cells t ≡ tile_block s now t = subst (λ z. tile_block z k.layer.cells t ≡ tile_block s now t) (size k refl) (is ∙ e) in
    sym (ap (λ v. cond v (Some (tile_block s now t)) None) (quiet_of_block s k.layer.cells now h t same))
other_is s now t (Some k) b (Some c) h l size e is = which (tile_has s (differs k.layer.cells now) t) refl
  where
    which : (v : Bool) → v ≡ tile_has s (differs k.layer.cells now) t → Some c ≡ cond (tile_has s (differs k.layer.cells now) t) (Some (tile_block s now t)) None
    which true f = ap (λ x. Some x) (is.0 ∙ e) ∙ ap (λ v. cond v (Some (tile_block s now t)) None) f
    which false f =
        let same = block_of_quiet s k.layer.cells now h t l (sym f) in
        absurd (is.1 (subst (λ z. tile_block z k.layer.cells t ≡ tile_block s now t) (sym (size k refl)) same ∙ sym e))

pub piece_told : (s : Size) (now : Cells) (t : ℕ) (kept : Option (Kept Beside)) (b : Block) (r : Option Block) → IsSize s → t < tiles_in s → ((k : Kept Beside) → kept ≡ Some k → k.layer.size ≡ s) → IsTileAnswer s now t (Ok b) → IsOther kept t b r → IsTileMade s (was_of kept) now t r
piece_told s now t kept b r h l size answer is = record { is = other_is s now t kept b r h l size answer.0 is; narrow = answer.1 }

-- ---- ascending tiles

range_up : (n : ℕ) → IsStrictlyIncreasing (range_with_len 0 n)
range_up n k l =
    let m : k + 1 < n = omega (arith, l, length-range_with_len 0 n) in
    omega (arith, get_or-range_with_len 0 n k 0 (omega (arith, m)), get_or-range_with_len 0 n (k + 1) 0 m)

pub damage_up : (s : Size) (op : Op) (was : Option Cells) (operands : List ChangeState) → IsStrictlyIncreasing (damage_by s op was operands)
damage_up s op was operands = subst IsStrictlyIncreasing (sym (damage_is s op was operands)) (IsStrictlyIncreasing-filter (is_hit s op was operands) (tiles s) (range_up (tiles_in s)))

-- the tiles of some pieces are below what comes after theirs
below : (u : ℕ) (ts : List ℕ) (ps : List Piece) → ((i : ℕ) → i < length ps → i < length ts → get_or ts i 0 < u) → (k : ℕ) → k < length (tiles_of ts ps) → get_or (numbers_of (tiles_of ts ps)) k 0 < u
below u [] ps h k l = absurd (omega (arith, l))
below u (t ∷ ts) [] h k l = absurd (omega (arith, l))
below u (t ∷ ts) (p ∷ ps) h k l = at p (λ i m. below u ts ps (λ i l m. h (suc i) (omega (arith, l)) (omega (arith, m))) i m) (h 0 (omega arith) (omega arith)) k l
  where
    at : (p : Piece) → ((i : ℕ) → i < length (tiles_of ts ps) → get_or (numbers_of (tiles_of ts ps)) i 0 < u) → t < u → (k : ℕ) → k < length (tiles_at t p ++ tiles_of ts ps) → get_or (numbers_of (tiles_at t p ++ tiles_of ts ps)) k 0 < u
    at (Tile None) rest first k l = rest k l
    at (Tile (Some b)) rest first zero l = first
    at (Tile (Some b)) rest first (suc k) l = rest k (omega (arith, l))
    at (Whole made) rest first k l = rest k l

pub above : (ts : List ℕ) (ps : List Piece) → IsStrictlyIncreasing ts → length ps < length ts → IsAboveLast (tiles_of ts ps) (get_or ts (length ps) 0)
above ts ps up l some = below (get_or ts (length ps) 0) ts ps (λ i m n. rises_far ts up i (length ps) m l) (length (tiles_of ts ps) - 1) (omega (arith, some))

-- one more piece
pub tiles_next : (ts : List ℕ) (ps : List Piece) (p : Piece) → length ps < length ts → tiles_of ts (ps ++ p ∷ []) ≡ tiles_of ts ps ++ tiles_at (get_or ts (length ps) 0) p
tiles_next [] ps p l = absurd (omega (arith, l))
tiles_next (t ∷ ts) [] p l = ap (λ (rest : List (ℕ × Block)). tiles_at t p ++ rest) (none ts) ∙ append-nil (tiles_at t p)
  where
    none : (ts : List ℕ) → tiles_of ts [] ≡ []
    none [] = refl
    none (u ∷ ts) = refl
tiles_next (t ∷ ts) (q ∷ ps) p l = ap (λ (rest : List (ℕ × Block)). tiles_at t q ++ rest) (tiles_next ts ps p (omega (arith, l))) ∙ sym (append_assoc (tiles_at t q) (tiles_of ts ps) (tiles_at (get_or ts (length ps) 0) p))

-- ---- pieces

pub fits : (s : Size) (was : Option Cells) (now : Cells) (t : ℕ) (p : Piece) → IsTilePiece s was now t (Ok p) → FitsTile s t p
fits s was now t (Tile None) is = tt
fits s was now t (Tile (Some b)) is = block (is_changed s was now t) is.is
  where
    block : (v : Bool) → Some b ≡ cond v (Some (tile_block s now t)) None → IsBlockOf s t b
    block true e = let same : b ≡ tile_block s now t = cc in subst (IsBlockOf s t) (sym same) (tile_block_is s now t)
    block false e = absurd cc
fits s was now t (Whole made) is = absurd is

tiles_told : (s : Size) (was : Option Cells) (now : Cells) (t : ℕ) (p : Piece) → IsTilePiece s was now t (Ok p) → tiles_at t p ≡ numbered (tile_block s now) (cond (is_changed s was now t) (t ∷ []) [])
tiles_told s was now t (Tile o) is = told (is_changed s was now t) o is.is
  where
    told : (v : Bool) (o : Option Block) → o ≡ cond v (Some (tile_block s now t)) None → tiles_at t (Tile o) ≡ numbered (tile_block s now) (cond v (t ∷ []) [])
    told true o e = ap (λ (x : Option Block). tiles_at t (Tile x)) e
    told false o e = ap (λ (x : Option Block). tiles_at t (Tile x)) e
tiles_told s was now t (Whole made) is = absurd is

-- all pieces: exactly the tiles that changed
pub tiles_all : (s : Size) (was : Option Cells) (now : Cells) (ts : List ℕ) (ps : List Piece) → length ps ≡ length ts → ((k : ℕ) (p : Piece) → slice_get ps k ≡ Some p → IsTilePiece s was now (get_or ts k 0) (Ok p)) → tiles_of ts ps ≡ numbered (tile_block s now) (filter (is_changed s was now) ts)
tiles_all s was now [] ps n each = refl
tiles_all s was now (t ∷ ts) [] n each = absurd (omega (arith, n))
tiles_all s was now (t ∷ ts) (p ∷ ps) n each =
    let f = tile_block s now in
    let c = is_changed s was now in
    let rest : tiles_of ts ps ≡ numbered f (filter c ts) = tiles_all s was now ts ps (omega (arith, n)) (λ k q e. each (suc k) q e) in
    let here : tiles_at t p ≡ numbered f (cond (c t) (t ∷ []) []) = tiles_told s was now t p (each 0 p refl) in
    ap (λ (xs : List (ℕ × Block)). xs ++ tiles_of ts ps) here ∙ ap (λ (xs : List (ℕ × Block)). numbered f (cond (c t) (t ∷ []) []) ++ xs) rest ∙ sym (map-append (λ u. (u, f u)) (cond (c t) (t ∷ []) []) (filter c ts)) ∙ ap (numbered f) (first (c t) (filter c ts))
  where
    first : (v : Bool) (us : List ℕ) → cond v (t ∷ []) [] ++ us ≡ cond v (t ∷ us) us
    first true us = refl
    first false us = refl

-- ---- of sound jobs

pub piece_at : (j : StatementJobs) (jobs : TileJobs) (pieces : List Piece) (k t : ℕ) (p : Piece) → j.own ≡ an_own.Tiles jobs → ArePieces j pieces → slice_get pieces k ≡ Some p → k < length jobs.tiles.items → t ≡ get_or jobs.tiles.items k t → IsTilePiece j.size (was_in j) (now_in j) t (Ok p)
unfolding IsPiece
piece_at j jobs pieces k t p own are e l at =
    let P : Own → Type 0 = λ o. IsPieceOf o j k (Ok p) in
    subst (λ u. IsTilePiece j.size (was_in j) (now_in j) u (Ok p)) (sym (at ∙ get_or_default jobs.tiles.items k t 0 l)) (subst P own (are k p e))

-- and back
pub piece_of : (j : StatementJobs) (jobs : TileJobs) (k : ℕ) (r : Result Piece KernelRefusal) → j.own ≡ an_own.Tiles jobs → IsTilePiece j.size (was_in j) (now_in j) (get_or jobs.tiles.items k 0) r → IsPiece j k r
unfolding IsPiece
piece_of j jobs k r own p = let P : Own → Type 0 = λ o. IsPieceOf o j k r in subst P (sym own) p

pub tiles_up : (j : StatementJobs) (jobs : TileJobs) → IsSound j → j.own ≡ an_own.Tiles jobs → IsStrictlyIncreasing jobs.tiles.items
tiles_up j jobs is own = subst IsStrictlyIncreasing (sym (tile_own j jobs is own).tiles) (damage_up j.size (op_view j.op) (was_in j) j.operands)

module _ (j : StatementJobs) (jobs : TileJobs) (pieces : List Piece) (is : IsSound j) (own : j.own ≡ an_own.Tiles jobs) (count : length pieces ≡ length jobs.tiles.items) (are : ArePieces j pieces) where
  pieces_are : (k : ℕ) (p : Piece) → slice_get pieces k ≡ Some p → IsTilePiece j.size (was_in j) (now_in j) (get_or jobs.tiles.items k 0) (Ok p)
  pieces_are k p e =
      let l : k < length jobs.tiles.items = omega (arith, count, slice_get_within pieces k p e) in
      piece_at j jobs pieces k (get_or jobs.tiles.items k 0) p own are e l (get_or_default jobs.tiles.items k 0 _ l)

  pub pieces_fit : FitTiles j.size jobs.tiles.items pieces
  pieces_fit k p e = fits j.size (was_in j) (now_in j) (get_or jobs.tiles.items k 0) p (pieces_are k p e)

  patch_tiles : tiles_of jobs.tiles.items pieces ≡ numbered (tile_block j.size (now_in j)) (changed_tiles j.size (was_in j) (now_in j))
  patch_tiles =
      let c = is_changed j.size (was_in j) (now_in j) in
      let f = tile_block j.size (now_in j) in
      let right : (w : Cells) → was_in j ≡ Some w → WasRight j.size (op_view j.op) j.operands w = λ w e. was_right j.size (op_view j.op) j.operands j.kept w is.edited.right e in
      tiles_all j.size (was_in j) (now_in j) jobs.tiles.items pieces count pieces_are
      ∙ ap (λ ts. numbered f (filter c ts)) (tile_own j jobs is own).tiles
      ∙ ap (numbered f) (sym (changed_within j.size (op_view j.op) j.operands (was_in j) is.size right is.edited.operands_are.formed.1 is.edited.operands_are.count))

  -- the repaired layer
  pub made_repaired : (m : Made Beside) → IsMadeOf j.size jobs pieces m → IsRepaired suits j.size (op_view j.op) j.operands (was_in j) (aside_in j) m
  made_repaired m made =
      let tiles_own = tile_own j jobs is own in
      let f = tile_block j.size (now_in j) in
      let tiles_are = made.tiles ∙ patch_tiles in
      let numbers : m.patch.tiles ≡ numbered f (filter (is_changed j.size (was_in j) (now_in j)) (tiles j.size)) = tiles_are ∙ ap (numbered f) (changed_are j.size (was_in j) (now_in j)) in
      record {
        size = made.size;
        cells = ap (patched j.size (unwrap_or (was_in j) [])) numbers ∙ changed_makes j.size (was_in j) (now_in j) is.size (made_count j.size (op_view j.op) (cells_after j.operands));
        exact = ap numbers_of tiles_are ∙ numbers_are f (changed_tiles j.size (was_in j) (now_in j));
        can_put = subst (CanPut (aside_in j)) (sym made.beside_is) tt;
        beside = λ b put.
            let is : b ≡ beside_by jobs.kernel = subst (λ (r : Renewal Beside). IsPut (aside_in j) r b) made.beside_is put in
            subst (suits j.size (op_view j.op) (cells_after j.operands)) (sym is) tiles_own.beside_is;
        evaluated = made.evaluated ∙ ap length tiles_own.tiles;
        worked = made.worked ∙ tiles_own.work_is;
        little = subst (λ n. n < 2 ^ 32) (sym made.worked) tiles_own.little;
      }

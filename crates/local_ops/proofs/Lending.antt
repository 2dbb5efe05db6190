-- The tiles of operands, one after another.
use Rattle.std.proofs.Common.{◌≡◌, ℕ, zero, suc, ◌+◌, ◌<◌, List, [], ◌∷◌, ◌++◌, length, get_or, take, Some, None, refl, ◌∙◌, ap, sym, arith, slice_get}
use Rattle.std.specs.List.{All}
use Rattle.std.proofs.lemmas.List.{map_more}
use Rattle.map_nums.specs.Grids.{Size}
use Rattle.layer_tiles.specs.Tiles.{Block, tile_block, tile_height, tile_width}
use Rattle.layer_tiles.specs.Changes.{ChangeState}
use Rattle.local_ops.specs.Operands.{size_of, blocks_of, HaveSize}

-- what a place that is there holds
pub read : {X : Type 0} (xs : List X) (k : ℕ) (x : X) → slice_get xs k ≡ Some x → (k < length xs) × (get_or xs k x ≡ x)
read [] k x e = cc
read (y ∷ xs) zero x e = (omega arith, cc)
read (y ∷ xs) (suc k) x e = let r = read xs k x e in (omega (arith, r.0), r.1)

-- a place that is there holds something
pub there : {X : Type 0} (xs : List X) (k : ℕ) → k < length xs → slice_get xs k ≡ None → ⊥
there [] k l e = absurd (omega (arith, l))
there (x ∷ xs) zero l e = cc
there (x ∷ xs) (suc k) l e = there xs k (omega arith) e

pub size_at : (operands : List ChangeState) (k : ℕ) (x : ChangeState) → All (λ c. c.size ≡ size_of operands) operands → slice_get operands k ≡ Some x → x.size ≡ size_of operands
size_at operands k x h e = let r = read operands k x e in rw (r.1) at (h k x r.0)

pub size_first : (operands : List ChangeState) (x : ChangeState) → slice_get operands 0 ≡ Some x → x.size ≡ size_of operands
size_first [] x e = cc
size_first (y ∷ ys) x e = let f : y ≡ x = cc in rw (f) refl

-- one more operand's tile
pub blocks_more : (s : Size) (t : ℕ) (operands : List ChangeState) (k : ℕ) (x : ChangeState) → slice_get operands k ≡ Some x → blocks_of s t (take (k + 1) operands) ≡ blocks_of s t (take k operands) ++ tile_block s x.cells t ∷ []
blocks_more s t operands k x e =
    let r = read operands k x e in
    map_more (λ (c : ChangeState). tile_block s c.cells t) operands k x r.0 ∙ ap (λ (c : ChangeState). blocks_of s t (take k operands) ++ tile_block s c.cells t ∷ []) r.1

pub blocks_push : (s : Size) (t : ℕ) (operands : List ChangeState) (k : ℕ) (x : ChangeState) (old new : List Block) (view : Block) → slice_get operands k ≡ Some x → old ≡ blocks_of s t (take k operands) → new ≡ old ++ view ∷ [] → view ≡ tile_block s x.cells t → new ≡ blocks_of s t (take (k + 1) operands)
blocks_push s t operands k x old new view e o n v = rw (n, o, v) (sym (blocks_more s t operands k x e))

pub blocks_sizes : (s : Size) (t : ℕ) (operands : List ChangeState) → HaveSize (tile_height s t) (tile_width s t) (blocks_of s t operands)
blocks_sizes s t [] k d l = absurd (omega (arith, l))
blocks_sizes s t (c ∷ operands) zero d l = (refl, refl)
blocks_sizes s t (c ∷ operands) (suc k) d l = blocks_sizes s t operands k d (omega arith)

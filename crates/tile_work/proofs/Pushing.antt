-- The patch of a working layer, tile by tile.
use Rattle.std.proofs.Common.{◌≡◌, ◌≢◌, inl, inr, ℕ, ◌+◌, ◌*◌, ◌<◌, ◌≤◌, Bool, true, false, List, [], ◌∷◌, ◌++◌, length, get_or, Option, Some, None, IsSome, refl, sym, ◌∙◌, ap, subst, arith, ℤ, eqb, cond}
use Rattle.std.proofs.lemmas.Bool.{cases_lt, both_ways, eq-eqb}
use Rattle.map_nums.specs.Grids.{Size, IsSize, Cells, cells_in}
use Rattle.layer_tiles.specs.Tiles.{Block, IsBlockOf, tile_start, tile_height, tile_width, tile_cells, tile_block, tiles_in}
use Rattle.layer_tiles.specs.Patches.{patch_get, IsAboveLast}
use Rattle.layer_tiles.proofs.Rounds.{here}
use Rattle.layer_tiles.proofs.Strides.{tile_from, same_tile}
use Rattle.layer_tiles.proofs.Patching.{patch_get-push, block_is, IsAboveLast-push}
use Rattle.layer_tiles.proofs.Whole.{patched_to}
use Rattle.tile_work.specs.Working.{slot_at, work_cells, base_of, tile_now, IsAdded, IsPassed, IsPushed, IsPatchOf, IsPatchTo}
use Rattle.tile_work.proofs.Slots.{work_here}

-- a tile of the working layer, from its slot
pub now_is : (s : Size) (before : Option (List (Option ℤ))) (slots : List (Option Block)) (t : ℕ) → IsSize s → t < tiles_in s → (o : Option Block) → slot_at slots t ≡ o → ((b : Block) → o ≡ Some b → IsBlockOf s t b) → tile_now s before t o ≡ tile_block s (work_cells s (base_of before) slots) t
now_is s before slots t h l None e z =
    let same : tile_cells s (work_cells s (base_of before) slots) t ≡ tile_cells s (base_of before) t =
    same_tile s (work_cells s (base_of before) slots) (base_of before) t
    (λ r c p q. let f = here s t r c h l p q in work_here s (base_of before) slots (tile_start s t + r * s.columns + c) None f.within (ap (slot_at slots) f.tile ∙ e)) in
    ap (λ (xs : Cells). record { height = tile_height s t; width = tile_width s t; cells = xs }) (sym same)
now_is s before slots t h l (Some b) e z =
    let y = z b refl in
    block_is s (work_cells s (base_of before) slots) t b y
    (tile_from s (work_cells s (base_of before) slots) b.cells t y.count
    (λ r c p q. let f = here s t r c h l p q in
    work_here s (base_of before) slots (tile_start s t + r * s.columns + c) (Some b) f.within (ap (slot_at slots) f.tile ∙ e)
    ∙ ap (λ k. get_or b.cells k None) f.place))

-- what a longer list has not, neither has the shorter one
none_push : (tiles : List (ℕ × Block)) (t u : ℕ) (b : Block) → patch_get (tiles ++ (t, b) ∷ []) u ≡ None → (patch_get tiles u ≡ None) × (t ≢ u)
none_push [] t u b e = (refl, λ q. absurd (at_it (eqb t u) (eq-eqb t u q) e))
  where
    at_it : (v : Bool) → v ≡ true → cond v (Some b) None ≡ None → ⊥
    at_it true v e = cc
    at_it false v e = cc
none_push (x ∷ tiles) t u b e = later (eqb x.0 u) (none_push tiles t u b) e
  where
    later : (v : Bool) → (patch_get (tiles ++ (t, b) ∷ []) u ≡ None → (patch_get tiles u ≡ None) × (t ≢ u)) → cond v (Some x.1) (patch_get (tiles ++ (t, b) ∷ []) u) ≡ None → (cond v (Some x.1) (patch_get tiles u) ≡ None) × (t ≢ u)
    later true g e = cc
    later false g e = g e

pub patch_none : (s : Size) (before : Option (List (Option ℤ))) (cells : Cells) → IsPatchOf s before cells 0 []
patch_none s before cells = record { held = λ t b e. cc; changed = λ t b e. cc; kept = λ t l e. absurd (omega (arith, l)) }

-- tiles whose cells stayed
pub patch_skip : (s : Size) (before : Option (List (Option ℤ))) (cells : Cells) (m n : ℕ) (tiles : List (ℕ × Block)) → m ≤ n → ((t : ℕ) → m ≤ t → t < n → IsSome before × (tile_cells s cells t ≡ tile_cells s (base_of before) t)) → IsPatchOf s before cells m tiles → IsPatchOf s before cells n tiles
patch_skip s before cells m n tiles l same p = record {
  held = λ t b e. (let q = p.held t b e in (omega (arith, q.0, l), q.1));
  changed = p.changed;
  kept = λ t h e. elim (cases_lt t m) as (λ _. IsSome before × (tile_cells s cells t ≡ tile_cells s (base_of before) t)) [
    | inl a ↦ p.kept t a e
    | inr a ↦ same t a h
  ];
}

-- a tile that is not copied stays
pub still_tile : (s : Size) (old : Cells) (slots : List (Option Block)) (t : ℕ) → IsSize s → t < tiles_in s → slot_at slots t ≡ None → tile_cells s (work_cells s old slots) t ≡ tile_cells s old t
still_tile s old slots t h l e = sym (ap (λ (b : Block). b.cells) (now_is s (Some old) slots t h l None e (λ b q. cc)))

module _ (s : Size) (before : Option (List (Option ℤ))) (cells : Cells) (n : ℕ) (slot : Option Block) (tiles new : List (ℕ × Block)) (p : IsPatchOf s before cells n tiles) (now : tile_now s before n slot ≡ tile_block s cells n) where
  patch_added : IsAdded s before n slot tiles new → IsPatchOf s before cells (n + 1) new
  patch_added a =
      let b = tile_now s before n slot in
      let P : List (ℕ × Block) → Type 0 = IsPatchOf s before cells (n + 1) in
      subst P (sym a.tiles) (record {
        held = λ t c e. elim (patch_get-push tiles n t b c e) as (λ _. (t < n + 1) × (c ≡ tile_block s cells t)) [
          | inl f ↦ (let q = p.held t c f in (omega (arith, q.0), q.1))
          | inr f ↦ (omega (arith, f.0), sym f.1 ∙ now ∙ ap (tile_block s cells) f.0)
        ];
        changed = λ t c e some same. elim (patch_get-push tiles n t b c e) as (λ _. ⊥) [
          | inl f ↦ p.changed t c f some same
          | inr f ↦ (let same' : tile_cells s cells n ≡ tile_cells s (base_of before) n = rw (f.0) same in
              a.changed some (now ∙ ap (λ (xs : Cells). record { height = tile_height s n; width = tile_width s n; cells = xs }) same'))
        ];
        kept = λ t l e. let q = none_push tiles n t b e in p.kept t (below t l q.1) q.0;
      })
    where
      below : (t : ℕ) → t < n + 1 → n ≢ t → t < n
      below t l q = omega arith

  patch_passed : IsPassed s before n slot tiles new → IsPatchOf s before cells (n + 1) new
  patch_passed a =
      let P : List (ℕ × Block) → Type 0 = IsPatchOf s before cells (n + 1) in
      let same : tile_cells s cells n ≡ tile_cells s (base_of before) n = ap (λ (b : Block). b.cells) (sym now ∙ a.same) in
      subst P (sym a.tiles) (record {
        held = λ t c e. (let q = p.held t c e in (omega (arith, q.0), q.1));
        changed = p.changed;
        kept = λ t l e. elim (cases_lt t n) as (λ _. IsSome before × (tile_cells s cells t ≡ tile_cells s (base_of before) t)) [
          | inl m ↦ p.kept t m e
          | inr m ↦ (let q : t ≡ n = omega (arith, l, m) in rw (q) (a.there, same))
        ];
      })

  pub patch_pushed : IsPushed s before n slot tiles new → IsPatchOf s before cells (n + 1) new
  patch_pushed (inl a) = patch_added a
  patch_pushed (inr a) = patch_passed a

pub above_pushed : (s : Size) (before : Option (List (Option ℤ))) (n : ℕ) (slot : Option Block) (tiles new : List (ℕ × Block)) → IsAboveLast tiles n → IsPushed s before n slot tiles new → IsAboveLast new (n + 1)
above_pushed s before n slot tiles new a (inl p) = let P : List (ℕ × Block) → Type 0 = λ l. IsAboveLast l (n + 1) in subst P (sym p.tiles) (IsAboveLast-push tiles n (n + 1) (tile_now s before n slot) (omega arith))
above_pushed s before n slot tiles new a (inr p) = let P : List (ℕ × Block) → Type 0 = λ l. IsAboveLast l (n + 1) in subst P (sym p.tiles) (λ m. omega (arith, a m))

-- after all tiles
pub patch_all : (s : Size) (before : Option (List (Option ℤ))) (cells : Cells) (tiles : List (ℕ × Block)) → IsSize s → length cells ≡ cells_in s → IsPatchOf s before cells (tiles_in s) tiles → IsPatchTo s before cells tiles
patch_all s before cells tiles h n p = record {
  makes = patched_to s (base_of before) cells tiles h n (λ t b e. (p.held t b e).1) (λ t l e. sym (p.kept t l e).1);
  exact = λ t l some. (λ there. held_changed t some (patch_get tiles t) refl there, λ differs. differs_held t l differs (patch_get tiles t) refl);
  all = λ none t l. all_held t l none (patch_get tiles t) refl;
}
  where
    held_changed : (t : ℕ) → IsSome before → (o : Option Block) → patch_get tiles t ≡ o → IsSome o → tile_cells s cells t ≢ tile_cells s (base_of before) t
    held_changed t some None e there = absurd (both_ways false refl there)
    held_changed t some (Some b) e there = p.changed t b e some

    differs_held : (t : ℕ) → t < tiles_in s → tile_cells s cells t ≢ tile_cells s (base_of before) t → (o : Option Block) → patch_get tiles t ≡ o → IsSome o
    differs_held t l differs None e = absurd (differs (p.kept t l e).1)
    differs_held t l differs (Some b) e = refl

    all_held : (t : ℕ) → t < tiles_in s → before ≡ None → (o : Option Block) → patch_get tiles t ≡ o → IsSome o
    all_held t l none None e = absurd (both_ways false refl (let P : Option (List (Option ℤ)) → Type 0 = λ x. IsSome x in subst P none (p.kept t l e).0))
    all_held t l none (Some b) e = refl

-- Marks that are widened step by step.
use Rattle.std.proofs.Common.{◌≡◌, ◌⊎◌, inl, inr, ℕ, ◌<◌, true, false, Bool, List, get_or, refl, ◌∙◌}
use Rattle.map_nums.specs.Grids.{Size, cells_in}
use Rattle.map_nums.specs.Tiles.{tiles_in}
use Rattle.damage_sets.specs.Widened.{IsWidened, HasOne}

pub widened_none : (s : Size) (r : ℕ) (Seen : ℕ → Type 0) (old : List Bool) → ((i : ℕ) → i < cells_in s → Seen i → ⊥) → IsWidened s r Seen old old
widened_none s r Seen old none = record {
  count = refl;
  kept = λ t l e. e;
  added = λ t l h. absurd (none h.0 h.1 h.2);
  only = λ t l e. inl e;
}

-- one step after another
module _ (s : Size) (r : ℕ) (P Q R : ℕ → Type 0) (old mid new : List Bool) (p : IsWidened s r P old mid) (q : IsWidened s r Q mid new) (split : (i : ℕ) → i < cells_in s → R i → P i ⊎ Q i) (first : (i : ℕ) → i < cells_in s → P i → R i) (second : (i : ℕ) → i < cells_in s → Q i → R i) where
  then_added : (t : ℕ) → t < tiles_in s → (h : HasOne s r R t) → P h.0 ⊎ Q h.0 → get_or new t false ≡ true
  then_added t l h (inl a) = q.kept t l (p.added t l (h.0, h.1, a, h.3))
  then_added t l h (inr b) = q.added t l (h.0, h.1, b, h.3)

  then_first : (t : ℕ) → (get_or old t false ≡ true) ⊎ HasOne s r P t → (get_or old t false ≡ true) ⊎ HasOne s r R t
  then_first t (inl a) = inl a
  then_first t (inr h) = inr (h.0, h.1, first h.0 h.1 h.2, h.3)

  then_only : (t : ℕ) → t < tiles_in s → (get_or mid t false ≡ true) ⊎ HasOne s r Q t → (get_or old t false ≡ true) ⊎ HasOne s r R t
  then_only t l (inl a) = then_first t (p.only t l a)
  then_only t l (inr h) = inr (h.0, h.1, second h.0 h.1 h.2, h.3)

  pub widened_then : IsWidened s r R old new
  widened_then = record {
    count = q.count ∙ p.count;
    kept = λ t l e. q.kept t l (p.kept t l e);
    added = λ t l h. then_added t l h (split h.0 h.1 h.2);
    only = λ t l e. then_only t l (q.only t l e);
  }

-- the same places in other words
pub widened_as : (s : Size) (r : ℕ) (P R : ℕ → Type 0) (old new : List Bool) → IsWidened s r P old new → ((i : ℕ) → i < cells_in s → P i → R i) → ((i : ℕ) → i < cells_in s → R i → P i) → IsWidened s r R old new
widened_as s r P R old new p to from = record {
  count = p.count;
  kept = p.kept;
  added = λ t l h. p.added t l (h.0, h.1, from h.0 h.1 h.2, h.3);
  only = λ t l e. which t (p.only t l e);
}
  where
    which : (t : ℕ) → (get_or old t false ≡ true) ⊎ HasOne s r P t → (get_or old t false ≡ true) ⊎ HasOne s r R t
    which t (inl a) = inl a
    which t (inr h) = inr (h.0, h.1, to h.0 h.1 h.2, h.3)

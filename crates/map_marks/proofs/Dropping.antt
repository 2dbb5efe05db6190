-- The marks that are left without those of a layer, or without one value of it.
use Rattle.std.proofs.Common.{◌≡◌, ℕ, ℤ, ◌-◌, ◌<◌, ◌≤◌, ◌||◌, Bool, true, false, not, List, [], ◌∷◌, length, take, map, filter, bytes_eq, refl, ap, ◌∙◌, arith}
use Rattle.std.specs.List.{list_any}
use Rattle.std.proofs.lemmas.List.{take_all}
use Rattle.map_defs.specs.Ops.{Name}
use Rattle.map_edits.specs.Marks.{Mark as Kept, is_mark, put_mark, drop_marks}
use Rattle.map_marks.specs.declared.mark.Mark.{Mark}
use Rattle.map_marks.specs.Views.{mark_of}
use Rattle.map_marks.proofs.Searching.{kept-filter}
use Rattle.map_marks.proofs.Taking.{shorter}

-- the others are counted without the mark that is put before them
pub others_within : (marks : List Kept) (n : Name) (z : ℤ) (text : List ℕ) (all others : ℕ) → others ≡ length (put_mark marks n z text) → all ≡ length marks → others - 1 ≤ all
others_within marks n z text all others e f = omega (arith, e, f, shorter (λ (m : Kept). not (is_mark n z m)) marks)

module _ (n : Name) where
  pub none_dropped : (marks : List Mark) → list_any (λ (m : Mark). bytes_eq m.name n) marks ≡ false → drop_marks (map mark_of marks) n ≡ map mark_of marks
  none_dropped [] none = refl
  none_dropped (m ∷ ms) none = by_test (bytes_eq m.name n) refl none (none_dropped ms)
    where
      by_test : (b : Bool) → bytes_eq m.name n ≡ b → (b || list_any (λ (x : Mark). bytes_eq x.name n) ms) ≡ false → (list_any (λ (x : Mark). bytes_eq x.name n) ms ≡ false → drop_marks (map mark_of ms) n ≡ map mark_of ms) → drop_marks (map mark_of (m ∷ ms)) n ≡ map mark_of (m ∷ ms)
      by_test true e f rest = cc
      by_test false e f rest = rw e (ap (λ (l : List Kept). mark_of m ∷ l) (rest f))

  pub some_dropped : (marks : List Mark) → list_any (λ (m : Mark). bytes_eq m.name n) marks ≡ true → length (drop_marks (map mark_of marks) n) < length (map mark_of marks)
  some_dropped [] some = cc
  some_dropped (m ∷ ms) some = by_test (bytes_eq m.name n) refl some (some_dropped ms)
    where
      by_test : (b : Bool) → bytes_eq m.name n ≡ b → (b || list_any (λ (x : Mark). bytes_eq x.name n) ms) ≡ true → (list_any (λ (x : Mark). bytes_eq x.name n) ms ≡ true → length (drop_marks (map mark_of ms) n) < length (map mark_of ms)) → length (drop_marks (map mark_of (m ∷ ms)) n) < length (map mark_of (m ∷ ms))
      by_test true e f rest = rw e (omega (arith, shorter (λ (x : Kept). not (bytes_eq x.name n)) (map mark_of ms)))
      by_test false e f rest = rw e (omega (arith, rest f))

  -- all marks were looked at
  pub all_left : (marks kept : List Mark) (i : ℕ) → kept ≡ filter (λ (m : Mark). not (bytes_eq m.name n)) (take i marks) → length marks ≤ i → map mark_of kept ≡ drop_marks (map mark_of marks) n
  all_left marks kept i e h =
      ap (map mark_of) e ∙ ap (λ (l : List Mark). map mark_of (filter (λ (m : Mark). not (bytes_eq m.name n)) l)) (take_all i marks h) ∙ kept-filter (λ (m : Kept). not (bytes_eq m.name n)) marks

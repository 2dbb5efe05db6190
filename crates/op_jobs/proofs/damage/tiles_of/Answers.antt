use Rattle.std.proofs.Common.{◌≡◌, ◌++◌, [], ◌∷◌, true, false, cond, sym, ◌∙◌, ap, List, Bool, ℕ, ◌+◌}
use Rattle.std.specs.List.{filter, range_with_len}
use Rattle.std.proofs.lemmas.List.{append-nil}
use Rattle.damage_sets.specs.Sets.{has_tile}
use Rattle.op_jobs.proofs.Listing.{filter_next}
use Rattle.op_jobs.proofs.damage.tiles_of.Goals as goal
use Rattle.op_jobs.proofs.damage.tiles_of.Goals.{then-has+in_ok-push, else-has}

put : (p : ℕ → Bool) (n : ℕ) (old new : List ℕ) → old ≡ filter p (range_with_len 0 n) → p n ≡ true → new ≡ old ++ n ∷ [] → new ≡ filter p (range_with_len 0 (n + 1))
put p n old new e t f = f ∙ ap (λ xs. xs ++ n ∷ []) e ∙ sym (filter_next p n ∙ ap (λ b. filter p (range_with_len 0 n) ++ cond b (n ∷ []) []) t)

left : (p : ℕ → Bool) (n : ℕ) (old : List ℕ) → old ≡ filter p (range_with_len 0 n) → p n ≡ false → old ≡ filter p (range_with_len 0 (n + 1))
left p n old e t = e ∙ sym (filter_next p n ∙ ap (λ b. filter p (range_with_len 0 n) ++ cond b (n ∷ []) []) t ∙ append-nil (filter p (range_with_len 0 n)))

pub loop-tile-preserved : goal.loop-tile-preserved
loop-tile-preserved c = elim c.if-has.branch [
  | then-has+in_ok-push w ↦ rw (w.list-is) (put (has_tile c.args.set.now) c.loop-tile.tile c.loop-tile.list.items w.push.new.self.items c.loop-tile.invariant (sym c.has.ensures ∙ w.if-has.true) w.in_ok-push.ensures.items)
  | else-has w ↦ rw (w.list-is) (left (has_tile c.args.set.now) c.loop-tile.tile c.loop-tile.list.items c.loop-tile.invariant (sym c.has.ensures ∙ w.if-has.false))
]

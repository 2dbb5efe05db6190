-- The newest edit is taken back, and the older ones fit the state that it leads to.
use Rattle.std.proofs.Common.{◌≡◌, ◌≤◌, List, [], ◌∷◌, length, take, drop, slice_get, Some, None, Result, Ok, Err, refl, sym, ap, ◌∙◌, subst, arith}
use Rattle.std.proofs.lemmas.List.{take_all, length-drop}
use Rattle.std.proofs.lemmas.Option.{none-some, same_Some}
use Rattle.layer_tiles.specs.Tallies.{TallyState}
use Rattle.map_edits.specs.Counted as counted
use Rattle.map_edits.specs.Pasts.{parts_of, with_parts, most_pasts}
use Rattle.map_edits.specs.Refusals as refusals
use Rattle.map_edits.specs.StampsAfter.{stamped}
use Rattle.map_edits.specs.WholeEdits.{put_back}
use Rattle.map_edits.specs.WholeStates.{WholeState}
use Rattle.map_edits.proofs.PutBack.{accept_put_back}
use Rattle.live_engine.specs.Accepts.{ReadsWithin}
use Rattle.live_engine.specs.Inverses.{back, past_of, Fits, IsReverted}
use Rattle.live_engine.specs.declared.edits.Accepted.{Accepted}
use Rattle.live_engine.specs.declared.inverses.Inverse.{Inverse}
use Rattle.undo_shelf.specs.Histories.{AreChained, pasts_from, IsUndone, ReadsForUndo}
use Rattle.undo_shelf.specs.declared.history.UndoRefusal.TheVariants.{Nothing, NoMemory}
use Rattle.undo_shelf.proofs.Chains.{chained_same}

-- ---- the newest

-- it is taken out in front
pub newest_first : (items held left : List Inverse) (i : Inverse) → items ≡ held → Some i ≡ slice_get items 0 → left ≡ drop 1 items → held ≡ i ∷ left
newest_first [] held left i same first rest = absurd (none-some i (sym first))
newest_first (j ∷ js) held left i same first rest = sym same ∙ ap (λ (x : Inverse). x ∷ js) (same_Some j i (sym first)) ∙ ap (λ (l : List Inverse). i ∷ l) (sym rest)

pub none_first : (items held : List Inverse) → items ≡ held → None ≡ slice_get items 0 → held ≡ []
none_first [] held same first = sym same
none_first (j ∷ js) held same first = absurd (none-some j first)

pub left_within : (items left : List Inverse) → left ≡ drop 1 items → length items ≤ most_pasts → length left ≤ most_pasts
left_within items left rest within = omega (arith, ap length rest, length-drop 1 items)

-- put in front again, all are held as before
pub held_again : (held left kept : List Inverse) (i j : Inverse) → held ≡ i ∷ left → length held ≤ most_pasts → kept ≡ take most_pasts (j ∷ left) → j ≡ i → kept ≡ held
held_again held left kept i j newest room is same =
    is ∙ take_all most_pasts (j ∷ left) (subst (λ (is : List Inverse). length is ≤ most_pasts) newest room) ∙ ap (λ (x : Inverse). x ∷ left) same ∙ sym newest

-- ---- what it leads to

abbrev outcome : WholeState → Result counted.Accepted refusals.Refusal → WholeState
outcome s (Ok a) = a.state
outcome s (Err r) = s

reverted_is : (s t : WholeState) (i : Inverse) (a : Accepted) → IsReverted s t i (Ok a) → t ≡ stamped s (with_parts s (back i (parts_of s)))
reverted_is s t i a r = ap (outcome s) (sym r.0 ∙ accept_put_back s (past_of i (parts_of s)))

module _ (s : WholeState) (held left : List Inverse) (i : Inverse) (newest : held ≡ i ∷ left) where
  newest_chained : AreChained s.names.size (parts_of s) held → AreChained s.names.size (parts_of s) (i ∷ left)
  newest_chained c = subst (λ (is : List Inverse). AreChained s.names.size (parts_of s) is) newest c

  pub newest_fits : AreChained s.names.size (parts_of s) held → Fits s.names.size (parts_of s) i
  newest_fits c = (newest_chained c).0

  pub older_chained : (t : WholeState) (a : Accepted) → IsReverted s t i (Ok a) → AreChained s.names.size (parts_of s) held → AreChained t.names.size (parts_of t) left
  older_chained t a r c = subst (λ (u : WholeState). AreChained u.names.size (parts_of u) left) (sym (reverted_is s t i a r)) (newest_chained c).1

  pub undone_newest : (t : WholeState) (a : Accepted) → IsReverted s t i (Ok a) → IsUndone s t held left (Ok a)
  undone_newest t a r = subst (λ (is : List Inverse). IsUndone s t is left (Ok a)) (sym newest) (r, refl)

  pub undone_none : (t : WholeState) (kept : List Inverse) → kept ≡ held → t ≡ s → IsUndone s t held kept (Err NoMemory)
  undone_none t kept again same = subst (λ (is : List Inverse). IsUndone s t is kept (Err NoMemory)) (sym newest) (again ∙ newest, same)

  pub reads_newest : (a b : TallyState) → ReadsWithin s (put_back (past_of i (parts_of s))) a b → ReadsForUndo s (pasts_from (parts_of s) held) a b
  reads_newest a b r = subst (λ (is : List Inverse). ReadsForUndo s (pasts_from (parts_of s) is) a b) (sym newest) r

pub again_chained : (s t : WholeState) (held kept : List Inverse) → kept ≡ held → t ≡ s → AreChained s.names.size (parts_of s) held → AreChained t.names.size (parts_of t) kept
again_chained s t held kept again same c = chained_same s t kept same (subst (λ (is : List Inverse). AreChained s.names.size (parts_of s) is) (sym again) c)

-- ---- nothing is held

module _ (s : WholeState) (held : List Inverse) (none : held ≡ []) where
  pub undone_nothing : (left : List Inverse) → left ≡ drop 1 held → IsUndone s s held left (Err Nothing)
  undone_nothing left rest = subst (λ (is : List Inverse). IsUndone s s is left (Err Nothing)) (sym none) (rest ∙ ap (drop 1) none, refl)

  pub nothing_chained : (left : List Inverse) → left ≡ drop 1 held → AreChained s.names.size (parts_of s) left
  nothing_chained left rest = subst (λ (is : List Inverse). AreChained s.names.size (parts_of s) is) (sym (rest ∙ ap (drop 1) none)) tt

  pub reads_nothing : (a : TallyState) → ReadsForUndo s (pasts_from (parts_of s) held) a a
  reads_nothing a = subst (λ (is : List Inverse). ReadsForUndo s (pasts_from (parts_of s) is) a a) (sym none) (record { looks_rise = omega arith; picks_rise = omega arith; parts_out_stay = refl; is_part_stays = refl })

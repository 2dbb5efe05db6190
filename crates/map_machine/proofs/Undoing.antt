-- As many undos as there were edits lead back.
use Rattle.std.proofs.Common.{◌≡◌, ℕ, zero, suc, ◌≤◌, ◌-◌, List, [], ◌∷◌, length, take, Ok, refl, sym, ap, subst, ◌∙◌, arith}
use Rattle.std.proofs.lemmas.List.{take_all, take-take, length-take}
use Rattle.map_edits.specs.Pasts.{Past, parts_of}
use Rattle.map_edits.specs.Touches.{touch_of}
use Rattle.map_machine.specs.States.{MapState}
use Rattle.map_machine.specs.Steps.{edited, undone}
use Rattle.map_machine.specs.UndoLaws.{after_undos, LeadsBack, UndosLeadBack}

-- one more undo
abbrev one_back : MapState → MapState
one_back s = (undone s s.pasts).state

undos_more : (k : ℕ) (s : MapState) → after_undos (suc k) s ≡ one_back (after_undos k s)
undos_more zero s = refl
undos_more (suc k) s = undos_more k (one_back s)

-- it puts the newest back
newest_back : (u : MapState) (p : Past) (ps : List Past) → u.pasts ≡ p ∷ ps → (parts_of (one_back u).whole ≡ p.parts) × ((one_back u).pasts ≡ ps)
newest_back u p ps is = subst (λ (q : List Past). (parts_of (undone u q).state.whole ≡ p.parts) × ((undone u q).state.pasts ≡ ps)) (sym is) (refl, refl)

-- the newest is the state before the first of the edits
first_past : (k : ℕ) (p : Past) (ps : List Past) → suc k ≤ 64 → take (64 - k) (p ∷ take 63 ps) ≡ p ∷ take (64 - suc k) ps
first_past k p ps few =
    let more : 64 - k ≡ suc (64 - suc k) = omega (arith, few) in
    ap (λ n. take n (p ∷ take 63 ps)) more ∙ ap (λ qs. p ∷ qs) (take-take (64 - suc k) 63 ps (omega (arith, few)))

pub undos_lead_back : UndosLeadBack
undos_lead_back s t [] room few is = record { parts = ap (λ (u : MapState). parts_of u.whole) is; pasts = ap (λ (u : MapState). u.pasts) is ∙ sym (take_all 64 s.pasts room) }
undos_lead_back s t (e ∷ es) room few (a, accepted, rest) =
    let next : MapState = (edited s e (Ok a)).state in
    let k = length es in
    let p : Past = record { parts = parts_of s.whole; touch = touch_of e } in
    let fewer : suc k ≤ 64 = few in
    let held : length next.pasts ≤ 64 = omega (arith, length-take 64 (p ∷ s.pasts)) in
    let back : LeadsBack next t k = undos_lead_back next t es held (omega (arith, fewer)) rest in
    let last = newest_back (after_undos k t) p (take (64 - suc k) s.pasts) (back.pasts ∙ first_past k p s.pasts fewer) in
    record {
      parts = ap (λ (u : MapState). parts_of u.whole) (undos_more k t) ∙ last.0;
      pasts = ap (λ (u : MapState). u.pasts) (undos_more k t) ∙ last.1;
    }

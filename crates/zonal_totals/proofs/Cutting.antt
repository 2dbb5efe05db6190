-- Entries cut at the ends of zones.
use Rattle.std.proofs.Common.{◌≡◌, ◌≢◌, ℕ, ◌+◌, ◌-◌, ◌<◌, ◌≤◌, List, [], ◌∷◌, ◌++◌, length, get_or, take, drop, sym, ◌∙◌, ap, subst, append_assoc, arith, ℤ, ◌<ℤ◌, ◌≤ℤ◌}
use Rattle.std.proofs.Math.Seq.{take-add}
use Rattle.std.proofs.lemmas.Int.{ints, by_lt_z}
use Rattle.std.proofs.lemmas.List.{take-append-drop, drop-drop, get_or-take, get_or-drop, length-take-le, length-drop}
use Rattle.zonal_totals.specs.declared.entries.Entry.{Entry}
use Rattle.zonal_totals.specs.Pairs.{rank}
use Rattle.zonal_totals.specs.Entries.{Climbs}
use Rattle.zonal_totals.specs.Sections.{joined, end_of, lowest, last_zone, AreSections}
use Rattle.zonal_totals.proofs.Climbing.{climbs_front}
use Rattle.zonal_totals.proofs.Sectioning.{joined_push, zones_le, above_zone, last_at, last_join, sections_push}

less : (a b : ℤ) → a ≤ℤ b → a ≢ b → a <ℤ b
less a b h n = by_lt_z a b (λ l. l) (λ l. absurd (n (omega (arith, ints, h, l))))

-- what is behind a whole zone lies above its end
pub climbs_whole : (r y : ℤ) (es fs : List Entry) → Climbs r (es ++ fs) → 0 < length es → ((d : Entry) → 0 < length fs → last_zone y es ≢ (get_or fs 0 d).pair.zone) → Climbs (end_of (last_zone y es)) fs
climbs_whole r y [] fs c h n = absurd (omega arith)
climbs_whole r y (e ∷ []) [] c h n = tt
climbs_whole r y (e ∷ []) (f ∷ fs) c h n =
    let k = c.3 in
    (above_zone e.pair.zone f k.2 (less e.pair.zone f.pair.zone (zones_le e f c.2 k.2 k.0) (n f (omega arith))), k.1, k.2, k.3)
climbs_whole r y (e ∷ g ∷ es) fs c h n = climbs_whole (rank e.pair) e.pair.zone (g ∷ es) fs c.3 (omega arith) n

module _ (es : List Entry) (first out : List (List Entry)) (from end : ℕ) (sections : AreSections lowest out) (joins : joined out ≡ joined first ++ take from es) (rest : Climbs (end_of (last_zone lowest (joined out))) (drop from es))
    (some : from < end) (within : end ≤ length es) (whole : (d : Entry) → end < length es → (get_or es (end - 1) d).pair.zone ≢ (get_or es end d).pair.zone) where
  abbrev piece : List Entry
  piece = take (end - from) (drop from es)

  split : drop from es ≡ piece ++ drop end es
  split =
      let n : from + (end - from) ≡ end = omega arith in
      sym (take-append-drop (end - from) (drop from es)) ∙ ap (λ (l : List Entry). piece ++ l) (drop-drop (end - from) from es ∙ ap (λ k. drop k es) n)

  full : length piece ≡ end - from
  full = length-take-le (end - from) (drop from es) (omega (arith, length-drop from es))

  climbs : Climbs (end_of (last_zone lowest (joined out))) (piece ++ drop end es)
  climbs = subst (λ (l : List Entry). Climbs (end_of (last_zone lowest (joined out))) l) split rest

  pub cut_sections : AreSections lowest (out ++ piece ∷ [])
  cut_sections = sections_push lowest out piece sections (omega (arith, full)) (climbs_front (end_of (last_zone lowest (joined out))) piece (drop end es) climbs)

  pub cut_joins : joined (out ++ piece ∷ []) ≡ joined first ++ take end es
  cut_joins =
      let n : from + (end - from) ≡ end = omega arith in
      joined_push out piece ∙ ap (λ (l : List Entry). l ++ piece) joins ∙ append_assoc (joined first) (take from es) piece
      ∙ ap (λ (l : List Entry). joined first ++ l) (sym (take-add from (end - from) es) ∙ ap (λ k. take k es) n)

  last_is : (d : Entry) → last_zone (last_zone lowest (joined out)) piece ≡ (get_or es (end - 1) d).pair.zone
  last_is d =
      let k : length piece - 1 < end - from = omega (arith, full) in
      let n : from + (length piece - 1) ≡ end - 1 = omega (arith, full) in
      last_at (last_zone lowest (joined out)) piece d (omega (arith, full))
      ∙ ap (λ (e : Entry). e.pair.zone) (get_or-take (end - from) (drop from es) (length piece - 1) d k ∙ get_or-drop from es (length piece - 1) d ∙ ap (λ m. get_or es m d) n)

  first_is : (d : Entry) → (get_or (drop end es) 0 d).pair.zone ≡ (get_or es end d).pair.zone
  first_is d = let z : end + 0 ≡ end = omega arith in ap (λ (e : Entry). e.pair.zone) (get_or-drop end es 0 d ∙ ap (λ n. get_or es n d) z)

  pub cut_rest : Climbs (end_of (last_zone lowest (joined (out ++ piece ∷ [])))) (drop end es)
  cut_rest =
      subst (λ y. Climbs (end_of y) (drop end es)) (sym (ap (λ (l : List Entry). last_zone lowest l) (joined_push out piece) ∙ last_join lowest (joined out) piece))
      (climbs_whole (end_of (last_zone lowest (joined out))) (last_zone lowest (joined out)) piece (drop end es) climbs (omega (arith, full))
      (λ d h q. whole d (omega (arith, h, length-drop end es)) (sym (last_is d) ∙ q ∙ first_is d)))

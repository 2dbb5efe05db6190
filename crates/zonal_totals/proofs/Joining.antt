-- Steps of two lists put together.
use Rattle.std.proofs.Common.{◌≡◌, ℕ, ◌+◌, ◌-◌, ◌<◌, ◌≤◌, ◌++◌, List, [], ◌∷◌, length, get_or, take, drop, refl, sym, ◌∙◌, ap, subst, arith, ℤ, ◌<ℤ◌, ◌≤ℤ◌, ◌+ℤ◌}
use Rattle.std.proofs.lemmas.Int.{ints}
use Rattle.std.proofs.lemmas.List.{append-nil, drop_more, length-drop}
use Rattle.zonal_totals.specs.declared.pairs.Pair.{Pair}
use Rattle.zonal_totals.specs.declared.steps.Step.{Step}
use Rattle.zonal_totals.specs.Pairs.{rank, floor}
use Rattle.zonal_totals.specs.Settled.{kept, put_step}
use Rattle.zonal_totals.specs.Steps.{net_in, weight, top_step, StepsClimb}
use Rattle.zonal_totals.proofs.Climbing.{rank_tells}
use Rattle.zonal_totals.proofs.Merging.{net_join}
use Rattle.zonal_totals.proofs.Settling.{meet_same, put_climbs, put_net, put_weight, weight_join}
use Rattle.zonal_totals.proofs.Turning.{steps_rest_is}

-- ---- lists in order

steps_join : (r : ℤ) (ss us : List Step) → StepsClimb r ss → StepsClimb (top_step r ss) us → StepsClimb r (ss ++ us)
steps_join r [] us c d = d
steps_join r (s ∷ ss) us c d = (c.0, c.1, c.2, steps_join (rank s.pair) ss us c.3 d)

top_join : (r : ℤ) (ss us : List Step) → top_step r (ss ++ us) ≡ top_step (top_step r ss) us
top_join r [] us = refl
top_join r (s ∷ ss) us = top_join (rank s.pair) ss us

steps_from : (r r' : ℤ) (ss : List Step) → r' ≤ℤ r → StepsClimb r ss → StepsClimb r' ss
steps_from r r' [] h c = tt
steps_from r r' (s ∷ ss) h c = (omega (arith, ints, h, c.0), c.1, c.2, c.3)

-- ---- two lists

-- xs and ys are put together, except for us and vs, which are left of them and rank higher
pub record IsJoined (xs ys us vs out : List Step) : Type 0 where
  pub order : StepsClimb floor out
  pub after : StepsClimb (top_step floor out) us
  pub other_after : StepsClimb (top_step floor out) vs
  pub net : (p : Pair) → net_in out p +ℤ (net_in us p +ℤ net_in vs p) ≡ net_in xs p +ℤ net_in ys p
  pub few : weight out + (weight us + weight vs) ≤ weight xs + weight ys

-- the steps ws are put behind
joined_by : (xs ys us vs out ws us' vs' : List Step) → IsJoined xs ys us vs out → StepsClimb (top_step floor out) ws → StepsClimb (top_step (top_step floor out) ws) us' → StepsClimb (top_step (top_step floor out) ws) vs'
    → ((p : Pair) → net_in ws p +ℤ (net_in us' p +ℤ net_in vs' p) ≡ net_in us p +ℤ net_in vs p) → weight ws + (weight us' + weight vs') ≤ weight us + weight vs → IsJoined xs ys us' vs' (out ++ ws)
joined_by xs ys us vs out ws us' vs' k order after other_after net few = record {
  order = steps_join floor out ws k.order order;
  after = subst (λ r. StepsClimb r us') (sym (top_join floor out ws)) after;
  other_after = subst (λ r. StepsClimb r vs') (sym (top_join floor out ws)) other_after;
  net = λ p. omega (arith, ints, k.net p, net p, net_join out ws p);
  few = omega (arith, k.few, few, weight_join out ws);
}

module _ (xs ys us vs out : List Step) (s t : Step) (k : IsJoined xs ys (s ∷ us) (t ∷ vs) out) where
  first_by : rank s.pair <ℤ rank t.pair → IsJoined xs ys us (t ∷ vs) (out ++ s ∷ [])
  first_by h =
      let a = k.after in
      let b = k.other_after in
      joined_by xs ys (s ∷ us) (t ∷ vs) out (s ∷ []) us (t ∷ vs) k (a.0, a.1, a.2, tt) a.3 (h, b.1, b.2, b.3) (λ p. omega (arith, ints)) (omega arith)

  other_by : rank t.pair <ℤ rank s.pair → IsJoined xs ys (s ∷ us) vs (out ++ t ∷ [])
  other_by h =
      let a = k.after in
      let b = k.other_after in
      joined_by xs ys (s ∷ us) (t ∷ vs) out (t ∷ []) (s ∷ us) vs k (b.0, b.1, b.2, tt) (h, a.1, a.2, a.3) b.3 (λ p. omega (arith, ints)) (omega arith)

  both_by : rank s.pair ≡ rank t.pair → IsJoined xs ys us vs (out ++ kept (record { pair = t.pair; by = s.by +ℤ t.by }))
  both_by e =
      let a = k.after in
      let b = k.other_after in
      let up = put_climbs (top_step floor out) (s ∷ []) t (a.0, a.1, a.2, tt) b.0 (omega (arith, ints, e)) b.2 in
      subst (λ (ws : List Step). IsJoined xs ys us vs (out ++ ws)) (meet_same s t (rank_tells s.pair t.pair a.2 b.2 e))
      (joined_by xs ys (s ∷ us) (t ∷ vs) out (put_step (s ∷ []) t) us vs k up.0 (steps_from (rank s.pair) _ us (omega (arith, ints, e, up.1)) a.3) (steps_from (rank t.pair) _ vs up.1 b.3)
      (λ p. omega (arith, ints, put_net (s ∷ []) t p)) (omega (arith, put_weight (s ∷ []) t)))

-- ---- the loop's turn

module _ (xs ys : List Step) (i j : ℕ) (out : List Step) (d : Step) (more : i < length xs) (other_more : j < length ys) (k : IsJoined xs ys (drop i xs) (drop j ys) out) where
  abbrev s : Step
  s = get_or xs i d

  abbrev t : Step
  t = get_or ys j d

  abbrev us : List Step
  us = drop (i + 1) xs

  abbrev vs : List Step
  vs = drop (j + 1) ys

  here : IsJoined xs ys (s ∷ us) (t ∷ vs) out
  here = subst (λ (l : List Step). IsJoined xs ys l (t ∷ vs) out) (drop_more xs i d more) (subst (λ (l : List Step). IsJoined xs ys (drop i xs) l out) (drop_more ys j d other_more) k)

  pub joined_first : rank s.pair <ℤ rank t.pair → IsJoined xs ys us (drop j ys) (out ++ s ∷ [])
  joined_first h = subst (λ (l : List Step). IsJoined xs ys us l (out ++ s ∷ [])) (sym (drop_more ys j d other_more)) (first_by xs ys us vs out s t here h)

  pub joined_other : rank t.pair <ℤ rank s.pair → IsJoined xs ys (drop i xs) vs (out ++ t ∷ [])
  joined_other h = subst (λ (l : List Step). IsJoined xs ys l vs (out ++ t ∷ [])) (sym (drop_more xs i d more)) (other_by xs ys us vs out s t here h)

  pub joined_both : rank s.pair ≡ rank t.pair → IsJoined xs ys us vs (out ++ kept (record { pair = t.pair; by = s.by +ℤ t.by }))
  joined_both e = both_by xs ys us vs out s t here e

-- ---- the end

order_by : (xs ys us vs out : List Step) → IsJoined xs ys us vs out → (0 < length us → 0 < length vs → ⊥) → StepsClimb floor ((out ++ us) ++ vs)
order_by xs ys [] vs out k h = rw (append-nil out) (steps_join floor out vs k.order k.other_after)
order_by xs ys (s ∷ us) [] out k h = steps_join floor (out ++ s ∷ us) [] (steps_join floor out (s ∷ us) k.order k.after) tt
order_by xs ys (s ∷ us) (t ∷ vs) out k h = absurd (h (omega arith) (omega arith))

module _ (xs ys : List Step) (i j : ℕ) (out mid end : List Step) (k : IsJoined xs ys (drop i xs) (drop j ys) out) (e : mid ≡ out ++ take (length xs - i) (drop i xs)) (f : end ≡ mid ++ take (length ys - j) (drop j ys)) where
  is : end ≡ (out ++ drop i xs) ++ drop j ys
  is = f ∙ ap (λ (l : List Step). mid ++ l) (steps_rest_is j ys) ∙ ap (λ (l : List Step). l ++ drop j ys) (e ∙ ap (λ (l : List Step). out ++ l) (steps_rest_is i xs))

  pub joined_order : (i < length xs → j < length ys → ⊥) → StepsClimb floor end
  joined_order h = rw (is) (order_by xs ys (drop i xs) (drop j ys) out k (λ a b. h (omega (arith, a, length-drop i xs)) (omega (arith, b, length-drop j ys))))

  pub joined_net : (p : Pair) → net_in end p ≡ net_in xs p +ℤ net_in ys p
  joined_net p = omega (arith, ints, ap (λ (l : List Step). net_in l p) is, net_join (out ++ drop i xs) (drop j ys) p, net_join out (drop i xs) p, k.net p)

  pub joined_weight : weight end ≤ weight xs + weight ys
  joined_weight = omega (arith, ap weight is, weight_join (out ++ drop i xs) (drop j ys), weight_join out (drop i xs), k.few)

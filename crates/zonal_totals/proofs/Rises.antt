-- What changes of counts add to the total of the numbers.
use Rattle.std.proofs.Common.{◌≡◌, ℕ, zero, suc, ◌+◌, ◌<◌, ◌≤◌, Bool, true, false, cond, List, [], ◌∷◌, ◌++◌, length, get_or, take, replicate, refl, sym, ◌∙◌, ap, subst, arith, ℤ, pos, negsuc, neg_ℤ, ◌+ℤ◌, ◌*ℤ◌}
use lib.IntN.{*ℤ-negsuc}
use Rattle.std.specs.Prelude.{Option, Some, None, IfSome}
use Rattle.std.specs.Ordering.{int_eq}
use Rattle.std.proofs.lemmas.Int.{ints}
use Rattle.std.proofs.lemmas.List.{take_more}
use Rattle.map_nums.specs.Stats.{total_of}
use Rattle.zonal_totals.specs.declared.pairs.Pair.{Pair}
use Rattle.zonal_totals.specs.declared.entries.Entry.{Entry}
use Rattle.zonal_totals.specs.declared.steps.Step.{Step}
use Rattle.zonal_totals.specs.Pairs.{same_pair}
use Rattle.zonal_totals.specs.Entries.{count_in}
use Rattle.zonal_totals.specs.Steps.{step_at, net_in}
use Rattle.zonal_totals.specs.Rises.{rise_of}
use Rattle.zonal_totals.specs.Merges.{IsMerged}
use Rattle.zonal_totals.specs.Numbers.{numbers, part_of}
use Rattle.zonal_totals.proofs.Climbing.{pair_is, pair_itself}
use Rattle.zonal_totals.proofs.Merging.{net_join}
use Rattle.zonal_totals.proofs.Numbers.{total_join, times_is_total}

-- ---- sums

plus_assoc : (a b c : ℤ) → a +ℤ (b +ℤ c) ≡ (a +ℤ b) +ℤ c
plus_assoc a b c = omega (arith, ints)

taken : (x y w v : ℤ) → x +ℤ w ≡ y → v ≡ neg_ℤ w → x ≡ y +ℤ v
taken x y w v e n = omega (arith, ints, e, n)

times_more : (z : ℤ) (n : ℕ) → z *ℤ pos (suc n) ≡ (z *ℤ pos n) +ℤ z
times_more z n = omega (arith, ints)

less : (x y v w z : ℤ) → x ≡ neg_ℤ v → y ≡ neg_ℤ w → w ≡ v +ℤ z → x ≡ y +ℤ z
less x y v w z e f g = omega (arith, ints, e, f, g)

times_one : (z a : ℤ) → z *ℤ (a +ℤ pos 1) ≡ (z *ℤ a) +ℤ z
times_one z (pos n) = omega (arith, ints)
times_one z (negsuc zero) = omega (arith, ints, *ℤ-negsuc z 0)
times_one z (negsuc (suc n)) =
    let e : negsuc (suc n) +ℤ pos 1 ≡ negsuc n = omega (arith, ints) in
    ap (λ x. z *ℤ x) e ∙ less (z *ℤ negsuc n) (z *ℤ negsuc (suc n)) (z *ℤ pos (suc n)) (z *ℤ pos (suc (suc n))) z (*ℤ-negsuc z n) (*ℤ-negsuc z (suc n)) (times_more z (suc n))

times_sum : (z a : ℤ) (n : ℕ) → z *ℤ (a +ℤ pos n) ≡ (z *ℤ a) +ℤ (z *ℤ pos n)
times_sum z a zero =
    let none : a +ℤ pos 0 ≡ a = omega (arith, ints) in
    ap (λ x. z *ℤ x) none ∙ omega (arith, ints)
times_sum z a (suc n) =
    let one : a +ℤ pos (suc n) ≡ (a +ℤ pos n) +ℤ pos 1 = omega (arith, ints) in
    ap (λ x. z *ℤ x) one ∙ times_one z (a +ℤ pos n) ∙ ap (λ x. x +ℤ z) (times_sum z a n) ∙ sym (plus_assoc (z *ℤ a) (z *ℤ pos n) z) ∙ ap (λ x. (z *ℤ a) +ℤ x) (sym (times_more z n))

times_plus : (z a b : ℤ) → z *ℤ (a +ℤ b) ≡ (z *ℤ a) +ℤ (z *ℤ b)
times_plus z a (pos n) = times_sum z a n
times_plus z a (negsuc n) =
    let back : (a +ℤ negsuc n) +ℤ pos (suc n) ≡ a = omega (arith, ints) in
    taken (z *ℤ (a +ℤ negsuc n)) (z *ℤ a) (z *ℤ pos (suc n)) (z *ℤ negsuc n) (sym (times_sum z (a +ℤ negsuc n) (suc n)) ∙ ap (λ x. z *ℤ x) back) (*ℤ-negsuc z n)

plus_turned : (a b c : ℤ) → a +ℤ (b +ℤ c) ≡ b +ℤ (a +ℤ c)
plus_turned a b c = omega (arith, ints)

none_plus : (a : ℤ) → pos 0 +ℤ a ≡ a
none_plus a = omega (arith, ints)

rise_join : (ss us : List Step) → rise_of (ss ++ us) ≡ rise_of ss +ℤ rise_of us
rise_join [] us = omega (arith, ints)
rise_join (s ∷ ss) us = ap (λ x. (s.pair.key *ℤ s.by) +ℤ x) (rise_join ss us) ∙ plus_assoc (s.pair.key *ℤ s.by) (rise_of ss) (rise_of us)

plus_none : (a : ℤ) → a +ℤ pos 0 ≡ a
plus_none a = omega (arith, ints)

rise_more : (ss : List Step) (i : ℕ) (d : Step) → i < length ss → rise_of (take (i + 1) ss) ≡ rise_of (take i ss) +ℤ ((get_or ss i d).pair.key *ℤ (get_or ss i d).by)
rise_more ss i d h = ap rise_of (take_more ss i d h) ∙ rise_join (take i ss) (get_or ss i d ∷ []) ∙ ap (λ x. rise_of (take i ss) +ℤ x) (plus_none ((get_or ss i d).pair.key *ℤ (get_or ss i d).by))

pub rise_next : (total sum next : ℤ) (ss : List Step) (i : ℕ) (d : Step) → i < length ss → sum ≡ total +ℤ rise_of (take i ss) → next ≡ sum +ℤ ((get_or ss i d).pair.key *ℤ (get_or ss i d).by) → next ≡ total +ℤ rise_of (take (i + 1) ss)
rise_next total sum next ss i d h e n =
    let more = (get_or ss i d).pair.key *ℤ (get_or ss i d).by in
    n ∙ ap (λ x. x +ℤ more) e ∙ sym (plus_assoc total (rise_of (take i ss)) more) ∙ ap (λ x. total +ℤ x) (sym (rise_more ss i d h))

-- ---- counts as steps from nothing

raising : List Entry → List Step
raising [] = []
raising (e ∷ es) = record { pair = e.pair; by = pos e.count } ∷ raising es

count_by : (b : Bool) (n m : ℕ) → cond b (pos n) (pos 0) +ℤ pos m ≡ pos (cond b n 0 + m)
count_by true n m = omega (arith, ints)
count_by false n m = omega (arith, ints)

net_raising : (es : List Entry) (p : Pair) → net_in (raising es) p ≡ pos (count_in es p)
unfolding raising
net_raising [] p = refl
net_raising (e ∷ es) p = ap (λ x. cond (same_pair e.pair p) (pos e.count) (pos 0) +ℤ x) (net_raising es p) ∙ count_by (same_pair e.pair p) e.count (count_in es p)

rise_raising : (es : List Entry) → rise_of (raising es) ≡ total_of (numbers es)
unfolding raising
rise_raising [] = refl
rise_raising (e ∷ es) =
    ap (λ x. x +ℤ rise_of (raising es)) (times_is_total e.count e.pair.key)
    ∙ ap (λ x. total_of (replicate e.count e.pair.key) +ℤ x) (rise_raising es)
    ∙ sym (total_join (replicate e.count e.pair.key) (numbers es))

-- ---- steps of one pair

-- the steps of other pairs
abbrev others : Pair → List Step → List Step
others p [] = []
others p (s ∷ ss) = cond (same_pair s.pair p) (others p ss) (s ∷ others p ss)

rise_by : (p : Pair) (s : Step) (n r : ℤ) (os : List Step) (b : Bool) → same_pair s.pair p ≡ b → r ≡ (p.key *ℤ n) +ℤ rise_of os → (s.pair.key *ℤ s.by) +ℤ r ≡ (p.key *ℤ (cond b s.by (pos 0) +ℤ n)) +ℤ rise_of (cond b os (s ∷ os))
rise_by p s n r os true e h =
    ap (λ x. (s.pair.key *ℤ s.by) +ℤ x) h ∙ plus_assoc (s.pair.key *ℤ s.by) (p.key *ℤ n) (rise_of os)
    ∙ ap (λ x. x +ℤ rise_of os) (ap (λ (q : Pair). (q.key *ℤ s.by) +ℤ (p.key *ℤ n)) (pair_is s.pair p e) ∙ sym (times_plus p.key s.by n))
rise_by p s n r os false e h = rw (none_plus n) (ap (λ x. (s.pair.key *ℤ s.by) +ℤ x) h ∙ plus_turned (s.pair.key *ℤ s.by) (p.key *ℤ n) (rise_of os))

rise_others : (p : Pair) (ss : List Step) → rise_of ss ≡ (p.key *ℤ net_in ss p) +ℤ rise_of (others p ss)
rise_others p [] = omega (arith, ints)
rise_others p (s ∷ ss) = rise_by p s (net_in ss p) (rise_of ss) (others p ss) (same_pair s.pair p) refl (rise_others p ss)

own_by : (p : Pair) (s : Step) (os : List Step) (b : Bool) → same_pair s.pair p ≡ b → net_in os p ≡ pos 0 → net_in (cond b os (s ∷ os)) p ≡ pos 0
own_by p s os true e h = h
own_by p s os false e h = rw (e, h) refl

net_own : (p : Pair) (ss : List Step) → net_in (others p ss) p ≡ pos 0
net_own p [] = refl
net_own p (s ∷ ss) = own_by p s (others p ss) (same_pair s.pair p) refl (net_own p ss)

other_by : (p q : Pair) (s : Step) (n : ℤ) (os : List Step) (b : Bool) → same_pair s.pair p ≡ b → same_pair p q ≡ false → net_in os q ≡ n → net_in (cond b os (s ∷ os)) q ≡ step_at s q +ℤ n
other_by p q s n os true e d h =
    let f : same_pair s.pair q ≡ false = subst (λ (x : Pair). same_pair x q ≡ false) (sym (pair_is s.pair p e)) d in
    rw (f) (omega (arith, ints, h))
other_by p q s n os false e d h = ap (λ x. step_at s q +ℤ x) h

net_other : (p q : Pair) (ss : List Step) → same_pair p q ≡ false → net_in (others p ss) q ≡ net_in ss q
net_other p q [] d = refl
net_other p q (s ∷ ss) d = other_by p q s (net_in ss q) (others p ss) (same_pair s.pair p) refl d (net_other p q ss d)

same_by : (p q : Pair) (ss us : List Step) (b : Bool) → same_pair p q ≡ b → net_in ss q ≡ net_in us q → net_in (others p ss) q ≡ net_in (others p us) q
same_by p q ss us true e h = subst (λ (x : Pair). net_in (others p ss) x ≡ net_in (others p us) x) (pair_is p q e) (net_own p ss ∙ sym (net_own p us))
same_by p q ss us false e h = net_other p q ss e ∙ h ∙ sym (net_other p q us e)

length_by : (n : ℕ) (s : Step) (os : List Step) (b : Bool) → length os ≤ n → length (cond b os (s ∷ os)) ≤ suc n
length_by n s os true h = omega (arith, h)
length_by n s os false h = omega (arith, h)

length_others : (p : Pair) (ss : List Step) → length (others p ss) ≤ length ss
length_others p [] = omega arith
length_others p (s ∷ ss) = length_by (length ss) s (others p ss) (same_pair s.pair p) (length_others p ss)

length_less : (s : Step) (ss : List Step) → length (others s.pair (s ∷ ss)) ≤ length ss
length_less s ss = rw (pair_itself s.pair) (length_others s.pair ss)

-- ---- the same changes add the same

apart : (p : Pair) (ss us : List Step) → ((q : Pair) → net_in ss q ≡ net_in us q) → rise_of (others p ss) ≡ rise_of (others p us) → rise_of ss ≡ rise_of us
apart p ss us h e =
    rise_others p ss ∙ ap (λ x. (p.key *ℤ x) +ℤ rise_of (others p ss)) (h p) ∙ ap (λ x. (p.key *ℤ net_in us p) +ℤ x) e ∙ sym (rise_others p us)

same_rise : (n : ℕ) (ss us : List Step) → length ss + length us ≤ n → ((p : Pair) → net_in ss p ≡ net_in us p) → rise_of ss ≡ rise_of us
same_rise zero [] [] l h = refl
same_rise zero [] (u ∷ us) l h = absurd (omega arith)
same_rise zero (s ∷ ss) us l h = absurd (omega arith)
same_rise (suc n) [] [] l h = refl
same_rise (suc n) [] (u ∷ us) l h =
    apart u.pair [] (u ∷ us) h (same_rise n (others u.pair []) (others u.pair (u ∷ us)) (omega (arith, length_less u us)) (λ q. same_by u.pair q [] (u ∷ us) (same_pair u.pair q) refl (h q)))
same_rise (suc n) (s ∷ ss) us l h =
    apart s.pair (s ∷ ss) us h (same_rise n (others s.pair (s ∷ ss)) (others s.pair us) (omega (arith, length_less s ss, length_others s.pair us)) (λ q. same_by s.pair q (s ∷ ss) us (same_pair s.pair q) refl (h q)))

le_itself : (n : ℕ) → n ≤ n
le_itself n = omega arith

pub merged_total : (es fs : List Entry) (ss : List Step) → IsMerged es ss fs → total_of (numbers fs) ≡ total_of (numbers es) +ℤ rise_of ss
merged_total es fs ss m =
    sym (rise_raising fs)
    ∙ same_rise (length (raising fs) + length (raising es ++ ss)) (raising fs) (raising es ++ ss) (le_itself (length (raising fs) + length (raising es ++ ss)))
    (λ p. net_raising fs p ∙ m.counts p ∙ ap (λ x. x +ℤ net_in ss p) (sym (net_raising es p)) ∙ sym (net_join (raising es) ss p))
    ∙ rise_join (raising es) ss
    ∙ ap (λ x. x +ℤ rise_of ss) (rise_raising es)

-- ---- a part that is the whole

part_by : (e : Entry) (ps : List Entry) (n : ℕ) (b : Bool) → length ps ≤ n → length (cond b (e ∷ ps) ps) ≤ suc n
part_by e ps n true h = omega (arith, h)
part_by e ps n false h = omega (arith, h)

pub part_length : (z : ℤ) (es : List Entry) → length (part_of z es) ≤ length es
part_length z [] = omega arith
part_length z (e ∷ es) = part_by e (part_of z es) (length es) (int_eq e.pair.zone z) (part_length z es)

whole_by : (e : Entry) (es ps : List Entry) (b : Bool) → length ps ≤ length es → (length es ≤ length ps → ps ≡ es) → suc (length es) ≤ length (cond b (e ∷ ps) ps) → cond b (e ∷ ps) ps ≡ e ∷ es
whole_by e es ps true l go h = ap (λ (t : List Entry). e ∷ t) (go (omega (arith, h)))
whole_by e es ps false l go h = absurd (omega (arith, h, l))

pub whole_part : (z : ℤ) (es : List Entry) → length es ≤ length (part_of z es) → part_of z es ≡ es
whole_part z [] h = refl
whole_part z (e ∷ es) h = whole_by e es (part_of z es) (int_eq e.pair.zone z) (part_length z es) (λ l. whole_part z es l) h

pub known_of_whole : (o : Option ℤ) (z : ℤ) (part es : List Entry) → part ≡ part_of z es → IfSome o (λ _. length es ≤ length part) → IfSome o (λ sum. sum ≡ total_of (numbers es)) → IfSome o (λ sum. sum ≡ total_of (numbers part))
known_of_whole None z part es p h t = tt
known_of_whole (Some sum) z part es p h t = t ∙ ap (λ (l : List Entry). total_of (numbers l)) (sym (p ∙ whole_part z es (subst (λ (l : List Entry). length es ≤ length l) p h)))

pub known_after : (o : Option ℤ) (es fs : List Entry) (ss : List Step) → IsMerged es ss fs → IfSome o (λ sum. sum ≡ total_of (numbers es) +ℤ rise_of ss) → IfSome o (λ sum. sum ≡ total_of (numbers fs))
known_after None es fs ss m h = tt
known_after (Some sum) es fs ss m h = h ∙ sym (merged_total es fs ss m)

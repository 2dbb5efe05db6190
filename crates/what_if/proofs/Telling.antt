-- Items that are made one after another.
use Rattle.std.proofs.Common.{◌≡◌, ◌+◌, ◌≤◌, ℕ, zero, suc, List, [], ◌∷◌, ◌++◌, take, slice_get, Some, refl, sym, ap, subst, ◌∙◌, arith}
use Rattle.layer_tiles.specs.Tallies.{TallyState, RisesBy}
use Rattle.layer_tiles.proofs.Rising.{rises_then, rises_within}
use Rattle.statement_parser.specs.Lines.{Item}
use Rattle.statement_parser.specs.Formed.{Each, IsItem}
use Rattle.statement_parser.specs.Views.{item_view, items_view}
use Rattle.statement_parser.specs.declared.line.Item as items
use Rattle.map_edits.specs.WholeStates.{WholeState}
use Rattle.map_machine.specs.Branches.{after_item}
use Rattle.map_machine.specs.RequestReads.{item_reads, items_reads}
use Rattle.what_if.specs.Tried.{IsTold, AreTold}
use Rattle.what_if.specs.declared.items.Told.{Told}

-- the state after these items
abbrev pub after_items : WholeState → List Item → WholeState
after_items s [] = s
after_items s (i ∷ is) = after_items (after_item s i) is

after_more : (s : WholeState) (is : List Item) (i : Item) → after_items s (is ++ i ∷ []) ≡ after_item (after_items s is) i
after_more s [] i = refl
after_more s (x ∷ xs) i = after_more (after_item s x) xs i

told_more : (s : WholeState) (is : List Item) (ts : List Told) (i : Item) (t : Told) → AreTold s is ts → IsTold (after_items s is) i t → AreTold s (is ++ i ∷ []) (ts ++ t ∷ [])
told_more s [] [] i t are is_told = (is_told, tt)
told_more s [] (u ∷ us) i t are is_told = absurd are
told_more s (x ∷ xs) [] i t are is_told = absurd are
told_more s (x ∷ xs) (u ∷ us) i t are is_told = (are.0, told_more (after_item s x) xs us i t are.1 is_told)

looks_more : (s : WholeState) (is : List Item) (i : Item) → (items_reads s (is ++ i ∷ [])).looks ≡ (items_reads s is).looks + (item_reads (after_items s is) i).looks
looks_more s [] i = omega arith
looks_more s (x ∷ xs) i = omega (arith, looks_more (after_item s x) xs i)

picks_more : (s : WholeState) (is : List Item) (i : Item) → (items_reads s (is ++ i ∷ [])).picks ≡ (items_reads s is).picks + (item_reads (after_items s is) i).picks
picks_more s [] i = omega arith
picks_more s (x ∷ xs) i = omega (arith, picks_more (after_item s x) xs i)

-- what the items so far may read, and one more
reads_more : (s : WholeState) (is : List Item) (i : Item) (a b c : TallyState) → RisesBy (items_reads s is).looks (items_reads s is).picks a b
    → RisesBy (item_reads (after_items s is) i).looks (item_reads (after_items s is) i).picks b c → RisesBy (items_reads s (is ++ i ∷ [])).looks (items_reads s (is ++ i ∷ [])).picks a c
reads_more s is i a b c r t = rises_within _ _ _ _ a c (omega (arith, looks_more s is i)) (omega (arith, picks_more s is i)) (rises_then _ _ _ _ a b c r t)

looks_front : (s : WholeState) (n : ℕ) (is : List items.Item) → (items_reads s (items_view (take n is))).looks ≤ (items_reads s (items_view is)).looks
looks_front s zero is = omega arith
looks_front s (suc n) [] = omega arith
looks_front s (suc n) (i ∷ is) = omega (arith, looks_front (after_item s (item_view i)) n is)

picks_front : (s : WholeState) (n : ℕ) (is : List items.Item) → (items_reads s (items_view (take n is))).picks ≤ (items_reads s (items_view is)).picks
picks_front s zero is = omega arith
picks_front s (suc n) [] = omega arith
picks_front s (suc n) (i ∷ is) = omega (arith, picks_front (after_item s (item_view i)) n is)

-- the first items may read no more than all
pub reads_front : (s : WholeState) (n : ℕ) (is : List items.Item) (a b : TallyState) → RisesBy (items_reads s (items_view (take n is))).looks (items_reads s (items_view (take n is))).picks a b → RisesBy (items_reads s (items_view is)).looks (items_reads s (items_view is)).picks a b
reads_front s n is a b r = rises_within _ _ _ _ a b (looks_front s n is) (picks_front s n is) r

one_same : {A : Type 0} (x y : A) → Some x ≡ Some y → x ≡ y
one_same x y e = cc

-- the items so far, and the one at a place
items_more : (is : List items.Item) (k : ℕ) (x : items.Item) → slice_get is k ≡ Some x → items_view (take (k + 1) is) ≡ items_view (take k is) ++ item_view x ∷ []
items_more [] k x at = absurd (cc)
items_more (i ∷ is) zero x at = ap (λ (v : items.Item). item_view v ∷ []) (one_same i x at)
items_more (i ∷ is) (suc k) x at =
    let more : suc k + 1 ≡ suc (k + 1) = omega arith in
    ap (λ n. items_view (take n (i ∷ is))) more ∙ ap (λ vs. item_view i ∷ vs) (items_more is k x at)

pub item_formed : (is : List items.Item) (k : ℕ) (x : items.Item) → Each IsItem (items_view is) → slice_get is k ≡ Some x → IsItem (item_view x)
item_formed [] k x each at = absurd (cc)
item_formed (i ∷ is) zero x each at = subst (λ (v : items.Item). IsItem (item_view v)) (one_same i x at) each.0
item_formed (i ∷ is) (suc k) x each at = item_formed is k x each.1 at

-- after one more item, which was made in the state that those before it made
pub state_next : (s now new : WholeState) (is : List items.Item) (k : ℕ) (x : items.Item) → slice_get is k ≡ Some x → now ≡ after_items s (items_view (take k is)) → new ≡ after_item now (item_view x) → new ≡ after_items s (items_view (take (k + 1) is))
state_next s now new is k x at state after =
    after ∙ ap (λ (w : WholeState). after_item w (item_view x)) state ∙ sym (after_more s (items_view (take k is)) (item_view x)) ∙ ap (after_items s) (sym (items_more is k x at))

pub told_next : (s now : WholeState) (is : List items.Item) (k : ℕ) (x : items.Item) (ts new : List Told) (t : Told) → slice_get is k ≡ Some x → now ≡ after_items s (items_view (take k is)) → AreTold s (items_view (take k is)) ts
    → IsTold now (item_view x) t → new ≡ ts ++ t ∷ [] → AreTold s (items_view (take (k + 1) is)) new
told_next s now is k x ts new t at state are is_told made =
    subst (λ us. AreTold s (items_view (take (k + 1) is)) us) (sym made)
    (subst (λ vs. AreTold s vs (ts ++ t ∷ [])) (sym (items_more is k x at)) (told_more s (items_view (take k is)) ts (item_view x) t are (subst (λ (w : WholeState). IsTold w (item_view x) t) state is_told)))

pub reads_next : (s now : WholeState) (is : List items.Item) (k : ℕ) (x : items.Item) (a b c : TallyState) → slice_get is k ≡ Some x → now ≡ after_items s (items_view (take k is))
    → RisesBy (items_reads s (items_view (take k is))).looks (items_reads s (items_view (take k is))).picks a b → RisesBy (item_reads now (item_view x)).looks (item_reads now (item_view x)).picks b c
    → RisesBy (items_reads s (items_view (take (k + 1) is))).looks (items_reads s (items_view (take (k + 1) is))).picks a c
reads_next s now is k x a b c at state r t =
    subst (λ vs. RisesBy (items_reads s vs).looks (items_reads s vs).picks a c) (sym (items_more is k x at))
    (reads_more s (items_view (take k is)) (item_view x) a b c r (subst (λ (w : WholeState). RisesBy (item_reads w (item_view x)).looks (item_reads w (item_view x)).picks b c) state t))

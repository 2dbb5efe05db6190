-- What heaps of entries give.
use Rattle.std.proofs.Common.{◌≡◌, ℕ, ◌/◌, ◌%◌, ◌+◌, ◌*◌, ◌<◌, ◌≤◌, List, [], ◌∷◌, map, arith, false, refl, sym, subst}
use Rattle.std.specs.declared.cmp.Reverse.{Reverse}
use Rattle.std.specs.List.{All, AllByRecursion}
use Rattle.std.specs.Ordering.{nat_cmp, is_lt}
use Rattle.std.specs.List.Sorted.{IsPermutation}
use Rattle.std.proofs.lemmas.List.Sorted.{IsPermutation-map, IsPermutation-sym, IsPermutation-trans, IsPermutation-middle}
use Rattle.std.proofs.lemmas.List.Sorted.{IsPermutation-append_left, IsPermutation-append_right, All-permutation}
use Rattle.std.specs.BinaryHeap.{IsUpperBound, KeepsHeap, PopsGreatest}
use Rattle.std.proofs.lemmas.Bool.Decides.{nat_tests}
use Rattle.std.proofs.lemmas.List.Elements.{All-from_recursion, All-cons, All-head, All-tail, All-append, All-map, All-weaker}
use Rattle.least_costs.specs.Entries.{entry_of, entries_of, HasKey, number_cmp, IsEntryHeap}

-- ---- a number that is made of a key and a place comes into a heap

module _ (r : Reverse ℕ) (key at : ℕ) (made : r.0 ≡ key * 2097152 + at) (placed : at < 2097152) where
  entry_is : entry_of r ≡ (key, at)
  entry_is =
      let k : r.0 / 2097152 ≡ key = omega (arith, made, placed) in
      let p : r.0 % 2097152 ≡ at = omega (arith, made, placed) in
      let P : ℕ → Type 0 = λ a. ◌≡◌ {A = ℕ × ℕ} (a, r.0 % 2097152) (key, at) in
      let Q : ℕ → Type 0 = λ b. ◌≡◌ {A = ℕ × ℕ} (key, b) (key, at) in
      subst P (sym k) (subst Q (sym p) refl)

  pushed : (old new : List (Reverse ℕ)) → IsPermutation (r ∷ old) new → IsPermutation ((key, at) ∷ map entry_of old) (map entry_of new)
  pushed old new p =
      let P : ℕ × ℕ → Type 0 = λ x. IsPermutation (x ∷ map entry_of old) (map entry_of new) in
      subst P entry_is (IsPermutation-map entry_of _ _ p)

  pub pushed_near : (near near' far : List (Reverse ℕ)) → IsPermutation (r ∷ near) near' →
      IsPermutation ((key, at) ∷ entries_of near far) (entries_of near' far)
  pushed_near near near' far p = IsPermutation-append_left (map entry_of far) ((key, at) ∷ map entry_of near) (map entry_of near') (pushed near near' p)

  pub pushed_far : (near far far' : List (Reverse ℕ)) → IsPermutation (r ∷ far) far' → IsPermutation ((key, at) ∷ entries_of near far) (entries_of near far')
  pushed_far near far far' p =
      let behind = IsPermutation-sym _ _ (IsPermutation-middle (map entry_of near) (key, at) (map entry_of far)) in
      IsPermutation-trans _ _ _ behind (IsPermutation-append_right (map entry_of near) _ _ (pushed far far' p))

  module _ (low high : ℕ) (old new : List (Reverse ℕ)) (least : low ≤ key) (most : key < high) where
    pub pushed_heap : KeepsHeap number_cmp old new → IsPermutation (r ∷ old) new → IsEntryHeap low high old → IsEntryHeap low high new
    pushed_heap keeps p h =
        let within : HasKey low high r = (omega (arith, made, least), omega (arith, made, placed, most)) in
        record { order = keeps h.order; keys = All-permutation (HasKey low high) _ _ p (All-cons (HasKey low high) _ _ within h.keys) }

-- ---- the greatest number leaves a heap

module _ (low high : ℕ) (r : Reverse ℕ) (old new : List (Reverse ℕ)) (popped : IsPermutation old (r ∷ new)) (heap : IsEntryHeap low high old) where
  keys : All (HasKey low high) (r ∷ new)
  keys = All-permutation (HasKey low high) _ _ popped heap.keys

  pub popped_key : HasKey low high r
  popped_key = All-head (HasKey low high) _ _ keys

  pub popped_heap : PopsGreatest number_cmp old r new → IsEntryHeap low high new
  popped_heap pops = record { order = (pops heap.order).0; keys = All-tail (HasKey low high) _ _ keys }

module _ (r : Reverse ℕ) where
  pub popped_near : (near near' far : List (Reverse ℕ)) → IsPermutation near (r ∷ near') →
      IsPermutation (entries_of near far) (entry_of r ∷ entries_of near' far)
  popped_near near near' far p =
      IsPermutation-append_left (map entry_of far) (map entry_of near) (entry_of r ∷ map entry_of near') (IsPermutation-map entry_of _ _ p)

  pub popped_far : (near near' far far' : List (Reverse ℕ)) → near ≡ [] → near' ≡ [] → IsPermutation far (r ∷ far') →
      IsPermutation (entries_of near far) (entry_of r ∷ entries_of near' far')
  popped_far near near' far far' e e' p = rw (e, e') (IsPermutation-map entry_of _ _ p)

-- ---- its key is the least

not_below : (a b : ℕ) → is_lt (nat_cmp b a) ≡ false → a ≤ b
not_below a b h = grind (arith, nat_tests)

key_below : (a b : ℕ) → a ≤ b → a / 2097152 ≤ b / 2097152
key_below a b h = omega (arith, h)

abbrev HasNoLessKey : Reverse ℕ → ℕ × ℕ → Type 0
HasNoLessKey r y = r.0 / 2097152 ≤ y.0

no_lower : (x : Reverse ℕ) (xs : List (Reverse ℕ)) → IsUpperBound number_cmp x xs → AllByRecursion (HasNoLessKey x) (map entry_of xs)
no_lower x [] h = h
no_lower x (y ∷ ys) h = (key_below x.0 y.0 (not_below x.0 y.0 h.0), no_lower x ys h.1)

module _ (r : Reverse ℕ) (near far : List (Reverse ℕ)) where
  least_entry : (numbers : List (Reverse ℕ)) → IsUpperBound number_cmp r numbers → All (HasNoLessKey r) (map entry_of numbers)
  least_entry numbers h = All-from_recursion (HasNoLessKey r) (map entry_of numbers) (no_lower r numbers h)

  pub least_near : (low high : ℕ) → r.0 / 2097152 ≤ low → IsUpperBound number_cmp r near → IsEntryHeap low high far → All (HasNoLessKey r) (entries_of near far)
  least_near low high l bound heap =
      let behind = All-weaker (HasKey low high) (λ n. r.0 / 2097152 ≤ n.0 / 2097152) (λ n k. omega (arith, k.0, l)) far heap.keys in
      All-append (HasNoLessKey r) (map entry_of near) (map entry_of far) (least_entry near bound) (All-map (HasNoLessKey r) entry_of far behind)

  pub least_far : near ≡ [] → IsUpperBound number_cmp r far → All (HasNoLessKey r) (entries_of near far)
  least_far e bound = rw (e) (least_entry far bound)

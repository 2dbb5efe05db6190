-- Parts of a list that change places.
use Rattle.std.proofs.Common.{◌≡◌, ℕ, ◌+◌, ◌-◌, ◌≤◌, List, [], ◌++◌, length, take, drop, refl, sym, ap, ◌∙◌, arith, append_assoc, length-append, subst, false, IsFalse}
use Rattle.std.proofs.lemmas.List.{append-nil, take_rest, take_at, drop_at, drop_all, length-drop, length-take-le}
use Rattle.statement_graph.specs.declared.node.Entry.{Entry}
use Rattle.statement_graph.specs.Splices.{spliced}
use Rattle.map_defs.specs.Ops.{Name}
use Rattle.map_defs.specs.Depths.{is_looped}
use Rattle.statement_graph.specs.declared.row.Row.{Row}
use Rattle.statement_graph.specs.Seats.{nodes_at}
use Rattle.statement_graph.specs.Tables.{shown_all, table_at}
use Rattle.statement_graph.proofs.Placing.{three_parts}
use borrow.Rule.Slice.PartMut.{put_mid}

turned : {X : Type 0} (p front back : List X) (k : ℕ) → p ≡ front ++ back → k ≡ length front → drop k p ++ take k p ≡ back ++ front
turned p front back k e h =
    ap (λ q. drop k q ++ take k q) e ∙ ap (λ l. l ++ take k (front ++ back)) (drop_at front back k (sym h)) ∙ ap (λ l. back ++ l) (take_at front back k (sym h))

put_end : {X : Type 0} (xs ys : List X) (start : ℕ) → put_mid start (length xs - start) xs ys ≡ take start xs ++ ys
put_end xs ys start = ap (λ l. take start xs ++ (ys ++ l)) (drop_all (length xs - start) (drop start xs) (let h = length-drop start xs in omega arith)) ∙ ap (λ l. take start xs ++ l) (append-nil ys)

pub exchanged : {X : Type 0} (xs a o t n : List X) (start end count : ℕ) (r s : List X) → xs ≡ a ++ o ++ t ++ n → length a ≡ start → length a + length o ≡ end → length n ≡ count
    → r ≡ drop (length (take (length xs - start) (drop start xs)) - count) (take (length xs - start) (drop start xs)) ++ take (length (take (length xs - start) (drop start xs)) - count) (take (length xs - start) (drop start xs))
    → s ≡ drop (end - start) (take (length r - count) (drop count r)) ++ take (end - start) (take (length r - count) (drop count r))
    → put_mid start (length xs - start) xs (put_mid count (length r - count) r s) ≡ a ++ n ++ t ++ o
exchanged xs a o t n start end count r s e la lo ln first second =
    let all : xs ≡ a ++ ((o ++ t) ++ n) = e ∙ ap (λ l. l ++ n) (append_assoc a o t) ∙ append_assoc a (o ++ t) n in
    let part : take (length xs - start) (drop start xs) ≡ (o ++ t) ++ n = take_rest xs start ∙ ap (drop start) all ∙ drop_at a ((o ++ t) ++ n) start la in
    let len : length (take (length xs - start) (drop start xs)) - count ≡ length (o ++ t) = (let h = ap length part ∙ length-append (o ++ t) n in omega arith) in
    let r_is : r ≡ n ++ (o ++ t) = first ∙ turned (take (length xs - start) (drop start xs)) (o ++ t) n (length (take (length xs - start) (drop start xs)) - count) part len in
    let part2 : take (length r - count) (drop count r) ≡ o ++ t = take_rest r count ∙ ap (drop count) r_is ∙ drop_at n (o ++ t) count ln in
    let gone : end - start ≡ length o = omega arith in
    let s_is : s ≡ t ++ o = second ∙ turned (take (length r - count) (drop count r)) o t (end - start) part2 gone in
    let inner : put_mid count (length r - count) r s ≡ n ++ (t ++ o) = put_end r s count ∙ ap (λ l. take count l ++ s) r_is ∙ ap (λ l. l ++ s) (take_at n (o ++ t) count ln) ∙ ap (λ l. n ++ l) s_is in
    put_end xs (put_mid count (length r - count) r s) start ∙ ap (λ l. take start l ++ put_mid count (length r - count) r s) all ∙ ap (λ l. l ++ put_mid count (length r - count) r s) (take_at a ((o ++ t) ++ n) start la)
    ∙ ap (λ l. a ++ l) inner ∙ sym (append_assoc a n (t ++ o)) ∙ sym (append_assoc (a ++ n) t o)

-- places taken out
pub cut : (es new left : List Entry) (start end k : ℕ) → start ≤ end → end ≤ length es → k ≡ length es - (end - start)
    → ((a o t n : List Entry) → es ≡ a ++ o ++ t ++ n → length a ≡ start → length a + length o ≡ end → length n ≡ 0 → new ≡ a ++ n ++ t ++ o)
    → left ≡ take k new → left ≡ take start es ++ drop end es
cut es new left start end k order within k_is goes is =
    let a = take start es in
    let o = take (end - start) (drop start es) in
    let t = drop end es in
    let la : length a ≡ start = length-take-le start es (omega arith) in
    let ld : length (drop start es) ≡ length es - start = length-drop start es in
    let lo : length o ≡ end - start = length-take-le (end - start) (drop start es) (omega arith) in
    let lt : length t ≡ length es - end = length-drop end es in
    let all : es ≡ a ++ o ++ t ++ [] = three_parts es start end order ∙ sym (append-nil (a ++ o ++ t)) in
    let now : new ≡ (a ++ [] ++ t) ++ o = goes a o t [] all la (omega arith) refl in
    let kept : new ≡ (a ++ t) ++ o = now ∙ ap (λ l. l ++ t ++ o) (append-nil a) in
    is ∙ ap (take k) kept ∙ take_at (a ++ t) o k (let h = length-append a t in omega arith)

-- places put in for others, and taken out again
module _ (es fresh : List Entry) (start end : ℕ) (order : start ≤ end) (within : end ≤ length es) where
  pub put_in : (old new : List Entry) (k : ℕ) → old ≡ es ++ fresh → k + (end - start) ≡ length es + length fresh
      → ((a o t n : List Entry) → old ≡ a ++ o ++ t ++ n → length a ≡ start → length a + length o ≡ end → length n ≡ length fresh → new ≡ a ++ n ++ t ++ o)
      → (new ≡ spliced start end fresh es ++ take (end - start) (drop start es)) × (take k new ≡ spliced start end fresh es)
  put_in old new k old_is k_is goes =
      let a = take start es in
      let o = take (end - start) (drop start es) in
      let t = drop end es in
      let la : length a ≡ start = length-take-le start es (omega arith) in
      let ld : length (drop start es) ≡ length es - start = length-drop start es in
      let lo : length o ≡ end - start = length-take-le (end - start) (drop start es) (omega arith) in
      let lt : length t ≡ length es - end = length-drop end es in
      let all : old ≡ a ++ o ++ t ++ fresh = old_is ∙ ap (λ l. l ++ fresh) (three_parts es start end order) in
      let now : new ≡ a ++ fresh ++ t ++ o = goes a o t fresh all la (omega arith) refl in
      let len : length (a ++ fresh ++ t) ≡ length a + length fresh + length t = length-append (a ++ fresh) t ∙ ap (λ k. k + length t) (length-append a fresh) in
      (now, ap (take k) now ∙ take_at (a ++ fresh ++ t) o k (omega arith))

  pub put_back : (new back last : List Entry) → new ≡ spliced start end fresh es ++ take (end - start) (drop start es)
      → ((a o t n : List Entry) → new ≡ a ++ o ++ t ++ n → length a ≡ start → length a + length o ≡ start + length fresh → length n ≡ end - start → back ≡ a ++ n ++ t ++ o)
      → last ≡ take (length es) back → last ≡ es
  put_back new back last new_is goes is =
      let a = take start es in
      let o = take (end - start) (drop start es) in
      let t = drop end es in
      let la : length a ≡ start = length-take-le start es (omega arith) in
      let ld : length (drop start es) ≡ length es - start = length-drop start es in
      let lo : length o ≡ end - start = length-take-le (end - start) (drop start es) (omega arith) in
      let all : es ≡ a ++ o ++ t = three_parts es start end order in
      let was : back ≡ a ++ o ++ t ++ fresh = goes a fresh t o new_is la (omega arith) lo in
      is ∙ ap (take (length es)) was ∙ take_at (a ++ o ++ t) fresh (length es) (sym (ap length all)) ∙ sym all

  pub length-spliced : length (spliced start end fresh es) + (end - start) ≡ length es + length fresh
  length-spliced =
      let la : length (take start es) ≡ start = length-take-le start es (omega arith) in
      let lt : length (drop end es) ≡ length es - end = length-drop end es in
      let len : length (spliced start end fresh es) ≡ length (take start es) + length fresh + length (drop end es) = length-append (take start es ++ fresh) (drop end es) ∙ ap (λ k. k + length (drop end es)) (length-append (take start es) fresh) in
      omega arith

-- what putting in answers
pub put_in_is : (es fresh new left : List Entry) (start end k : ℕ) (n : Name) (rows : List Row) → left ≡ take k new → take k new ≡ spliced start end fresh es → is_looped (nodes_at (take k new)) n ≡ false
    → shown_all (nodes_at (take k new)) rows ≡ table_at k (nodes_at (take k new)) n → k ≡ length (take k new)
    → (left ≡ spliced start end fresh es) × IsFalse (is_looped (nodes_at left) n) × (shown_all (nodes_at left) rows ≡ table_at (length left) (nodes_at left) n)
put_in_is es fresh new left start end k n rows is spliced_is not_looped table len =
    let P : List Entry → Type 0 = λ l. (l ≡ spliced start end fresh es) × IsFalse (is_looped (nodes_at l) n) × (shown_all (nodes_at l) rows ≡ table_at (length l) (nodes_at l) n) in
    subst P (sym is) (spliced_is, not_looped, table ∙ ap (λ q. table_at q (nodes_at (take k new)) n) len)

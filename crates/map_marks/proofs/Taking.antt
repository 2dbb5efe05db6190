-- Marks are taken out of a list one after another, the last first, and put back.
use Rattle.std.proofs.Common.{◌≡◌, ℕ, suc, min, ◌+◌, ◌<◌, ◌≤◌, Bool, true, false, List, [], ◌∷◌, ◌++◌, length, get_or, take, drop, map, filter, refl, sym, ◌∙◌, ap, subst, arith, add-one, append_assoc, length-append}
use Rattle.std.specs.List.{insert, remove}
use Rattle.std.proofs.lemmas.List.{append-nil, map-append, length-map, take_at, drop_at, take_min, drop_min, take-map, drop-map, map_more, drop_more, get_or_read, length-take-le}
use Rattle.std.proofs.lemmas.List.Elements.{filter-append}
use Rattle.std.proofs.lemmas.List.Sums.{length-filter, count_by-le-length}
use Rattle.map_edits.specs.Marks.{Mark as Kept}
use Rattle.map_marks.specs.declared.mark.Mark.{Mark}
use Rattle.map_marks.specs.declared.taken.Taken.{Taken}
use Rattle.map_marks.specs.Views.{mark_of}
use Rattle.map_marks.specs.Taken.{mark_at, given_back}

-- the last that was taken out is the first that is put back
pub given_back-push : (marks : List Kept) (ts : List Taken) (t : Taken) → given_back marks (ts ++ t ∷ []) ≡ given_back (mark_at marks t.place (mark_of t.mark)) ts
given_back-push marks [] t = refl
given_back-push marks (s ∷ ts) t = ap (λ (l : List Kept). mark_at l s.place (mark_of s.mark)) (given_back-push marks ts t)

-- a mark put in, and what is seen of it
pub kept-insert : (marks : List Mark) (k : ℕ) (m : Mark) → map mark_of (insert marks (min k (length marks)) m) ≡ mark_at (map mark_of marks) k (mark_of m)
kept-insert marks k m = rw (take_min k marks, drop_min k marks, map-append mark_of (take k marks) (m ∷ drop k marks), take-map mark_of k marks, drop-map mark_of k marks) refl

-- one step of putting back
pub one_back : (marks more : List Mark) (ts rest : List Taken) (t : Taken) (all : List Kept) → ts ≡ rest ++ t ∷ [] → map mark_of more ≡ mark_at (map mark_of marks) t.place (mark_of t.mark) → given_back (map mark_of marks) ts ≡ all → given_back (map mark_of more) rest ≡ all
one_back marks more ts rest t all last put is =
    ap (λ (l : List Kept). given_back l rest) put ∙ sym (given_back-push (map mark_of marks) rest t) ∙ ap (given_back (map mark_of marks)) (sym last) ∙ is

-- of the marks, the heads are still to be looked at, and all tails stay
pub record IsTaken (p : Kept → Bool) (old heads tails : List Kept) (taken : List Taken) : Type 0 where
  pub stay : filter p tails ≡ tails
  pub left : filter p heads ++ tails ≡ filter p old
  pub back : given_back (heads ++ tails) taken ≡ old
  pub count : length taken + length heads + length tails ≡ length old

module _ (p : Kept → Bool) (old : List Kept) where
  pub shorter : length (filter p old) ≤ length old
  shorter = omega (arith, length-filter p old, count_by-le-length p old)

  pub none_taken : IsTaken p old old [] []
  none_taken = record { stay = refl; left = append-nil (filter p old); back = append-nil old; count = omega arith }

  module _ (heads tails : List Kept) (m : Kept) (taken : List Taken) (so_far : IsTaken p old (heads ++ m ∷ []) tails taken) where
    joined : (heads ++ m ∷ []) ++ tails ≡ heads ++ m ∷ tails
    joined = append_assoc heads (m ∷ []) tails

    filtered : (b : List Kept) → filter p (m ∷ []) ≡ b → filter p heads ++ (b ++ tails) ≡ filter p old
    filtered b e = sym (append_assoc (filter p heads) b tails) ∙ ap (λ (l : List Kept). (filter p heads ++ l) ++ tails) (sym e) ∙ ap (λ (l : List Kept). l ++ tails) (sym (filter-append p heads (m ∷ []))) ∙ so_far.left

    pub stays : p m ≡ true → IsTaken p old heads (m ∷ tails) taken
    stays e = record {
      stay = rw e (ap (λ (l : List Kept). m ∷ l) so_far.stay);
      left = filtered (m ∷ []) (rw e refl);
      back = ap (λ (l : List Kept). given_back l taken) (sym joined) ∙ so_far.back;
      count = omega (arith, so_far.count, length-append heads (m ∷ []));
    }

    pub goes : (t : Taken) → t.place ≡ length heads → mark_of t.mark ≡ m → p m ≡ false → IsTaken p old heads tails (taken ++ t ∷ [])
    goes t place is e =
        let put : mark_at (heads ++ tails) t.place (mark_of t.mark) ≡ (heads ++ m ∷ []) ++ tails = rw (place, is, take_at heads tails (length heads) refl, drop_at heads tails (length heads) refl) (sym joined) in
        record {
          stay = so_far.stay;
          left = filtered [] (rw e refl);
          back = given_back-push (heads ++ tails) taken t ∙ ap (λ (l : List Kept). given_back l taken) put ∙ so_far.back;
          count = omega (arith, so_far.count, length-append heads (m ∷ []), length-append taken (t ∷ []));
        }

    -- there is room for one more
    pub more_to_take : p m ≡ false → length taken + length (filter p old) < length old
    more_to_take e =
        let few : length (filter p heads) ≤ length heads = omega (arith, length-filter p heads, count_by-le-length p heads) in
        let left : length (filter p heads) + length tails ≡ length (filter p old) = sym (length-append (filter p heads) tails) ∙ ap length (filtered [] (rw e refl)) in
        omega (arith, so_far.count, few, left, length-append heads (m ∷ []))

  -- as far down as a place
  abbrev pub IsTakenTo : List Mark → List Taken → ℕ → Type 0
  IsTakenTo marks taken place = IsTaken p old (map mark_of (take place marks)) (map mark_of (drop place marks)) taken

  module _ (marks : List Mark) (taken : List Taken) (i j : ℕ) (x : Mark) (next : i + 1 ≡ j) (within : i < length marks) (at : x ≡ get_or marks i x) (so_far : IsTakenTo marks taken j) where
    abbrev heads : List Kept
    heads = map mark_of (take i marks)

    abbrev tails : List Kept
    tails = map mark_of (drop (i + 1) marks)

    here : IsTaken p old (heads ++ mark_of x ∷ []) tails taken
    here =
        let at_next : IsTakenTo marks taken (i + 1) = subst (λ (k : ℕ). IsTakenTo marks taken k) (sym next) so_far in
        let more : map mark_of (take (i + 1) marks) ≡ heads ++ mark_of x ∷ [] = map_more mark_of marks i x within ∙ ap (λ (m : Mark). heads ++ mark_of m ∷ []) (sym at) in
        subst (λ (l : List Kept). IsTaken p old l tails taken) more at_next

    pub mark_stays : p (mark_of x) ≡ true → IsTakenTo marks taken i
    mark_stays e =
        let rest : mark_of x ∷ tails ≡ map mark_of (drop i marks) = ap (λ (m : Mark). mark_of m ∷ tails) at ∙ ap (map mark_of) (sym (drop_more marks i x within)) in
        subst (λ (l : List Kept). IsTaken p old heads l taken) rest (stays heads tails (mark_of x) taken here e)

    pub mark_goes : (y : Mark) → y ≡ get_or marks i y → p (mark_of x) ≡ false → IsTakenTo (remove marks i) (taken ++ record { place = i; mark = y } ∷ []) i
    mark_goes y is e =
        let same : y ≡ x = get_or_read marks i y within is x ∙ sym at in
        let long : length (take i marks) ≡ i = length-take-le i marks (omega (arith, within)) in
        let count : i ≡ length heads = sym (length-map (take i marks) mark_of ∙ long) in
        let t : IsTaken p old heads tails (taken ++ record { place = i; mark = y } ∷ []) = goes heads tails (mark_of x) taken here (record { place = i; mark = y }) count (ap mark_of same) e in
        rw (take_at (take i marks) (drop (suc i) marks) i long, drop_at (take i marks) (drop (suc i) marks) i long) (rw add-one at t)

    pub room_for_one : p (mark_of x) ≡ false → length taken + length (filter p old) < length old
    room_for_one e = more_to_take heads tails (mark_of x) taken here e

-- Where a group starts and ends among the places, and what stands before and after it.
use Rattle.std.proofs.Common.{◌≡◌, ℕ, zero, suc, ◌+◌, Bool, true, false, not, cond, slice_get, add-one, List, [], ◌∷◌, ◌++◌, map, length, drop, Some, None, bytes_eq, refl, sym, ap, ◌∙◌, arith, append_assoc, length-append}
use Rattle.std.proofs.lemmas.Bool.{or_from}
use Rattle.std.proofs.lemmas.Option.{some_pair_parts, none-some}
use Rattle.map_defs.specs.Ops.{Name}
use Rattle.map_defs.specs.Nodes.{Node}
use Rattle.statement_graph.specs.Groups.{has_group}
use Rattle.statement_graph.specs.Puts.{own_name}
use Rattle.statement_graph.specs.Seats.{Seat, groups_from, are_whole, span_from}
use Rattle.statement_graph.specs.Fresh.{group_seats}
use Rattle.statement_graph.proofs.Finding.{same_name}
use Rattle.statement_graph.proofs.Groupings.{seated, alone, groups_from-append, are_whole-append}

-- seats that go on
abbrev GoOn : List Seat → Type 0
GoOn [] = Unit {0}
GoOn (s ∷ ss) = (s.ends ≡ false) × GoOn ss

-- one group, and no more
pub record OneGroup (ss : List Seat) (n : Name) : Type 0 where
  pub whole : are_whole false ss ≡ true
  pub is : groups_from [] ss ≡ record { name = n; nodes = map seated ss } ∷ []

closes : (now : List Node) (pend : List Seat) (s : Seat) → GoOn pend → s.ends ≡ true → groups_from now (pend ++ s ∷ []) ≡ record { name = s.node.name; nodes = now ++ map seated (pend ++ s ∷ []) } ∷ []
closes now [] s g e = rw e refl
closes now (p ∷ pend) s g e =
    rw g.0 (closes (now ++ p.node ∷ []) pend s g.1 e ∙ ap (alone s.node.name) (append_assoc now (p.node ∷ []) (map seated (pend ++ s ∷ []))))

closes_whole : (u : Bool) (pend : List Seat) (s : Seat) → s.ends ≡ true → are_whole u (pend ++ s ∷ []) ≡ true
closes_whole u [] s e = rw e refl
closes_whole u (p ∷ pend) s e = closes_whole (not p.ends) pend s e

one_group : (pend : List Seat) (s : Seat) (n : Name) → GoOn pend → s.ends ≡ true → s.node.name ≡ n → OneGroup (pend ++ s ∷ []) n
one_group pend s n g e same = record {
  whole = closes_whole false pend s e;
  is = closes [] pend s g e ∙ ap (λ m. alone m (map seated (pend ++ s ∷ []))) same;
}

GoOn-push : (pend : List Seat) (s : Seat) → GoOn pend → s.ends ≡ false → GoOn (pend ++ s ∷ [])
GoOn-push [] s g e = (e, tt)
GoOn-push (p ∷ pend) s g e = (g.0, GoOn-push pend s g.1 e)

-- the seats before a group, its own, and those after it
pub record Split (all : List Seat) (n : Name) (start a b : ℕ) : Type 0 where
  pub front : List Seat
  pub mid : List Seat
  pub back : List Seat
  pub parts : all ≡ front ++ (mid ++ back)
  pub starts : start + length front ≡ a
  pub ends : a + length mid ≡ b
  pub whole : are_whole false front ≡ true
  pub lacks : has_group (groups_from [] front) n ≡ false
  pub one : OneGroup mid n

after_group : (pend ss : List Seat) (s : Seat) (n : Name) (start a b : ℕ) → GoOn pend → s.ends ≡ true → bytes_eq s.node.name n ≡ false → Split ss n (start + suc (length pend)) a b → Split (pend ++ s ∷ ss) n start a b
after_group pend ss s n start a b g e other r =
    let group : List Seat = pend ++ s ∷ [] in
    let len : length group ≡ length pend + 1 = length-append pend (s ∷ []) in
    let len_all : length (group ++ r.front) ≡ length group + length r.front = length-append group r.front in
    let w : are_whole false group ≡ true = closes_whole false pend s e in
    let own = closes [] pend s g e in
    record {
      front = group ++ r.front;
      mid = r.mid;
      back = r.back;
      parts = sym (append_assoc pend (s ∷ []) ss) ∙ ap (λ l. group ++ l) r.parts ∙ sym (append_assoc group r.front (r.mid ++ r.back));
      starts = (let st = r.starts in omega arith);
      ends = r.ends;
      whole = are_whole-append false group r.front w ∙ r.whole;
      lacks = ap (λ gs. has_group gs n) (groups_from-append false [] group r.front w (λ _. refl) ∙ ap (λ gs. gs ++ groups_from [] r.front) own)
          ∙ or_from (bytes_eq s.node.name n) (has_group (groups_from [] r.front) n) other r.lacks;
      one = r.one;
    }

pub span_from-Some : (ss pend : List Seat) (n : Name) (start at a b : ℕ) → GoOn pend → at ≡ start + length pend → span_from start at n ss ≡ Some (a, b) → Split (pend ++ ss) n start a b
span_from-Some [] pend n start at a b g l e = absurd cc
span_from-Some (s ∷ ss) pend n start at a b g l e =
    go (s.ends) (bytes_eq s.node.name n) refl refl e (λ e. span_from-Some ss [] n (suc at) (suc at) a b tt (omega arith) e)
    (λ g' l' e. span_from-Some ss (pend ++ s ∷ []) n start (suc at) a b g' l' e)
  where
    go : (ends named : Bool) → s.ends ≡ ends → bytes_eq s.node.name n ≡ named
        → cond ends (cond named (Some (start, suc at)) (span_from (suc at) (suc at) n ss)) (span_from start (suc at) n ss) ≡ Some (a, b)
        → (span_from (suc at) (suc at) n ss ≡ Some (a, b) → Split ss n (suc at) a b)
        → (GoOn (pend ++ s ∷ []) → suc at ≡ start + length (pend ++ s ∷ []) → span_from start (suc at) n ss ≡ Some (a, b) → Split ((pend ++ s ∷ []) ++ ss) n start a b)
        → Split (pend ++ s ∷ ss) n start a b
    go true true he hn e rest on =
        let len : length (pend ++ s ∷ []) ≡ length pend + 1 = length-append pend (s ∷ []) in
        let is = some_pair_parts start a (suc at) b e in
        let ea : start ≡ a = is.0 in
        let eb : suc at ≡ b = is.1 in
        record {
          front = [];
          mid = pend ++ s ∷ [];
          back = ss;
          parts = sym (append_assoc pend (s ∷ []) ss);
          starts = omega arith;
          ends = omega arith;
          whole = refl;
          lacks = refl;
          one = one_group pend s n g he (same_name s.node.name n hn);
        }
    go true false he hn e rest on = let here : suc at ≡ start + suc (length pend) = omega arith in after_group pend ss s n start a b g he hn (rw here at (rest e))
    go false named he hn e rest on =
        let len : length (pend ++ s ∷ []) ≡ length pend + 1 = length-append pend (s ∷ []) in
        let P : List Seat → Type 0 = λ l. Split l n start a b in
        rw append_assoc at (on (GoOn-push pend s g he) (omega arith) e)

pub span_from-None : (ss : List Seat) (now : List Node) (n : Name) (start at : ℕ) → span_from start at n ss ≡ None → has_group (groups_from now ss) n ≡ false
span_from-None [] now n start at e = refl
span_from-None (s ∷ ss) now n start at e = go (s.ends) (bytes_eq s.node.name n) refl e (λ e. span_from-None ss [] n (suc at) (suc at) e) (λ e. span_from-None ss (now ++ s.node ∷ []) n start (suc at) e)
  where
    go : (ends named : Bool) → bytes_eq s.node.name n ≡ named
        → cond ends (cond named (Some (start, suc at)) (span_from (suc at) (suc at) n ss)) (span_from start (suc at) n ss) ≡ None
        → (span_from (suc at) (suc at) n ss ≡ None → has_group (groups_from [] ss) n ≡ false)
        → (span_from start (suc at) n ss ≡ None → has_group (groups_from (now ++ s.node ∷ []) ss) n ≡ false)
        → has_group (cond ends (record { name = s.node.name; nodes = now ++ s.node ∷ [] } ∷ groups_from [] ss) (groups_from (now ++ s.node ∷ []) ss)) n ≡ false
    go true true hn e rest on = absurd cc
    go true false hn e rest on = or_from (bytes_eq s.node.name n) (has_group (groups_from [] ss) n) hn (rest e)
    go false named hn e rest on = on e

-- ---- a statement's places as they are made

fresh_whole : (u : Bool) (xs : List Node) (n : Name) → own_name xs ≡ Some n → are_whole u (group_seats xs) ≡ true
fresh_whole u [] n e = absurd cc
fresh_whole u (x ∷ []) n e = refl
fresh_whole u (x ∷ y ∷ ys) n e = fresh_whole true (y ∷ ys) n e

fresh_is : (now xs : List Node) (n : Name) → own_name xs ≡ Some n → groups_from now (group_seats xs) ≡ record { name = n; nodes = now ++ xs } ∷ []
fresh_is now [] n e = absurd cc
fresh_is now (x ∷ []) n e = let same : x.name ≡ n = cc in ap (λ m. alone m (now ++ x ∷ [])) same
fresh_is now (x ∷ y ∷ ys) n e = fresh_is (now ++ x ∷ []) (y ∷ ys) n e ∙ ap (alone n) (append_assoc now (x ∷ []) (y ∷ ys))

pub map-group_seats : (xs : List Node) → map seated (group_seats xs) ≡ xs
map-group_seats [] = refl
map-group_seats (x ∷ []) = refl
map-group_seats (x ∷ y ∷ ys) = ap (λ l. x ∷ l) (map-group_seats (y ∷ ys))

pub fresh_group : (xs : List Node) (n : Name) → own_name xs ≡ Some n → OneGroup (group_seats xs) n
fresh_group xs n e = record {
  whole = fresh_whole false xs n e;
  is = fresh_is [] xs n e ∙ ap (alone n) (sym (map-group_seats xs));
}

-- ---- the loop that finds a group

module _ (ss : List Seat) (n : Name) (start at : ℕ) (s : Seat) (is : slice_get ss at ≡ Some s) where
  rest_is : drop at ss ≡ s ∷ drop (suc at) ss
  rest_is = from_here ss at s is
    where
      from_here : (ss : List Seat) (at : ℕ) (s : Seat) → slice_get ss at ≡ Some s → drop at ss ≡ s ∷ drop (suc at) ss
      from_here [] at s e = absurd (none-some s e)
      from_here (x ∷ xs) zero s e = let same : x ≡ s = cc in ap (λ y. y ∷ xs) same
      from_here (x ∷ xs) (suc at) s e = from_here xs at s e

  pub span_found : s.ends ≡ true → bytes_eq s.node.name n ≡ true → span_from start at n (drop at ss) ≡ Some (start, at + 1)
  span_found e named = ap (span_from start at n) rest_is ∙ rw (e, named, add-one) refl

  pub span_next : s.ends ≡ true → bytes_eq s.node.name n ≡ false → span_from start at n (drop at ss) ≡ span_from (at + 1) (at + 1) n (drop (at + 1) ss)
  span_next e named = ap (span_from start at n) rest_is ∙ rw (e, named, add-one) refl

  pub span_inner : s.ends ≡ false → span_from start at n (drop at ss) ≡ span_from start (at + 1) n (drop (at + 1) ss)
  span_inner e = ap (span_from start at n) rest_is ∙ rw (e, add-one) refl

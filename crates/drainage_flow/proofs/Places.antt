-- The places of the eight neighbours of a cell.
use Rattle.std.proofs.Common.{◌≡◌, ℕ, ◌+◌, ◌*◌, ◌/◌, ◌%◌, ◌<◌, Bool, true, false, cond, Some, None, refl, sym, ◌∙◌, ap, arith, ℤ, pos, negsuc}
use Rattle.std.specs.Prelude.{◌&&◌, nat_lt}
use Rattle.std.proofs.lemmas.Bool.Decides.{nat_tests}
use Rattle.std.proofs.lemmas.Nat.{mul-add-lt, div-mul-add, mod-mul-add}
use Rattle.map_nums.specs.Grids.{Size, cells_in, place_at}
use Rattle.drainage_flow.specs.Steepest.{line_at}

pub line_some : (z : ℤ) (end r : ℕ) → z ≡ pos r → r < end → Some r ≡ line_at z end
line_some z end r e h = let t : nat_lt r end ≡ true = lt_yes r end h in sym (ap (λ x. line_at x end) e ∙ ap (λ b. cond b (Some r) None) t)
  where
    lt_yes : (a b : ℕ) → a < b → nat_lt a b ≡ true
    lt_yes a b h = grind (arith, nat_tests)

pub line_within : (z : ℤ) (end r : ℕ) → line_at z end ≡ Some r → r < end
line_within (pos n) end r e = within (nat_lt n end) refl e
  where
    within : (b : Bool) → nat_lt n end ≡ b → cond b (Some n) None ≡ Some r → r < end
    within true t e = let q : n ≡ r = cc in omega (arith, lt_from n end t)
      where
        lt_from : (a b : ℕ) → nat_lt a b ≡ true → a < b
        lt_from a b h = grind (arith, nat_tests)
    within false t e = absurd (cc)
line_within (negsuc n) end r e = absurd (cc)

pub place_some : (s : Size) (r c : ℤ) (row column : ℕ) → line_at r s.rows ≡ Some row → line_at c s.columns ≡ Some column → place_at s r c ≡ Some (row * s.columns + column)
place_some s (pos r) (pos c) row column e f = some (nat_lt r s.rows) (nat_lt c s.columns) e f
  where
    some : (a b : Bool) → cond a (Some r) None ≡ Some row → cond b (Some c) None ≡ Some column → cond (a && b) (Some (r * s.columns + c)) None ≡ Some (row * s.columns + column)
    some true true e f = let p : r ≡ row = cc in let q : c ≡ column = cc in rw (p, q) refl
    some true false e f = absurd (cc)
    some false b e f = absurd (cc)
place_some s (pos r) (negsuc c) row column e f = absurd (cc)
place_some s (negsuc r) c row column e f = absurd (cc)

pub moved_within : (s : Size) (rows columns row column : ℕ) (r c : ℤ) → rows ≡ s.rows → columns ≡ s.columns → Some row ≡ line_at r rows → Some column ≡ line_at c columns → row * columns + column < cells_in s
moved_within s rows columns row column r c e f h i =
    let q = mul-add-lt row columns column rows (line_within r rows row (sym h)) (line_within c columns column (sym i)) in
    let k : rows * columns ≡ s.rows * s.columns = rw (e, f) refl in
    omega (arith, q, k)

-- what a place was made of
pub place_lines : (s : Size) (r c : ℤ) (y : ℕ) → 0 < s.columns → place_at s r c ≡ Some y → (r ≡ pos (y / s.columns)) × (c ≡ pos (y % s.columns)) × (y < cells_in s)
place_lines s (pos r) (pos c) y some e = lines (nat_lt r s.rows) (nat_lt c s.columns) refl refl e
  where
    lt_from : (a b : ℕ) → nat_lt a b ≡ true → a < b
    lt_from a b h = grind (arith, nat_tests)

    lines : (a b : Bool) → nat_lt r s.rows ≡ a → nat_lt c s.columns ≡ b → cond (a && b) (Some (r * s.columns + c)) None ≡ Some y → (pos r ≡ pos (y / s.columns)) × (pos c ≡ pos (y % s.columns)) × (y < cells_in s)
    lines true true p q e =
        let f : r * s.columns + c ≡ y = cc in
        let u : (r * s.columns + c) / s.columns ≡ r = div-mul-add r s.columns c (lt_from c s.columns q) in
        let v : (r * s.columns + c) % s.columns ≡ c = mod-mul-add r s.columns c (lt_from c s.columns q) in
        let w = mul-add-lt r s.columns c s.rows (lt_from r s.rows p) (lt_from c s.columns q) in
        (ap pos (sym u ∙ ap (λ z. z / s.columns) f), ap pos (sym v ∙ ap (λ z. z % s.columns) f), omega (arith, w, f))
    lines true false p q e = absurd (cc)
    lines false b p q e = absurd (cc)
place_lines s (pos r) (negsuc c) y some e = absurd (cc)
place_lines s (negsuc r) c y some e = absurd (cc)

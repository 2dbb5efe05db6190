-- How many tiles are looked at.
use Rattle.std.proofs.Common.{◌≡◌, ℕ, zero, suc, ◌+◌, ◌-◌, ◌*◌, ◌/◌, ◌<◌, ◌≤◌, min, Bool, true, false, nat_lt, cond, List, [], ◌∷◌, length, get_or, refl, ◌∙◌, ap, arith}
use Rattle.std.specs.List.{count_by, Contains}
use Rattle.std.proofs.lemmas.Bool.Decides.{nat_tests}
use Rattle.std.proofs.lemmas.List.Sums.{sum_by-cons}
use Rattle.map_nums.specs.Grids.{Size, IsSize}
use Rattle.layer_tiles.specs.Tiles.{tiles_in, tiles_down, tiles_across, tile_top, tile_left, tile_height, tile_width}
use Rattle.layer_tiles.specs.Tallies.{TallyState, RisesBy, looked}
use Rattle.layer_tiles.specs.Windows.{span_of, tiles_lent}
use Rattle.layer_tiles.proofs.Places.{placed, row_below}
use Rattle.layer_tiles.proofs.Rising.{rises_looked, rises_within}
use Rattle.sight_lines.specs.Searches.{looks_below}

single : (top height down : ℕ) → 0 < height → height ≤ 32 → top / 32 < down → top ≡ 32 * (top / 32) → min (down - 1) ((top + height - 1 + 0) / 32) + 1 - (top - 0) / 32 ≡ 1
single top height down h m l e = omega arith

-- a tile alone takes one look
one_look : (s : Size) (t : ℕ) → IsSize s → t < tiles_in s → tiles_lent (span_of s t 0) ≡ 1
unfolding span_of
one_look s t h l =
    let p = placed s t h l in
    let r = row_below s t h l in
    let rows = single (tile_top s t) (tile_height s t) (tiles_down s) p.some_row p.most_rows r.0 r.2 in
    let columns = single (tile_left s t) (tile_width s t) (tiles_across s) p.some_column p.most_columns r.1 r.3 in
    rw (rows, columns) refl

weigh : (b c : Bool) → (b ≡ true → c ≡ true) → cond b 1 0 ≤ cond c 1 0
weigh true c h = let t = h refl in rw (t) (omega arith)
weigh false c h = omega arith

later : (x m n : ℕ) → m ≤ n → nat_lt x m ≡ true → nat_lt x n ≡ true
later x m n h t = grind (arith, nat_tests)

count_more : (x : ℕ) (xs : List ℕ) (m : ℕ) → count_by (λ u. nat_lt u m) (x ∷ xs) ≡ cond (nat_lt x m) 1 0 + count_by (λ u. nat_lt u m) xs
count_more x xs m = sum_by-cons (λ (u : ℕ). cond (nat_lt u m) 1 0) x xs

more_below : (xs : List ℕ) (m n : ℕ) → m ≤ n → count_by (λ u. nat_lt u m) xs ≤ count_by (λ u. nat_lt u n) xs
more_below [] m n h = omega arith
more_below (x ∷ xs) m n h = omega (arith, count_more x xs m, count_more x xs n, weigh (nat_lt x m) (nat_lt x n) (later x m n h), more_below xs m n h)

not_itself : (x t : ℕ) → x ≡ t → nat_lt x t ≡ false
not_itself x t e = grind (arith, nat_tests)

next_after : (x t : ℕ) → x ≡ t → nat_lt x (t + 1) ≡ true
next_after x t e = grind (arith, nat_tests)

one_more_below : (xs : List ℕ) (t k : ℕ) → k < length xs → get_or xs k t ≡ t → count_by (λ u. nat_lt u t) xs + 1 ≤ count_by (λ u. nat_lt u (t + 1)) xs
one_more_below [] t k l e = absurd (omega (arith, l))
one_more_below (x ∷ xs) t zero l e =
    let a : ◌≡◌ {A = ℕ} (cond (nat_lt x t) 1 0) 0 = ap (λ b. cond b 1 0) (not_itself x t e) in
    let b : ◌≡◌ {A = ℕ} (cond (nat_lt x (t + 1)) 1 0) 1 = ap (λ b. cond b 1 0) (next_after x t e) in
    omega (arith, count_more x xs t, count_more x xs (t + 1), a, b, more_below xs t (t + 1) (omega arith))
one_more_below (x ∷ xs) t (suc k) l e = omega (arith, count_more x xs t, count_more x xs (t + 1), weigh (nat_lt x t) (nat_lt x (t + 1)) (later x t (t + 1) (omega arith)), one_more_below xs t k (omega arith) e)

pub looks_rise : (all : Bool) (touched : List ℕ) (m n : ℕ) → m ≤ n → looks_below all touched m ≤ looks_below all touched n
looks_rise true touched m n h = h
looks_rise false touched m n h = more_below touched m n h

pub looks_within : (all : Bool) (touched : List ℕ) (m n : ℕ) (a b : TallyState) → m ≤ n → RisesBy (looks_below all touched m) 0 a b → RisesBy (looks_below all touched n) 0 a b
looks_within all touched m n a b h r = rises_within (looks_below all touched m) 0 (looks_below all touched n) 0 a b (looks_rise all touched m n h) (omega arith) r

looks_one : (all : Bool) (s : Size) (touched : List ℕ) (t : ℕ) (first a b : TallyState) → IsSize s → t < tiles_in s → looks_below all touched t + 1 ≤ looks_below all touched (t + 1) → b ≡ looked (tiles_lent (span_of s t 0)) a → RisesBy (looks_below all touched t) 0 first a → RisesBy (looks_below all touched (t + 1)) 0 first b
looks_one all s touched t first a b h l m e r =
    rises_within (looks_below all touched t + 1) 0 (looks_below all touched (t + 1)) 0 first b m (omega arith)
    (rises_looked (looks_below all touched t) 0 1 first a b r (e ∙ ap (λ n. looked n a) (one_look s t h l)))

-- one of all tiles
pub looks_all : (all : Bool) (s : Size) (touched : List ℕ) (t : ℕ) (first a b : TallyState) → IsSize s → t < tiles_in s → all ≡ true → b ≡ looked (tiles_lent (span_of s t 0)) a → RisesBy (looks_below all touched t) 0 first a → RisesBy (looks_below all touched (t + 1)) 0 first b
looks_all true s touched t first a b h l is e r = looks_one true s touched t first a b h l (omega arith) e r
looks_all false s touched t first a b h l is e r = cc

-- a touched one
pub looks_touched : (all : Bool) (s : Size) (touched : List ℕ) (t : ℕ) (first a b : TallyState) → IsSize s → t < tiles_in s → all ≡ false → Contains touched t → b ≡ looked (tiles_lent (span_of s t 0)) a → RisesBy (looks_below all touched t) 0 first a → RisesBy (looks_below all touched (t + 1)) 0 first b
looks_touched true s touched t first a b h l is held e r = cc
looks_touched false s touched t first a b h l is held e r = looks_one false s touched t first a b h l (one_more_below touched t held.0 held.1 held.2) e r

-- A piece of the bytes that are left, as a take moves it.
use Rattle.std.proofs.Common.{◌≡◌, ◌≤◌, ◌<◌, ◌+◌, ◌-◌, ℕ, min, List, [], ◌++◌, length, take, drop, sym, ap, ◌∙◌, arith}
use Rattle.std.proofs.lemmas.List.{length-drop, length-take-le, take_at, take-append-drop, drop-drop, drop_all}

-- the first count bytes from at on were put in front of rest
pub piece_moved : (all left piece rest : List ℕ) (at count : ℕ) → drop at all ≡ left → piece ≡ take (at + count - at) (drop at all) → at + count ≤ length all
    → left ≡ take count (piece ++ rest) ++ drop (at + count) all
piece_moved all left piece rest at count left_is moved within =
    let same : at + count - at ≡ count = omega arith in
    let piece_is : piece ≡ take count (drop at all) = moved ∙ ap (λ n. take n (drop at all)) same in
    let size : length piece ≡ count = ap length piece_is ∙ length-take-le count (drop at all) (omega (arith, length-drop at all)) in
    rw (take_at piece rest count size, piece_is) (sym left_is ∙ sym (take-append-drop count (drop at all)) ∙ ap (λ l. take count (drop at all) ++ l) (drop-drop count at all))

-- nothing was moved into a slice with room only where nothing was left
pub piece_empty : (all : List ℕ) (at count step room most size : ℕ) → count ≡ min most (size - at) → most ≡ min room step → size ≡ length all → 0 < step → count ≡ 0 → 0 < room
    → drop (at + count) all ≡ []
piece_empty all at count step room most size count_is most_is size_is some none wide = drop_all (at + count) all (omega arith)

-- Where the sample's lines stand.
use Rattle.std.proofs.Common.{◌≡◌, ◌<◌, ◌≤◌, ◌-◌, ◌+◌, ℕ, [], ◌∷◌, ◌++◌, get_or, map, length, codes, refl, ◌∙◌, arith}
use Rattle.std.specs.List.{range_with_len}
use Rattle.std.proofs.lemmas.List.{get_or_append_left, get_or-append_right}
use Rattle.std.proofs.lemmas.List.FromFn.{length-map-range_with_len, get_or-map-range_with_len}
use Rattle.map_machine.specs.SampleLines.{sample_paint, sample_statements, sample_lines}

pub paint_at : (n k : ℕ) → 6 ≤ k → k < 56 → get_or (sample_lines n) k [] ≡ sample_paint n (k - 5)
paint_at n k from to =
    let paints = map (sample_paint n) (range_with_len 1 50) in
    let last = codes "legend M" ∷ codes "quit" ∷ [] in
    let i = k - 6 in
    let few : i < 50 = omega (arith, from, to) in
    let there : 1 + i ≡ k - 5 = omega (arith, from) in
    let count = length-map-range_with_len (sample_paint n) 1 50 in
    let within : i < length paints = omega (arith, few, count) in
    get_or-append_right sample_statements (paints ++ last) 6 k [] refl from ∙ get_or_append_left paints last [] i within ∙ get_or-map-range_with_len (sample_paint n) 1 50 i (k - 5) [] few there

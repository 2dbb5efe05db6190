-- How often numbers occur in a list, and which of two leads by it.
use Rattle.std.specs.Prelude.{ℕ, Bool, ◌&&◌, ◌||◌, List, ℤ, int_le, nat_lt, ◌==◌}
use Rattle.std.specs.List.{count_by}
use Rattle.std.specs.Ordering.{int_eq}

-- how often x occurs
unfoldable pub occurrences : ℤ → List ℤ → ℕ
occurrences x xs = count_by (λ y. int_eq y x) xs

-- x occurs more often than y, or as often and is not above it
abbrev pub leads : List ℤ → ℤ → ℤ → Bool
leads xs x y = nat_lt (occurrences y xs) (occurrences x xs) || ((occurrences y xs == occurrences x xs) && int_le x y)

-- x occurs less often than y, or as often and is not above it
abbrev pub trails : List ℤ → ℤ → ℤ → Bool
trails xs x y = nat_lt (occurrences x xs) (occurrences y xs) || ((occurrences y xs == occurrences x xs) && int_le x y)

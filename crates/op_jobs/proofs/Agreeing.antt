-- Tests and functions that agree at each element of a list.
use Rattle.std.proofs.Common.{◌≡◌, List, [], ◌∷◌, map, refl}
use Rattle.std.specs.Prelude.{flat_map}
use Rattle.std.specs.List.{All}
use Rattle.std.proofs.lemmas.List.Elements.{All-nil, All-append, All-head, All-tail}

pub map_agree : {X Y : Type 0} (f g : X → Y) (xs : List X) → All (λ x. f x ≡ g x) xs → map f xs ≡ map g xs
map_agree f g [] a = refl
map_agree f g (x ∷ xs) a =
    let here : f x ≡ g x = All-head (λ x. f x ≡ g x) x xs a in
    let rest = map_agree f g xs (All-tail (λ x. f x ≡ g x) x xs a) in
    rw (here, rest) refl

pub All-flat_map : {X Y : Type 0} (P : Y → Type 0) (f : X → List Y) (xs : List X) → All (λ x. All P (f x)) xs → All P (flat_map f xs)
All-flat_map P f [] a = All-nil P
All-flat_map P f (x ∷ xs) a = All-append P (f x) (flat_map f xs) (All-head (λ x. All P (f x)) x xs a) (All-flat_map P f xs (All-tail (λ x. All P (f x)) x xs a))

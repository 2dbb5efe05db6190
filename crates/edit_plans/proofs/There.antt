-- Options that are there, and lists of them.
use Rattle.std.proofs.Common.{◌≡◌, ◌&&◌, List, ◌∷◌, Option, Some, None, is_some, option_map, refl, sym}
use Rattle.std.proofs.lemmas.Option.{none-some, same_Some}
use Rattle.map_nums.specs.Options.{all_some}

pub some_map : {X Y : Type 0} (f : X → Y) (o : Option X) → is_some (option_map f o) ≡ is_some o
some_map f None = refl
some_map f (Some x) = refl

-- all are there exactly where the first is and the others are
pub all_cons : {X : Type 0} (o : Option X) (os : List (Option X)) → is_some (all_some (o ∷ os)) ≡ (is_some o && is_some (all_some os))
all_cons None os = refl
all_cons (Some x) os = some_map (λ xs. x ∷ xs) (all_some os)

pub none_where : {X : Type 0} (o : Option X) → ((x : X) → o ≡ Some x → ⊥) → o ≡ None
none_where None never = refl
none_where (Some x) never = absurd (never x refl)

-- none is made of none alone
pub map_none : {X Y : Type 0} (f : X → Y) (o : Option X) → option_map f o ≡ None → o ≡ None
map_none f None e = refl
map_none f (Some x) e = absurd (none-some (f x) (sym e))

-- where all of a list are there, so are the first and the others
pub all_parts : {X : Type 0} (o : Option X) (os : List (Option X)) (xs : List X) → all_some (o ∷ os) ≡ Some xs → (x : X) × (rest : List X) × (o ≡ Some x) × (all_some os ≡ Some rest) × (x ∷ rest ≡ xs)
all_parts None os xs e = absurd (none-some xs e)
all_parts {X} (Some x) os xs e = go (all_some os) refl e
  where
    go : (q : Option (List X)) → all_some os ≡ q → option_map (λ rest. x ∷ rest) q ≡ Some xs → (y : X) × (rest : List X) × (Some x ≡ Some y) × (all_some os ≡ Some rest) × (y ∷ rest ≡ xs)
    go None is f = absurd (none-some xs f)
    go (Some rest) is f = (x, rest, refl, is, same_Some (x ∷ rest) xs f)

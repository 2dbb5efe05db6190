-- Growth of what is told, put together.
use Rattle.std.proofs.Common.{ℕ, List, [], ◌++◌, None, Some, Option, sym, ap, ◌∙◌, append_assoc, append-nil}
use Rattle.map_outside.specs.Contents.{Grows}

-- nothing was put
pub grows_nil : (held : Option (List ℕ)) → Grows held held []
grows_nil None = tt
grows_nil (Some bytes) = sym (append-nil bytes)

-- one put after another
pub grows_then : (a b c : Option (List ℕ)) (first second : List ℕ) → Grows a b first → Grows b c second → Grows a c (first ++ second)
grows_then None None None first second p q = tt
grows_then None None (Some z) first second p q = absurd q
grows_then None (Some y) c first second p q = absurd p
grows_then (Some x) None None first second p q = tt
grows_then (Some x) None (Some z) first second p q = absurd q
grows_then (Some x) (Some y) None first second p q = tt
grows_then (Some x) (Some y) (Some z) first second p q = q ∙ ap (λ l. l ++ second) p ∙ append_assoc x first second

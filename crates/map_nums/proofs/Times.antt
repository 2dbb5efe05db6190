-- Laws of products of whole numbers that std lacks.
use Rattle.std.proofs.Common.{◌≡◌, ℕ, ◌*◌, ℤ, ◌*ℤ◌, ap, arith}
use borrow.Author.Differences.{up, down, product_is, same_in}

-- the factors of a number change places
pub times_swap : (a b c : ℤ) → (a *ℤ b) *ℤ c ≡ (a *ℤ c) *ℤ b
times_swap a b c =
    let ab = product_is a b in
    let ac = product_is a c in
    let left = product_is (a *ℤ b) c in
    let right = product_is (a *ℤ c) b in
    let by = λ (k : ℕ) (m n : ℕ) (e : m ≡ n). ap (λ x. x * k) e in
    same_in _ _ (omega (arith, left, right, by (up c) _ _ ab.0, by (down c) _ _ ab.1, by (down c) _ _ ab.0, by (up c) _ _ ab.1, by (up b) _ _ ac.0, by (down b) _ _ ac.1, by (down b) _ _ ac.0, by (up b) _ _ ac.1))

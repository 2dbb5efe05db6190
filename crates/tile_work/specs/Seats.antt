-- Lists of which most places hold nothing: what is held stands one after another, and each place has a seat among it. The first seat is that of nothing.
use Rattle.std.specs.Prelude.{◌≡◌, ℕ, ◌<◌, List, length, map, slice_index_or}

abbrev pub seat_at : List ℕ → ℕ → ℕ
seat_at seats t = slice_index_or seats t 0

-- what each place holds
abbrev pub seated : {X : Type 0} → X → List X → List ℕ → List X
seated {X} none held seats = map (λ seat. slice_index_or held seat none) seats

-- no two places have one seat, but for that of nothing
pub record AreSeats {X : Type 0} (none : X) (held : List X) (seats : List ℕ) : Type 0 where
  pub some : 0 < length held
  pub first : slice_index_or held 0 none ≡ none
  pub within : (t : ℕ) → t < length seats → seat_at seats t < length held
  pub own : (t u : ℕ) → t < length seats → u < length seats → 0 < seat_at seats t → seat_at seats t ≡ seat_at seats u → t ≡ u

-- What a set of places shows: a mark for each place.
use Rattle.std.specs.Prelude.{◌≡◌, ◌≢◌, ◌⊎◌, ◌==◌, ℕ, ◌%◌, ◌<◌, Bool, true, List, [], Vec, length, map, slice_index, slice_index_or, slice_set}
use Rattle.std.specs.declared.alloc.Global.{Global}
use Rattle.std.specs.Int.{bit_at}
use Rattle.map_nums.specs.Grids.{Size, IsSize, places, row_of, column_of}
use Rattle.layer_tiles.specs.Tiles.{tiles_in, tile_of}
use Rattle.tile_work.specs.Seats.{AreSeats, seat_at, seated}

pub record PlaceSetState : Type 0 where
  pub size : Size
  pub marks : List Bool

-- no words, or one for each row of a tile
abbrev pub AreWords : List ℕ → Type 0
AreWords words = (length words ≡ 0) ⊎ (length words ≡ 32)

abbrev pub lists_of : List (Vec ℕ Global) → List (List ℕ)
lists_of words = map (λ v. v.items) words

-- the words of each tile, of which those that have none share one seat
abbrev pub seated_words : List (Vec ℕ Global) → List ℕ → List (List ℕ)
seated_words words seats = seated [] (lists_of words) seats

abbrev pub AreWordSeats : List (Vec ℕ Global) → List ℕ → Type 0
AreWordSeats words seats = AreSeats [] (lists_of words) seats

-- the words of tile t
abbrev pub words_at : List (List ℕ) → ℕ → List ℕ
words_at slots t = slice_index_or slots t []

-- the mark of a row and a column of a tile
abbrev pub mark_in : List ℕ → ℕ → ℕ → Bool
mark_in words row column = bit_at (slice_index words row) column == 1

-- the mark of a place
abbrev pub mark_at : Size → List (List ℕ) → ℕ → Bool
mark_at s slots at = mark_in (words_at slots (tile_of s at)) (row_of s at % 32) (column_of s at % 32)

unfoldable pub marks_of : Size → List (List ℕ) → List Bool
marks_of s slots = map (mark_at s slots) (places s)

-- a slot for each tile
pub record IsPlaceSet (s : Size) (slots : List (List ℕ)) : Type 0 where
  pub size : IsSize s
  pub count : length slots ≡ tiles_in s
  pub words : (t : ℕ) → AreWords (words_at slots t)

-- the words with one more mark
pub record IsMarked (old : List ℕ) (row column : ℕ) (new : List ℕ) : Type 0 where
  pub words : AreWords new
  pub here : mark_in new row column ≡ true
  pub other : (r c : ℕ) → r < 32 → c < 32 → (r ≡ row → c ≢ column) → mark_in new r c ≡ mark_in old r c

-- tile t has a seat of its own, where there is a word for each row, with the marks that it had
pub record IsBegun (words : List (Vec ℕ Global)) (seats : List ℕ) (t : ℕ) (words' : List (Vec ℕ Global)) (seats' : List ℕ) : Type 0 where
  pub own : 0 < seat_at seats' t
  pub are_seats : AreWordSeats words' seats'
  pub count : length seats' ≡ length seats
  pub now : List ℕ
  pub long : length now ≡ 32
  pub same : (r : ℕ) → slice_index_or now r 0 ≡ slice_index_or (words_at (seated_words words seats) t) r 0
  pub is : seated_words words' seats' ≡ slice_set (seated_words words seats) t now

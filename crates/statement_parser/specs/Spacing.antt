-- Words with spaces.
use Rattle.std.specs.Prelude.{List, [], ◌∷◌, ◌++◌}
use Rattle.map_words.specs.Bytes.{Text}

-- the words, with one space before each
abbrev pub spaced : List Text → Text
spaced [] = []
spaced (t ∷ ts) = 32 ∷ (t ++ spaced ts)

-- the words, with one space between
abbrev pub joined : List Text → Text
joined [] = []
joined (t ∷ ts) = t ++ spaced ts

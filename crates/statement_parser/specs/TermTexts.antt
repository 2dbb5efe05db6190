-- The texts of terms.
use Rattle.std.specs.Prelude.{List, [], ◌∷◌, ◌++◌}
use Rattle.std.specs.Fmt.{signed_decimal}
use Rattle.map_words.specs.Bytes.{Text}
use Rattle.map_defs.specs.Ops.{Term, layer_term, number_term}

abbrev pub term_text : Term → Text
term_text (layer_term n) = n
term_text (number_term z) = signed_decimal z

-- the terms with a word before each
abbrev pub terms_after : Text → List Term → List Text
terms_after word [] = []
terms_after word (t ∷ ts) = word ∷ term_text t ∷ terms_after word ts

-- the terms with a word between
abbrev pub terms_texts : Text → List Term → List Text
terms_texts word [] = []
terms_texts word (t ∷ ts) = term_text t ∷ terms_after word ts

-- the terms with a comma and a space before each
abbrev pub listed_after : List Term → Text
listed_after [] = []
listed_after (t ∷ ts) = 44 ∷ 32 ∷ (term_text t ++ listed_after ts)

-- the terms with a comma and a space between
abbrev pub listed : List Term → Text
listed [] = []
listed (t ∷ ts) = term_text t ++ listed_after ts

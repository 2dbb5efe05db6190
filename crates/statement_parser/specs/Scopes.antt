-- Which names a term may have.
use Rattle.std.specs.Prelude.{Bool, true, List, [], ◌∷◌, ◌++◌, bytes_eq}
use Rattle.std.specs.List.{list_any}
use Rattle.map_words.specs.Bytes.{Text}
use Rattle.map_defs.specs.Statements.{Inner}

-- of the plain names
abbrev pub Scope : Type 0
Scope = Text → Bool

abbrev pub anywhere : Scope
anywhere t = true

-- the name is one of these
abbrev pub has_name : List Text → Text → Bool
has_name ns t = list_any (λ n. bytes_eq n t) ns

-- the parameters of a procedure and the names of these statements of its body
abbrev pub names_before : List Text → List Inner → List Text
names_before ps [] = ps
names_before ps (i ∷ is) = names_before (ps ++ i.name ∷ []) is

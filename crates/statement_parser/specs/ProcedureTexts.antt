-- The one canonical text of a procedure.
use Rattle.std.specs.Prelude.{List, [], ◌∷◌, ◌++◌, codes}
use Rattle.map_words.specs.Bytes.{Text}
use Rattle.map_defs.specs.Statements.{Inner, Procedure}
use Rattle.statement_parser.specs.Canonical.{written_text}

-- the names with a comma and a space before each
abbrev pub names_after : List Text → Text
names_after [] = []
names_after (n ∷ ns) = 44 ∷ 32 ∷ (n ++ names_after ns)

-- the names with a comma and a space between
abbrev pub names_text : List Text → Text
names_text [] = []
names_text (n ∷ ns) = n ++ names_after ns

-- the statements with a semicolon and a space before each
abbrev pub statements_after : List Inner → Text
statements_after [] = []
statements_after (i ∷ is) = 59 ∷ 32 ∷ (written_text i.name i.written ++ statements_after is)

-- the statements with a semicolon and a space between
abbrev pub statements_text : List Inner → Text
statements_text [] = []
statements_text (i ∷ is) = written_text i.name i.written ++ statements_after is

-- the word procedure, the name, the parameters between ( and ), a colon, and the statements
abbrev pub procedure_text : Procedure → Text
procedure_text p = codes "procedure " ++ (p.name ++ 40 ∷ (names_text p.takes ++ 41 ∷ 58 ∷ 32 ∷ statements_text p.body))

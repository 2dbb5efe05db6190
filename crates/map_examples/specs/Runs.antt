-- Runs over files in memory, and how the rows write grids and replies.
use Rattle.std.specs.Prelude.{◌≡◌, ℕ, List, [], ◌∷◌, ◌++◌, map, length, Some, None, codes, decimal, bytes_eq, if◌then◌else◌}
use Rattle.map_machine.specs.Limits.{longest_file, too_many_bytes}
use Rattle.map_machine.specs.Pairs.{Pair}
use Rattle.map_machine.specs.Words.{Form, of_files}
use Rattle.map_machine.specs.LoadTexts.{Files}
use Rattle.map_machine.specs.Openings.{Opening}
use Rattle.map_machine.specs.Play.{form_text, form_opening}
use Rattle.map_machine.specs.RunReads.{form_reads}

-- what is loaded: the layer's name, the file's, and its bytes
pub record Given : Type 0 where
  pub name : List ℕ
  pub file : List ℕ
  pub bytes : List ℕ

pub record Run : Type 0 where
  pub form : Form
  pub files : Files
  pub session : List ℕ

abbrev pub pair : Given → Pair
pair g = record { name = g.name; file = g.file }

-- a shelf that holds these files
abbrev pub held : List Given → Files
held [] file = None
held (g ∷ gs) file = if bytes_eq g.file file then Some g.bytes else held gs file

-- without a model file
abbrev pub loading : List Given → List ℕ → Run
loading gs session = record { form = of_files None (map pair gs); files = held gs; session = session }

-- with the model file m, of these bytes
abbrev pub with_model : List ℕ → List Given → List ℕ → Run
with_model bytes gs session = record { form = of_files (Some (codes "m")) (map pair gs); files = held (record { name = []; file = codes "m"; bytes = bytes } ∷ gs); session = session }

-- what is written, how the loads and the model file come out, and the looks and picks that are allowed
abbrev pub Comes : Run → List ℕ → Opening → ℕ → ℕ → Type 0
Comes r text opening looks picks =
    (form_text longest_file too_many_bytes (Some r.form) r.files r.session ≡ text)
    × (form_opening longest_file (Some r.form) r.files ≡ opening)
    × (form_reads longest_file too_many_bytes (Some r.form) r.files r.session (length text) ≡ record { looks = looks; picks = picks })

-- ---- layers with their files

abbrev pub A : List ℕ → Given
A bytes = record { name = codes "A"; file = codes "a"; bytes = bytes }

abbrev pub B : List ℕ → Given
B bytes = record { name = codes "B"; file = codes "b"; bytes = bytes }

abbrev pub F : List ℕ → Given
F bytes = record { name = codes "F"; file = codes "f"; bytes = bytes }

abbrev pub S : List ℕ → Given
S bytes = record { name = codes "S"; file = codes "s"; bytes = bytes }

abbrev pub V : List ℕ → Given
V bytes = record { name = codes "V"; file = codes "v"; bytes = bytes }

abbrev pub Z : List ℕ → Given
Z bytes = record { name = codes "Z"; file = codes "z"; bytes = bytes }

-- ---- texts

-- the text of a grid with these cells, rows and columns given
abbrev pub map_of : ℕ → ℕ → List ℕ → List ℕ
map_of rows columns cells = codes "ncols " ++ decimal columns ++ codes "\nnrows " ++ decimal rows ++ codes "\nxllcorner 0\nyllcorner 0\ncellsize 1\n" ++ cells

-- as it is printed
abbrev pub grid_of : ℕ → ℕ → List ℕ → List ℕ
grid_of rows columns cells = map_of rows columns (codes "NODATA_value -1000000000000001\n" ++ cells)

-- the reply to an accepted edit: its number, tiles that changed, tiles that were evaluated, work
abbrev pub ok : ℕ → ℕ → ℕ → ℕ → List ℕ
ok number changed evaluated worked = codes "ok " ++ decimal number ++ codes " changed " ++ decimal changed ++ codes " evaluated " ++ decimal evaluated ++ codes " worked " ++ decimal worked ++ codes "\n"

-- a load, a sum, and its grid
abbrev pub summed : Run
summed = loading (A (map_of 3 3 (codes "1 2 3\n4 5 6\n7 8 9\n")) ∷ []) (codes "B = LocalSum of A and 3\ngrid B\n")

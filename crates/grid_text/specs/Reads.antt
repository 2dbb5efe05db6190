-- What reading a text answers.
use Rattle.std.specs.Prelude.{◌≡◌, ℕ, List, replicate, Result, Ok, Err}
use Rattle.layer_tiles.specs.Tiles.{tiles_in}
use Rattle.grid_text.specs.Heads as texts
use Rattle.grid_text.specs.Contents.{grid_in}
use Rattle.grid_text.specs.Faults.{Fault, key, number, limits, few, more, cell, range}
use Rattle.grid_text.specs.Headed.{Headed}
use Rattle.grid_text.specs.declared.Grid.{Grid}
use Rattle.grid_text.specs.declared.GridRefusal.{GridRefusal}
use Rattle.grid_text.specs.declared.headers.Head.{Head}
use Rattle.grid_text.specs.declared.GridRefusal.TheVariants.{Key, Number, Size, Few, More, Cell, Range, NoMemory}

-- a refusal is the fault that reading finds; want of memory may come at any time
abbrev pub Refuses : {A : Type 0} → GridRefusal → Result A Fault → Type 0
Refuses (Key at) read = read ≡ Err (key at)
Refuses (Number at) read = read ≡ Err (number at)
Refuses (Size rows columns) read = read ≡ Err (limits rows columns)
Refuses (Few have need) read = read ≡ Err (few have need)
Refuses (More at) read = read ≡ Err (more at)
Refuses (Cell index) read = read ≡ Err (cell index)
Refuses (Range index) read = read ≡ Err (range index)
Refuses NoMemory read = Unit {0}

-- the answer is what reading finds
abbrev pub Gives : {A B : Type 0} → (A → B) → Result A GridRefusal → Result B Fault → Type 0
Gives view (Ok a) read = read ≡ Ok (view a)
Gives view (Err refusal) read = Refuses refusal read

abbrev pub head_of : Head → texts.Head
head_of h = record { header = h.header; size = record { rows = h.rows; columns = h.columns }; null = h.null }

-- what a grid holds
abbrev pub held : Grid → Headed
held g = record { header = g.header; grid = record { size = g.layer.size; cells = g.layer.cells } }

-- the grid that the bytes hold, with one stamp for all tiles, or their first fault
abbrev pub Reads : List ℕ → ℕ → Result Grid GridRefusal → Type 0
Reads bytes stamp (Ok g) = (grid_in bytes ≡ Ok (held g)) × (g.layer.stamps ≡ replicate (tiles_in g.layer.size) stamp)
Reads bytes stamp (Err refusal) = Refuses refusal (grid_in bytes)

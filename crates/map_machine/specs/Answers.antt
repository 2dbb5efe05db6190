-- What a request is answered.
use Rattle.std.specs.Prelude.{ℕ, List, [], unwrap_or}
use Rattle.map_nums.specs.Grids.{Grid}
use Rattle.statement_parser.specs.Lines.{Request, ask_value, ask_grid, ask_show, ask_legend, ask_table, ask_stamps, ask_list, ask_branches}
use Rattle.grid_text.specs.Printed.{grid_text}
use Rattle.map_edits.specs.WholeStates.{stamps_of}
use Rattle.map_machine.specs.States.{MapState}
use Rattle.map_machine.specs.LayerAnswers.{of_layer, look, look_reply}
use Rattle.map_machine.specs.Branches.{branches_reply}
use Rattle.map_machine.specs.Displays.{show_reply, legend_reply, table_reply, stamps_reply}
use Rattle.map_machine.specs.Listing.{list_reply}

-- a table asks for its zones first
abbrev pub answer_to : MapState → Request → List ℕ
answer_to s (ask_value n r c) = look_reply n r c (look s.whole.names n r c)
answer_to s (ask_grid n) = of_layer s.whole.names n (λ (g : Grid). grid_text s.header g.size g.cells)
answer_to s (ask_show n) = of_layer s.whole.names n (λ grid. show_reply n grid s.whole.symbols)
answer_to s (ask_legend n) = of_layer s.whole.names n (λ (g : Grid). legend_reply n g.cells s.whole.labels s.whole.symbols)
answer_to s (ask_table n m) = of_layer s.whole.names n (λ (z : Grid). of_layer s.whole.names m (λ (v : Grid). table_reply n m z.cells v.cells))
answer_to s (ask_stamps n) = of_layer s.whole.names n (λ (g : Grid). stamps_reply n g.size (unwrap_or (stamps_of s.whole.stamps n) []))
answer_to s ask_list = list_reply s.whole
answer_to s (ask_branches bs) = branches_reply s.whole 1 bs

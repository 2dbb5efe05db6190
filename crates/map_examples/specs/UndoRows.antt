-- Edits that are taken back.
use Rattle.std.specs.Prelude.{◌≡◌, ℕ, [], ◌∷◌, ◌++◌, map, length, pos, Option, Some, None, codes}
use Rattle.std.specs.List.{range_with_len}
use Rattle.map_edits.specs.EditForms.{nothing as untouched}
use Rattle.map_edits.specs.Pasts.{Past, parts_of, with_past}
use Rattle.map_machine.specs.States.{MapState}
use Rattle.map_machine.specs.Loads.{Opened, ready, turned_away, next_load}
use Rattle.map_machine.specs.Text.{state_to}
use Rattle.map_machine.specs.Openings.{goes_on, turned_back}
use Rattle.map_examples.specs.Runs.{loading, with_model, A, map_of, ok, Comes}
use Rattle.map_examples.specs.ReadRows.{nothing}

-- how many edits can be taken back
abbrev pub kept_in : Opened → Option ℕ
kept_in (ready s reply) = Some (length s.pasts)
kept_in (turned_away reply) = None

-- a layer was made
abbrev pub with_layer : MapState
with_layer = state_to nothing (codes "new A 1")

-- of the state before a label was put
abbrev pub past_of : ℕ → Past
past_of k = record { parts = record { entries = []; procedures = []; labels = record { name = codes "A"; value = pos k; text = codes "x" } ∷ []; symbols = [] }; touch = untouched }

pub record UndoRows : Type 0 where
  pub paint_and_statement : Comes (loading (A (map_of 3 3 (codes "1 2 3\n4 5 6\n7 8 9\n")) ∷ []) (codes "B = LocalSum of A and 3\npaint A 1 1 1 1 5\nundo\nvalue B 1 1\nstamps A\nundo\nvalue B 1 1\nundo\n")) (ok 1 1 1 0 ++ ok 2 1 1 0 ++ ok 3 2 2 0 ++ ok 4 2 2 0 ++ codes "value B 1 1 4\nstamps A 1 1\n4\n" ++ ok 5 0 0 0 ++ codes "undefined B: B\nrefused nothing\n") goes_on 385 1
  -- the name has its own place again, and its label
  pub drop : Comes (loading (A (map_of 3 3 (codes "1 2 3\n4 5 6\n7 8 9\n")) ∷ []) (codes "B = LocalSum of A and 3\nlabel A 1 dry land\ndrop A\nundo\nlist\nlegend A\n")) (ok 1 1 1 0 ++ ok 2 1 1 0 ++ ok 3 0 0 0 ++ ok 4 0 0 0 ++ ok 5 2 2 0 ++ codes "list 2\nsource A\nB = LocalSum of A and 3\nlegend A 9\n1 1 1 dry land\n2 1 2\n3 1 3\n4 1 4\n5 1 5\n6 1 6\n7 1 7\n8 1 8\n9 1 9\n") goes_on 320 0
  pub paint_that_changed_nothing : Comes (loading (A (map_of 1 1 (codes "7\n")) ∷ []) (codes "paint A 1 1 1 1 7\nundo\n")) (ok 1 1 1 0 ++ ok 2 0 1 0 ++ ok 3 0 1 0) goes_on 192 0
  pub rewriting : Comes (loading (A (map_of 1 1 (codes "7\n")) ∷ []) (codes "B = LocalSum of A and 1\nB = LocalSum of A and 2\nundo\nvalue B 1 1\nstamps B\n")) (ok 1 1 1 0 ++ ok 2 1 1 0 ++ ok 3 1 1 0 ++ ok 4 1 1 0 ++ codes "value B 1 1 8\nstamps B 1 1\n4\n") goes_on 257 1
  pub procedure_and_symbol : Comes (loading (A (map_of 1 1 (codes "7\n")) ∷ []) (codes "symbol A 7 ~\nprocedure Inc(P): result = LocalSum of P and 1\nsymbol A 7 *\nundo\nshow A\nundo\nB = Inc(A)\n")) (ok 1 1 1 0 ++ ok 2 0 0 0 ++ ok 3 0 0 0 ++ ok 4 0 0 0 ++ ok 5 0 0 0 ++ codes "show A 1 1\n~\n" ++ ok 6 0 0 0 ++ codes "refused procedure Inc\n") goes_on 128 0
  -- an undo can't be taken back
  pub undo_once : Comes (loading (A (map_of 1 1 (codes "7\n")) ∷ []) (codes "label A 7 low\nundo\nlegend A\nundo\n")) (ok 1 1 1 0 ++ ok 2 0 0 0 ++ ok 3 0 0 0 ++ codes "legend A 1\n7 1 7\nrefused nothing\n") goes_on 128 0
  -- of 65 edits the oldest goes
  pub sixty_fourth : with_past nothing.whole untouched (map past_of (range_with_len 0 63)) ≡ record { parts = parts_of nothing.whole; touch = untouched } ∷ map past_of (range_with_len 0 63)
  pub sixty_fifth : with_past nothing.whole untouched (map past_of (range_with_len 0 64)) ≡ record { parts = parts_of nothing.whole; touch = untouched } ∷ map past_of (range_with_len 0 63)
  -- a refused edit isn't kept, and a refused undo lets the language be set
  pub place : Comes (loading (A (map_of 1 1 (codes "7\n")) ∷ []) (codes "undo\nmodel 2\nnew C 1\nnew C 1\nundo\nundo\nmodel 1\nundo 1\n")) (ok 1 1 1 0 ++ codes "refused nothing\n" ++ ok 2 1 1 0 ++ codes "refused exists C\n" ++ ok 3 0 0 0 ++ codes "refused nothing\nrefused syntax 1\nrefused syntax 6\n") goes_on 128 0
  -- edits of a model file are taken back by lines of the session
  pub model_file : Comes (with_model (codes "B = LocalSum of A and 3\n") (A (map_of 1 1 (codes "7\n")) ∷ []) (codes "undo\nlist\nundo\n")) (ok 1 1 1 0 ++ ok 2 1 1 0 ++ ok 3 0 0 0 ++ codes "list 1\nsource A\nrefused nothing\n") goes_on 128 0
  pub model_file_refused : Comes (with_model (codes "undo\n") (A (map_of 1 1 (codes "7\n")) ∷ []) (codes "list\n")) (ok 1 1 1 0 ++ codes "refused nothing\n") turned_back 64 0
  pub edit_kept : length with_layer.pasts ≡ 1
  -- a load empties what is kept
  pub load : kept_in (next_load with_layer (codes "B") (map_of 1 1 (codes "7\n"))) ≡ Some 0

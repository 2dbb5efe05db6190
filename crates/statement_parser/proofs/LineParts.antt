-- Lines: each is read by its rule, the rule is sound, and what it gives is formed and there.
use Rattle.std.proofs.Common.{◌≡◌, ◌+◌, ◌<◌, ◌≤◌, ℕ, zero, suc, true, false, List, [], ◌∷◌, ◌++◌, length, Option, Some, None, Result, Ok, Err, refl, ◌∙◌, arith, length-append}
use Rattle.std.specs.Prelude.{codes, nat_lt, IsTrue, IfOk}
use Rattle.std.proofs.lemmas.Bool.Decides.{nat_tests}
use Rattle.map_words.specs.Bytes.{Text}
use Rattle.map_words.specs.Names.{is_plain}
use Rattle.grammar_core.specs.Rules.{Rule, ends, on, next, ◌<|>◌}
use Rattle.grammar_core.specs.Run.{run}
use Rattle.grammar_core.specs.Readers.{◌>>=◌, Read, one_at, end_at}
use Rattle.grammar_core.proofs.Ends.{each_end, ends_on, ends_or}
use Rattle.grammar_core.proofs.Parts.{Healthy, NoBody, healthy_end, all_on, all_or}
use Rattle.grammar_core.proofs.Reading.{assoc, or_else, or_refused, start_place}
use Rattle.statement_parser.specs.Lines.{Manner, Edit, define, paint, new_layer, drop, Item, make, look_at, Line, ask_value, ask_grid, ask_show, ask_legend, ask_table, ask_stamps, ask_list, ask_branches, blank, edit, undo, ask, model, quit}
use Rattle.statement_parser.specs.Scopes.{anywhere}
use Rattle.statement_parser.specs.Places.{the, name_of, any_of, side_of, cell_of, version_of, tests, reading}
use Rattle.statement_parser.specs.EditRules.{define_part, paint_part, new_part, drop_part, value_part}
use Rattle.statement_parser.specs.BranchRules.{opening_of, opened_rule, item_rule, end_rule, items_rule, most_items, branch_rule}
use Rattle.statement_parser.specs.Commands.{command_named}
use Rattle.statement_parser.specs.Grammar.{define_rule, any_rule, command_rule, line_rule}
use Rattle.statement_parser.specs.ReadBodies.{body_at}
use Rattle.statement_parser.specs.ReadEdits.{defined_at, corners_at, painted_at, laid_at, dropped_at, looked_at}
use Rattle.statement_parser.specs.ReadCommands.{paint_at, new_at, drop_at, value_at, any_line_at, table_at, undo_at, model_at, list_at}
use Rattle.statement_parser.specs.ReadBranches.{opened_at, item_at, item_behind_at, ended_at, items_at, branches_at}
use Rattle.statement_parser.specs.ReadLine.{define_at, command_at, statement_at, started_at, line_at, quit_at}
use Rattle.statement_parser.specs.Formed.{Each, IsSide, IsAny, IsItem, IsBranch, IsFormed}
use Rattle.statement_parser.specs.There.{HasCommand, IsItemThere, IsThere}
use Rattle.statement_parser.specs.Texts.{seen, LineText, silent, worded}
use Rattle.statement_parser.specs.Parsed.{IsParsed}
use Rattle.statement_parser.specs.declared.refusal.LineRefusal.{LineRefusal}
use Rattle.statement_parser.specs.declared.opening.Opening.{Opening}
use Rattle.statement_parser.specs.declared.opening.Opening.TheVariants as openings
use Rattle.statement_parser.specs.declared.command.Command.{Command}
use Rattle.statement_parser.specs.declared.command.Command.TheVariants.{Model, Procedure, Paint, New, Drop, Label, Symbol, Undo, Branch, Value, Grid, Show, Legend, Table, Stamps, List as Listing, Quit}
use Rattle.statement_parser.proofs.FormedLines.{name_formed, command_there, IsOpened}
use Rattle.statement_parser.proofs.PlaceFacts.{IsFree, name_open, any_open, side_open, cell_open, version_open, opening_open, command_place}
use Rattle.statement_parser.proofs.Parts.{IsGood, Formed, IsPart, one_part, pure_part, same_part, then_part, word_then, word_place, IsRest, end_rest, weaker_rest, then_rest, either_rest}
use Rattle.statement_parser.proofs.BodyParts.{all-push, all_left, all_right, equals_body}
use Rattle.statement_parser.proofs.LabelParts.{label_rest, symbol_rest}
use Rattle.statement_parser.proofs.ProcedureParts.{procedure_rest}

is_fewer : (n : ℕ) → nat_lt n 15 ≡ true → n < 15
is_fewer n e = grind (arith, nat_tests)

module _ (m : Manner) where
  name_part : IsPart m (λ n. IsTrue (is_plain n)) (one_at reading name_of false) (next name_of)
  name_part = one_part m name_of false (name_open m)

  any_part : IsPart m IsAny (one_at reading any_of false) (next any_of)
  any_part = one_part m any_of false (any_open m)

  side_part : IsPart m IsSide (one_at reading side_of true) (next side_of)
  side_part = one_part m side_of true (side_open m)

  -- ---- edits, and looks at a cell

  -- what a branch may hold
  abbrev IsGoodItem : Item → Type 0
  IsGoodItem i = IsItem i × IsItemThere m i

  -- as a line, where its row is there, and as an item
  abbrev IsGoodEdit : Command → Edit → Type 0
  IsGoodEdit c e = (HasCommand m c → IsGood m (edit e)) × IsGoodItem (make e)

  defined_part : (n : Text) → IsPart m (λ e. IsTrue (is_plain n) → IsGood m (edit e) × IsGoodItem (make e)) (defined_at m n) (define_part m n)
  unfolding defined_at
  defined_part n =
      same_part m (then_part m (equals_body m anywhere) (λ w. pure_part m (define n w) (λ k p. (((p, k.0), k.1), ((p, k.0), k.1)))))
      (λ ws. assoc (one_at reading (the (codes "=")) false ws) (λ u. body_at anywhere m u.1) (λ w. Ok (define n w.0, w.1)))

  corners_part : IsPart m (λ k. IsSide k.0 × IsSide k.1 × IsSide k.2 × IsSide k.3) corners_at (λ r. next side_of (λ r1. next side_of (λ c1. next side_of (λ r2. next side_of (λ c2. r (r1, c1, r2, c2))))))
  unfolding corners_at
  corners_part = then_part m side_part (λ r1. then_part m side_part (λ c1. then_part m side_part (λ r2. then_part m side_part (λ c2. pure_part m (r1, c1, r2, c2) (λ s t u v. (v, u, t, s))))))

  painted_part : IsPart m (IsGoodEdit Paint) painted_at paint_part
  unfolding painted_at
  painted_part =
      then_part m name_part (λ n. then_part m corners_part (λ k. then_part m (one_part m cell_of true (cell_open m)) (λ v.
      pure_part m (paint n k.0 k.1 k.2 k.3 v) (λ c s p. (λ there. ((p, s.0, s.1, s.2, s.3, c), there), ((p, s.0, s.1, s.2, s.3, c), tt))))))

  laid_part : IsPart m (IsGoodEdit New) laid_at new_part
  unfolding laid_at
  laid_part = then_part m name_part (λ n. then_part m (one_part m cell_of true (cell_open m)) (λ v. pure_part m (new_layer n v) (λ c p. (λ there. ((p, c), there), ((p, c), tt)))))

  dropped_part : IsPart m (IsGoodEdit Drop) dropped_at drop_part
  unfolding dropped_at
  dropped_part = then_part m name_part (λ n. pure_part m (drop n) (λ p. (λ there. (p, there), (p, tt))))

  looked_part : IsPart m (λ l. IsAny l.0 × IsSide l.1 × IsSide l.2) looked_at (λ f. value_part (λ n r c. f (n, r, c)))
  unfolding looked_at
  looked_part = then_part m any_part (λ n. then_part m side_part (λ r. then_part m side_part (λ c. pure_part m (n, r, c) (λ s t p. (p, t, s)))))

  edited : {P : Edit → Type 0} {C : Type 0} {h : List Text → Read Text Edit} {p : (Edit → Rule Text Line) → Rule Text Line} → IsPart m P h p → ((e : Edit) → P e × C → IsGood m (edit e))
      → IsRest m C (λ ws. h ws >>= λ e. end_at e.1 >>= λ u. Ok (edit e.0)) (p (λ e. ends (edit e)))
  edited a good = then_rest m a (λ e. end_rest m (edit e) (good e))

  -- ---- branches

  opened_part : (o : Opening) → IsPart m (λ i. IsOpened o → IsGoodItem i) (opened_at m o) (λ r. opened_rule m r o)
  opened_part openings.Paint = then_part m painted_part (λ e. pure_part m (make e) (λ k u. k.1))
  opened_part openings.New = then_part m laid_part (λ e. pure_part m (make e) (λ k u. k.1))
  opened_part openings.Drop = then_part m dropped_part (λ e. pure_part m (make e) (λ k u. k.1))
  opened_part openings.Value = then_part m looked_part (λ l. pure_part m (look_at l.0 l.1 l.2) (λ k u. (k, tt)))
  opened_part (openings.Named n) = then_part m (defined_part n) (λ e. pure_part m (make e) (λ k p. (k p).1))

  item_part : IsPart m IsGoodItem (item_at m) (item_rule m)
  unfolding item_at
  item_part = then_part m (one_part m opening_of false (opening_open m)) opened_part

  -- an item behind this word
  behind_part : (word : Text) → IsFree word → IsPart m IsGoodItem (item_behind_at m word) (λ r. next (the word) (λ _. item_rule m r))
  unfolding item_behind_at
  behind_part word e = word_then m word e item_part

  abbrev IsGoodBranch : List Item → Type 0
  IsGoodBranch is = IsBranch is × Each (IsItemThere m) is

  -- so far at most 15 branches, and this one
  record AreSoFar (bs : List (List Item)) (is : List Item) : Type 0 where
    pub there : HasCommand m Branch
    pub few : length bs ≤ 15
    pub each : Each IsGoodBranch bs
    pub last : IsGoodBranch is

  ended_rest : (bs : List (List Item)) (is : List Item) → IsRest m (AreSoFar bs is) (ended_at (bs ++ is ∷ [])) (end_rule (bs ++ is ∷ []))
  unfolding ended_at
  ended_rest bs is =
      then_rest m (one_part m (the (codes "end")) false (word_place m (codes "end") (refl, refl))) (λ u. end_rest m (ask (ask_branches (bs ++ is ∷ []))) (λ c.
      (let k = c.1 in let l = k.few in let all = all-push IsGoodBranch bs is k.each k.last in
      (((omega (arith, length-append bs (is ∷ [])), omega (arith, length-append bs (is ∷ []))), all_left IsBranch (Each (IsItemThere m)) (bs ++ is ∷ []) all), (k.there, all_right IsBranch (Each (IsItemThere m)) (bs ++ is ∷ []) all)))))

  first_item : (i : Item) → IsGoodItem i → IsGoodBranch (i ∷ [])
  first_item i p = ((omega arith, (p.0, tt)), (p.1, tt))

  branch-push : (is : List Item) (i : Item) → IsGoodBranch is → IsGoodItem i → IsGoodBranch (is ++ i ∷ [])
  branch-push is i k p = ((omega (arith, length-append is (i ∷ [])), all-push IsItem is i k.0.1 p.0), all-push (IsItemThere m) is i k.1 p.1)

  items_rest : (n : ℕ) (bs : List (List Item)) (is : List Item) → IsRest m (AreSoFar bs is) (items_at m n bs is) (items_rule m n bs is)
  unfolding items_at
  items_rest zero bs is = ended_rest bs is
  items_rest (suc n) bs is =
      let longer = λ (i : Item). items_rest n bs (is ++ i ∷ []) in
      let further = λ (i : Item). items_rest n (bs ++ is ∷ []) (i ∷ []) in
      either_rest m true (codes ";") (refl, refl)
      (λ here. then_rest m (behind_part (codes ";") (refl, refl)) (λ i. weaker_rest m (longer i) (λ c. record { there = c.1.there; few = c.1.few; each = c.1.each; last = branch-push is i c.1.last c.0 })))
      (item_part.tail (λ i. items_rule m n bs (is ++ i ∷ [])) (λ i. (longer i).tail))
      (either_rest m (nat_lt (length bs) 15) (codes "branch") (refl, refl)
      (λ here. then_rest m (behind_part (codes "branch") (refl, refl)) (λ i. weaker_rest m (further i) (λ c. (let fewer = is_fewer (length bs) here in
      record { there = c.1.there; few = omega (arith, length-append bs (is ∷ [])); each = all-push IsGoodBranch bs is c.1.each c.1.last; last = first_item i c.0 }))))
      (item_part.tail (λ i. items_rule m n (bs ++ is ∷ []) (i ∷ [])) (λ i. (further i).tail)) (ended_rest bs is))

  branches_rest : IsRest m (HasCommand m Branch) (branches_at m) (branch_rule m)
  unfolding branches_at
  branches_rest = then_rest m item_part (λ i. weaker_rest m (items_rest most_items [] (i ∷ [])) (λ c. record { there = c.1; few = omega arith; each = tt; last = first_item i c.0 }))

  -- ---- commands

  any_rest : {C : Type 0} (of : Text → Line) → ((n : Text) → IsAny n × C → IsGood m (of n)) → IsRest m C (any_line_at of) (any_rule of)
  unfolding any_line_at
  any_rest of good = then_rest m any_part (λ n. end_rest m (of n) (good n))

  command_rest : (c : Command) → IsRest m (HasCommand m c) (command_at m c) (command_rule m c)
  unfolding paint_at new_at drop_at undo_at value_at table_at model_at list_at quit_at
  command_rest Model = then_rest m (one_part m version_of true (version_open m)) (λ l. end_rest m (model l) (λ c. (tt, c.1)))
  command_rest Procedure = procedure_rest m
  command_rest Paint = edited painted_part (λ e c. c.0.0 c.1)
  command_rest New = edited laid_part (λ e c. c.0.0 c.1)
  command_rest Drop = edited dropped_part (λ e c. c.0.0 c.1)
  command_rest Label = label_rest m
  command_rest Symbol = symbol_rest m
  command_rest Undo = end_rest m undo (λ c. (tt, c))
  command_rest Branch = branches_rest
  command_rest Value = then_rest m looked_part (λ l. end_rest m (ask (ask_value l.0 l.1 l.2)) (λ c. c))
  command_rest Grid = any_rest (λ n. ask (ask_grid n)) (λ n c. c)
  command_rest Show = any_rest (λ n. ask (ask_show n)) (λ n c. c)
  command_rest Legend = any_rest (λ n. ask (ask_legend n)) (λ n c. c)
  command_rest Table = then_rest m any_part (λ n. then_rest m any_part (λ v. end_rest m (ask (ask_table n v)) (λ c. ((c.1.0, c.0), c.1.1))))
  command_rest Stamps = any_rest (λ n. ask (ask_stamps n)) (λ n c. c)
  command_rest Listing = end_rest m (ask ask_list) (λ c. (tt, c))
  command_rest Quit = end_rest m quit (λ c. (tt, c))

  define_rest : (n : Text) → IsRest m (IsTrue (is_plain n)) (define_at m n) (define_rule m n)
  unfolding define_at
  define_rest n = edited (defined_part n) (λ e c. (c.0 c.1).0)

  -- ---- lines

  pub line_reads : (ws : List Text) → line_at m ws ≡ run (tests m) (line_rule m) ws
  unfolding line_at run
  line_reads [] = refl
  line_reads (w ∷ ws) = started (command_named m w)
      ∙ start_place (tests m) (Some blank) (command_named m) name_of (λ c ws. command_at m c ws) (define_at m) (command_rule m) (define_rule m) (command_place m) (name_open m).place
      (λ c. (command_rest c).tail.node) (λ n. (define_rest n).tail.node) (λ c. (command_rest c).reads) (λ n. (define_rest n).reads) w ws
    where
      both : (o : Option Text) → statement_at m o ws ≡ or_refused (tests m) o (suc (length ws)) (λ n. define_at m n ws)
      both None = refl
      both (Some n) = refl

      started : (c : Option Command) → started_at m c w ws ≡ or_else (tests m) c (or_refused (tests m) (name_of w) (suc (length ws)) (λ n. define_at m n ws)) (λ c. command_at m c ws)
      started None = both (name_of w)
      started (Some c) = refl

  no_operation_first : NoBody (tests m) (on (command_named m) (command_rule m) <|> on name_of (define_rule m))
  no_operation_first = rw ((command_place m).free, (name_open m).place.free) refl

  pub healthy_line : Healthy (tests m) (line_rule m)
  healthy_line =
      healthy_end (tests m) blank (on (command_named m) (command_rule m) <|> on name_of (define_rule m)) (no_operation_first)
      (all_or (tests m) (on (command_named m) (command_rule m)) (on name_of (define_rule m))
      (all_on (tests m) (command_named m) (command_rule m) (λ c. (command_rest c).tail.healthy)) (all_on (tests m) name_of (define_rule m) (λ n. (define_rest n).tail.healthy)))

  line_formed : Formed m (line_rule m)
  line_formed = (
    (tt, tt),
    ends_or (IsGood m) (on (command_named m) (command_rule m)) (on name_of (define_rule m)) (ends_on (IsGood m) (command_named m) (command_rule m) (λ w c e. (command_rest c).formed (command_there m w c e)))
        (ends_on (IsGood m) name_of (define_rule m) (λ w n e. (define_rest n).formed (name_formed w n e))),
  )

  formed_text : (bytes : Text) (x : Line) → LineText m bytes x → IsGood m x
  formed_text bytes x (silent s e) = (tt, tt)
  formed_text bytes x (worded s e f d) = each_end (IsGood m) (line_rule m) (seen bytes) x line_formed d

  pub formed_parsed : {V : Type 0} (view : V → Line) (bytes : Text) (r : Result V LineRefusal) → IsParsed m view bytes r → IfOk r (λ x. IsFormed (view x))
  formed_parsed view bytes (Ok x) h = (formed_text bytes (view x) h).0
  formed_parsed view bytes (Err e) h = tt

  pub there_parsed : {V : Type 0} (view : V → Line) (bytes : Text) (r : Result V LineRefusal) → IsParsed m view bytes r → IfOk r (λ x. IsThere m (view x))
  there_parsed view bytes (Ok x) h = (formed_text bytes (view x) h).1
  there_parsed view bytes (Err e) h = tt

-- Which bytes end the session doesn't depend on the rows that are there, where its own is.
use Rattle.std.proofs.Common.{◌≡◌, ◌⊎◌, inl, inr, ℕ, zero, suc, Bool, true, false, cond, List, [], ◌∷◌, ◌++◌, length, Option, Some, None, Result, Ok, Err, refl, sym, ap, subst, ◌∙◌}
use Rattle.std.specs.Prelude.{codes, nat_lt}
use Rattle.map_words.specs.Bytes.{Text, first_bad, is_silent}
use Rattle.grammar_core.specs.declared.Fault.{Fault}
use Rattle.grammar_core.specs.Run.{run}
use Rattle.grammar_core.specs.Readers.{◌>>=◌, one_at, end_at, starts}
use Rattle.statement_parser.specs.Lines.{Manner, Item, ask_grid, ask_show, ask_legend, ask_stamps, Line, blank, ask, quit}
use Rattle.statement_parser.specs.Commands.{has_command, command_named}
use Rattle.statement_parser.specs.Places.{the, maybe, name_of, any_of, value_of, version_of, tests, reading}
use Rattle.statement_parser.specs.Signs.{sign_of}
use Rattle.statement_parser.specs.ReadEdits.{defined_at, painted_at, laid_at, dropped_at, looked_at}
use Rattle.statement_parser.specs.Grammar.{line_rule}
use Rattle.statement_parser.specs.There.{HasCommand}
use Rattle.statement_parser.specs.Texts.{seen, is_short, long}
use Rattle.statement_parser.specs.LineOf.{of_words, of_bytes, line_of}
use Rattle.statement_parser.specs.ReadLine.{define_at, command_at, statement_at, started_at, line_at}
use Rattle.statement_parser.specs.ReadCommands.{paint_at, new_at, drop_at, value_at, any_line_at, table_at, undo_at, model_at, list_at}
use Rattle.statement_parser.specs.ReadLabels.{bytes_at, label_at, symbol_at}
use Rattle.statement_parser.specs.BranchRules.{most_items}
use Rattle.statement_parser.specs.ReadBranches.{item_at, item_behind_at, ended_at, items_at, branches_at}
use Rattle.statement_parser.specs.ReadProcedures.{parameters_at, statements_at, procedure_at}
use Rattle.statement_parser.specs.declared.command.Command.{Command}
use Rattle.statement_parser.specs.declared.command.Command.TheVariants.{Model, Procedure, Paint, New, Drop, Label, Symbol, Undo, Branch, Value, Grid, Show, Legend, Table, Stamps, List as Listing, Quit}
use Rattle.statement_parser.proofs.FormedLines.{command_word}
use Rattle.statement_parser.proofs.LineParts.{line_reads}

-- it isn't the end of the session
abbrev IsOn : Result Line Fault → Type 0
IsOn (Ok quit) = ⊥
IsOn r = Unit {0}

record GoesOn (r : Result Line Fault) : Type 0 where
  on : IsOn r

-- whatever is read before
then_on : {A : Type 0} (r : Result A Fault) (k : A → Result Line Fault) → ((v : A) → GoesOn (k v)) → GoesOn (r >>= k)
then_on (Ok v) k h = h v
then_on (Err e) k h = record { on = tt }

define_on : (m : Manner) (n : Text) (ws : List Text) → GoesOn (define_at m n ws)
unfolding define_at
define_on m n ws = then_on (defined_at m n ws) _ (λ e. then_on (end_at e.1) _ (λ u. record { on = tt }))

named_on : (make : Text → Line) → ((n : Text) → GoesOn (Ok (make n))) → (ws : List Text) → GoesOn (any_line_at make ws)
unfolding any_line_at
named_on make h ws = then_on (one_at reading any_of false ws) _ (λ n. then_on (end_at n.1) _ (λ e. h n.0))

statement_on : (m : Manner) (n : Option Text) (ws : List Text) → GoesOn (statement_at m n ws)
statement_on m None ws = record { on = tt }
statement_on m (Some n) ws = define_on m n ws

either_on : (b : Bool) (r t : Result Line Fault) → GoesOn r → GoesOn t → GoesOn (cond b r t)
either_on true r t h k = h
either_on false r t h k = k

ended_on : (bs : List (List Item)) (ws : List Text) → GoesOn (ended_at bs ws)
unfolding ended_at
ended_on bs ws = then_on (one_at reading (the (codes "end")) false ws) _ (λ u. then_on (end_at u.1) _ (λ e. record { on = tt }))

items_on : (m : Manner) (n : ℕ) (bs : List (List Item)) (is : List Item) (ws : List Text) → GoesOn (items_at m n bs is ws)
unfolding items_at
items_on m zero bs is ws = ended_on (bs ++ is ∷ []) ws
items_on m (suc n) bs is ws =
    either_on (starts (the (codes ";")) ws) _ _ (then_on (item_behind_at m (codes ";") ws) _ (λ i. items_on m n bs (is ++ i.0 ∷ []) i.1))
    (either_on (starts (maybe (nat_lt (length bs) 15) (the (codes "branch"))) ws) _ _ (then_on (item_behind_at m (codes "branch") ws) _ (λ i. items_on m n (bs ++ is ∷ []) (i.0 ∷ []) i.1)) (ended_on (bs ++ is ∷ []) ws))

-- of all commands one ends the session
quit_or_on : (c : Command) → (c ≡ Quit) ⊎ ((m : Manner) (ws : List Text) → GoesOn (command_at m c ws))
unfolding procedure_at paint_at new_at drop_at label_at symbol_at undo_at branches_at value_at table_at model_at list_at
quit_or_on Model = inr (λ m ws. then_on (one_at reading version_of true ws) _ (λ l. then_on (end_at l.1) _ (λ e. record { on = tt })))
quit_or_on Procedure = inr (λ m ws. then_on (one_at reading name_of false ws) _ (λ p. then_on (parameters_at p.1) _ (λ ps. then_on (statements_at m ps.0 15 [] ps.1) _ (λ is. record { on = tt }))))
quit_or_on Paint = inr (λ m ws. then_on (painted_at ws) _ (λ e. then_on (end_at e.1) _ (λ u. record { on = tt })))
quit_or_on New = inr (λ m ws. then_on (laid_at ws) _ (λ e. then_on (end_at e.1) _ (λ u. record { on = tt })))
quit_or_on Drop = inr (λ m ws. then_on (dropped_at ws) _ (λ e. then_on (end_at e.1) _ (λ u. record { on = tt })))
quit_or_on Label = inr (λ m ws.
    then_on (one_at reading name_of false ws) _ (λ n. then_on (one_at reading value_of true n.1) _ (λ z. then_on (one_at reading sign_of false z.1) _ (λ b.
    then_on (bytes_at 63 (b.0 ∷ []) b.1) _ (λ t. then_on (end_at t.1) _ (λ e. record { on = tt }))))))
quit_or_on Symbol = inr (λ m ws.
    then_on (one_at reading name_of false ws) _ (λ n. then_on (one_at reading value_of true n.1) _ (λ z. then_on (one_at reading sign_of false z.1) _ (λ b.
    then_on (end_at b.1) _ (λ e. record { on = tt })))))
quit_or_on Undo = inr (λ m ws. then_on (end_at ws) _ (λ e. record { on = tt }))
quit_or_on Branch = inr (λ m ws. then_on (item_at m ws) _ (λ i. items_on m most_items [] (i.0 ∷ []) i.1))
quit_or_on Value = inr (λ m ws. then_on (looked_at ws) _ (λ e. then_on (end_at e.1) _ (λ u. record { on = tt })))
quit_or_on Grid = inr (λ m. named_on (λ n. ask (ask_grid n)) (λ n. record { on = tt }))
quit_or_on Show = inr (λ m. named_on (λ n. ask (ask_show n)) (λ n. record { on = tt }))
quit_or_on Legend = inr (λ m. named_on (λ n. ask (ask_legend n)) (λ n. record { on = tt }))
quit_or_on Table = inr (λ m ws. then_on (one_at reading any_of false ws) _ (λ n. then_on (one_at reading any_of false n.1) _ (λ v. then_on (end_at v.1) _ (λ e. record { on = tt }))))
quit_or_on Stamps = inr (λ m. named_on (λ n. ask (ask_stamps n)) (λ n. record { on = tt }))
quit_or_on Listing = inr (λ m ws. then_on (end_at ws) _ (λ e. record { on = tt }))
quit_or_on Quit = inl refl

no_end : (r : Result Line Fault) → GoesOn r → r ≡ Ok quit → ⊥
no_end r h e = (subst GoesOn e h).on

-- its word is the command wherever it is there
named_quit : (m n : Manner) (w : Text) → HasCommand n Quit → command_named m w ≡ Some Quit → command_named n w ≡ Some Quit
unfolding command_named
named_quit m n w there e =
    let f = command_word m w Quit e in
    let here : has_command n.commands w ≡ true = subst (λ t. has_command n.commands t ≡ true) f.0 there in
    rw (here) f.1

line_quits : (m n : Manner) (ws : List Text) → HasCommand n Quit → line_at m ws ≡ Ok quit → line_at n ws ≡ Ok quit
unfolding line_at
line_quits m n [] there e = absurd (cc)
line_quits m n (w ∷ ws) there e = go (command_named m w) refl e
  where
    go : (c : Option Command) → command_named m w ≡ c → started_at m c w ws ≡ Ok quit → started_at n (command_named n w) w ws ≡ Ok quit
    go None f e = absurd (no_end (statement_at m (name_of w) ws) (statement_on m (name_of w) ws) e)
    go (Some c) f e = elim (quit_or_on c) as (λ q. started_at n (command_named n w) w ws ≡ Ok quit) [
      | inl same ↦ ap (λ c. started_at n c w ws) (named_quit m n w there (f ∙ ap (λ c. Some c) same)) ∙ sym (ap (λ c. command_at m c ws) same) ∙ e
      | inr on ↦ absurd (no_end (command_at m c ws) (on m ws) e)
    ]

words_quit : (bytes : Text) (r : Result Line Fault) → of_words bytes r ≡ Ok quit → r ≡ Ok quit
words_quit bytes (Ok x) e = cc
words_quit bytes (Err f) e = absurd (cc)

pub quits : (m n : Manner) (bytes : Text) → HasCommand n Quit → line_of m bytes ≡ Ok quit → line_of n bytes ≡ Ok quit
unfolding line_of
quits m n bytes there e = go (is_short bytes) (is_silent bytes) (first_bad bytes) e
  where
    go : (short quiet : Bool) (bad : Option ℕ) → cond short (cond quiet (Ok blank) (of_bytes m bytes bad)) (Err (long (length bytes))) ≡ Ok quit
        → cond short (cond quiet (Ok blank) (of_bytes n bytes bad)) (Err (long (length bytes))) ≡ Ok quit
    go false quiet bad e = absurd (cc)
    go true true bad e = absurd (cc)
    go true false (Some at) e = absurd (cc)
    go true false None e =
        let here = words_quit bytes (run (tests m) (line_rule m) (seen bytes)) e in
        ap (of_words bytes) (sym (line_reads n (seen bytes)) ∙ line_quits m n (seen bytes) there (line_reads m (seen bytes) ∙ here))

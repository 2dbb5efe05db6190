use Rattle.std.proofs.Common.{◌≡◌, suc, ◌-◌, [], ◌∷◌, ◌++◌, length, Vec, sym, ap, subst, ◌∙◌, arith}
use Rattle.std.proofs.lemmas.List.{map-append}
use Rattle.std.specs.Prelude.{codes, nat_lt}
use Rattle.std.specs.declared.alloc.Global.{Global}
use Rattle.grammar_core.specs.Readers.{starts}
use Rattle.statement_parser.specs.Gives.{Gives}
use Rattle.statement_parser.specs.Places.{the, maybe}
use Rattle.statement_parser.specs.ReadBranches.{items_at}
use Rattle.statement_parser.specs.Views.{texts_of, item_view, items_view, branches_view, line_view, manner_of}
use Rattle.statement_parser.specs.declared.line.Item as items
use Rattle.statement_parser.proofs.ItemsRead.{longer_at, further_at}
use Rattle.statement_parser.proofs.branches.+further_items.Goals as goal

pub returns-then-is_next : goal.returns-then-is_next
returns-then-is_next t c =
    let m = manner_of c.args.rows.now in
    let bs = branches_view c.args.front.items in
    let is = items_view c.args.items.items in
    let ws = texts_of c.args.words.now in
    let longer : items_view c.push.new.self.items ≡ is ++ item_view c.in_ok-one.one ∷ [] = ap items_view c.in_ok-push.ensures.items ∙ map-append item_view c.args.items.items (c.in_ok-one.one ∷ []) in
    let same = longer_at m (c.args.most - 1) bs is ws (texts_of c.in_ok-one.rest.now) (item_view c.in_ok-one.one) (items_view c.push.new.self.items) (sym c.is_next.ensures ∙ c.if-is_next.true) c.in_ok-one.ensures longer in
    let some : c.args.most ≡ suc (c.args.most - 1) = omega (arith, c.if-most-eq0.false) in
    subst (Gives line_view c.further_items.result) (sym same ∙ ap (λ k. items_at m k bs is ws) (sym some)) c.further_items.ensures

pub returns-then-is_branch_next : goal.returns-then-is_branch_next
returns-then-is_branch_next t c =
    let m = manner_of c.args.rows.now in
    let bs = branches_view c.args.front.items in
    let is = items_view c.args.items.items in
    let ws = texts_of c.args.words.now in
    let branches = c.push-then-is_branch_next.new.self.items in
    let fresh = c.push-then-is_branch_next-2.new.self.items in
    let whole : branches_view branches ≡ bs ++ is ∷ [] = ap branches_view c.in_ok-push-2.ensures.items ∙ map-append (λ (b : Vec items.Item Global). items_view b.items) c.args.front.items (c.args.items ∷ []) in
    let alone : items_view fresh ≡ item_view c.in_ok-one-2.one ∷ [] = ap items_view (c.in_ok-push-3.ensures.items ∙ ap (λ l. l ++ c.in_ok-one-2.one ∷ []) c.new-fresh.ensures.items) in
    let begins = ap (λ fs. starts (maybe (nat_lt (length (branches_view fs)) 15) (the (codes "branch"))) ws) (sym c.as_slice.ensures.value) ∙ sym c.is_branch_next.ensures ∙ c.if-is_branch_next.true in
    let same = further_at m (c.args.most - 1) bs is ws (texts_of c.in_ok-one-2.rest.now) (item_view c.in_ok-one-2.one) (branches_view branches) (items_view fresh) (sym c.is_next.ensures ∙ c.if-is_next.false) begins c.in_ok-one-2.ensures whole alone in
    let some : c.args.most ≡ suc (c.args.most - 1) = omega (arith, c.if-most-eq0.false) in
    subst (Gives line_view c.further_items-then-is_branch_next.result) (sym same ∙ ap (λ k. items_at m k bs is ws) (sym some)) c.further_items-then-is_branch_next.ensures

use Rattle.std.proofs.Common.{◌≡◌, ◌+◌, ◌-◌, List, length, take, ap, sym, subst, ◌∙◌, arith}
use Rattle.map_defs.specs.Depths.{is_looped}
use Rattle.statement_graph.specs.declared.node.Entry.{Entry}
use Rattle.statement_graph.specs.Links.{HasRoom}
use Rattle.statement_graph.specs.Seats.{nodes_at}
use Rattle.statement_graph.specs.Splices.{spliced}
use Rattle.statement_graph.proofs.Exchanging.{put_in, put_back, put_in_is, length-spliced}
use Rattle.statement_graph.proofs.Linking.{room_spliced}
use Rattle.statement_graph.proofs.splice.splice.Goals as goal

pub settle_front-requires-clause-room : goal.settle_front-requires-clause-room
settle_front-requires-clause-room c =
    let es = c.args.entries.now.items in
    let fresh = c.args.fresh.items in
    let start = c.args.span.start in
    let end = c.args.span.end in
    let count_is : c.len-count.result ≡ length fresh = c.len-count.ensures ∙ c.args.fresh.ok.0 in
    let total_is : c.len-total.result + (end - start) ≡ length es + length fresh = omega (arith, c.len-total.ensures, c.args.rows.now.ok.0, c.requires.rows_are) in
    let in_is = put_in es fresh start end c.requires.order c.requires.within c.append.new.self.items c.exchange_in.new.entries.items c.len-total.result c.in_ok-append.ensures.items total_is
    (λ a o t n e la lo ln. c.exchange_in.ensures.turned a o t n e la lo (ln ∙ sym count_is)) in
    let now = take c.len-total.result c.exchange_in.new.entries.items in
    let len : length now ≡ length (spliced start end fresh es) = ap length in_is.1 in
    let parts = length-spliced es fresh start end c.requires.order c.requires.within in
    room_spliced es fresh now c.args.links.now.firsts.items c.args.links.now.needs.items start end c.requires.order in_is.1 (omega (arith, c.requires.firsts_are, c.requires.rows_are)) c.requires.needs_are

pub returns-clause-room : goal.returns-clause-room
returns-clause-room c =
    let firsts = c.settle_front.new.links.firsts.items in
    let needs = c.settle_front.new.links.needs.items in
    subst (λ (l : List Entry). HasRoom (nodes_at l) firsts needs) (sym c.truncate-2.ensures.items) c.settle_front.ensures.room

pub returns-then-settle_front-clause-spliced : goal.returns-then-settle_front-clause-spliced
returns-then-settle_front-clause-spliced c =
    let es = c.args.entries.now.items in
    let fresh = c.args.fresh.items in
    let start = c.args.span.start in
    let end = c.args.span.end in
    let count_is : c.len-count.result ≡ length fresh = c.len-count.ensures ∙ c.args.fresh.ok.0 in
    let total_is : c.len-total.result + (end - start) ≡ length es + length fresh = omega (arith, c.len-total.ensures, c.args.rows.now.ok.0, c.requires.rows_are) in
    let had_is : c.len-had.result ≡ length es = c.len-had.ensures ∙ c.args.entries.now.ok.0 in
    let in_is = put_in es fresh start end c.requires.order c.requires.within c.append.new.self.items c.exchange_in.new.entries.items c.len-total.result c.in_ok-append.ensures.items total_is
    (λ a o t n e la lo ln. c.exchange_in.ensures.turned a o t n e la lo (ln ∙ sym count_is)) in (
      put_back es fresh start end c.requires.order c.requires.within c.exchange_in.new.entries.items c.exchange_in-then-settle_front.new.entries.items c.truncate.new.self.items in_is.0
          (λ a o t n e la lo ln. c.exchange_in-then-settle_front.ensures.turned a o t n e la (lo ∙ ap (λ k. start + k) (sym count_is)) ln)
          (c.truncate.ensures.items ∙ ap (λ k. take k c.exchange_in-then-settle_front.new.entries.items) had_is),
      ap (λ l. is_looped (nodes_at l) c.args.name.now) (sym in_is.1) ∙ sym c.settle_front.ensures.looped ∙ c.if-settle_front.true,
    )

pub returns-clause-spliced : goal.returns-clause-spliced
returns-clause-spliced c =
    let es = c.args.entries.now.items in
    let fresh = c.args.fresh.items in
    let start = c.args.span.start in
    let end = c.args.span.end in
    let count_is : c.len-count.result ≡ length fresh = c.len-count.ensures ∙ c.args.fresh.ok.0 in
    let total_is : c.len-total.result + (end - start) ≡ length es + length fresh = omega (arith, c.len-total.ensures, c.args.rows.now.ok.0, c.requires.rows_are) in
    let in_is = put_in es fresh start end c.requires.order c.requires.within c.append.new.self.items c.exchange_in.new.entries.items c.len-total.result c.in_ok-append.ensures.items total_is
    (λ a o t n e la lo ln. c.exchange_in.ensures.turned a o t n e la lo (ln ∙ sym count_is)) in
    let len : c.len-total.result ≡ length (take c.len-total.result c.exchange_in.new.entries.items) = (let h = length-spliced es fresh start end c.requires.order c.requires.within in let k : length (take c.len-total.result c.exchange_in.new.entries.items) ≡ length (spliced start end fresh es) = ap length in_is.1 in omega arith) in
    put_in_is es fresh c.exchange_in.new.entries.items c.truncate-2.new.self.items start end c.len-total.result c.args.name.now c.settle_front.new.rows.items c.truncate-2.ensures.items in_is.1 (sym c.settle_front.ensures.looped ∙ c.if-settle_front.false) c.settle_front.ensures.table len

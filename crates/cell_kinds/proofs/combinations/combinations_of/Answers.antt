use Rattle.std.proofs.Common.{◌≡◌, sym, ◌∙◌, ap, List, length, rules, map}
use Rattle.std.specs.Ordering.{int_cmp, is_lt}
use Rattle.std.specs.Cmp.{int_cmp_total}
use Rattle.std.proofs.lemmas.Result.{IfOk-weaker}
use Rattle.std.proofs.lemmas.List.Sorted.{ranks_by, answers_always}
use Rattle.map_nums.specs.Grids.{cells_in}
use Rattle.cell_kinds.specs.declared.combinations.Pair.{Pair}
use Rattle.cell_kinds.specs.Counted.{combination_from, same_pair, rank, counted_pairs}
use Rattle.cell_kinds.specs.Runs.{runs_of}
use Rattle.cell_kinds.proofs.PairRuns.{sorted_pairs}
use Rattle.layer_tiles.proofs.RowLooks.{both_rise, first_rise}
use Rattle.cell_kinds.proofs.combinations.combinations_of.Goals as goal

pub paired-requires : goal.paired-requires
paired-requires g c =
    ap length (c.deref-2.ensures.value ∙ c.in_ok-second.ensures.cells) ∙ c.in_ok-second.ensures.layer.cells ∙ ap cells_in c.requires ∙ sym c.in_ok-first.ensures.layer.cells ∙ sym (ap length (c.deref.ensures.value ∙ c.in_ok-first.ensures.cells))

pub returns-clause-pairs : goal.returns-clause-pairs
returns-clause-pairs g c =
    let zones = c.args.zones.now.cells in
    let values = c.args.values.now.cells in
    let sorted = c.sort_unstable_by.ensures.sorted (λ (a b : Pair). is_lt (int_cmp (rank a) (rank b))) (ranks_by int_cmp_total rank) (answers_always _ _ _ (λ f a r f' q. search rules)) in
    let same : map combination_from (runs_of same_pair c.deref-3.result.now) ≡ counted_pairs zones values =
    ap (λ (l : List Pair). map combination_from (runs_of same_pair l)) c.deref-3.ensures.value
    ∙ sorted_pairs zones values c.in_ok-pairs.pairs.items c.sort_unstable_by.new.self.items c.in_ok-first.ensures.layer.are_cells c.in_ok-second.ensures.layer.are_cells
    (c.in_ok-pairs.ensures.zones ∙ c.deref.ensures.value ∙ c.in_ok-first.ensures.cells) (c.in_ok-pairs.ensures.values ∙ c.deref-2.ensures.value ∙ c.in_ok-second.ensures.cells)
    c.sort_unstable_by.ensures.permutation sorted in
    IfOk-weaker c.runs.result _ _ (λ v e. e ∙ same) c.runs.ensures

pub returns-in_err-first-clause-looks : goal.returns-in_err-first-clause-looks
returns-in_err-first-clause-looks g c = first_rise c.args.zones.now.size c.args.values.now.size _ _ c.all_cells.ensures.looks

pub returns-in_err-second-clause-looks : goal.returns-in_err-second-clause-looks
returns-in_err-second-clause-looks g c = both_rise c.args.zones.now.size c.args.values.now.size _ _ _ c.all_cells.ensures.looks c.all_cells-2.ensures.looks

pub returns-in_err-pairs-clause-looks : goal.returns-in_err-pairs-clause-looks
returns-in_err-pairs-clause-looks g c = both_rise c.args.zones.now.size c.args.values.now.size _ _ _ c.all_cells.ensures.looks c.all_cells-2.ensures.looks

pub returns-clause-looks : goal.returns-clause-looks
returns-clause-looks g c = both_rise c.args.zones.now.size c.args.values.now.size _ _ _ c.all_cells.ensures.looks c.all_cells-2.ensures.looks

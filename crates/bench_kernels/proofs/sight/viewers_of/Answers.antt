use Rattle.std.proofs.Common.{ℕ, ◌<◌, List, ℤ, Result, Ok, Err, IfOk, sym, subst}
use Rattle.std.specs.List.{All}
use Rattle.map_nums.specs.Grids.{Size, Cells, cells_in}
use Rattle.layer_tiles.specs.Changes.{ChangeState}
use Rattle.sight_lines.specs.Answers.{IsViewersAnswer}
use Rattle.sight_lines.specs.declared.refusals.SightRefusal.{SightRefusal}
use Rattle.sight_lines.proofs.Keeping.{viewers_on_map}
use Rattle.bench_kernels.proofs.sight.viewers_of.Goals as goal

-- viewers stand on their map
on_map : (s : Size) (cells : Cells) (answer : Result (List (ℕ × ℤ)) SightRefusal) → IsViewersAnswer s cells answer → IfOk answer (λ viewers. All (λ e. e.0 < cells_in s) viewers)
on_map s cells (Ok viewers) a = subst (λ (v : List (ℕ × ℤ)). All (λ e. e.0 < cells_in s) v) (sym a.0) (viewers_on_map s cells)
on_map s cells (Err e) a = tt

pub returns : goal.returns
returns c = subst (λ (change : ChangeState). IfOk c.of.result (λ viewers. All (λ e. e.0 < cells_in change.size) viewers)) c.same.ensures (on_map _ _ c.of.result c.of.ensures.answer)

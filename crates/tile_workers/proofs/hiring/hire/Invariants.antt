use Rattle.std.proofs.Common.{◌≡◌, ◌+◌, ◌≤◌, false, [], vec_len, sum_by}
use Rattle.std.specs.Prelude.{All, vec_capacity}
use Rattle.tile_workers.specs.Seats.{drawn, share}
use Rattle.tile_workers.specs.Shifts.{IsHired, shift_share}
use Rattle.tile_workers.proofs.hiring.hire.Given as goal

abbrev pub invariant-loop-hired : goal.invariant-loop-hired
invariant-loop-hired g l = record {
  own : l.seat.inner.table_id ≡ l.board.table.shared.table_id;
  fresh : drawn l.seat ≡ [];
  count : vec_len l.shifts + 1 ≡ l._hired;
  room : vec_capacity l.fn.shifts ≤ vec_capacity l.shifts;
  mine : share l.seat + vec_len l.shifts ≡ share l.fn.seat;
  theirs : sum_by shift_share l.shifts.items ≡ vec_len l.shifts;
  hired : All (IsHired g.M.Tally.counts l.board.table.shared.table_id) l.shifts.items;
  looks : (g.M.Tally.counts l.tally).looks ≡ (g.M.Tally.counts l.fn.tally).looks;
  picks : (g.M.Tally.counts l.tally).picks ≡ (g.M.Tally.counts l.fn.tally).picks;
  parts : (g.M.Tally.counts l.tally).parts_out ≡ (g.M.Tally.counts l.fn.tally).parts_out + vec_len l.shifts;
  kind : (g.M.Tally.counts l.tally).is_part ≡ false;
}

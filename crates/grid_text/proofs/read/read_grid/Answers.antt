use Rattle.std.proofs.Common.{◌≡◌, ℤ, Ok, ◌+◌, length, to_z, of_z, refl, sym, ap, subst, ◌∙◌, arith, w64}
use Rattle.std.specs.Prelude.{IsTrue}
use Rattle.std.proofs.lemmas.Result.{err_from_is_err_and}
use Rattle.map_nums.specs.Grids.{IsSize, cells_in}
use Rattle.grid_text.specs.Numbers.{is_short}
use Rattle.grid_text.specs.Contents.{cells_from}
use Rattle.grid_text.specs.Keys.{nothing}
use Rattle.grid_text.specs.Places.{tokens_left}
use Rattle.grid_text.specs.Reads.{head_of, Refuses}
use Rattle.grid_text.specs.Tokens.{tokens_of}
use Rattle.grid_text.proofs.GridReading.{grid_in-pairs, no_head, grid_in-after, no_size, no_cells, cells_count, grid_read, null_short, null_kept}
use Rattle.grid_text.proofs.SoundHeaders.{sound_nothing, sound_pairs, sound_head}
use Rattle.grid_text.proofs.read.read_grid.Goals as goal

pub returns-in_err-pairs-clause-reads : goal.returns-in_err-pairs-clause-reads
returns-in_err-pairs-clause-reads c =
    let p = err_from_is_err_and c.from_residual.result c.from_residual.ensures.1 in
    rw (p.1, p.2) (grid_in-pairs c.args.bytes.now c.in_err-pairs.field-0.0 c.in_err-pairs.ensures.pairs)

pub returns-in_err-head-clause-reads : goal.returns-in_err-head-clause-reads
returns-in_err-head-clause-reads c =
    let p = err_from_is_err_and c.from_residual-in_err-head.result c.from_residual-in_err-head.ensures.1 in
    let pairs = c.in_ok-pairs.pairs in
    rw (p.1, p.2) (no_head c.args.bytes.now pairs.found (tokens_left c.args.bytes.now pairs.next) c.next_byte-end.result c.in_err-head.field-0.0 c.in_ok-pairs.ensures.pairs c.next_byte-end.ensures c.in_err-head.ensures)

pub returns-in_default-clause-reads : goal.returns-in_default-clause-reads
returns-in_default-clause-reads c =
    let pairs = c.in_ok-pairs.pairs in
    let left = tokens_left c.args.bytes.now pairs.next in
    let head = head_of c.in_ok-head.head in
    grid_in-after c.args.bytes.now pairs.found left c.next_byte-end.result head c.in_ok-pairs.ensures.pairs c.next_byte-end.ensures c.in_ok-head.ensures
    ∙ no_size head left (λ z. let f = c.in_default.ensures.fits.1 z in cc)

pub read_cells-requires-clause-null : goal.read_cells-requires-clause-null
read_cells-requires-clause-null c =
    let pairs = c.in_ok-pairs.pairs in
    let left = tokens_left c.args.bytes.now pairs.next in
    let head = head_of c.in_ok-head.head in
    subst (λ (z : ℤ). IsTrue (is_short z)) (sym (null_kept c.args.bytes.now pairs.found left c.next_byte-end.result head c.in_ok-pairs.ensures.pairs c.in_ok-head.ensures))
    (null_short c.args.bytes.now pairs.found left c.next_byte-end.result head c.in_ok-pairs.ensures.pairs c.in_ok-head.ensures)

pub returns-in_err-cells-clause-reads : goal.returns-in_err-cells-clause-reads
returns-in_err-cells-clause-reads c =
    let p = err_from_is_err_and c.from_residual-in_err-cells.result c.from_residual-in_err-cells.ensures.1 in
    let pairs = c.in_ok-pairs.pairs in
    let left = tokens_left c.args.bytes.now pairs.next in
    let head = head_of c.in_ok-head.head in
    let after = grid_in-after c.args.bytes.now pairs.found left c.next_byte-end.result head c.in_ok-pairs.ensures.pairs c.next_byte-end.ensures c.in_ok-head.ensures in
    rw (p.1, p.2) (no_cells c.args.bytes.now head left c.cells.result c.in_err-cells.field-0.0 after (subst IsSize c.in-Some.ensures.size c.cells.ensures.size) (c.cells.ensures.cells ∙ ap cells_in c.in-Some.ensures.size)
    (subst (λ (z : ℤ). Refuses c.in_err-cells.field-0.0 (cells_from z c.cells.result 0 left)) (null_kept c.args.bytes.now pairs.found left c.next_byte-end.result head c.in_ok-pairs.ensures.pairs c.in_ok-head.ensures) c.in_err-cells.ensures))

pub of_cells-requires : goal.of_cells-requires
of_cells-requires c =
    omega (arith, cells_count (to_z w64 (of_z w64 c.in_ok-head.head.null)) c.cells.result 0 (tokens_left c.args.bytes.now c.in_ok-pairs.pairs.next) c.in_ok-cells.cells.items c.in_ok-cells.ensures, c.cells.ensures.cells)

pub returns-clause-reads : goal.returns-clause-reads
returns-clause-reads c =
    let pairs = c.in_ok-pairs.pairs in
    let left = tokens_left c.args.bytes.now pairs.next in
    let head = head_of c.in_ok-head.head in
    grid_read c.args.bytes.now c.args.stamp head left c.cells.result c.in_ok-cells.cells.items c.in_ok-cells.cells.items c.in-Some.extent c.in_ok-layer.layer
    (grid_in-after c.args.bytes.now pairs.found left c.next_byte-end.result head c.in_ok-pairs.ensures.pairs c.next_byte-end.ensures c.in_ok-head.ensures)
    c.cells.ensures.size c.in-Some.ensures.size c.cells.ensures.cells
    (subst (λ (z : ℤ). cells_from z c.cells.result 0 left ≡ Ok c.in_ok-cells.cells.items) (null_kept c.args.bytes.now pairs.found left c.next_byte-end.result head c.in_ok-pairs.ensures.pairs c.in_ok-head.ensures) c.in_ok-cells.ensures) c.in_ok-layer.ensures refl

pub returns-clause-header : goal.returns-clause-header
returns-clause-header c =
    let pairs = c.in_ok-pairs.pairs in
    let bytes = c.args.bytes.now in
    (sound_head c.next_byte-end.result pairs.found (head_of c.in_ok-head.head) c.in_ok-head.ensures
    (sound_pairs (length bytes + 1) nothing pairs.found (tokens_of bytes) (tokens_left bytes pairs.next) c.in_ok-pairs.ensures.pairs sound_nothing)).header

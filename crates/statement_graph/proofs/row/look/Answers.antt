use Rattle.std.proofs.Common.{ap, sym, ◌∙◌, ◌<◌, length, arith, slice_get, bytes_eq, None, false}
use Rattle.std.specs.Option.{option_and_then}
use Rattle.std.proofs.lemmas.Option.{slice_get-get_or}
use Rattle.statement_graph.specs.Seats.{name_at}
use Rattle.statement_graph.proofs.Finding.{place_of-entries, place_within}
use Rattle.statement_graph.proofs.row.look.Goals as goal

pub returns-in-None : goal.returns-in-None
returns-in-None c =
    sym (ap (option_and_then (slice_get c.args.rows.now)) (place_of-entries c.args.entries.now c.args.name.now ∙ sym c.place_of.ensures ∙ c.in-None.is))

pub returns-in-Some : goal.returns-in-Some
returns-in-Some c =
    let within : c.in-Some.at < length c.args.entries.now = place_within (λ e. bytes_eq (name_at e) c.args.name.now) c.args.entries.now c.in-Some.at c.place_of.result c.place_of.ensures c.in-Some.is in
    sym (ap (option_and_then (slice_get c.args.rows.now)) (place_of-entries c.args.entries.now c.args.name.now ∙ sym c.place_of.ensures ∙ c.in-Some.is)
    ∙ slice_get-get_or c.args.rows.now c.in-Some.at (record { depth = 0; lack = None; reached = false }) (omega arith))

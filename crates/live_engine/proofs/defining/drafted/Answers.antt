use Rattle.std.proofs.Common.{sym, subst}
use Rattle.kept_map.specs.Maps.{seen}
use Rattle.live_engine.specs.Accepts.{Refuses}
use Rattle.live_engine.specs.Defining.{defines}
use Rattle.live_engine.specs.declared.edits.Refusal.{Refusal}
use Rattle.live_engine.proofs.Drafting.{defined_source, stands_for_none, defined_beyond, fits_graph, defined_not_put, defined_draft}
use Rattle.live_engine.proofs.defining.drafted.Goals as goal

pub returns-in-Source-clause-drafted : goal.returns-in-Source-clause-drafted
returns-in-Source-clause-drafted c = defined_source c.args.map.now c.requires.kept c.args.name c.args.written c.in-Source.ensures

pub returns-in-Err-clause-drafted : goal.returns-in-Err-clause-drafted
returns-in-Err-clause-drafted c =
    stands_for_none c.args.map.now c.requires.kept c.args.name c.args.written c.kind_of.result c.kind_of.ensures c.in_default.not-Source c.in-Err.refusal c.in-Err.ensures.flats

pub returns-in-Some-clause-drafted : goal.returns-in-Some-clause-drafted
returns-in-Some-clause-drafted c =
    defined_beyond c.args.map.now c.requires.kept c.args.name c.args.written c.kind_of.result c.kind_of.ensures c.in_default.not-Source c.in-Ok.flats c.in-Ok.ensures.flats.0
    _ c.as_slice.ensures.value c.in-Some.which c.in-Some.ensures

pub with_statement-requires : goal.with_statement-requires
with_statement-requires c =
    fits_graph c.args.map.now c.requires.kept c.args.name c.args.written c.kind_of.result c.kind_of.ensures c.in_default.not-Source c.in-Ok.flats c.in-Ok.ensures.flats.0
    _ c.as_slice.ensures.value c.in_default-beyond.ensures _ c.as_slice-2.ensures.value c.in-Ok.ensures.named

pub returns-in-Err-with_statement-clause-drafted : goal.returns-in-Err-with_statement-clause-drafted
returns-in-Err-with_statement-clause-drafted c =
    subst (λ (q : Refusal). Refuses (seen c.args.map.now) (seen c.args.map.now) (defines c.args.name c.args.written) q) (sym c.not_put.ensures)
    (defined_not_put c.args.map.now c.requires.kept c.args.name c.args.written c.kind_of.result c.kind_of.ensures c.in_default.not-Source c.in-Ok.flats c.in-Ok.ensures.flats.0
    _ c.as_slice.ensures.value c.in_default-beyond.ensures _ c.as_slice-2.ensures.value c.in-Err-with_statement.refusal c.in-Err-with_statement.ensures)

pub returns-in-Ok-with_statement-clause-drafted : goal.returns-in-Ok-with_statement-clause-drafted
returns-in-Ok-with_statement-clause-drafted c =
    defined_draft c.args.map.now c.requires.kept c.args.name c.args.written c.kind_of.result c.kind_of.ensures c.in_default.not-Source c.in-Ok.flats c.in-Ok.ensures.flats.0
    _ c.as_slice.ensures.value c.in_default-beyond.ensures _ c.as_slice-2.ensures.value c.in-Ok-with_statement.graph c.in-Ok-with_statement.ensures c.requires.plain c.requires.formed c.in-Ok.ensures.ranges

use Rattle.std.proofs.Common.{refl}
use Rattle.std.specs.Fmt.{digits}
use Rattle.map_defs.specs.Expansion.{expansion_of}
use Rattle.map_defs.specs.Calls.{wrong_call}
use Rattle.map_defs.specs.Depths.{is_looped}
use Rattle.map_examples.proofs.limit_rows.Goals as goal

pub returns : goal.returns
unfolding digits expansion_of wrong_call is_looped
returns c = record { last_source = refl; one_source_more = refl; last_statement = refl; one_statement_more = refl; last_zonal = refl; one_zonal_more = refl; zonal_again = refl; last_procedure = refl; one_procedure_more = refl; last_label = refl; one_label_more = refl; label_again = refl; one_symbol_more = refl }

use Rattle.std.proofs.Common.{slice_get, length, refl, sym, ap, ◌∙◌, bytes_eq}
use Rattle.std.proofs.lemmas.Option.{slice_get_read}
use Rattle.indexmap.specs.IndexSet.{insert_key}
use Rattle.kept_map.proofs.Copied.{name_next}
use Rattle.kept_map.proofs.copying.copy_names.Goals as goal

pub loop-name-preserved : goal.loop-name-preserved
loop-name-preserved c =
    let listed = c.as_slice-name-items.result.now in
    let at = slice_get_read listed (length listed) c.loop-name.name-index c.name-item.result refl c.loop-name-test.true c.name-item.is in
    c.in_ok-insert.ensures.keys
    ∙ ap (insert_key bytes_eq c.loop-name.copies.keys) c.in_ok-copy.ensures
    ∙ name_next c.args.names.now.keys c.loop-name.copies.keys c.loop-name.name-index c.name-item.result c.as_slice-name-items.ensures.unique c.loop-name.invariant
    (ap (λ ks. slice_get ks c.loop-name.name-index) (sym c.as_slice-name-items.ensures.keys) ∙ at)

use Rattle.std.proofs.Common.{◌≡◌, ◌<◌, ◌-◌, ◌++◌, sym, ◌∙◌, ap, length, min, take, arith}
use Rattle.std.proofs.lemmas.Bool.{eqb-true, eqb-false}
use Rattle.map_run.proofs.KeptLemmas.{kept_more, kept_nothing, no_bytes}
use Rattle.map_run.proofs.piece.Piece.extend.Goals as goal

pub returns-clause-kept : goal.returns-clause-kept
returns-clause-kept c piece was =
    let bytes = c.args.bytes.now in
    let kept = c.args.self.now.kept in
    let some : 0 < length bytes = omega (arith, eqb-false (length bytes) 0 (sym c.is_empty.ensures ∙ c.if-is_empty.false)) in
    let room : c.min-room.result ≡ min (length bytes) (4097 - length kept.items) = omega (arith, kept.ok.0, c.min-room.ensures) in
    kept_more piece kept.items c.extend_from_slice.new.self.items bytes _ _ c.ends_with_return-self.result was some
    (c.in_ok-extend_from_slice.ensures.items ∙ ap (λ n. kept.items ++ take n bytes) room) (c.ends_with_return-self.ensures.last some)

pub returns-then-is_empty-clause-kept : goal.returns-then-is_empty-clause-kept
returns-then-is_empty-clause-kept c piece was =
    kept_nothing piece _ c.args.bytes.now _ _ was (no_bytes c.args.bytes.now (eqb-true (length c.args.bytes.now) 0 (sym c.is_empty.ensures ∙ c.if-is_empty.true)))

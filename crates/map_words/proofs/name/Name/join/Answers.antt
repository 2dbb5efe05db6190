use Rattle.std.proofs.Common.{◌++◌, ◌∷◌, sym, ap, subst, ◌∙◌}
use Rattle.std.specs.Prelude.{IsTrue}
use Rattle.map_words.specs.Names.{is_name}
use Rattle.map_words.proofs.Joined.{joined_name}
use Rattle.map_words.proofs.name.Name.join.Goals as goal

pub invariant_of-result : goal.invariant_of-result
invariant_of-result c =
    let a = c.args.self.now in
    let b = c.args.inner.now in
    let e = c.in_ok-bytes.ensures ∙ ap (λ t. t ++ 46 ∷ c.bytes-2.result.now) c.bytes.ensures.value ∙ ap (λ t. a ++ 46 ∷ t) c.bytes-2.ensures.value in
    subst (λ t. IsTrue (is_name t)) (sym e) (joined_name a b c.bytes.ensures.name c.bytes-2.ensures.name c.requires.outer c.requires.short)

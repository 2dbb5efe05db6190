-- Worked procedures may be called.
use Rattle.std.proofs.Common.{[], ◌∷◌, codes, refl, inl, inr, arith}
use Rattle.map_defs.specs.Calls.{wrong_call}
use Rattle.map_defs.specs.FlatNames.{IsIn}
use Rattle.map_defs.specs.MadeProcedures.{IsBody, AreMade}
use Rattle.procedure_expand.specs.CalledProcedures.{AreShort}
use Rattle.procedure_expand.specs.WorkedProcedures.{twice, again, MayBeCalled}

not_x : IsIn (codes "x") (codes "result" ∷ []) → ⊥
not_x (inl e) = absurd cc
not_x (inr h) = h

not_y : IsIn (codes "y") (codes "result" ∷ []) → ⊥
not_y (inl e) = absurd cc
not_y (inr h) = h

pub twice_body : IsBody twice.body
twice_body = (refl, refl, not_x, (refl, (refl, tt)), (refl, (refl, tt)))

pub again_body : IsBody again.body
again_body = (refl, refl, not_y, (refl, tt), (refl, (refl, tt)))

pub twice_short : AreShort twice.body
twice_short = (omega arith, (omega arith, tt))

pub again_short : AreShort again.body
again_short = (omega arith, (omega arith, tt))

worked_made : AreMade (twice ∷ again ∷ [])
unfolding wrong_call
worked_made = (refl, refl, twice_body, (refl, refl, again_body, tt))

pub may_be_called : MayBeCalled
may_be_called = record { made = worked_made; short = (twice_short, (again_short, tt)); few = omega arith }

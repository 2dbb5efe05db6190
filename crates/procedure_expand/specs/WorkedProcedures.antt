-- Worked procedures that may be called.
use Rattle.std.specs.Prelude.{false, pos, [], ◌∷◌, codes}
use Rattle.map_nums.specs.declared.Stat.TheVariants.{Sum, Product}
use Rattle.map_defs.specs.Ops.{Name, Term, layer_term, number_term, local_op}
use Rattle.map_defs.specs.Statements.{Written, plain, call, Inner, Procedure}
use Rattle.procedure_expand.specs.CalledProcedures.{AreProcs}

abbrev pub inner : Name → Written → Inner
inner n w = record { name = n; written = w }

abbrev pub layer : Name → Term
layer n = layer_term n

-- procedure Twice(P, K): x = LocalSum of P and K; result = LocalProduct of x and 2
abbrev pub twice : Procedure
twice = record {
  name = codes "Twice";
  takes = codes "P" ∷ codes "K" ∷ [];
  body = inner (codes "x") (plain (local_op Sum false (layer (codes "P") ∷ layer (codes "K") ∷ [])))
      ∷ inner (codes "result") (plain (local_op Product false (layer (codes "x") ∷ number_term (pos 2) ∷ []))) ∷ [];
}

-- procedure Again(T): y = Twice(T, 1); result = Twice(y, 5)
abbrev pub again : Procedure
again = record {
  name = codes "Again";
  takes = codes "T" ∷ [];
  body = inner (codes "y") (call (codes "Twice") (layer (codes "T") ∷ number_term (pos 1) ∷ []))
      ∷ inner (codes "result") (call (codes "Twice") (layer (codes "y") ∷ number_term (pos 5) ∷ [])) ∷ [];
}

abbrev pub MayBeCalled : Type 0
MayBeCalled = AreProcs (twice ∷ again ∷ [])

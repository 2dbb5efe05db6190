-- Displays, labels and procedures.
use Rattle.std.specs.Prelude.{[], ◌∷◌, ◌++◌, codes}
use Rattle.map_machine.specs.Openings.{goes_on}
use Rattle.map_examples.specs.Runs.{loading, A, map_of, ok, Comes}

pub record DisplayRows : Type 0 where
  pub displays : Comes (loading (A (map_of 2 3 (codes "1 1 2\n-9999 12 -5\n")) ∷ []) (codes "label A 1 dry land\nsymbol A 2 ~\nB = LocalMinimum of A and 1\nlegend A\nshow A\ntable B A\n")) (ok 1 1 1 0 ++ ok 2 0 0 0 ++ ok 3 0 0 0 ++ ok 4 1 1 0 ++ codes "legend A 5\nnull 1 .\n-5 1 -\n1 2 1 dry land\n2 1 ~\n12 1 *\nshow A 2 3\n11~\n.*-\ntable B A 5\nnull null 1\n-5 -5 1\n1 1 2\n1 2 1\n1 12 1\n") goes_on 384 0
  pub procedures : Comes (loading (A (map_of 3 3 (codes "1 2 3\n4 5 6\n7 8 9\n")) ∷ []) (codes "procedure Twice(P, K): x = LocalSum of P and K; result = LocalProduct of x and 2\nB = Twice(A, 3)\nvalue B.x 1 1\nvalue B 1 1\nC = Twice(A)\nC = Nope(A)\nprocedure Twice(P): result = LocalSum of P and 1\nlist\n")) (ok 1 1 1 0 ++ ok 2 0 0 0 ++ ok 3 2 2 0 ++ codes "value B.x 1 1 4\nvalue B 1 1 8\nrefused count 1 2\nrefused procedure Nope\nrefused exists Twice\nlist 3\nprocedure Twice(P, K): x = LocalSum of P and K; result = LocalProduct of x and 2\nsource A\nB = Twice(A, 3)\n") goes_on 194 2
  pub sixty_four_flat_statements : Comes (loading (A (map_of 3 3 (codes "1 2 3\n4 5 6\n7 8 9\n")) ∷ []) (codes "procedure P(T): y1 = LocalSum of T and 1; y2 = LocalSum of T and 1; y3 = LocalSum of T and 1; y4 = LocalSum of T and 1; y5 = LocalSum of T and 1; y6 = LocalSum of T and 1; y7 = LocalSum of T and 1; y8 = LocalSum of T and 1; y9 = LocalSum of T and 1; y10 = LocalSum of T and 1; y11 = LocalSum of T and 1; y12 = LocalSum of T and 1; y13 = LocalSum of T and 1; y14 = LocalSum of T and 1; y15 = LocalSum of T and 1; result = LocalSum of T and 1\nprocedure Q(T): x1 = P(T); x2 = P(T); x3 = P(T); result = P(T)\nB = Q(A)\nC = LocalSum of A and 1\n")) (ok 1 1 1 0 ++ ok 2 0 0 0 ++ ok 3 0 0 0 ++ ok 4 64 64 0 ++ codes "refused limit statements\n") goes_on 4160 0
  pub eighty_flat_statements : Comes (loading (A (map_of 3 3 (codes "1 2 3\n4 5 6\n7 8 9\n")) ∷ []) (codes "procedure P(T): y1 = LocalSum of T and 1; y2 = LocalSum of T and 1; y3 = LocalSum of T and 1; y4 = LocalSum of T and 1; y5 = LocalSum of T and 1; y6 = LocalSum of T and 1; y7 = LocalSum of T and 1; y8 = LocalSum of T and 1; y9 = LocalSum of T and 1; y10 = LocalSum of T and 1; y11 = LocalSum of T and 1; y12 = LocalSum of T and 1; y13 = LocalSum of T and 1; y14 = LocalSum of T and 1; y15 = LocalSum of T and 1; result = LocalSum of T and 1\nprocedure Q(T): x1 = P(T); x2 = P(T); x3 = P(T); x4 = P(T); result = P(T)\nB = Q(A)\n")) (ok 1 1 1 0 ++ ok 2 0 0 0 ++ ok 3 0 0 0 ++ codes "refused limit statements\n") goes_on 64 0
  -- labels stay over a rewriting, and go with a drop
  pub labels_go : Comes (loading (A (map_of 1 1 (codes "7\n")) ∷ []) (codes "B = LocalSum of A and 1\nlabel A 7 low\nlabel B 8 high\nlabel B 8 higher\nB = LocalProduct of A and 1\nB = LocalSum of A and 1\nlegend B\ndrop A\nlegend B\nstamps B\nnew A 7\nlegend A\nlegend B\n"))
      (ok 1 1 1 0 ++ ok 2 1 1 0 ++ ok 3 0 0 0 ++ ok 4 0 0 0 ++ ok 5 0 0 0 ++ ok 6 1 1 0 ++ ok 7 1 1 0 ++ codes "legend B 1\n8 1 8 higher\n" ++ ok 8 0 0 0 ++ codes "undefined B: A\nundefined B: A\n" ++ ok 9 2 2 0 ++ codes "legend A 1\n7 1 7\nlegend B 1\n8 1 8 higher\n") goes_on 576 0

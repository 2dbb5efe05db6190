-- Expansion of calls, worked.
use Rattle.std.specs.Prelude.{false, ◌≡◌, ℕ, pos, List, [], ◌∷◌, ◌++◌, map, length, Some, None, Result, Ok, Err, codes}
use Rattle.map_nums.specs.declared.Stat.{Stat}
use Rattle.map_nums.specs.declared.Stat.TheVariants.{Sum, Product}
use Rattle.map_defs.specs.Ops.{Name, Term, layer_term, number_term, Op, local_op}
use Rattle.map_defs.specs.Statements.{Written, plain, call, Flat, Inner, Procedure}
use Rattle.map_defs.specs.Expansion.{WrongCall, not_defined, wrong_count, expansion_of}
use Rattle.map_defs.specs.Calls.{wrong_call}

abbrev pub layer : List ℕ → Term
layer n = layer_term n

abbrev pub number : ℕ → Term
number n = number_term (pos n)

abbrev pub of_two : Stat → Term → Term → Op
of_two stat a b = local_op stat false (a ∷ b ∷ [])

abbrev pub inner : Name → Written → Inner
inner n w = record { name = n; written = w }

abbrev pub flat : Name → Op → Flat
flat n op = record { name = n; op = op }

-- Twice(P, K): x = LocalSum of P and K; result = LocalProduct of x and 2
abbrev pub twice : Procedure
twice = record {
  name = codes "Twice";
  takes = codes "P" ∷ codes "K" ∷ [];
  body = inner (codes "x") (plain (of_two Sum (layer (codes "P")) (layer (codes "K")))) ∷ inner (codes "result") (plain (of_two Product (layer (codes "x")) (number 2))) ∷ [];
}

-- Nest(P): x = Twice(P, P); result = Twice(x, 1)
abbrev pub nest : Procedure
nest = record {
  name = codes "Nest";
  takes = codes "P" ∷ [];
  body = inner (codes "x") (call (codes "Twice") (layer (codes "P") ∷ layer (codes "P") ∷ [])) ∷ inner (codes "result") (call (codes "Twice") (layer (codes "x") ∷ number 1 ∷ [])) ∷ [];
}

-- P(T): 16 statements, each LocalSum of T and 1
abbrev pub sixteen : Procedure
sixteen = record {
  name = codes "P";
  takes = codes "T" ∷ [];
  body = map (λ n. inner n (plain (of_two Sum (layer (codes "T")) (number 1)))) (map (λ b. b ∷ []) (97 ∷ 98 ∷ 99 ∷ 100 ∷ 101 ∷ 102 ∷ 103 ∷ 104 ∷ 105 ∷ 106 ∷ 107 ∷ 108 ∷ 109 ∷ 110 ∷ 111 ∷ []) ++ codes "result" ∷ []);
}

-- Q(T): a call of P for each of these names, and for result
abbrev pub calls : List Name → Procedure
calls ns = record { name = codes "Q"; takes = codes "T" ∷ []; body = map (λ n. inner n (call (codes "P") (layer (codes "T") ∷ []))) (ns ++ codes "result" ∷ []) }

abbrev pub count_of : Result (List Flat) WrongCall → ℕ
count_of (Ok fs) = length fs
count_of (Err w) = 0

pub record ExpansionRows : Type 0 where
  pub plainly : expansion_of [] (codes "B") (plain (of_two Sum (layer (codes "A")) (number 3))) ≡ Ok (flat (codes "B") (of_two Sum (layer (codes "A")) (number 3)) ∷ [])
  pub one_call : expansion_of (twice ∷ []) (codes "B") (call (codes "Twice") (layer (codes "A") ∷ number 3 ∷ []))
      ≡ Ok (flat (codes "B.x") (of_two Sum (layer (codes "A")) (number 3)) ∷ flat (codes "B") (of_two Product (layer (codes "B.x")) (number 2)) ∷ [])
  pub nested : expansion_of (twice ∷ nest ∷ []) (codes "B") (call (codes "Nest") (layer (codes "A") ∷ []))
      ≡ Ok (flat (codes "B.x.x") (of_two Sum (layer (codes "A")) (layer (codes "A"))) ∷ flat (codes "B.x") (of_two Product (layer (codes "B.x.x")) (number 2))
      ∷ flat (codes "B.result.x") (of_two Sum (layer (codes "B.x")) (number 1)) ∷ flat (codes "B") (of_two Product (layer (codes "B.result.x")) (number 2)) ∷ [])
  pub few_given : expansion_of (twice ∷ []) (codes "C") (call (codes "Twice") (layer (codes "A") ∷ [])) ≡ Err (wrong_count 1 2)
  pub not_there : expansion_of (twice ∷ []) (codes "C") (call (codes "Nope") (layer (codes "A") ∷ [])) ≡ Err (not_defined (codes "Nope"))
  pub sixty_four : count_of (expansion_of (sixteen ∷ calls (codes "x1" ∷ codes "x2" ∷ codes "x3" ∷ []) ∷ []) (codes "B") (call (codes "Q") (layer (codes "A") ∷ []))) ≡ 64
  pub eighty : count_of (expansion_of (sixteen ∷ calls (codes "x1" ∷ codes "x2" ∷ codes "x3" ∷ codes "x4" ∷ []) ∷ []) (codes "B") (call (codes "Q") (layer (codes "A") ∷ []))) ≡ 80
  pub good_body : wrong_call (twice ∷ []) nest.body ≡ None
  pub wrong_body : wrong_call [] nest.body ≡ Some (not_defined (codes "Twice"))

-- The terms of an operation whose numbers are in range.
use Rattle.std.proofs.Common.{◌≤◌, List, [], ◌∷◌, length, arith}
use Rattle.map_defs.specs.Ops.{Term, layer_term, number_term, Head, local_head, Op}
use Rattle.map_defs.specs.Facts.{facts}
use Rattle.statement_parser.specs.Formed.{Each, IsTerm, IsOp}
use Rattle.op_jobs.specs.Ranges.{IsInRange, HasRanges}

-- ---- of a statement that a line may have

term_of_line : (t : Term) → IsTerm t → IsInRange t
term_of_line (layer_term n) is = tt
term_of_line (number_term z) is = is

pub each_of_line : (ts : List Term) → Each IsTerm ts → Each IsInRange ts
each_of_line [] are = tt
each_of_line (t ∷ ts) are = (term_of_line t are.0, each_of_line ts are.1)

pub ranges_of : (op : Op) → IsOp op → HasRanges op
ranges_of op is = (is.0, is.1, each_of_line op.terms is.2)

-- ---- how many terms

takes_some : (head : Head) → 1 ≤ (facts head).least
takes_some (local_head stat ignoring) = omega arith
takes_some head = omega arith

takes_few : (head : Head) → (facts head).most ≤ 8
takes_few (local_head stat ignoring) = omega arith
takes_few head = omega arith

pub terms_some : (op : Op) → HasRanges op → 1 ≤ length op.terms
terms_some op is = omega (arith, takes_some op.head, is.1.0)

pub terms_few : (op : Op) → HasRanges op → length op.terms ≤ 8
terms_few op is = omega (arith, takes_few op.head, is.1.1)

-- How much is read, by one call after another.
use Rattle.std.proofs.Common.{◌≡◌, ◌+◌, ◌-◌, ℕ, true, false, cond, List, length, refl, ap, ◌∙◌, arith}
use Rattle.std.specs.Prelude.{nat_le}
use Rattle.std.proofs.lemmas.Bool.{le-leb}
use Rattle.layer_tiles.specs.Tallies.{TallyState, KeepsParts, RisesBy}
use Rattle.map_edits.specs.Allowances.{Reads, together}
use Rattle.map_edits.specs.CountLaws.{IsWithin}
use Rattle.map_machine.specs.SessionReads.{and_then}
use Rattle.map_machine.proofs.ReadsLemmas.{within_same}
use Rattle.map_run.specs.Progress.{Rises}

pub rises_nothing : (r : Reads) (t : TallyState) → Rises r t t
rises_nothing r t = record { looks_rise = omega arith; picks_rise = omega arith; parts_out_stay = refl; is_part_stays = refl }

pub rises_then : (r q : Reads) (a b c : TallyState) → Rises r a b → Rises q b c → Rises (together r q) a c
rises_then r q a b c m n = record {
  looks_rise = omega (arith, m.looks_rise, n.looks_rise);
  picks_rise = omega (arith, m.picks_rise, n.picks_rise);
  parts_out_stay = n.parts_out_stay ∙ m.parts_out_stay;
  is_part_stays = n.is_part_stays ∙ m.is_part_stays;
}

-- what reads nothing, and then another
pub rises_after : (r : Reads) (a b c : TallyState) → RisesBy 0 0 a b → Rises r b c → Rises r a c
rises_after r a b c m n = record {
  looks_rise = omega (arith, m.looks_rise, n.looks_rise);
  picks_rise = omega (arith, m.picks_rise, n.picks_rise);
  parts_out_stay = n.parts_out_stay ∙ m.parts_out_stay;
  is_part_stays = n.is_part_stays ∙ m.is_part_stays;
}

pub rises_within : (r q : Reads) (a b : TallyState) → IsWithin r q → Rises r a b → Rises q a b
rises_within r q a b w m = record {
  looks_rise = omega (arith, m.looks_rise, w.looks);
  picks_rise = omega (arith, m.picks_rise, w.picks);
  parts_out_stay = m.parts_out_stay;
  is_part_stays = m.is_part_stays;
}

within_first : (a b : Reads) → IsWithin a (together a b)
within_first a b = record { looks = omega arith; picks = omega arith }

-- a reply that is whole among the bytes written
pub and_then-whole : (r : Reads) (reply : List ℕ) (n : ℕ) (next : ℕ → Reads) → and_then r reply (length reply + n) next ≡ together r (next n)
and_then-whole r reply n next =
    let whole : nat_le (length reply) (length reply + n) ≡ true = le-leb (length reply) (length reply + n) (omega arith) in
    let left : (length reply + n) - length reply ≡ n = omega arith in
    rw (whole) (ap (λ k. together r (next k)) left)

-- a command may read all that is its own, whatever was written of its reply
pub and_then-own : (r : Reads) (reply : List ℕ) (n : ℕ) (next : ℕ → Reads) → IsWithin r (and_then r reply n next)
and_then-own r reply n next = elim (nat_le (length reply) n) as (λ t. IsWithin r (cond t (together r (next (n - length reply))) r)) [
  | true ↦ within_first r (next (n - length reply))
  | false ↦ within_same r
]

-- calls that leave the parts of a tally, one after another
pub keeps_then : (a b c : TallyState) → KeepsParts a b → KeepsParts b c → KeepsParts a c
keeps_then a b c p q = (q.0 ∙ p.0, q.1 ∙ p.1)

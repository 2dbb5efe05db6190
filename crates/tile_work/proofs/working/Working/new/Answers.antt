use Rattle.std.proofs.Common.{◌≡◌, ◌∷◌, ◌++◌, [], ℕ, List, Option, None, ap, subst, sym, ◌∙◌, length, map, replicate}
use Rattle.std.specs.Prelude.{is_some}
use Rattle.std.specs.Option.{option_copied}
use Rattle.std.proofs.lemmas.List.{length-replicate}
use Rattle.layer_tiles.specs.Tiles.{Block}
use Rattle.tile_work.specs.Working.{before_of, slot_at, copies, seated_tiles, AreTileSeats}
use Rattle.tile_work.proofs.Numbers.{copied_none}
use Rattle.tile_work.proofs.Seats.{begun_seats, nobody}
use Rattle.tile_work.proofs.Slots.{begun_work, no_slot, no_copies, none_block}
use Rattle.tile_work.proofs.working.Working.new.Goals as goal
use Rattle.tile_work.proofs.working.Working.new.Goals.{In_ok-push}

seats_are : (c : In_ok-push) → c.in_ok-seats.seats.items ≡ replicate c.tiles.result 0
seats_are c = c.in_ok-seats.ensures.items_if_clones_equal (λ y e. e)

tiles_are : (c : In_ok-push) → c.push.new.self.items ≡ none_block ∷ []
tiles_are c = c.in_ok-push.ensures.items ∙ ap (λ (xs : List (Option Block)). xs ++ none_block ∷ []) c.new-tiles.ensures.items

none_copied : (c : In_ok-push) → seated_tiles c.push.new.self.items c.in_ok-seats.seats.items ≡ replicate c.tiles.result none_block
none_copied c = ap (λ xs. seated_tiles xs c.in_ok-seats.seats.items) (tiles_are c) ∙ ap (seated_tiles (none_block ∷ [])) (seats_are c) ∙ nobody none_block c.tiles.result

pub returns-clause-cells : goal.returns-clause-cells
returns-clause-cells c =
    let d = (goal.at.returns-clause-cells c).In_ok-push in
    begun_work c.args.extent (before_of (option_copied c.args.base)) (seated_tiles c.push.new.self.items c.in_ok-seats.seats.items) (λ t. ap (λ xs. slot_at xs t) (none_copied d) ∙ no_slot c.tiles.result t)

pub returns-clause-copied : goal.returns-clause-copied
returns-clause-copied c = ap (λ (xs : List (Option Block)). copies (map is_some xs)) (none_copied (goal.at.returns-clause-copied c).In_ok-push) ∙ no_copies c.tiles.result

pub invariant_of-result : goal.invariant_of-result
invariant_of-result c =
    let d = (goal.at.invariant_of-result c).In_ok-push in
    let e = none_copied d in
    let slots = seated_tiles c.push.new.self.items c.in_ok-seats.seats.items in
    let none : (t : ℕ) → slot_at slots t ≡ None = λ t. ap (λ xs. slot_at xs t) e ∙ no_slot c.tiles.result t in
    let P : List (Option Block) → List ℕ → Type 0 = AreTileSeats in (
      record { size = c.tiles.ensures.size; is_old = c.requires; count = ap length e ∙ length-replicate c.tiles.result none_block ∙ c.tiles.ensures.tiles; sizes = λ t b q. absurd (let z = none t in cc) },
      rw (e, c.new.ensures.items) (copied_none c.tiles.result),
      subst (λ xs. P xs c.in_ok-seats.seats.items) (sym (tiles_are d)) (subst (P (none_block ∷ [])) (sym (seats_are d)) (begun_seats none_block c.tiles.result)),
    )

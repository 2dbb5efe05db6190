use Rattle.std.proofs.Common.{◌≡◌, ℕ, List, [], ◌∷◌, ◌++◌, replicate, Vec, Global, sym, ap, subst, ◌∙◌}
use Rattle.tile_work.specs.PlaceSets.{IsPlaceSet, lists_of, marks_of, seated_words}
use Rattle.tile_work.specs.Seats.{AreSeats, seated}
use Rattle.tile_work.proofs.Marks.{begun_marks, begun_set, no_words}
use Rattle.tile_work.proofs.Seats.{begun_seats, nobody}
use Rattle.tile_work.proofs.place_sets.PlaceSet.new.Goals as goal
use Rattle.tile_work.proofs.place_sets.PlaceSet.new.Goals.{In_ok-push}

lists_are : (c : In_ok-push) → lists_of c.push.new.self.items ≡ no_words ∷ []
lists_are c = ap lists_of (c.in_ok-push.ensures.items ∙ ap (λ (vs : List (Vec ℕ Global)). vs ++ c.new.result ∷ []) c.new-words.ensures.items) ∙ ap (λ ws. ws ∷ []) c.new.ensures.items

seats_are : (c : In_ok-push) → c.in_ok-seats.seats.items ≡ replicate c.tiles.result 0
seats_are c = c.in_ok-seats.ensures.items_if_clones_equal (λ y e. e)

seated_are : (c : In_ok-push) → seated_words c.push.new.self.items c.in_ok-seats.seats.items ≡ replicate c.tiles.result no_words
seated_are c = ap (λ ls. seated no_words ls c.in_ok-seats.seats.items) (lists_are c) ∙ ap (seated no_words (no_words ∷ [])) (seats_are c) ∙ nobody no_words c.tiles.result

pub invariant_of-result : goal.invariant_of-result
invariant_of-result c =
    let d = (goal.at.invariant_of-result c).In_ok-push in
    let P : List (List ℕ) → Type 0 = IsPlaceSet c.args.extent in
    let Q : List (List ℕ) → Type 0 = λ ls. AreSeats no_words ls c.in_ok-seats.seats.items in
    let R : List ℕ → Type 0 = AreSeats no_words (no_words ∷ []) in (
      subst P (sym (seated_are d)) (begun_set c.args.extent c.tiles.result c.tiles.ensures.size c.tiles.ensures.tiles),
      subst Q (sym (lists_are d)) (subst R (sym (seats_are d)) (begun_seats no_words c.tiles.result)),
    )

pub returns : goal.returns
returns c = ap (λ ms. record { size = c.args.extent; marks = ms }) (ap (marks_of c.args.extent) (seated_are (goal.at.returns c).In_ok-push) ∙ begun_marks c.args.extent c.tiles.result)

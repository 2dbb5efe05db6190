-- A statement's places as they are made.
use Rattle.std.proofs.Common.{◌≡◌, List, [], ◌∷◌, ◌++◌, map, refl, ap, ◌∙◌, sym}
use Rattle.statement_graph.specs.declared.node.Node.{Node as Given}
use Rattle.statement_graph.specs.declared.node.Entry.{Entry}
use Rattle.statement_graph.specs.declared.node.Entry.TheVariants.{Inner, Own}
use Rattle.statement_graph.specs.Puts.{flat_node, flat_nodes}
use Rattle.statement_graph.specs.Seats.{seats}
use Rattle.statement_graph.specs.Fresh.{group_seats, inner_seat}

group_parts : (front : List Given) (own : Given) → seats (map Inner front ++ Own own ∷ []) ≡ group_seats (flat_nodes (front ++ own ∷ []))
group_parts [] own = refl
group_parts (f ∷ []) own = refl
group_parts (f ∷ g ∷ fs) own = ap (λ l. inner_seat (flat_node f) ∷ l) (group_parts (g ∷ fs) own)

pub group_made : (items front : List Given) (own : Given) (entries made : List Entry) → items ≡ front ++ own ∷ [] → entries ≡ map Inner front → made ≡ entries ++ Own own ∷ []
    → seats made ≡ group_seats (flat_nodes items)
group_made items front own entries made e inner m =
    ap seats (m ∙ ap (λ l. l ++ Own own ∷ []) inner) ∙ group_parts front own ∙ ap (λ l. group_seats (flat_nodes l)) (sym e)

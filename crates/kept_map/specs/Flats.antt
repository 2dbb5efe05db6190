-- The flat statements of a map by name, at rest and after an edit.
use Rattle.std.specs.Prelude.{ℕ, Bool, true, false, List, [], ◌∷◌, ◌++◌, map, flat_map, bytes_eq, if◌then◌else◌}
use Rattle.map_defs.specs.Ops.{Name}
use Rattle.statement_parser.specs.declared.op.Op.{Op as Given}
use Rattle.procedure_expand.specs.declared.flat.Flat.{Flat}
use Rattle.map_waves.specs.declared.plans.Step.{Step}
use Rattle.edit_plans.specs.Planned.{FlatDef}
use Rattle.edit_plans.specs.declared.planning.Planned.{Planned}
use Rattle.kept_map.specs.declared.maps.Item.{Item}
use Rattle.kept_map.specs.declared.maps.Item.TheVariants.{Source, Statement}

-- those of a plan
abbrev pub flats_of_steps : List Name → List (Step Given) → List (List ℕ × FlatDef)
flats_of_steps [] steps = []
flats_of_steps (n ∷ names) [] = []
flats_of_steps (n ∷ names) (x ∷ steps) = (n, record { op = x.op; written = x.written }) ∷ flats_of_steps names steps

abbrev pub flats_kept : Planned → List (List ℕ × FlatDef)
flats_kept planned = flats_of_steps planned.names.keys planned.steps.items

-- ---- after an edit of a name

abbrev pub flat_def : Bool → Flat → List ℕ × FlatDef
flat_def written f = (f.name, record { op = f.op; written = written })

abbrev pub item_flats : Item → List (List ℕ × FlatDef)
item_flats Source = []
item_flats (Statement written flats) = map (flat_def false) flats.items

-- those that the edit wrote, and those of all other names
abbrev pub flats_after : List (List ℕ × Item) → Name → List Flat → List (List ℕ × FlatDef)
flats_after items edited written = map (flat_def true) written ++ flat_map (λ (e : List ℕ × Item). if bytes_eq e.0 edited then [] else item_flats e.1) items

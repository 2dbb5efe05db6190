-- What a statement stands for.
use Rattle.std.specs.Prelude.{◌≡◌, ◌<◌, ◌≤◌, List, length, Result, Ok, Err, Vec, ⊤}
use Rattle.map_defs.specs.Statements.{Flat}
use Rattle.map_defs.specs.Expansion.{WrongCall, not_defined, wrong_count}
use Rattle.map_edits.specs.Limits.{most_flats}
use Rattle.procedure_expand.specs.declared.flat.Flat.{Flat as Held}
use Rattle.procedure_expand.specs.Flats.{flats_view}
use Rattle.procedure_expand.specs.declared.refusal.ExpandRefusal.{ExpandRefusal}
use Rattle.procedure_expand.specs.declared.refusal.ExpandRefusal.TheVariants as expands
use Rattle.live_engine.specs.declared.edits.Which.{Which}
use Rattle.live_engine.specs.declared.edits.Which.TheVariants.{Statements}
use Rattle.live_engine.specs.declared.edits.Refusal.{Refusal}
use Rattle.live_engine.specs.declared.edits.Refusal.TheVariants.{Limit, NoProcedure, Terms, NoMemory}

-- why a call isn't expanded, as a refusal of the edit
abbrev pub not_expanded : ExpandRefusal → Refusal
not_expanded (expands.Unknown n) = NoProcedure n
not_expanded (expands.Count given wanted) = Terms given wanted
not_expanded expands.Limit = Limit Statements
not_expanded expands.NoMemory = NoMemory

-- the statement alone has too many flat ones
abbrev pub AreTooMany : Result (List Flat) WrongCall → Which → Type 0
AreTooMany all Statements = (fs : List Flat) × (all ≡ Ok fs) × (most_flats < length fs)
AreTooMany all which = ⊥

-- its flat statements, no more than there may be; or what is wrong with it
abbrev pub StandsFor : {A : Type 0} → Result (List Flat) WrongCall → Result (Vec Held A) Refusal → Type 0
StandsFor all (Ok fs) = (all ≡ Ok (flats_view fs.items)) × (length fs.items ≤ most_flats)
StandsFor all (Err (NoProcedure n)) = all ≡ Err (not_defined n)
StandsFor all (Err (Terms given wanted)) = all ≡ Err (wrong_count given wanted)
StandsFor all (Err (Limit which)) = AreTooMany all which
StandsFor all (Err NoMemory) = ⊤
StandsFor all (Err refusal) = ⊥

-- What every line keeps: names, ranges and counts.
use Rattle.std.specs.Prelude.{◌≡◌, ℕ, ◌≤◌, ◌||◌, List, [], ◌∷◌, ◌++◌, length, codes, Option, Some, None, IsTrue, IsFalse}
use Rattle.map_nums.specs.declared.Stat.{Stat}
use Rattle.map_nums.specs.declared.Stat.TheVariants.{Product}
use Rattle.map_nums.specs.declared.Rate.{Rate}
use Rattle.map_nums.specs.Numbers.{is_value, greatest_value}
use Rattle.layer_tiles.specs.Cells.{IsCell}
use Rattle.map_words.specs.Bytes.{Text, is_good}
use Rattle.map_words.specs.Names.{is_plain, is_dotted}
use Rattle.map_defs.specs.Sight.{Sighting}
use Rattle.map_defs.specs.Ops.{Term, layer_term, number_term, Head, rating_head, focal_head, zonal_head, spread_head, nearest_head, sight_head, Op}
use Rattle.map_defs.specs.Facts.{HasTerms}
use Rattle.map_defs.specs.Statements.{Written, plain, call, Inner, Procedure}
use Rattle.statement_parser.specs.Signs.{is_sign}
use Rattle.statement_parser.specs.Scopes.{Scope, has_name, names_before}
use Rattle.statement_parser.specs.Lines.{Edit, define, paint, new_layer, drop, define_procedure, put_label, put_symbol, Item, make, look_at, Request, ask_value, ask_grid, ask_show, ask_legend, ask_table, ask_stamps, ask_list, ask_branches, Line, blank, edit, undo, ask, model, quit}

abbrev pub Each : {A : Type 0} → (A → Type 0) → List A → Type 0
Each P [] = Unit {0}
Each P (x ∷ xs) = P x × Each P xs

abbrev pub IsTerm : Term → Type 0
IsTerm (layer_term n) = IsTrue (is_plain n)
IsTerm (number_term z) = IsTrue (is_value z)

pub record IsRate (r : Rate) : Type 0 where
  pub low : IsTrue (is_value r.low)
  pub high : IsTrue (is_value r.high)
  pub give : IsCell r.give

-- a statistic of a neighbourhood or a zone
abbrev pub IsNoProduct : Stat → Type 0
IsNoProduct Product = ⊥
IsNoProduct s = Unit {0}

abbrev pub IsBetween : ℕ → ℕ → ℕ → Type 0
IsBetween low high n = (low ≤ n) × (n ≤ high)

abbrev pub IsRadius : Option ℕ → Type 0
IsRadius None = Unit {0}
IsRadius (Some r) = IsBetween 1 32 r

pub record IsSighting (s : Sighting) : Type 0 where
  pub from : IsTrue (is_value s.from)
  pub to : IsTrue (is_value s.to)
  pub reach : IsBetween 1 64 s.reach

abbrev pub IsHead : Head → Type 0
IsHead (rating_head rs) = IsBetween 1 32 (length rs) × Each IsRate rs
IsHead (focal_head s r) = IsNoProduct s × IsRadius r
IsHead (zonal_head s) = IsNoProduct s
IsHead (spread_head limit) = limit ≤ greatest_value
IsHead (nearest_head limit) = limit ≤ greatest_value
IsHead (sight_head s) = IsSighting s
IsHead head = Unit {0}

abbrev pub IsOp : Op → Type 0
IsOp o = IsHead o.head × HasTerms o × Each IsTerm o.terms

abbrev pub IsWritten : Written → Type 0
IsWritten (plain o) = IsOp o
IsWritten (call p ts) = IsTrue (is_plain p) × (1 ≤ length ts) × (length ts ≤ 8) × Each IsTerm ts

-- a row or a column
abbrev pub IsSide : ℕ → Type 0
IsSide n = IsBetween 1 4096 n

-- a number, or a name of the scope
abbrev pub InScope : Scope → Term → Type 0
InScope scope (layer_term n) = IsTrue (scope n)
InScope scope (number_term z) = Unit {0}

abbrev pub AreInScope : Scope → Written → Type 0
AreInScope scope (plain o) = Each (InScope scope) o.terms
AreInScope scope (call p ts) = Each (InScope scope) ts

-- the name is new after these
abbrev pub IsFresh : List Text → Text → Type 0
IsFresh ns n = IsTrue (is_plain n) × IsFalse (has_name ns n)

-- each name is new after these and those before it
abbrev pub AreFresh : List Text → List Text → Type 0
AreFresh ns [] = Unit {0}
AreFresh ns (p ∷ ps) = IsFresh ns p × AreFresh (ns ++ p ∷ []) ps

-- a body whose terms are numbers or of these names
abbrev pub IsInner : List Text → Written → Type 0
IsInner ns w = IsWritten w × AreInScope (has_name ns) w

-- statements whose names are new, and whose terms are numbers or of names that stand before
abbrev pub AreInner : List Text → List Inner → Type 0
AreInner ns [] = Unit {0}
AreInner ns (i ∷ is) = IsFresh ns i.name × IsInner ns i.written × AreInner (ns ++ i.name ∷ []) is

-- the last statement of a body is result, and no other
pub record IsBody (ps : List Text) (body : List Inner) : Type 0 where
  pub before : List Inner
  pub last : Written
  pub whole : body ≡ before ++ record { name = codes "result"; written = last } ∷ []
  pub inner : AreInner ps before
  pub result : IsInner (names_before ps before) last

pub record IsProcedure (p : Procedure) : Type 0 where
  pub name : IsTrue (is_plain p.name)
  pub some : IsBetween 1 8 (length p.takes)
  pub takes : AreFresh [] p.takes
  pub few : length p.body ≤ 16
  pub body : IsBody p.takes p.body

-- the text of a label
abbrev pub IsText : Text → Type 0
IsText t = (1 ≤ length t) × (length t ≤ 64) × Each (λ b. IsTrue (is_good b)) t

abbrev pub IsEdit : Edit → Type 0
IsEdit (define n w) = IsTrue (is_plain n) × IsWritten w
IsEdit (define_procedure p) = IsProcedure p
IsEdit (paint n r1 c1 r2 c2 v) = IsTrue (is_plain n) × IsSide r1 × IsSide c1 × IsSide r2 × IsSide c2 × IsCell v
IsEdit (new_layer n v) = IsTrue (is_plain n) × IsCell v
IsEdit (drop n) = IsTrue (is_plain n)
IsEdit (put_label n z t) = IsTrue (is_plain n) × IsTrue (is_value z) × IsText t
IsEdit (put_symbol n z b) = IsTrue (is_plain n) × IsTrue (is_value z) × IsTrue (is_sign b)

-- a plain or a dotted name
abbrev pub IsAny : Text → Type 0
IsAny n = IsTrue (is_plain n || is_dotted n)

-- of the edits, these may be items
abbrev pub IsItem : Item → Type 0
IsItem (make (define n w)) = IsEdit (define n w)
IsItem (make (define_procedure p)) = ⊥
IsItem (make (paint n r1 c1 r2 c2 v)) = IsEdit (paint n r1 c1 r2 c2 v)
IsItem (make (new_layer n v)) = IsEdit (new_layer n v)
IsItem (make (drop n)) = IsEdit (drop n)
IsItem (make (put_label n z t)) = ⊥
IsItem (make (put_symbol n z b)) = ⊥
IsItem (look_at n r c) = IsAny n × IsSide r × IsSide c

abbrev pub IsBranch : List Item → Type 0
IsBranch is = (1 ≤ length is) × Each IsItem is

abbrev pub IsRequest : Request → Type 0
IsRequest (ask_value n r c) = IsAny n × IsSide r × IsSide c
IsRequest (ask_grid n) = IsAny n
IsRequest (ask_show n) = IsAny n
IsRequest (ask_legend n) = IsAny n
IsRequest (ask_table n v) = IsAny n × IsAny v
IsRequest (ask_stamps n) = IsAny n
IsRequest ask_list = Unit {0}
IsRequest (ask_branches bs) = IsBetween 1 16 (length bs) × Each IsBranch bs

abbrev pub IsFormed : Line → Type 0
IsFormed blank = Unit {0}
IsFormed (edit e) = IsEdit e
IsFormed undo = Unit {0}
IsFormed (ask r) = IsRequest r
IsFormed (model l) = Unit {0}
IsFormed quit = Unit {0}

-- The keys that entries say, and lack.
use Rattle.std.specs.Prelude.{◌≡◌, ◌⊎◌, ℕ, List, [], ◌∷◌, codes, filter}
use Rattle.grid_text.specs.Pairs as pairs
use Rattle.grid_text.specs.Pairs.{Entry, IsKey}
use Rattle.grid_text.specs.Saying.{is_columns, is_rows, is_x, is_y, is_size_entry}

-- the token is a key under which such an entry is said
abbrev pub Names : List ℕ → Entry → Type 0
Names name (pairs.columns n) = IsKey (codes "ncols") name
Names name (pairs.rows n) = IsKey (codes "nrows") name
Names name (pairs.x corner) = IsKey (codes "xllcorner") name ⊎ IsKey (codes "xllcenter") name
Names name (pairs.y corner) = IsKey (codes "yllcorner") name ⊎ IsKey (codes "yllcenter") name
Names name (pairs.size text) = IsKey (codes "cellsize") name
Names name (pairs.null z) = IsKey (codes "nodata_value") name

-- it is a key under which an entry is said already
abbrev pub IsSaid : List ℕ → List Entry → Type 0
IsSaid name [] = ⊥
IsSaid name (entry ∷ entries) = Names name entry ⊎ IsSaid name entries

-- it is a key of the table, and not said yet
abbrev pub IsNew : List ℕ → List Entry → Type 0
IsNew name entries = ((entry : Entry) × Names name entry) × (IsSaid name entries → ⊥)

-- it is no key of the table, or said already
abbrev pub IsBad : List ℕ → List Entry → Type 0
IsBad name entries = ((entry : Entry) → Names name entry → ⊥) ⊎ IsSaid name entries

-- a key that is needed is missing
abbrev pub Lacks : List Entry → Type 0
Lacks entries = (filter is_columns entries ≡ []) ⊎ (filter is_rows entries ≡ []) ⊎ (filter is_x entries ≡ []) ⊎ (filter is_y entries ≡ []) ⊎ (filter is_size_entry entries ≡ [])

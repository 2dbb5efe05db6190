-- The stamps that are kept are those of the layers that are defined.
use Rattle.std.proofs.Common.{◌≡◌, ℕ, Bool, true, false, cond, ◌&&◌, List, [], ◌∷◌, map, filter, find, Option, Some, None, is_some, option_map, bytes_eq, refl, sym, ap, ◌∙◌, if◌then◌else◌}
use Rattle.std.proofs.lemmas.Bool.{and_right}
use Rattle.map_defs.specs.Ops.{Name}
use Rattle.map_edits.specs.LayerDefs.{Making, LayerDef, layers, find_making}
use Rattle.map_edits.specs.EngineStates.{EngineState, value_of}
use Rattle.map_edits.specs.WholeStates.{Stamps, WholeState, stamps_of}
use Rattle.map_edits.specs.StampsAfter.{stamps_at}
use Rattle.map_edits.specs.StampLaws.{StampsAreKept}
use Rattle.map_edits.proofs.Among.{same_name}
use Rattle.map_edits.proofs.LawfulEdits.{done_is}

module _ (f : Name → List ℕ) (p : Name → Bool) (n : Name) where
  abbrev pub kept : List LayerDef → List Stamps
  kept ls = map (λ (l : LayerDef). record { name = l.name; stamps = f l.name }) (filter (λ (l : LayerDef). p l.name) ls)

  abbrev pub told : Bool → Option (List ℕ)
  told b = if b then Some (f n) else None

  pub kept_found : (ls : List LayerDef) → stamps_of (kept ls) n ≡ told (is_some (find_making ls n) && p n)
  kept_found [] = refl
  kept_found (l ∷ ls) = go (p l.name) refl (bytes_eq l.name n) refl (kept_found ls)
    where
      go : (b : Bool) → p l.name ≡ b → (c : Bool) → bytes_eq l.name n ≡ c → stamps_of (kept ls) n ≡ told (is_some (find_making ls n) && p n)
          → stamps_of (map (λ (l : LayerDef). record { name = l.name; stamps = f l.name }) (cond b (l ∷ filter (λ (l : LayerDef). p l.name) ls) (filter (λ (l : LayerDef). p l.name) ls))) n
          ≡ told (is_some (option_map (λ (q : LayerDef). q.making) (cond c (Some l) (find (λ (q : LayerDef). bytes_eq q.name n) ls))) && p n)
      go true h true same rest = rw same (ap (λ q. Some (f q)) (same_name l.name n same) ∙ ap told (sym h ∙ ap p (same_name l.name n same)))
      go true h false differs rest = rw differs rest
      go false h true same rest =
          let no : p n ≡ false = ap p (sym (same_name l.name n same)) ∙ h in
          rest ∙ ap told (ap (λ b. is_some (find_making ls n) && b) no ∙ and_right (is_some (find_making ls n)) false refl ∙ sym no)
      go false h false differs rest = rest

pub value_there : (s : EngineState) (n : Name) → (is_some (find_making (layers s.entries) n) && is_some (value_of s n)) ≡ is_some (value_of s n)
unfolding value_of
value_there s n = go (find_making (layers s.entries) n) refl
  where
    go : (o : Option Making) → find_making (layers s.entries) n ≡ o → (is_some o && is_some (value_of s n)) ≡ is_some (value_of s n)
    go None e = rw e refl
    go (Some making) e = refl

pub stamps_are_kept : StampsAreKept
stamps_are_kept s e a n is =
    let r = done_is s e a is in
    let names = r.state.names in
    ap (λ (u : WholeState). stamps_of u.stamps n) (sym r.whole)
    ∙ kept_found (stamps_at s r.state) (λ m. is_some (value_of names m)) n (layers names.entries)
    ∙ ap (λ (b : Bool). if b then Some (stamps_at s r.state n) else None) (value_there names n)
    ∙ ap (λ (u : WholeState). if is_some (value_of u.names n) then Some (stamps_at s u n) else None) r.whole

-- An edit changes no value but those that read what it edits, though a statement may stand for several flat ones.
use Rattle.std.proofs.Common.{◌≡◌, Bool, true, false, cond, ◌==◌, [], ◌∷◌, length, bytes_eq, refl, sym, ap, subst, ◌∙◌, ◌⊎◌, inl, inr, ℕ, zero, suc, ◌||◌, List}
use Rattle.std.proofs.lemmas.Bool.{true≢false, false_from_ne_true, eqb-true, or_parts}
use Rattle.std.specs.List.{list_any}
use Rattle.map_defs.specs.Ops.{Name}
use Rattle.map_defs.specs.FlatNames.{IsInside}
use Rattle.map_defs.specs.Nodes.{needs_in, Node}
use Rattle.map_defs.specs.Depths.{reaches, is_looped}
use Rattle.map_edits.specs.LayerDefs.{nodes_of, layers, find_making}
use Rattle.map_edits.specs.EngineStates.{EngineState, value_of, made}
use Rattle.map_edits.specs.EditForms.{edited}
use Rattle.map_edits.specs.Laws.{is_among, HasNoCycle}
use Rattle.map_edits.specs.WholeStates.{WholeState}
use Rattle.map_edits.specs.WholeEdits.{of_names}
use Rattle.map_edits.specs.ValueLaws.{OthersKeepValues, NoneIsLawful}
use Rattle.map_edits.proofs.Among.{same_name, bytes_eq-self, none_at, any_none}
use Rattle.map_edits.proofs.Kept.{not_here}
use Rattle.map_edits.proofs.Heads.{head_of}
use Rattle.map_edits.proofs.Groups.{apart_from}
use Rattle.map_edits.proofs.GroupsKept.{all_near}
use Rattle.map_edits.proofs.LawfulEdits.{AreGood, good_of, IsGoodChange, of_names_tried, names_changed, done_is}
use Rattle.map_edits.proofs.Chains.{goes_on, chains_end}
use Rattle.map_edits.proofs.Looks.{needs_in-layers}
use Rattle.map_edits.proofs.Unfolds.{made_agree, value_unfolds}

-- ---- names that hold all that they need

module _ (s t : EngineState) (none_s : HasNoCycle (nodes_of s.entries)) (none_t : HasNoCycle (nodes_of t.entries)) (size : s.size ≡ t.size) (P : Name → Type 0)
    (same : (m : Name) → P m → find_making (layers s.entries) m ≡ find_making (layers t.entries) m)
    (closed : (m q : Name) → P m → is_among q (needs_in (nodes_of s.entries) m) ≡ true → P q) where
  agree_by : (k : ℕ) (n : Name) → P n → goes_on k (nodes_of s.entries) n ≡ false → value_of s n ≡ value_of t n
  agree_by zero n p e = absurd (true≢false e)
  agree_by (suc k) n p e =
      let nodes = nodes_of s.entries in
      let making = find_making (layers s.entries) n in
      value_unfolds s none_s n
      ∙ made_agree s.size (value_of s) (value_of t) making (λ m a.
      let needed : is_among m (needs_in nodes n) ≡ true = ap (is_among m) (needs_in-layers (layers s.entries) n) ∙ a in
      agree_by k m (closed n m p needed) (none_at (goes_on k nodes) (needs_in nodes n) m needed e))
      ∙ ap (λ q. made q (value_of t) making) size
      ∙ ap (made t.size (value_of t)) (same n p)
      ∙ sym (value_unfolds t none_t n)

  -- two states that agree on names which hold all that they need agree on the values there
  pub values_agree : (n : Name) → P n → value_of s n ≡ value_of t n
  values_agree n p = agree_by (suc (length (nodes_of s.entries))) n p (chains_end (nodes_of s.entries) none_s n)

-- ---- what never reaches an edited name

-- without a cycle, a name that isn't reached in as many steps as there are nodes isn't reached
reaches_settles : (k : ℕ) (nodes : List Node) (n m : Name) → goes_on (suc k) nodes m ≡ false → reaches k nodes n m ≡ false → reaches (suc k) nodes n m ≡ false
reaches_settles zero nodes n m e r =
    let still : list_any (reaches zero nodes n) (needs_in nodes m) ≡ false = any_none (reaches zero nodes n) (needs_in nodes m) (λ q a. absurd (true≢false (none_at (goes_on zero nodes) (needs_in nodes m) q a e))) in
    ap (λ b. b || list_any (reaches zero nodes n) (needs_in nodes m)) r ∙ still
reaches_settles (suc k) nodes n m e r =
    let parts = or_parts (bytes_eq m n) (list_any (reaches k nodes n) (needs_in nodes m)) r in
    let still : list_any (reaches (suc k) nodes n) (needs_in nodes m) ≡ false = any_none (reaches (suc k) nodes n) (needs_in nodes m)
    (λ q a. reaches_settles k nodes n q (none_at (goes_on (suc k) nodes) (needs_in nodes m) q a e) (none_at (reaches k nodes n) (needs_in nodes m) q a parts.1)) in
    ap (λ b. b || list_any (reaches (suc k) nodes n) (needs_in nodes m)) parts.0 ∙ still

module _ (nodes : List Node) (none : HasNoCycle nodes) (n : Name) where
  abbrev pub IsFree : Name → Type 0
  IsFree m = reaches (length nodes) nodes n m ≡ false

  pub free_needs : (m q : Name) → IsFree m → is_among q (needs_in nodes m) ≡ true → IsFree q
  free_needs m q free a = none_at (reaches (length nodes) nodes n) (needs_in nodes m) q a (or_parts (bytes_eq m n) (list_any (reaches (length nodes) nodes n) (needs_in nodes m)) (reaches_settles (length nodes) nodes n m (chains_end nodes none m) free)).1

-- a name is what stands before its first dot, or begins with it and a dot
head_splits : (m : Name) → (head_of m ≡ m) ⊎ IsInside (head_of m) m
head_splits [] = inl refl
head_splits (b ∷ bs) = go (b == 46) refl (head_splits bs)
  where
    go : (o : Bool) → (b == 46) ≡ o → (head_of bs ≡ bs) ⊎ IsInside (head_of bs) bs → (cond o [] (b ∷ head_of bs) ≡ b ∷ bs) ⊎ IsInside (cond o [] (b ∷ head_of bs)) (b ∷ bs)
    go true e rest = inr (bs, ap (λ c. c ∷ bs) (eqb-true b 46 e))
    go false e (inl same) = inl (ap (λ cs. b ∷ cs) same)
    go false e (inr inside) = inr (inside.0, ap (λ cs. b ∷ cs) inside.1)

-- a name that isn't n and doesn't begin with it has another front
apart_by : (n m : Name) → (IsInside n m → ⊥) → bytes_eq m n ≡ false → bytes_eq n (head_of m) ≡ false
apart_by n m outside differs = false_from_ne_true (bytes_eq n (head_of m)) (λ same. at (head_splits m) (same_name n (head_of m) same))
  where
    at : (head_of m ≡ m) ⊎ IsInside (head_of m) m → n ≡ head_of m → ⊥
    at (inl same) is = true≢false (sym (ap (λ q. bytes_eq q n) (sym (is ∙ same)) ∙ bytes_eq-self n) ∙ differs)
    at (inr inside) is = outside (subst (λ q. IsInside q m) (sym is) inside)

module _ (s t : EngineState) (n : Name) (good : AreGood s.entries) (size : s.size ≡ t.size) (change : IsGoodChange s.entries n t.entries) where
  abbrev IsOther : Name → Type 0
  IsOther m = (bytes_eq n (head_of m) ≡ false) × (reaches (length (nodes_of s.entries)) (nodes_of s.entries) n m ≡ false)

  other_needs : (m q : Name) → IsOther m → is_among q (needs_in (nodes_of s.entries) m) ≡ true → IsOther q
  other_needs m q other a =
      let free = free_needs (nodes_of s.entries) good.none_looped n m q other.1 a in
      (apart_from n m q other.0 (all_near s.entries good.groups good.apart m q a) (not_here (length (nodes_of s.entries)) (nodes_of s.entries) n q free), free)

  other_value : (m : Name) → IsOther m → value_of s m ≡ value_of t m
  other_value m other = values_agree s t good.none_looped change.good.none_looped size IsOther (λ m other. sym (change.makings m other.0)) other_needs m other

pub others_keep_values : OthersKeepValues
others_keep_values s edit a m l plain is outside free =
    let r = done_is s (of_names edit) a is in
    let change = names_changed s r.state l edit plain (of_names_tried s r.state edit r.is) in
    let good = good_of s l in
    let differs = not_here (length (nodes_of s.names.entries)) (nodes_of s.names.entries) (edited edit) m free in
    ap (λ (u : WholeState). value_of u.names m) (sym r.whole) ∙ sym (other_value s.names r.state.names (edited edit) good change.0 change.1 m (apart_by (edited edit) m outside differs, free))

pub none_is_lawful : NoneIsLawful
unfolding is_looped
none_is_lawful size = record { made = tt; groups = tt; apart = tt; none_looped = λ n. refl }

-- The front of a name, before its first dot: that of a flat statement is its statement's name.
use Rattle.std.proofs.Common.{◌≡◌, Bool, true, false, cond, ◌||◌, ◌==◌, List, [], ◌∷◌, ◌++◌, refl, sym, ap, subst, ◌∙◌, if◌then◌else◌}
use Rattle.std.proofs.lemmas.Bool.{true≢false}
use Rattle.map_defs.specs.Ops.{Name}
use Rattle.map_defs.specs.Statements.{Flat}
use Rattle.map_defs.specs.Expansion.{dotted}
use Rattle.map_defs.specs.FlatNames.{Each, has_dot, IsInside, AreFlats, flat_names}
use Rattle.map_defs.specs.MadeProcedures.{IsUndotted}
use Rattle.map_defs.proofs.FlatNames.{each_more, each_join}

abbrev pub head_of : Name → Name
head_of [] = []
head_of (b ∷ bs) = if b == 46 then [] else b ∷ head_of bs

pub head_undotted : (n : Name) → IsUndotted n → head_of n ≡ n
head_undotted [] h = refl
head_undotted (b ∷ bs) h = go (b == 46) h (head_undotted bs)
  where
    go : (o : Bool) → (o || has_dot bs) ≡ false → (IsUndotted bs → head_of bs ≡ bs) → cond o [] (b ∷ head_of bs) ≡ b ∷ bs
    go true h rest = absurd (true≢false h)
    go false h rest = ap (λ cs. b ∷ cs) (rest h)

pub head_dotted : (n r : Name) → IsUndotted n → head_of (dotted n r) ≡ n
head_dotted [] r h = refl
head_dotted (b ∷ bs) r h = go (b == 46) h (head_dotted bs r)
  where
    go : (o : Bool) → (o || has_dot bs) ≡ false → (IsUndotted bs → head_of (dotted bs r) ≡ bs) → cond o [] (b ∷ head_of (dotted bs r)) ≡ b ∷ bs
    go true h rest = absurd (true≢false h)
    go false h rest = ap (λ cs. b ∷ cs) (rest h)

abbrev pub IsHeaded : Name → Name → Type 0
IsHeaded n m = head_of m ≡ n

join_names : (fs gs : List Flat) → flat_names (fs ++ gs) ≡ flat_names fs ++ flat_names gs
join_names [] gs = refl
join_names (f ∷ fs) gs = ap (λ ns. f.name ∷ ns) (join_names fs gs)

-- all flat statements of a statement have its name before their first dot
pub all_headed : (n : Name) (fs : List Flat) → IsUndotted n → AreFlats (IsInside n) n [] fs → Each (IsHeaded n) (flat_names fs)
all_headed n fs h a =
    let inner : Each (IsHeaded n) (flat_names a.inner) = each_more (IsInside n) (IsHeaded n) (λ m r. ap head_of r.1 ∙ head_dotted n r.0 h) (flat_names a.inner) a.within in
    let own : Flat = record { name = n; op = a.own } in
    subst (λ gs. Each (IsHeaded n) (flat_names gs)) (sym a.is)
    (subst (Each (IsHeaded n)) (sym (join_names a.inner (own ∷ []))) (each_join (IsHeaded n) (flat_names a.inner) (n ∷ []) inner (head_undotted n h, tt)))

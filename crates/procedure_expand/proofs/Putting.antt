-- A body put out, one inner statement at a time.
use Rattle.std.proofs.Common.{◌≡◌, ◌≢◌, ℕ, zero, suc, ◌+◌, ◌-◌, ◌*◌, ◌<◌, ◌≤◌, ◌==◌, Bool, true, false, ◌||◌, cond, List, [], ◌∷◌, ◌++◌, length, drop, get_or, Some, Result, Ok, Err, codes, refl, sym, ap, subst, ◌∙◌, arith}
use Rattle.std.proofs.lemmas.Bool.{true≢false, eq-eqb}
use Rattle.std.proofs.lemmas.List.{append_assoc, length-append, drop_more}
use Rattle.map_words.specs.Bytes.{Text}
use Rattle.map_defs.specs.Ops.{Name, Term, layer_term}
use Rattle.map_defs.specs.Statements.{Flat, Procedure}
use Rattle.map_defs.specs.Bindings.{Binding, given_for}
use Rattle.map_defs.specs.Expansion.{WrongCall, wrong_count, find_procedure, dotted, both_flats, Expands, inner_flats, inner_name, body_flats, called, called_flats, call_flats}
use Rattle.statement_parser.specs.declared.line.Written.{Written}
use Rattle.statement_parser.specs.Views.{written_view}
use Rattle.statement_parser.specs.Procedures.{body_view}
use Rattle.procedure_expand.specs.declared.refusal.ExpandRefusal.{ExpandRefusal}
use Rattle.procedure_expand.specs.declared.refusal.ExpandRefusal.TheVariants.{Unknown, Count, Limit, NoMemory}
use Rattle.map_defs.specs.FlatNames.{has_dot}
use Rattle.map_defs.specs.MadeProcedures.{is_result}
use Rattle.procedure_expand.specs.Answers.{Gives, IsTooMany, IsPrefix}
use Rattle.procedure_expand.specs.CalledProcedures.{IsShort, AreShort}

pub both_assoc : (r s t : Result (List Flat) WrongCall) → both_flats r (both_flats s t) ≡ both_flats (both_flats r s) t
both_assoc (Err w) s t = refl
both_assoc (Ok fs) (Err w) t = refl
both_assoc (Ok fs) (Ok gs) (Err w) = refl
both_assoc (Ok fs) (Ok gs) (Ok hs) = ap (λ q. Ok q) (sym (append_assoc fs gs hs))

many_later : (r s : Result (List Flat) WrongCall) → IsTooMany r → IsTooMany (both_flats r s)
many_later (Err w) s h = tt
many_later (Ok fs) (Err w) h = tt
many_later (Ok fs) (Ok gs) h = omega (arith, length-append fs gs)

-- what stops an inner statement stops all
pub stops : (V W : Type 0) (held held' : List Flat) (r s all : Result (List Flat) WrongCall) (e : ExpandRefusal) → all ≡ both_flats r s → Gives {V = V} held r (Err e) → Gives {V = W} held' all (Err e)
stops V W held held' r s all (Unknown n) is h = is ∙ ap (λ q. both_flats q s) h
stops V W held held' r s all (Count a b) is h = is ∙ ap (λ q. both_flats q s) h
stops V W held held' r s all Limit is h = subst IsTooMany (sym is) (many_later r s h)
stops V W held held' r s all NoMemory is h = tt

abbrev pub bound_inner : Name → Name → Name → Binding
bound_inner name prefix i = record { name = i; term = layer_term (inner_name name prefix i) }

pub body_more : (expand : Expands) (name prefix : Name) (bs : List Binding) (held : List Flat) (body : List (Text × Written)) (i : ℕ) (d : Text × Written) → i < length body →
    both_flats (Ok held) (body_flats expand name prefix bs (body_view (drop i body)))
    ≡ both_flats (both_flats (Ok held) (inner_flats expand bs (inner_name name prefix (get_or body i d).0) (dotted prefix (get_or body i d).0) (written_view (get_or body i d).1)))
    (body_flats expand name prefix (bs ++ bound_inner name prefix (get_or body i d).0 ∷ []) (body_view (drop (i + 1) body)))
body_more expand name prefix bs held body i d lt =
    let at : drop i body ≡ get_or body i d ∷ drop (i + 1) body = drop_more body i d lt in
    ap (λ q. both_flats (Ok held) (body_flats expand name prefix bs (body_view q))) at
    ∙ both_assoc (Ok held) (inner_flats expand bs (inner_name name prefix (get_or body i d).0) (dotted prefix (get_or body i d).0) (written_view (get_or body i d).1))
    (body_flats expand name prefix (bs ++ bound_inner name prefix (get_or body i d).0 ∷ []) (body_view (drop (i + 1) body)))

-- ---- names within 1,100 bytes

dot_within : (p i : Name) → has_dot (dotted p i) ≡ true
dot_within [] i = refl
dot_within (b ∷ p) i = go (b == 46) (dot_within p i)
  where
    go : (o : Bool) → has_dot (dotted p i) ≡ true → (o || has_dot (dotted p i)) ≡ true
    go true h = refl
    go false h = h

dotted_named : (p i : Name) → dotted p i ≢ codes "result"
dotted_named p i e = let both : true ≡ has_dot (codes "result") = sym (dot_within p i) ∙ ap has_dot e in true≢false both

pub prefix_longer : (depth : ℕ) (prefix i : Name) → IsPrefix (depth + 1) prefix → IsShort i → IsPrefix depth (dotted prefix i)
prefix_longer depth prefix i h short =
    let lengths : length (dotted prefix i) ≡ length prefix + length (46 ∷ i) = length-append prefix (46 ∷ i) in
    let old : length prefix + 33 * (depth + 1) ≤ 1088 = h.short in
    record { named = dotted_named prefix i; short = omega arith }

pub short_at : (body : List (Text × Written)) (k : ℕ) (d : Text × Written) → AreShort (body_view body) → k < length body → IsShort (get_or body k d).0
short_at [] k d h lt = absurd (omega arith)
short_at (x ∷ body) zero d h lt = h.0
short_at (x ∷ body) (suc k) d h lt = let less : k < length body = omega arith in short_at body k d h.1 less

-- ---- a call

pub call_made : (k : ℕ) (ps : List Procedure) (name prefix p : Name) (ts : List Term) (q : Procedure) → (k ≡ 0 → ⊥) → find_procedure ps p ≡ Some q → length ts ≡ length q.takes →
    call_flats k ps name prefix p ts ≡ body_flats (call_flats (k - 1) ps) name prefix (given_for q.takes ts) q.body
call_made zero ps name prefix p ts q some e lengths = absurd (some refl)
call_made (suc k) ps name prefix p ts q some e lengths =
    let test : (length ts == length q.takes) ≡ true = eq-eqb (length ts) (length q.takes) lengths in
    let less : k ≡ suc k - 1 = omega arith in
    ap (λ o. called_flats (called o p ts) (call_flats k ps) name prefix ts) e
    ∙ (ap (λ (b : Bool). called_flats (cond b (Ok q) (Err (wrong_count (length ts) (length q.takes)))) (call_flats k ps) name prefix ts) test
    ∙ ap (λ n. body_flats (call_flats n ps) name prefix (given_for q.takes ts) q.body) less)

-- ---- an inner statement of a body

module _ (expand : Expands) (name prefix : Name) (bs : List Binding) (held : List Flat) (body : List (Text × Written)) (k : ℕ) (x : Text × Written) (longer own : Name) (all : Result (List Flat) WrongCall)
    (lt : k < length body) (at : x ≡ get_or body k x) (long : longer ≡ dotted prefix x.0) (owned : own ≡ cond (is_result x.0) name longer)
    (so_far : both_flats (Ok held) (body_flats expand name prefix bs (body_view (drop k body))) ≡ all) where
  abbrev pub inner_bound : Binding
  inner_bound = record { name = x.0; term = layer_term own }

  abbrev pub with_inner : Result (List Flat) WrongCall
  with_inner = both_flats (Ok held) (inner_flats expand bs own longer (written_view x.1))

  own_is : own ≡ inner_name name prefix x.0
  own_is = owned ∙ ap (λ (q : Name). cond (is_result x.0) name q) long

  pub body_step : all ≡ both_flats with_inner (body_flats expand name prefix (bs ++ inner_bound ∷ []) (body_view (drop (k + 1) body)))
  body_step =
      let F : Text × Written → Name → Name → Result (List Flat) WrongCall = λ y o l. both_flats (both_flats (Ok held) (inner_flats expand bs o l (written_view y.1)))
      (body_flats expand name prefix (bs ++ record { name = y.0; term = layer_term o } ∷ []) (body_view (drop (k + 1) body))) in
      let y : Text × Written = get_or body k x in
      let read : F y (inner_name name prefix y.0) (dotted prefix y.0) ≡ F x (inner_name name prefix x.0) (dotted prefix x.0) =
      ap (λ (z : Text × Written). F z (inner_name name prefix z.0) (dotted prefix z.0)) (sym at) in
      sym so_far ∙ (body_more expand name prefix bs held body k x lt ∙ (read ∙ (ap (λ (l : Name). F x (inner_name name prefix x.0) l) (sym long) ∙ ap (λ (o : Name). F x o longer) (sym own_is))))

  pub body_next : (held' : List Flat) (bs' : List Binding) → with_inner ≡ Ok held' → bs' ≡ bs ++ inner_bound ∷ [] → both_flats (Ok held') (body_flats expand name prefix bs' (body_view (drop (k + 1) body))) ≡ all
  body_next held' bs' e f =
      sym (body_step ∙ (ap (λ q. both_flats q (body_flats expand name prefix (bs ++ inner_bound ∷ []) (body_view (drop (k + 1) body)))) e
      ∙ ap (λ q. both_flats (Ok held') (body_flats expand name prefix q (body_view (drop (k + 1) body)))) (sym f)))

  pub body_stops : (V W : Type 0) (held' held'' : List Flat) (e : ExpandRefusal) → Gives {V = V} held' with_inner (Err e) → Gives {V = W} held'' all (Err e)
  body_stops V W held' held'' e h = stops V W held' held'' with_inner (body_flats expand name prefix (bs ++ inner_bound ∷ []) (body_view (drop (k + 1) body))) all e body_step h

pub item_short : (body : List (Text × Written)) (k : ℕ) (x : Text × Written) → AreShort (body_view body) → k < length body → x ≡ get_or body k x → length x.0 ≤ 32
item_short body k x h lt at = let P : Text × Written → Type 0 = λ y. IsShort y.0 in subst P (sym at) (short_at body k x h lt)

pub item_prefix : (depth : ℕ) (prefix longer : Name) (body : List (Text × Written)) (k : ℕ) (x : Text × Written) → IsPrefix (depth + 1) prefix → AreShort (body_view body) → k < length body → x ≡ get_or body k x → longer ≡ dotted prefix x.0 → IsPrefix depth longer
item_prefix depth prefix longer body k x h shorts lt at e = subst (IsPrefix depth) (sym e) (prefix_longer depth prefix x.0 h (item_short body k x shorts lt at))

-- Names are looked up at their first places.
use Rattle.std.proofs.Common.{◌≡◌, ℕ, ◌+◌, ◌-◌, ◌<◌, ◌≤◌, true, false, cond, List, [], ◌∷◌, ◌++◌, length, take, drop, get_or, flat_map, Option, Some, None, bytes_eq, refl, sym, ap, ◌∙◌, arith, inl, inr, length-append}
use Rattle.std.specs.List.{position, position_or_len}
use Rattle.std.proofs.lemmas.Bool.{cases_lt, lt-ltb, le-ltb}
use Rattle.std.proofs.lemmas.Option.{none-some}
use Rattle.std.proofs.lemmas.List.{take_more, append-nil, length-map, get_or_append_left, get_or-append_right}
use Rattle.std.proofs.lemmas.List.Sums.{fails_before_first}
use Rattle.std.proofs.lemmas.List.Folds.{length-flat_map-take, flat_map-map}
use Rattle.std.proofs.lemmas.List.Concat.{flat_map-append, get_or-flat_map}
use Rattle.map_defs.specs.Ops.{Name}
use Rattle.map_defs.specs.Nodes.{Node}
use Rattle.statement_graph.specs.declared.node.Entry.{Entry}
use Rattle.statement_graph.specs.declared.node.Entry.TheVariants.{Source}
use Rattle.statement_graph.specs.Seats.{node_at, name_at, nodes_at}
use Rattle.statement_graph.specs.Tables.{needs_at, place_of}
use Rattle.statement_graph.specs.Splices.{spliced}
use Rattle.statement_graph.specs.Links.{all_needs, IsLinkedFrom, HasRoom}
use Rattle.statement_graph.proofs.Finding.{bytes_eq-self, node_there}
use Rattle.statement_graph.proofs.Placing.{three_parts}
use Rattle.std.proofs.lemmas.Option.{slice_get-get_or}

-- the first place isn't after the place
pub first_before : (es : List Entry) (at first : ℕ) (e : Entry) (m : Name) (o : Option ℕ) → at < length es → e ≡ get_or es at e → m ≡ name_at e
    → o ≡ position (λ e. bytes_eq (name_at e) m) es → o ≡ Some first → first ≤ at
first_before es at first e m o within is named found some =
    let p : Entry → _ = λ e. bytes_eq (name_at e) m in
    let pos = position_or_len p es in
    let self : p e ≡ true = ap (λ q. bytes_eq (name_at e) q) named ∙ bytes_eq-self (name_at e) in
    elim (cases_lt at pos) [
      | inl h ↦ (let fails : p (get_or es at e) ≡ false = fails_before_first p es at e h in let at_e : p (get_or es at e) ≡ p e = ap p (sym is) in absurd (true_false (sym self ∙ sym at_e ∙ fails)))
      | inr h ↦ (elim (cases_lt pos (length es)) [
        | inl k ↦ (let same : Some pos ≡ Some first = sym (ap (λ b. cond b (Some pos) None) (lt-ltb pos (length es) k)) ∙ sym found ∙ some in let eq : pos ≡ first = cc in omega arith)
        | inr k ↦ absurd (none-some first (sym (ap (λ b. cond b (Some pos) None) (le-ltb pos (length es) k)) ∙ sym found ∙ some))
      ])
    ]
  where
    true_false : true ≡ false → ⊥
    true_false e = cc

pub there_is : (es : List Entry) (at : ℕ) (e : Entry) → at < length es → e ≡ get_or es at e → get_or (nodes_at es) at (node_at e) ≡ node_at e
there_is es at e within is =
    let len : length (nodes_at es) ≡ length es = length-map es node_at in
    let got : Some (get_or (nodes_at es) at (node_at e)) ≡ Some (node_at e) = sym (slice_get-get_or (nodes_at es) at (node_at e) (omega arith)) ∙ node_there es at e within is in
    cc

-- one place more, with its needs
pub needs_more : (es : List Entry) (at : ℕ) (e : Entry) (needs : List Name) → at < length es → e ≡ get_or es at e → needs ≡ needs_at (node_at e) → all_needs (take (at + 1) (nodes_at es)) ≡ all_needs (take at (nodes_at es)) ++ needs
needs_more es at e needs within is are =
    let len : length (nodes_at es) ≡ length es = length-map es node_at in
    let lt : at < length (nodes_at es) = omega arith in
    ap all_needs (take_more (nodes_at es) at (node_at e) lt) ∙ flat_map-append needs_at (take at (nodes_at es)) (get_or (nodes_at es) at (node_at e) ∷ [])
    ∙ ap (λ l. all_needs (take at (nodes_at es)) ++ l) (append-nil (needs_at (get_or (nodes_at es) at (node_at e))) ∙ ap needs_at (there_is es at e within is) ∙ sym are)

pub needs_fit : (es : List Entry) (at : ℕ) (e : Entry) (needs : List Name) → at < length es → e ≡ get_or es at e → needs ≡ needs_at (node_at e) → length (all_needs (take at (nodes_at es))) + length needs ≤ length (all_needs (nodes_at es))
needs_fit es at e needs within is are =
    let len : length (nodes_at es) ≡ length es = length-map es node_at in
    let le = length-flat_map-take needs_at (nodes_at es) at (node_at e) (omega arith) in
    let same : length (needs_at (get_or (nodes_at es) at (node_at e))) ≡ length needs = ap (λ (q : Node). length (needs_at q)) (there_is es at e within is) ∙ ap length (sym are) in
    omega arith

-- links of some names, and then of more
pub linked_more : (nodes : List Node) (xs ys all : List Name) (start : ℕ) (was now : List (Option ℕ)) → start ≡ length xs → all ≡ xs ++ ys → ((k : ℕ) → k < start → get_or now k None ≡ get_or was k None)
    → IsLinkedFrom nodes 0 xs was → IsLinkedFrom nodes start ys now → IsLinkedFrom nodes 0 all now
linked_more nodes xs ys all start was now at_end are kept before after k h =
    let len : length all ≡ length xs + length ys = ap length are ∙ length-append xs ys in
    let zero : 0 + k ≡ k = omega arith in
    elim (cases_lt k (length xs)) [
      | inl lt ↦ ap (λ i. get_or now i None) zero ∙ kept k (omega arith) ∙ sym (ap (λ i. get_or was i None) zero) ∙ before k lt ∙ ap (place_of nodes) (sym (ap (λ l. get_or l k []) are ∙ get_or_append_left xs ys [] k lt))
      | inr ge ↦
          (let sum : start + (k - length xs) ≡ 0 + k = omega arith in
          ap (λ i. get_or now i None) (sym sum) ∙ after (k - length xs) (omega arith) ∙ ap (place_of nodes) (sym (ap (λ l. get_or l k []) are ∙ get_or-append_right xs ys (length xs) k [] refl ge)))
    ]

pub get_any : (xs : List Name) (k : ℕ) (d : Name) → k < length xs → get_or xs k [] ≡ get_or xs k d
get_any xs k d h = let same : Some (get_or xs k []) ≡ Some (get_or xs k d) = sym (slice_get-get_or xs k [] h) ∙ slice_get-get_or xs k d h in cc

-- the link of a need
pub need_linked : (es : List Entry) (links : List (Option ℕ)) (at start k : ℕ) (e : Entry) (needs : List Name) (m : Name) → at < length es → e ≡ get_or es at e → needs ≡ needs_at (node_at e) → k < length needs → m ≡ get_or needs k m
    → start ≡ length (all_needs (take at (nodes_at es))) → IsLinkedFrom (nodes_at es) 0 (all_needs (nodes_at es)) links → get_or links (start + k) None ≡ place_of (nodes_at es) m
need_linked es links at start k e needs m within is are k_in m_is starts linked =
    let nodes = nodes_at es in
    let len : length nodes ≡ length es = length-map es node_at in
    let fit = needs_fit es at e needs within is are in
    let same : needs_at (get_or nodes at (node_at e)) ≡ needs = ap needs_at (there_is es at e within is) ∙ sym are in
    let k_there : k < length (needs_at (get_or nodes at (node_at e))) = (let q : length (needs_at (get_or nodes at (node_at e))) ≡ length needs = ap length same in omega arith) in
    let zero : 0 + (start + k) ≡ start + k = omega arith in
    sym (ap (λ i. get_or links i None) zero) ∙ linked (start + k) (omega arith)
    ∙ ap (place_of nodes) (ap (λ i. get_or (all_needs nodes) (i + k) []) starts ∙ get_or-flat_map needs_at nodes at k (node_at e) [] (omega arith) k_there ∙ ap (λ l. get_or l k []) same ∙ get_any needs k m k_in ∙ sym m_is)

-- ---- room where places are put in or taken out

entry_needs : Entry → List Name
entry_needs e = needs_at (node_at e)

needs_of_entries : (es : List Entry) → all_needs (nodes_at es) ≡ flat_map entry_needs es
unfolding entry_needs
needs_of_entries es = flat_map-map needs_at node_at es

fewer_parts : {X Y : Type 0} (f : X → List Y) (xs : List X) (start end : ℕ) → start ≤ end → length (flat_map f (take start xs)) + length (flat_map f (drop end xs)) ≤ length (flat_map f xs)
fewer_parts f xs start end order =
    let a = take start xs in
    let o = take (end - start) (drop start xs) in
    let t = drop end xs in
    let all : flat_map f xs ≡ flat_map f (a ++ o) ++ flat_map f t = ap (flat_map f) (three_parts xs start end order) ∙ flat_map-append f (a ++ o) t in
    let two : flat_map f (a ++ o) ≡ flat_map f a ++ flat_map f o = flat_map-append f a o in
    let len : length (flat_map f xs) ≡ length (flat_map f (a ++ o)) + length (flat_map f t) = ap length all ∙ length-append (flat_map f (a ++ o)) (flat_map f t) in
    let len2 : length (flat_map f (a ++ o)) ≡ length (flat_map f a) + length (flat_map f o) = ap length two ∙ length-append (flat_map f a) (flat_map f o) in
    omega arith

pub needs_spliced : (es fresh now : List Entry) (start end : ℕ) → start ≤ end → now ≡ spliced start end fresh es → length (all_needs (nodes_at now)) ≤ length (all_needs (nodes_at es)) + length (all_needs (nodes_at fresh))
needs_spliced es fresh now start end order is =
    let f = entry_needs in
    let a = take start es in
    let t = drop end es in
    let parts : flat_map f (a ++ fresh ++ t) ≡ flat_map f (a ++ fresh) ++ flat_map f t = flat_map-append f (a ++ fresh) t in
    let len : length (flat_map f (a ++ fresh ++ t)) ≡ length (flat_map f (a ++ fresh)) + length (flat_map f t) = ap length parts ∙ length-append (flat_map f (a ++ fresh)) (flat_map f t) in
    let len2 : length (flat_map f (a ++ fresh)) ≡ length (flat_map f a) + length (flat_map f fresh) = ap length (flat_map-append f a fresh) ∙ length-append (flat_map f a) (flat_map f fresh) in
    let some = fewer_parts f es start end order in
    let n : length (all_needs (nodes_at now)) ≡ length (flat_map f (a ++ fresh ++ t)) = ap length (needs_of_entries now ∙ ap (flat_map f) is) in
    let e : length (all_needs (nodes_at es)) ≡ length (flat_map f es) = ap length (needs_of_entries es) in
    let r : length (all_needs (nodes_at fresh)) ≡ length (flat_map f fresh) = ap length (needs_of_entries fresh) in
    omega arith

pub room_spliced : (es fresh now : List Entry) (firsts : List ℕ) (links : List (Option ℕ)) (start end : ℕ) → start ≤ end → now ≡ spliced start end fresh es → length now ≤ length firsts
    → length (all_needs (nodes_at es)) + length (all_needs (nodes_at fresh)) ≤ length links → HasRoom (nodes_at now) firsts links
room_spliced es fresh now firsts links start end order is places needs =
    let few = needs_spliced es fresh now start end order is in
    let len : length (nodes_at now) ≡ length now = length-map now node_at in
    record { places = omega arith; needs = omega arith }

pub room_cut : (es now : List Entry) (firsts : List ℕ) (links : List (Option ℕ)) (start end : ℕ) → start ≤ end → length now ≤ length es → now ≡ take start es ++ drop end es → HasRoom (nodes_at es) firsts links → HasRoom (nodes_at now) firsts links
room_cut es now firsts links start end order fewer is room =
    let few = needs_spliced es [] now start end order (is ∙ ap (λ a. a ++ drop end es) (sym (append-nil (take start es)))) in
    let a : length (nodes_at now) ≡ length now = length-map now node_at in
    let b : length (nodes_at es) ≡ length es = length-map es node_at in
    let rf = room.places in
    let rl = room.needs in
    record { places = omega arith; needs = omega arith }

pub room_copied : (nodes nodes' : List Node) (firsts firsts' : List ℕ) (links links' : List (Option ℕ)) → HasRoom nodes firsts links → nodes' ≡ nodes → firsts' ≡ firsts → links' ≡ links → HasRoom nodes' firsts' links'
room_copied nodes nodes' firsts firsts' links links' room n f l =
    let a : length nodes' ≡ length nodes = ap length n in
    let b : length (all_needs nodes') ≡ length (all_needs nodes) = ap (λ ns. length (all_needs ns)) n in
    let lf : length firsts' ≡ length firsts = ap length f in
    let ll : length links' ≡ length links = ap length l in
    let places = room.places in
    let needs = room.needs in
    record { places = omega arith; needs = omega arith }

pub room_pushed : (es now : List Entry) (m : Name) (firsts : List ℕ) (links : List (Option ℕ)) → now ≡ es ++ Source m ∷ [] → length es + 1 ≤ length firsts → length (all_needs (nodes_at es)) ≤ length links → HasRoom (nodes_at now) firsts links
unfolding entry_needs
room_pushed es now m firsts links is places needs =
    let all : length (all_needs (nodes_at now)) ≡ length (flat_map entry_needs es) + 0 =
    ap length (needs_of_entries now ∙ ap (flat_map entry_needs) is ∙ flat_map-append entry_needs es (Source m ∷ [])) ∙ length-append (flat_map entry_needs es) [] in
    let own : length (all_needs (nodes_at es)) ≡ length (flat_map entry_needs es) = ap length (needs_of_entries es) in
    let len : length (nodes_at now) ≡ length es + 1 = length-map now node_at ∙ ap length is ∙ length-append es (Source m ∷ []) in
    record { places = omega arith; needs = omega arith }

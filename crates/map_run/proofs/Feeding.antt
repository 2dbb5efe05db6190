-- Some bytes, of which the lines that ended so far were answered.
use Rattle.std.proofs.Common.{◌≡◌, ◌≤◌, ◌+◌, ◌++◌, ◌∷◌, ℕ, Bool, false, List, [], length, refl, sym, ap, ◌∙◌, subst, arith, Result, Ok, Err}
use Rattle.std.proofs.lemmas.List.{append-nil, append_assoc, length-append}
use Rattle.layer_tiles.specs.Tallies.{KeepsParts}
use Rattle.map_machine.specs.Lines.{has_line_feed, open_piece, without_return, further_lines}
use Rattle.map_machine.specs.States.{MapState}
use Rattle.map_machine.proofs.LinesLemmas.{further_lines-nil}
use Rattle.map_run.specs.Answered.{AnswersAll, LacksMemory, Answered}
use Rattle.map_run.specs.Kept.{IsKept}
use Rattle.map_run.specs.Progress.{Progress}
use Rattle.map_run.specs.declared.lines.Fed.{Fed}
use Rattle.map_run.specs.declared.lines.Fed.TheVariants.{More}
use Rattle.map_run.specs.declared.stop.Stop.{Stop}
use Rattle.map_run.specs.declared.stop.Stop.TheVariants.{NoMemory}
use Rattle.map_run.proofs.AnsweredLemmas.{nothing_answered, lacks_before, bytes_then, bytes_stop}
use Rattle.map_run.proofs.LineCuts.{no_line, one_line}
use Rattle.map_run.proofs.Rising.{keeps_then}

pub record Feeding (old now : MapState) (a b : Progress) (kept kept' : List ℕ) (count count' : ℕ) (returns returns' : Bool) (bytes rest : List ℕ) : Type 0 where
  pub done : List ℕ
  pub split : bytes ≡ done ++ rest
  pub within : count' + length rest ≤ count + length bytes
  pub parts : KeepsParts a.tally b.tally
  pub answered : (taken : List ℕ) → IsKept (open_piece taken) kept count returns → AnswersAll old now (further_lines taken done) a b
  pub kept_so : (taken : List ℕ) → IsKept (open_piece taken) kept count returns → IsKept (open_piece (taken ++ done)) kept' count' returns'

pub begins : (s : MapState) (a : Progress) (kept : List ℕ) (count : ℕ) (returns : Bool) (bytes : List ℕ) → Feeding s s a a kept kept count count returns returns bytes bytes
begins s a kept count returns bytes = record {
  done = [];
  split = refl;
  within = omega arith;
  parts = (refl, refl);
  answered = λ taken was. rw (further_lines-nil taken) (nothing_answered s a);
  kept_so = λ taken was. rw (append-nil taken) was;
}

-- how a line that was cut off the rest comes out
abbrev Ends : MapState → MapState → Progress → Progress → List ℕ → ℕ → Bool → List ℕ → Result Fed Stop → Type 0
Ends mid new b c kept' count' returns' line fed = (piece : List ℕ) → IsKept piece kept' count' returns' → Answered mid new (without_return (piece ++ line) ∷ []) b c fed

line_answered : {old mid : MapState} {a b : Progress} {kept kept' : List ℕ} {count count' : ℕ} {returns returns' : Bool} {bytes rest : List ℕ}
    (new : MapState) (c : Progress) (line : List ℕ) (fed : Result Fed Stop)
    → (p : Feeding old mid a b kept kept' count count' returns returns' bytes rest) → has_line_feed line ≡ false
    → Ends mid new b c kept' count' returns' line fed
    → (taken : List ℕ) → IsKept (open_piece taken) kept count returns → Answered old new (further_lines taken (p.done ++ (line ++ 10 ∷ []))) a c fed
line_answered {old} {mid} {a} {b} new c line fed p none ends taken was =
    let P : List (List ℕ) → Type 0 = λ lines. Answered mid new lines b c fed in
    bytes_then taken p.done (line ++ 10 ∷ []) old mid new a b c fed (p.answered taken was)
    (subst P (sym (one_line (taken ++ p.done) line none).0) (ends (open_piece (taken ++ p.done)) (p.kept_so taken was)))

-- a line at which it stopped
pub line_stops : {old mid : MapState} {a b : Progress} {kept kept' : List ℕ} {count count' : ℕ} {returns returns' : Bool} {bytes rest : List ℕ}
    (new : MapState) (c : Progress) (line further : List ℕ) (fed : Result Fed Stop) → (fed ≡ Ok More → ⊥)
    → Feeding old mid a b kept kept' count count' returns returns' bytes rest → rest ≡ (line ++ 10 ∷ []) ++ further → has_line_feed line ≡ false
    → Ends mid new b c kept' count' returns' line fed
    → (taken : List ℕ) → IsKept (open_piece taken) kept count returns → Answered old new (further_lines taken bytes) a c fed
line_stops {old} {mid} {a} {b} {kept} {kept'} {count} {count'} {returns} {returns'} {bytes} {rest} new c line further fed apart p cut none ends taken was =
    let all : bytes ≡ (p.done ++ (line ++ 10 ∷ [])) ++ further = p.split ∙ ap (λ l. p.done ++ l) cut ∙ sym (append_assoc p.done (line ++ 10 ∷ []) further) in
    subst (λ bs. Answered old new (further_lines taken bs) a c fed) (sym all)
    (bytes_stop taken (p.done ++ (line ++ 10 ∷ [])) further old new new a c fed apart (line_answered new c line fed p none ends taken was))

-- a line after which it goes on
pub line_goes_on : {old mid : MapState} {a b : Progress} {kept kept' : List ℕ} {count count' : ℕ} {returns returns' : Bool} {bytes rest : List ℕ}
    (new : MapState) (c : Progress) (kept'' : List ℕ) (count'' : ℕ) (returns'' : Bool) (line further : List ℕ)
    → Feeding old mid a b kept kept' count count' returns returns' bytes rest → rest ≡ (line ++ 10 ∷ []) ++ further → has_line_feed line ≡ false
    → Ends mid new b c kept' count' returns' line (Ok More) → IsKept [] kept'' count'' returns'' → count'' ≤ count' + length line → KeepsParts b.tally c.tally
    → Feeding old new a c kept kept'' count count'' returns returns'' bytes further
line_goes_on {old} {mid} {a} {b} {kept} {kept'} {count} {count'} {returns} {returns'} {bytes} {rest} new c kept'' count'' returns'' line further p cut none ends empty grew parts = record {
  done = p.done ++ (line ++ 10 ∷ []);
  split = p.split ∙ ap (λ l. p.done ++ l) cut ∙ sym (append_assoc p.done (line ++ 10 ∷ []) further);
  within = omega (arith, p.within, grew, ap length cut, length-append (line ++ 10 ∷ []) further, length-append line (10 ∷ []));
  parts = keeps_then a.tally b.tally c.tally p.parts parts;
  answered = line_answered new c line (Ok More) p none ends;
  kept_so = λ taken was.
      let nothing : open_piece (taken ++ (p.done ++ (line ++ 10 ∷ []))) ≡ [] = ap open_piece (sym (append_assoc taken p.done (line ++ 10 ∷ []))) ∙ (one_line (taken ++ p.done) line none).1 in
      subst (λ l. IsKept l kept'' count'' returns'') (sym nothing) empty;
}

-- what is left has no line feed, and is kept
pub rest_answered : {old mid : MapState} {a b : Progress} {kept kept' : List ℕ} {count count' : ℕ} {returns returns' : Bool} {bytes rest : List ℕ}
    → Feeding old mid a b kept kept' count count' returns returns' bytes rest → has_line_feed rest ≡ false
    → (taken : List ℕ) → IsKept (open_piece taken) kept count returns → AnswersAll old mid (further_lines taken bytes) a b
rest_answered {old} {mid} {a} {b} {kept} {kept'} {count} {count'} {returns} {returns'} {bytes} {rest} p none taken was =
    let P : List (List ℕ) → Type 0 = λ lines. AnswersAll mid mid lines b b in
    subst (λ bs. AnswersAll old mid (further_lines taken bs) a b) (sym p.split)
    (bytes_then taken p.done rest old mid mid a b b (Ok More) (p.answered taken was) (subst P (sym (no_line (taken ++ p.done) rest none).0) (nothing_answered mid b)))

pub rest_lacking : {old mid : MapState} {a b : Progress} {kept kept' : List ℕ} {count count' : ℕ} {returns returns' : Bool} {bytes rest : List ℕ}
    → Feeding old mid a b kept kept' count count' returns returns' bytes rest
    → (taken : List ℕ) → IsKept (open_piece taken) kept count returns → LacksMemory old (further_lines taken bytes) a b
rest_lacking {old} {mid} {a} {b} {kept} {kept'} {count} {count'} {returns} {returns'} {bytes} {rest} p taken was =
    subst (λ bs. LacksMemory old (further_lines taken bs) a b) (sym p.split)
    (bytes_then taken p.done rest old mid mid a b b (Err NoMemory) (p.answered taken was) (lacks_before mid (further_lines (taken ++ p.done) rest) b))

pub rest_kept : {old mid : MapState} {a b : Progress} {kept kept' : List ℕ} {count count' : ℕ} {returns returns' : Bool} {bytes rest : List ℕ} (kept'' : List ℕ) (count'' : ℕ) (returns'' : Bool)
    → Feeding old mid a b kept kept' count count' returns returns' bytes rest → has_line_feed rest ≡ false
    → ((piece : List ℕ) → IsKept piece kept' count' returns' → IsKept (piece ++ rest) kept'' count'' returns'')
    → (taken : List ℕ) → IsKept (open_piece taken) kept count returns → IsKept (open_piece (taken ++ bytes)) kept'' count'' returns''
rest_kept {old} {mid} {a} {b} {kept} {kept'} {count} {count'} {returns} {returns'} {bytes} {rest} kept'' count'' returns'' p none grows taken was =
    let whole : open_piece (taken ++ bytes) ≡ open_piece (taken ++ p.done) ++ rest =
    ap (λ bs. open_piece (taken ++ bs)) p.split ∙ ap open_piece (sym (append_assoc taken p.done rest)) ∙ (no_line (taken ++ p.done) rest none).1 in
    subst (λ l. IsKept l kept'' count'' returns'') (sym whole) (grows (open_piece (taken ++ p.done)) (p.kept_so taken was))

-- Reading finds the texts of grids, and no others.
use Rattle.std.proofs.Common.{◌≡◌, ℕ, ◌+◌, ◌≤◌, ℤ, List, [], ◌∷◌, length, Option, Some, None, Result, Ok, Err, refl, sym, ap, subst, ◌∙◌, inl, inr, arith}
use Rattle.std.specs.Prelude.{filter}
use Rattle.std.proofs.lemmas.Bool.{cond-false}
use Rattle.map_nums.specs.Grids.{is_size, cells_in}
use Rattle.grid_text.specs.Heads.{Head, pairs_in, head_in, null_or_default}
use Rattle.grid_text.specs.Contents.{cells_from, grid_after, grid_in}
use Rattle.grid_text.specs.Faults.{Fault, limits, ◌>>=◌}
use Rattle.grid_text.specs.Grammar.{GridText, ReadsAll}
use Rattle.grid_text.specs.Headed.{Headed}
use Rattle.grid_text.specs.Keys.{nothing}
use Rattle.grid_text.specs.Pairs.{Entry, columns, rows, x, y, size, null, BeginsNoPair}
use Rattle.grid_text.specs.Saying.{Once, SaysNull, SaysHead, is_null}
use Rattle.grid_text.specs.Tokens.{Token, tokens_of, first_at}
use Rattle.grid_text.specs.declared.Corner.{Corner}
use Rattle.grid_text.specs.declared.found.Found.{Found}
use Rattle.grid_text.proofs.CellTexts.{cells-are, are-cells}
use Rattle.grid_text.proofs.Entries.{listed, Holds, holds_nothing}
use Rattle.grid_text.proofs.GridReading.{IsSize-true, grid_in-head, cells_count, all_read}
use Rattle.grid_text.proofs.HeaderWalk.{after_pairs, Stops, Walk, walk}
use Rattle.grid_text.proofs.PairLists.{then_pairs, pairs_in-pair}
use Rattle.grid_text.proofs.SoundHeaders.{bind_ok, ok_is, chosen_ok, head_parts}

-- ---- the header

said_null : (o : Option ℤ) → SaysNull (listed null o) (null_or_default o)
said_null None = refl
said_null (Some z) = refl

-- a header that is found is said
pub head-said : (end : ℕ) (f : Found) (entries : List Entry) (h : Head) → Holds f entries → head_in end f ≡ Ok h → SaysHead entries h
head-said end f entries h holds e =
    let p = head_parts end f h e in
    record {
      columns = holds.columns ∙ ap (listed columns) p.columns;
      rows = holds.rows ∙ ap (listed rows) p.rows;
      x = holds.x ∙ ap (listed x) p.x;
      y = holds.y ∙ ap (listed y) p.y;
      size = holds.size ∙ ap (listed size) p.size;
      null = subst (λ es. SaysNull es h.null) (sym holds.null) (subst (SaysNull (listed null f.null)) (sym p.null) (said_null f.null));
    }

one_columns : (o : Option ℕ) (n : ℕ) → listed columns o ≡ columns n ∷ [] → o ≡ Some n
one_columns None n e = cc
one_columns (Some m) n e = cc

one_rows : (o : Option ℕ) (n : ℕ) → listed rows o ≡ rows n ∷ [] → o ≡ Some n
one_rows None n e = cc
one_rows (Some m) n e = cc

one_x : (o : Option Corner) (c : Corner) → listed x o ≡ x c ∷ [] → o ≡ Some c
one_x None c e = cc
one_x (Some d) c e = cc

one_y : (o : Option Corner) (c : Corner) → listed y o ≡ y c ∷ [] → o ≡ Some c
one_y None c e = cc
one_y (Some d) c e = cc

one_size : (o : Option (List ℕ)) (t : List ℕ) → listed size o ≡ size t ∷ [] → o ≡ Some t
one_size None t e = cc
one_size (Some s) t e = cc

null_said : (o : Option ℤ) (z : ℤ) → SaysNull (listed null o) z → null_or_default o ≡ z
null_said None z e = sym e
null_said (Some w) z e = cc

-- a header that is said is found
pub head-found : (end : ℕ) (f : Found) (entries : List Entry) (h : Head) → Holds f entries → SaysHead entries h → head_in end f ≡ Ok h
head-found end f entries h holds s =
    let pc = one_columns f.columns h.size.columns (sym holds.columns ∙ s.columns) in
    let pr = one_rows f.rows h.size.rows (sym holds.rows ∙ s.rows) in
    let px = one_x f.x h.header.x (sym holds.x ∙ s.x) in
    let py = one_y f.y h.header.y (sym holds.y ∙ s.y) in
    let ps = one_size f.size h.header.size (sym holds.size ∙ s.size) in
    let pn = null_said f.null h.null (subst (λ es. SaysNull es h.null) holds.null s.null) in
    let whole : f ≡ record { columns = Some h.size.columns; rows = Some h.size.rows; x = Some h.header.x; y = Some h.header.y; size = Some h.header.size; null = f.null } =
    λ i. record { columns = pc i; rows = pr i; x = px i; y = py i; size = ps i; null = f.null } in
    ap (head_in end) whole ∙ ap (λ (z : ℤ). Ok (record { header = h.header; size = h.size; null = z })) pn

-- ---- the whole

pub no_pair : (end : ℕ) (f : Found) (tokens : List Token) → BeginsNoPair tokens → pairs_in end f tokens ≡ Ok (f, tokens)
no_pair end f [] h = refl
no_pair end f (name ∷ []) h = cond-false _ _ _ h
no_pair end f (name ∷ value ∷ tokens) h = cond-false _ _ _ h

few_entries : (l : List Entry) (e : Entry) → l ≡ e ∷ [] → length l ≤ 1
few_entries l e h = omega (arith, ap length h)

few_nulls : (l : List Entry) (z : ℤ) → SaysNull l z → length l ≤ 1
few_nulls [] z h = omega arith
few_nulls (e ∷ []) z h = omega arith
few_nulls (e ∷ f ∷ l) z h = absurd h

said-once : (entries : List Entry) (h : Head) → SaysHead entries h → Once entries
said-once entries h s = record {
  columns = few_entries _ _ s.columns;
  rows = few_entries _ _ s.rows;
  x = few_entries _ _ s.x;
  y = few_entries _ _ s.y;
  size = few_entries _ _ s.size;
  null = few_nulls (filter is_null entries) h.null s.null;
}

pub text-read : (bytes : List ℕ) (g : Headed) → GridText bytes g → grid_in bytes ≡ Ok g
text-read bytes g t =
    let end : ℕ = length bytes + 1 in
    let head : Head = record { header = g.header; size = g.grid.size; null = t.null } in
    let after = after_pairs end t.entries nothing [] (tokens_of bytes) t.rest t.pairs holds_nothing (said-once t.entries head t.header) in
    all_read bytes head t.rest (cells_in g.grid.size) g.grid.cells
    (grid_in-head bytes after.found t.rest (after.same ∙ no_pair end after.found t.rest t.ends)
    ∙ ap (λ (r : Result Head Fault). r >>= λ head. grid_after head t.rest) (head-found (first_at end t.rest) after.found t.entries head after.holds t.header))
    t.limits refl (are-cells t.null (cells_in g.grid.size) 0 t.rest g.grid.cells t.cells (omega (arith, t.count)))

read_on : (bytes : List ℕ) (w : Walk (length bytes + 1) nothing [] (tokens_of bytes)) → BeginsNoPair w.rest → grid_in bytes ≡ (head_in (first_at (length bytes + 1) w.rest) w.found >>= λ head. grid_after head w.rest)
read_on bytes w n = grid_in-head bytes w.found w.rest (w.same ∙ no_pair (length bytes + 1) w.found w.rest n)

read_text : (bytes : List ℕ) (g : Headed) (w : Walk (length bytes + 1) nothing [] (tokens_of bytes)) → BeginsNoPair w.rest → grid_in bytes ≡ Ok g → GridText bytes g
read_text bytes g w n e =
    let end : ℕ = first_at (length bytes + 1) w.rest in
    let p = bind_ok (head_in end w.found) (λ head. grid_after head w.rest) g (sym (read_on bytes w n) ∙ e) in
    let head : Head = p.0 in
    elim (chosen_ok (is_size head.size) (cells_from head.null (cells_in head.size) 0 w.rest >>= λ cells. Ok (record { header = head.header; grid = record { size = head.size; cells = cells } })) (Err (limits head.size.rows head.size.columns)) g p.2) [
      | inl h ↦
          let q = bind_ok (cells_from head.null (cells_in head.size) 0 w.rest) (λ cells. Ok (record { header = head.header; grid = record { size = head.size; cells = cells } })) g h.1 in
          let made : Headed = record { header = head.header; grid = record { size = head.size; cells = q.0 } } in
          subst (GridText bytes) (ok_is made g q.2) (record {
            entries = w.entries;
            rest = w.rest;
            null = head.null;
            pairs = w.pairs;
            ends = n;
            header = head-said end w.found w.entries head w.holds p.1;
            limits = IsSize-true head.size h.0;
            cells = cells-are head.null (cells_in head.size) 0 w.rest q.0 q.1;
            count = omega (arith, cells_count head.null (cells_in head.size) 0 w.rest q.0 q.1);
          })
      | inr h ↦ absurd (let f = h.1 in cc)
    ]

bad_pairs : (bytes : List ℕ) (g : Headed) (w : Walk (length bytes + 1) nothing [] (tokens_of bytes)) (fault : Fault) → pairs_in (length bytes + 1) w.found w.rest ≡ Err fault → grid_in bytes ≡ Ok g → ⊥
unfolding grid_in
bad_pairs bytes g w fault h e =
    let refused : grid_in bytes ≡ Err fault = ap (λ (r : Result (Found × List Token) Fault). r >>= λ pairs. head_in (first_at (length bytes + 1) pairs.1) pairs.0 >>= λ head. grid_after head pairs.1) (w.same ∙ h) in
    cc

stopped : (bytes : List ℕ) (g : Headed) (w : Walk (length bytes + 1) nothing [] (tokens_of bytes)) (rest : List Token) → w.rest ≡ rest → Stops (length bytes + 1) w.found rest → grid_in bytes ≡ Ok g → GridText bytes g
stopped bytes g w [] r s e = read_text bytes g w (subst BeginsNoPair (sym r) tt) e
stopped bytes g w (name ∷ tokens) r (inl l) e = read_text bytes g w (subst BeginsNoPair (sym r) l) e
stopped bytes g w (name ∷ tokens) r (inr b) e =
    let fault = b.1 in
    absurd (bad_pairs bytes g w fault.0 (ap (pairs_in (length bytes + 1) w.found) r ∙ pairs_in-pair (length bytes + 1) w.found name tokens b.0 ∙ ap (then_pairs (length bytes + 1)) fault.1) e)

pub read-text : (bytes : List ℕ) (g : Headed) → grid_in bytes ≡ Ok g → GridText bytes g
read-text bytes g e =
    let w = walk (length bytes + 1) nothing [] (tokens_of bytes) holds_nothing in
    stopped bytes g w w.rest refl w.stops e

pub reads_all : ReadsAll
reads_all bytes g = (text-read bytes g, read-text bytes g)

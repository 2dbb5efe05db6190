-- What is kept of a piece that grows.
use Rattle.std.proofs.Common.{◌≡◌, ◌≤◌, ◌<◌, ◌+◌, ◌-◌, ℕ, Bool, true, false, List, [], ◌∷◌, ◌++◌, ◌==◌, cond, length, take, get_or, min, refl, sym, ap, ◌∙◌, arith}
use Rattle.std.proofs.lemmas.List.{append-nil, append_assoc, length-append, take_all, take_at, take_more}
use Rattle.std.proofs.lemmas.Bool.{eqb-true}
use Rattle.map_machine.specs.Lines.{without_return, last_line}
use Rattle.map_machine.proofs.LinesLemmas.{without_return-push}
use Rattle.map_run.specs.Kept.{IsKept}

returned_at : (front : List ℕ) (b : ℕ) → (front ++ b ∷ []) ≡ without_return (front ++ b ∷ []) ++ cond (b == 13) (13 ∷ []) []
returned_at front b = rw (without_return-push front b) (
    elim (b == 13) as (λ t. (b == 13) ≡ t → (front ++ b ∷ []) ≡ cond t front (front ++ b ∷ []) ++ cond t (13 ∷ []) []) [
      | true ↦ λ e. ap (λ n. front ++ n ∷ []) (eqb-true b 13 e)
      | false ↦ λ _. sym (append-nil (front ++ b ∷ []))
    ] refl)

-- some bytes are a front and their last
last_of : (bytes : List ℕ) → 0 < length bytes → bytes ≡ take (length bytes - 1) bytes ++ get_or bytes (length bytes - 1) 0 ∷ []
last_of bytes some =
    let i = length bytes - 1 in
    let all : length bytes ≤ i + 1 = omega arith in
    let within : i < length bytes = omega arith in
    sym (take_all (i + 1) bytes all) ∙ take_more bytes i 0 within

-- the last byte tells whether a carriage return stands at the end
pub returned : (bytes : List ℕ) → 0 < length bytes → bytes ≡ without_return bytes ++ cond (get_or bytes (length bytes - 1) 0 == 13) (13 ∷ []) []
returned bytes some =
    let last = get_or bytes (length bytes - 1) 0 in
    let front = take (length bytes - 1) bytes in
    last_of bytes some ∙ returned_at front last ∙ ap (λ l. without_return l ++ cond (last == 13) (13 ∷ []) []) (sym (last_of bytes some))

returned_more : (piece bytes : List ℕ) → 0 < length bytes
    → (piece ++ bytes) ≡ without_return (piece ++ bytes) ++ cond (get_or bytes (length bytes - 1) 0 == 13) (13 ∷ []) []
returned_more piece bytes some =
    let last = get_or bytes (length bytes - 1) 0 in
    let front = take (length bytes - 1) bytes in
    let whole : (piece ++ bytes) ≡ (piece ++ front) ++ last ∷ [] = ap (λ l. piece ++ l) (last_of bytes some) ∙ sym (append_assoc piece front (last ∷ [])) in
    whole ∙ returned_at (piece ++ front) last ∙ ap (λ l. without_return l ++ cond (last == 13) (13 ∷ []) []) (sym whole)

pub kept_more : (piece kept kept' bytes : List ℕ) (n : ℕ) (r r' : Bool) → IsKept piece kept n r → 0 < length bytes
    → kept' ≡ kept ++ take (min (length bytes) (4097 - length kept)) bytes → r' ≡ (get_or bytes (length bytes - 1) 0 == 13)
    → IsKept (piece ++ bytes) kept' (n + length bytes) r'
kept_more piece kept kept' bytes n r r' was some grows is = record {
  count = omega (arith, was.count, length-append piece bytes);
  whole = λ short.
      let sum = length-append piece bytes in
      let same : kept ≡ piece = was.whole (omega (arith, sum)) in
      let room : length bytes ≤ min (length bytes) (4097 - length kept) = omega (arith, sum, ap length same) in
      grows ∙ ap (λ l. kept ++ l) (take_all (min (length bytes) (4097 - length kept)) bytes room) ∙ ap (λ l. l ++ bytes) same;
  line = returned_more piece bytes some ∙ ap (λ t. without_return (piece ++ bytes) ++ cond t (13 ∷ []) []) (sym is);
}

-- nothing is kept of an empty piece
pub none_kept : (kept : List ℕ) (n : ℕ) (r : Bool) → n ≡ 0 → length kept ≡ min n 4097 → (r ≡ true → 0 < n) → IsKept [] kept n r
none_kept kept n true none room some = absurd (omega (arith, some refl))
none_kept [] n false none room some = record { count = none; whole = λ _. refl; line = refl }
none_kept (b ∷ kept) n false none room some = absurd (omega arith)

-- the line of a piece, by what is kept of it
pub kept_line : (piece kept : List ℕ) (n : ℕ) (r : Bool) (count : ℕ) → IsKept piece kept n r → n ≡ count + cond r 1 0
    → (length (without_return piece) ≡ count) × (count ≤ 4096 → without_return piece ≡ take count kept)
kept_line piece kept n true count was is =
    let size : length piece ≡ length (without_return piece) + 1 = ap length was.line ∙ length-append (without_return piece) (13 ∷ []) in
    let short : length (without_return piece) ≡ count = omega (arith, size, is, was.count) in
    (short, λ few. sym (ap (take count) (was.whole (omega (arith, was.count)) ∙ was.line) ∙ take_at (without_return piece) (13 ∷ []) count short))
kept_line piece kept n false count was is =
    let size : length piece ≡ length (without_return piece) + 0 = ap length was.line ∙ length-append (without_return piece) [] in
    let short : length (without_return piece) ≡ count = omega (arith, size, is, was.count) in
    (short, λ few. sym (ap (take count) (was.whole (omega (arith, was.count)) ∙ was.line) ∙ take_at (without_return piece) [] count short))

pub kept_none : (piece kept : List ℕ) (n : ℕ) (r : Bool) → IsKept piece kept n r → n ≡ 0 → piece ≡ []
kept_none [] kept n r was none = refl
kept_none (b ∷ piece) kept n r was none = absurd (omega (arith, was.count, none))

-- a piece that lies whole in some bytes
pub kept_whole : (piece : List ℕ) (n : ℕ) (r : Bool) → n ≡ length piece → piece ≡ without_return piece ++ cond r (13 ∷ []) [] → IsKept piece piece n r
kept_whole piece n r size line = record { count = size; whole = λ _. refl; line = line }

-- no byte was added
pub kept_nothing : (piece kept bytes : List ℕ) (n : ℕ) (r : Bool) → IsKept piece kept n r → bytes ≡ [] → IsKept (piece ++ bytes) kept n r
kept_nothing piece kept bytes n r was none = rw (none, append-nil piece) was

pub no_bytes : (bytes : List ℕ) → length bytes ≡ 0 → bytes ≡ []
no_bytes [] none = refl
no_bytes (b ∷ bytes) none = absurd (omega (arith, none))

-- bytes after the last line feed are a line
pub last_line-some : (bytes : List ℕ) → (length bytes ≡ 0 → ⊥) → last_line bytes ≡ bytes ∷ []
last_line-some [] some = absurd (some refl)
last_line-some (b ∷ bytes) some = refl

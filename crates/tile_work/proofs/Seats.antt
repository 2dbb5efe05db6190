-- What the places of a list hold, by their seats.
use Rattle.std.proofs.Common.{◌≡◌, ◌≢◌, ℕ, zero, suc, ◌+◌, ◌<◌, List, [], ◌∷◌, ◌++◌, length, get_or, replicate, refl, sym, ◌∙◌, ap, subst, arith, inl, inr}
use Rattle.std.specs.Prelude.{slice_set}
use Rattle.std.proofs.lemmas.Bool.{cases_eq, cases_lt}
use Rattle.std.proofs.lemmas.List.{get_or_append_left, get_or_push, get_or-map, get_or-replicate, get_or-set_same, get_or-set_other, get_or_default, length-map, length-replicate, length-set, length_push, set-get_or, ext_get_or}
use Rattle.tile_work.specs.Seats.{AreSeats, seat_at, seated}

-- what an index gives
pub seat_is : (seats : List ℕ) (t seat : ℕ) → t < length seats → seat ≡ get_or seats t seat → seat ≡ seat_at seats t
seat_is seats t seat l e = e ∙ get_or_default seats t seat 0 l

module _ {X : Type 0} (none : X) where
  pub seats_count : (held : List X) (seats : List ℕ) → length (seated none held seats) ≡ length seats
  seats_count held seats = length-map seats (λ seat. get_or held seat none)

  pub seated_at : (held : List X) (seats : List ℕ) (t : ℕ) → t < length seats → get_or (seated none held seats) t none ≡ get_or held (seat_at seats t) none
  seated_at held seats t l = get_or-map (λ seat. get_or held seat none) seats t 0 none l

  -- at first nobody holds anything
  pub nobody : (n : ℕ) → seated none (none ∷ []) (replicate n 0) ≡ replicate n none
  nobody zero = refl
  nobody (suc n) = ap (λ xs. none ∷ xs) (nobody n)

  pub begun_seats : (n : ℕ) → AreSeats none (none ∷ []) (replicate n 0)
  begun_seats n =
      let nought : (t : ℕ) → t < length (replicate n 0) → seat_at (replicate n 0) t ≡ 0 = λ t l. get_or-replicate n t 0 0 (omega (arith, l, length-replicate {A = ℕ} n 0)) in
      record {
        some = omega arith;
        first = refl;
        within = λ t l. omega (arith, nought t l);
        own = λ t u l m p e. absurd (omega (arith, p, nought t l));
      }

  -- and an index of that
  pub seat_lt : (held : List X) (seats : List ℕ) (t seat : ℕ) → AreSeats none held seats → t < length seats → seat ≡ get_or seats t seat → seat < length held
  seat_lt held seats t seat is l e = omega (arith, is.within t l, seat_is seats t seat l e)

  pub found_at : (held : List X) (seats : List ℕ) (t : ℕ) (x : X) → AreSeats none held seats → t < length seats → x ≡ get_or held (seat_at seats t) x → get_or (seated none held seats) t none ≡ x
  found_at held seats t x is l e = seated_at held seats t l ∙ sym (e ∙ get_or_default held (seat_at seats t) x none (is.within t l))

  pub found : (held : List X) (seats : List ℕ) (t seat : ℕ) (x : X) → AreSeats none held seats → t < length seats → seat ≡ get_or seats t seat → x ≡ get_or held seat x → get_or (seated none held seats) t none ≡ x
  found held seats t seat x is l e f = found_at held seats t x is l (f ∙ ap (λ k. get_or held k x) (seat_is seats t seat l e))

  -- a place that holds something has a seat of its own
  pub taken : (held : List X) (seats : List ℕ) (t : ℕ) → AreSeats none held seats → t < length seats → get_or (seated none held seats) t none ≢ none → 0 < seat_at seats t
  taken held seats t is l some = elim (cases_lt 0 (seat_at seats t)) as (λ _. 0 < seat_at seats t) [
    | inl p ↦ p
    | inr p ↦ (let first : seat_at seats t ≡ 0 = omega (arith, p) in absurd (some (seated_at held seats t l ∙ ap (λ k. get_or held k none) first ∙ is.first)))
  ]

  -- nobody takes it
  pub seated_more : (held : List X) (seats : List ℕ) (x : X) → AreSeats none held seats → seated none (held ++ x ∷ []) seats ≡ seated none held seats
  seated_more held seats x is = ext_get_or none (seated none (held ++ x ∷ []) seats) (seated none held seats) (seats_count (held ++ x ∷ []) seats ∙ sym (seats_count held seats))
      (λ u m.
      let l : u < length seats = omega (arith, m, seats_count (held ++ x ∷ []) seats) in
      seated_at (held ++ x ∷ []) seats u l ∙ get_or_append_left held (x ∷ []) none (seat_at seats u) (is.within u l) ∙ sym (seated_at held seats u l))

  pub more_seats : (held : List X) (seats : List ℕ) (x : X) → AreSeats none held seats → AreSeats none (held ++ x ∷ []) seats
  more_seats held seats x is = record {
    some = omega (arith, length_push held x);
    first = get_or_append_left held (x ∷ []) none 0 is.some ∙ is.first;
    within = λ t l. omega (arith, is.within t l, length_push held x);
    own = is.own;
  }

  module _ (held : List X) (seats : List ℕ) (is : AreSeats none held seats) (t : ℕ) (l : t < length seats) where
    -- a place takes a seat of its own
    module _ (x : X) where
      abbrev more : List X
      more = held ++ x ∷ []

      abbrev now : List ℕ
      now = slice_set seats t (length held)

      at_t : seat_at now t ≡ length held
      at_t = get_or-set_same seats t (length held) 0 l

      at_other : (u : ℕ) → u ≢ t → seat_at now u ≡ seat_at seats u
      at_other u n = get_or-set_other seats t u (length held) 0 n

      count : length now ≡ length seats
      count = length-set seats t (length held)

      longer : length more ≡ length held + 1
      longer = length_push held x

      pub added : AreSeats none (held ++ x ∷ []) (slice_set seats t (length held))
      added = record {
        some = omega (arith, longer);
        first = get_or_append_left held (x ∷ []) none 0 is.some ∙ is.first;
        within = λ u m. elim (cases_eq u t) as (λ _. seat_at now u < length more) [
          | inl e ↦ omega (arith, ap (seat_at now) e, at_t, longer)
          | inr n ↦ omega (arith, at_other u n, is.within u (omega (arith, m, count)), longer)
        ];
        own = λ u v m k p e. elim (cases_eq u t) as (λ _. u ≡ v) [
          | inl a ↦ elim (cases_eq v t) as (λ _. u ≡ v) [
            | inl b ↦ a ∙ sym b
            | inr b ↦ absurd (omega (arith, ap (seat_at now) a, at_t, e, at_other v b, is.within v (omega (arith, k, count))))
          ]
          | inr a ↦ elim (cases_eq v t) as (λ _. u ≡ v) [
            | inl b ↦ absurd (omega (arith, ap (seat_at now) b, at_t, e, at_other u a, is.within u (omega (arith, m, count))))
            | inr b ↦ is.own u v (omega (arith, m, count)) (omega (arith, k, count)) (omega (arith, p, at_other u a)) (sym (at_other u a) ∙ e ∙ at_other v b)
          ]
        ];
      }

      pub seated_added : seated none (held ++ x ∷ []) (slice_set seats t (length held)) ≡ slice_set (seated none held seats) t x
      seated_added = ext_get_or none (seated none more now) (slice_set (seated none held seats) t x)
          (seats_count more now ∙ count ∙ sym (length-set (seated none held seats) t x ∙ seats_count held seats))
          (λ u m.
          let u_lt : u < length seats = omega (arith, m, seats_count more now, count) in
          elim (cases_eq u t) as (λ _. get_or (seated none more now) u none ≡ get_or (slice_set (seated none held seats) t x) u none) [
            | inl e ↦ seated_at more now u (omega (arith, u_lt, count)) ∙ ap (λ k. get_or more (seat_at now k) none) e ∙ ap (λ k. get_or more k none) at_t ∙ get_or_push held x none (length held) refl
                ∙ sym (ap (λ k. get_or (slice_set (seated none held seats) t x) k none) e ∙ get_or-set_same (seated none held seats) t x none (omega (arith, l, seats_count held seats)))
            | inr n ↦ seated_at more now u (omega (arith, u_lt, count)) ∙ ap (λ k. get_or more k none) (at_other u n) ∙ get_or_append_left held (x ∷ []) none (seat_at seats u) (is.within u u_lt)
                ∙ sym (seated_at held seats u u_lt) ∙ sym (get_or-set_other (seated none held seats) t u x none n)
          ])

    -- what a seat holds is another thing now
    module _ (x : X) where
      abbrev put : List X
      put = slice_set held (seat_at seats t) x

      same_count : length put ≡ length held
      same_count = length-set held (seat_at seats t) x

      module _ (there : 0 < seat_at seats t) where
        pub written : AreSeats none (slice_set held (seat_at seats t) x) seats
        written = record {
          some = omega (arith, is.some, same_count);
          first = get_or-set_other held (seat_at seats t) 0 x none (λ e. omega (arith, e, there)) ∙ is.first;
          within = λ u m. omega (arith, is.within u m, same_count);
          own = is.own;
        }

        pub seated_written : seated none (slice_set held (seat_at seats t) x) seats ≡ slice_set (seated none held seats) t x
        seated_written = ext_get_or none (seated none put seats) (slice_set (seated none held seats) t x)
            (seats_count put seats ∙ sym (length-set (seated none held seats) t x ∙ seats_count held seats))
            (λ u m.
            let u_lt : u < length seats = omega (arith, m, seats_count put seats) in
            elim (cases_eq u t) as (λ _. get_or (seated none put seats) u none ≡ get_or (slice_set (seated none held seats) t x) u none) [
              | inl e ↦ seated_at put seats u u_lt ∙ ap (λ k. get_or put (seat_at seats k) none) e ∙ get_or-set_same held (seat_at seats t) x none (is.within t l)
                  ∙ sym (ap (λ k. get_or (slice_set (seated none held seats) t x) k none) e ∙ get_or-set_same (seated none held seats) t x none (omega (arith, l, seats_count held seats)))
              | inr n ↦ seated_at put seats u u_lt ∙ get_or-set_other held (seat_at seats t) (seat_at seats u) x none (λ e. n (sym (is.own t u l u_lt there (sym e))))
                  ∙ sym (seated_at held seats u u_lt) ∙ sym (get_or-set_other (seated none held seats) t u x none n)
            ])

    -- a seat is given up
    same_put : (n : ℕ) → n ≡ 0 → slice_set held n none ≡ held
    same_put n e = ap (λ k. slice_set held k none) e ∙ ap (λ y. slice_set held 0 y) (sym is.first) ∙ set-get_or held 0 none

    pub left : AreSeats none (slice_set held (seat_at seats t) none) seats
    left = elim (cases_lt 0 (seat_at seats t)) as (λ _. AreSeats none (slice_set held (seat_at seats t) none) seats) [
      | inl p ↦ written none p
      | inr p ↦ (let P : List X → Type 0 = λ xs. AreSeats none xs seats in subst P (sym (same_put (seat_at seats t) (omega (arith, p)))) is)
    ]

    pub others_stay : (u : ℕ) → u ≢ t → get_or (seated none (slice_set held (seat_at seats t) none) seats) u none ≡ get_or (seated none held seats) u none
    others_stay u n = elim (cases_lt 0 (seat_at seats t)) as (λ _. get_or (seated none (slice_set held (seat_at seats t) none) seats) u none ≡ get_or (seated none held seats) u none) [
      | inl p ↦ ap (λ xs. get_or xs u none) (seated_written none p) ∙ get_or-set_other (seated none held seats) t u none none n
      | inr p ↦ ap (λ xs. get_or (seated none xs seats) u none) (same_put (seat_at seats t) (omega (arith, p)))
    ]

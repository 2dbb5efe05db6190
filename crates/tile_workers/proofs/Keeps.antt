-- Each step keeps the rule of the ticket word.
use Rattle.std.proofs.Common.{◌≡◌, ◌≢◌, ℕ, zero, suc, ◌+◌, ◌-◌, ◌%◌, ◌^◌, ◌<◌, ◌≤◌, Bool, true, false, ◌||◌, List, [], ◌∷◌, ◌++◌, length, get_or, set, sym, refl, ap, ◌∙◌, subst, arith, length-append, length-set, get_or-set_same}
use Rattle.std.specs.Prelude.{sum_by}
use mathlib.Core.Option.{some, none, some-injective, some-ne-none}
use native.Mathlib.Decide.{dec_le}
use lib.ListN.{get_elem?}
use Rattle.atomic_table.specs.Table.{State, Me, step, keeps, Allows, Splits, Joins, Final, Seen}
use Rattle.atomic_table.proofs.Lists.{at_set}
use Rattle.tile_workers.specs.declared.seat.View.{View}
use Rattle.std.specs.List.{range_with_len}
use Rattle.tile_workers.specs.Lists.{one_if}
use Rattle.tile_workers.specs.Tickets.{view, new_view, spent_view, less_one, both_views}
use Rattle.tile_workers.specs.Rule.{IsDealt}
use Rattle.tile_workers.specs.Rule.{IsBoard, marks, drew}
use Rattle.tile_workers.proofs.Sums.{sum_set, sum_fork, sum_both, sum_one, sum_two, sum_only, each_set, each_snoc}
use Rattle.tile_workers.proofs.Numbers.{length_merged}
use Rattle.tile_workers.proofs.Dealt.{split_dealt, draw_dealt, join_dealt, others_spent, dealt_whole}

abbrev St : Type 0
St = State (Unit {0}) View

abbrev SpentIsBlank : View → Type 0
SpentIsBlank v = v.share ≡ 0 → (v.drawn ≡ []) × (v.marked ≡ false)

pub splits : (i : ℕ) (v : View) → 1 < v.share → Splits IsBoard i v (less_one v) new_view
splits i v more s b at = let l : List View = s.views in
    let same : marks (set l i (less_one v) ++ new_view ∷ []) ≡ marks l = omega (arith, sum_fork (λ (u : View). one_if u.marked) l i v (less_one v) new_view at) in record {
      one_word = b.one_word;
      shares = let h = b.shares in omega (arith, sum_fork (λ (u : View). u.share) l i v (less_one v) new_view at);
      spent = each_snoc SpentIsBlank (set l i (less_one v)) new_view (each_set SpentIsBlank l i (less_one v) b.spent (λ h. absurd (omega arith))) (λ h. (refl, refl));
      dealt = λ h. split_dealt (get_or s.words 0 0) l i v (b.dealt (omega arith)) at more;
      ran_over = λ h. let o = b.ran_over (omega arith) in omega (arith, sum_fork (λ (u : View). length u.drawn) l i v (less_one v) new_view at);
    }

or_marks : (a b : Bool) → one_if (a || b) ≤ one_if a + one_if b
or_marks true b = omega arith
or_marks false b = omega arith

or_none : (a b : Bool) → one_if (a || b) ≡ 0 → one_if a + one_if b ≡ 0
or_none true b h = absurd (omega arith)
or_none false b h = omega arith

pub joins : (i j : ℕ) (v w : View) → 0 < v.share → Joins IsBoard i v j w (both_views v w) spent_view
joins i j v w live s b at n at'' = let l : List View = s.views in let both : View = both_views v w in
    let apart : i ≢ j = λ e. n (sym e) in
    let at' : get_elem? l j ≡ some w = mathlib.Core.Logic.⊎_elim (λ t. absurd (n t.0)) (λ t. t.1) (at_set l i j both w at'') in
    let m = sum_both (λ (u : View). one_if u.marked) l i j v w both spent_view apart at at' in
    let two = sum_two (λ (u : View). one_if u.marked) l i j v w apart at at' in
    let clean : marks (set (set l i both) j spent_view) ≡ 0 → marks l ≡ 0 = λ h. let neither : one_if (v.marked || w.marked) ≡ 0 = omega arith in let each = or_none v.marked w.marked neither in omega arith in record {
      one_word = b.one_word;
      shares = let h = b.shares in omega (arith, sum_both (λ (u : View). u.share) l i j v w both spent_view apart at at');
      spent = each_set SpentIsBlank (set l i both) j spent_view (each_set SpentIsBlank l i both b.spent (λ h. absurd (omega arith))) (λ h. (refl, refl));
      dealt = λ h. join_dealt (get_or s.words 0 0) l i j v w (b.dealt (clean h)) apart at at' live;
      ran_over = λ h. let o = b.ran_over (omega (arith, or_marks v.marked w.marked)) in
          omega (arith, sum_both (λ (u : View). length u.drawn) l i j v w both spent_view apart at at', length_merged v.drawn w.drawn);
    }

there : {A : Type 0} (l : List A) (i : ℕ) (a : A) → get_elem? l i ≡ some a → i < length l
there [] i a e = absurd (some-ne-none a (sym e))
there (x ∷ xs) zero a e = omega arith
there (x ∷ xs) (suc i) a e = let r = there xs i a e in omega arith

abbrev After : St → ℕ → View → ℕ → St
After s i w x = record { words = set s.words 0 x; homes = s.homes; views = set s.views i w }

placed : (s : St) (i : ℕ) (v w : View) (x : ℕ) → IsBoard s → get_elem? s.views i ≡ some v → w.share ≡ v.share → 0 < v.share
    → (marks (set s.views i w) ≡ 0 → IsDealt x (set s.views i w)) → (0 < marks (set s.views i w) → 2 ^ 64 - 1 ≤ sum_by (λ (u : View). length u.drawn) (set s.views i w)) → IsBoard (After s i w x)
placed s i v w x b at same live dealt over = record {
  one_word = length-set s.words 0 x ∙ b.one_word;
  shares = let h = b.shares in omega (arith, sum_set (λ (u : View). u.share) s.views i v w at);
  spent = each_set SpentIsBlank s.views i w b.spent (λ h. absurd (omega arith));
  dealt = λ h. subst (λ (z : ℕ). IsDealt z (set s.views i w)) (sym (get_or-set_same s.words 0 x 0 (let one = b.one_word in omega arith))) (dealt h);
  ran_over = over;
}

blank : (l : List View) (i : ℕ) (v : View) (s : St) → IsBoard s → s.views ≡ l → get_elem? s.views i ≡ some v → v.share ≡ 64 → (j : ℕ) (w : View) → i ≢ j → get_elem? s.views j ≡ some w → (w.drawn ≡ []) × (w.marked ≡ false)
blank l i v s b _ at whole j w apart at' = b.spent j w at' (others_spent s.views i v b.shares at whole j w apart at')

whole_board : (s : St) (i : ℕ) (v : View) → IsBoard s → get_elem? s.views i ≡ some v → v.share ≡ 64 → length v.drawn < 2 ^ 64 - 1 → (v.drawn ≡ range_with_len 0 (get_or s.words 0 0)) × (one_if v.marked ≡ 0)
whole_board s i v b at whole short =
    let none = blank s.views i v s b refl at whole in
    let lengths = sum_only (λ (u : View). length u.drawn) s.views i v at (λ j w apart at'. ap (λ (ys : List ℕ). length ys) (none j w apart at').0) in
    let m = sum_only (λ (u : View). one_if u.marked) s.views i v at (λ j w apart at'. ap one_if (none j w apart at').1) in
    let clean : marks s.views ≡ 0 = elim (dec_le 1 (marks s.views)) [ yes d ↦ absurd (let o = b.ran_over d in omega arith) | no d ↦ omega arith ] in (
      (dealt_whole (get_or s.words 0 0) s.views i v (b.dealt clean) at whole).0,
      sym m ∙ clean,
    )

abbrev Drawn : ℕ → Me (Unit {0}) View → St → Type 0
Drawn i me s = (w : View) × IsBoard (After s i w ((get_or s.words 0 0 + 1) % 2 ^ 64)) × drew (step 0 0 1 0 none) me (get_or s.words 0 0) (w, me.1)

-- a draw that finds the last number of 64 bits, or comes after one that did
draws_over : (i : ℕ) (me : Me (Unit {0}) View) (s : St) → IsBoard s → get_elem? s.views i ≡ some me.0 → 0 < me.0.share → get_or s.words 0 0 < 18446744073709551616
    → (marks s.views ≡ 0 → 18446744073709551615 ≤ get_or s.words 0 0) → Drawn i me s
draws_over i me s b at live small last = let n : ℕ = get_or s.words 0 0 in let v : View = me.0 in let w : View = view (v.drawn ++ n ∷ []) v.share true in
    let m = sum_set (λ (u : View). one_if u.marked) s.views i v w at in
    let r = sum_set (λ (u : View). length u.drawn) s.views i v w at in
    let long : 2 ^ 64 - 1 ≤ sum_by (λ (u : View). length u.drawn) (set s.views i w) = elim (dec_le 1 (marks s.views)) [
      | yes d ↦ let o = b.ran_over d in omega (arith, length-append v.drawn (n ∷ []))
      | no d ↦ let none : marks s.views ≡ 0 = omega arith in let c = (b.dealt none).counted in let e = last none in omega (arith, length-append v.drawn (n ∷ []))
    ] in (
      w,
      placed s i v w ((n + 1) % 2 ^ 64) b at refl live (λ h. absurd (omega (arith, sum_one (λ (u : View). one_if u.marked) s.views i v at))) (λ h. long),
      (refl, refl, refl, (λ h. absurd (mathlib.Core.Bool.true≢false h)), λ whole short. (whole_board s i v b at whole short).0),
    )

draws_on : (i : ℕ) (me : Me (Unit {0}) View) (s : St) → IsBoard s → get_elem? s.views i ≡ some me.0 → 0 < me.0.share → marks s.views ≡ 0 → get_or s.words 0 0 < 18446744073709551615 → Drawn i me s
draws_on i me s b at live clean small = let n : ℕ = get_or s.words 0 0 in let v : View = me.0 in let w : View = view (v.drawn ++ n ∷ []) v.share v.marked in
    let m = sum_set (λ (u : View). one_if u.marked) s.views i v w at in
    let d = draw_dealt n s.views i v v.marked (b.dealt clean) at live in
    let next : n + 1 ≡ (n + 1) % 2 ^ 64 = omega arith in (
      w,
      placed s i v w ((n + 1) % 2 ^ 64) b at refl live (λ h. subst (λ (z : ℕ). IsDealt z (set s.views i w)) next d) (λ h. absurd (omega arith)),
      (refl, refl, refl, (λ h. (h, d.ascends i w (Rattle.atomic_table.proofs.Lists.set_here s.views i w (there s.views i v at)))), λ whole short. (whole_board s i v b at whole short).0),
    )

drawn_cases : (i : ℕ) (me : Me (Unit {0}) View) (s : St) → IsBoard s → get_elem? s.views i ≡ some me.0 → 0 < me.0.share → get_or s.words 0 0 < 18446744073709551616
    → Dec (1 ≤ marks s.views) → Dec (get_or s.words 0 0 + 1 ≤ 18446744073709551615) → Drawn i me s
drawn_cases i me s b at live small (yes d) e = draws_over i me s b at live small (λ h. absurd (omega arith))
drawn_cases i me s b at live small (no d) (yes e) = draws_on i me s b at live (omega arith) (omega arith)
drawn_cases i me s b at live small (no d) (no e) = draws_over i me s b at live small (λ h. omega arith)

pub draws : (slots i : ℕ) (me : Me (Unit {0}) View) → 0 < me.0.share → Allows IsBoard slots i me 0 (λ n. (n + 1) % 2 ^ 64) (drew (step slots 0 1 0 none) me)
draws slots i me live s b _ at small = let r = drawn_cases i me s b at live small (dec_le 1 (marks s.views)) (dec_le (get_or s.words 0 0 + 1) 18446744073709551615) in (r.0, keeps, tt, r.1, r.2)

word_of : (l : List ℕ) (n : ℕ) → get_elem? l 0 ≡ some n → get_or l 0 0 ≡ n
word_of [] n e = absurd (some-ne-none n (sym e))
word_of (x ∷ xs) n e = some-injective x n e

unmarked : (b : Bool) → one_if b ≡ 0 → b ≡ false
unmarked true h = absurd (omega arith)
unmarked false h = refl

pub closes : (i : ℕ) (v : View) (words : List ℕ) (slots : List (Unit {0})) (n : ℕ) → Final (Seen IsBoard i v) words slots → get_elem? words 0 ≡ some n
    → v.share ≡ 64 → length v.drawn < 2 ^ 64 - 1 → (v.drawn ≡ range_with_len 0 n) × (v.marked ≡ false)
closes i v words slots n f at whole short =
    let r = whole_board f.0 i v f.1.0 f.1.1 whole short in
    let same : get_or f.0.words 0 0 ≡ n = ap (λ (l : List ℕ). get_or l 0 0) f.2 ∙ word_of words n at in
    (r.0 ∙ ap (range_with_len 0) same, unmarked v.marked r.1)

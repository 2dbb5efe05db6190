-- Reading the items of branches, one further item at a time.
use Rattle.std.proofs.Common.{◌≡◌, ℕ, suc, true, false, List, [], ◌∷◌, ◌++◌, length, Ok, refl}
use Rattle.std.specs.Prelude.{codes, nat_lt}
use Rattle.map_words.specs.Bytes.{Text}
use Rattle.grammar_core.specs.Readers.{starts}
use Rattle.statement_parser.specs.Lines.{Manner, Item}
use Rattle.statement_parser.specs.Places.{the, maybe}
use Rattle.statement_parser.specs.ReadBranches.{item_behind_at, items_at}

module _ (m : Manner) (k : ℕ) (bs : List (List Item)) (is : List Item) (ws us : List Text) (i : Item) where
  pub longer_at : (js : List Item) → starts (the (codes ";")) ws ≡ true → item_behind_at m (codes ";") ws ≡ Ok (i, us) → js ≡ is ++ i ∷ [] → items_at m (suc k) bs is ws ≡ items_at m k bs js us
  unfolding items_at
  longer_at js s e j = rw (s, e, j) refl

  pub further_at : (cs : List (List Item)) (js : List Item) → starts (the (codes ";")) ws ≡ false → starts (maybe (nat_lt (length bs) 15) (the (codes "branch"))) ws ≡ true → item_behind_at m (codes "branch") ws ≡ Ok (i, us)
      → cs ≡ bs ++ is ∷ [] → js ≡ i ∷ [] → items_at m (suc k) bs is ws ≡ items_at m k cs js us
  unfolding items_at
  further_at cs js s b e f j = rw (s, b, e, f, j) refl

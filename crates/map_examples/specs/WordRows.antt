-- Words of a run, and words that are of no form.
use Rattle.std.specs.Prelude.{◌≡◌, ℕ, List, [], ◌∷◌, ◌++◌, Some, None, codes, String, string_bytes}
use Rattle.std.specs.declared.alloc.Global.{Global}
use Rattle.map_machine.specs.Limits.{longest_file, too_many_bytes}
use Rattle.map_machine.specs.Words.{of_files, of_sample, form_of}
use Rattle.map_machine.specs.Play.{run_text}
use Rattle.map_examples.specs.Runs.{summed, grid_of, ok}

-- the words have these bytes
abbrev pub Say : List (String Global) → List (List ℕ) → Type 0
Say [] [] = Unit {0}
Say [] (t ∷ ts) = ⊥
Say (w ∷ ws) [] = ⊥
Say (w ∷ ws) (t ∷ ts) = (string_bytes w ≡ t) × Say ws ts

pub record WordRows : Type 0 where
  pub no_words : form_of [] ≡ None
  pub no_pair : (a b c : String Global) → Say (a ∷ b ∷ c ∷ []) (codes "run" ∷ codes "1" ∷ codes "-" ∷ []) → form_of (a ∷ b ∷ c ∷ []) ≡ None
  pub sixty_five_workers : (a b c d : String Global) → Say (a ∷ b ∷ c ∷ d ∷ []) (codes "run" ∷ codes "65" ∷ codes "-" ∷ codes "A=a" ∷ []) → form_of (a ∷ b ∷ c ∷ d ∷ []) ≡ None
  pub no_workers : (a b c d : String Global) → Say (a ∷ b ∷ c ∷ d ∷ []) (codes "run" ∷ codes "0" ∷ codes "-" ∷ codes "A=a" ∷ []) → form_of (a ∷ b ∷ c ∷ d ∷ []) ≡ None
  pub leading_nought : (a b c d : String Global) → Say (a ∷ b ∷ c ∷ d ∷ []) (codes "run" ∷ codes "01" ∷ codes "-" ∷ codes "A=a" ∷ []) → form_of (a ∷ b ∷ c ∷ d ∷ []) ≡ None
  pub name_twice : (a b c d e : String Global) → Say (a ∷ b ∷ c ∷ d ∷ e ∷ []) (codes "run" ∷ codes "1" ∷ codes "-" ∷ codes "A=a" ∷ codes "A=b" ∷ []) → form_of (a ∷ b ∷ c ∷ d ∷ e ∷ []) ≡ None
  pub reserved_name : (a b c d : String Global) → Say (a ∷ b ∷ c ∷ d ∷ []) (codes "run" ∷ codes "1" ∷ codes "-" ∷ codes "of=a" ∷ []) → form_of (a ∷ b ∷ c ∷ d ∷ []) ≡ None
  pub sample_of_nought : (a b c : String Global) → Say (a ∷ b ∷ c ∷ []) (codes "sample" ∷ codes "1" ∷ codes "0" ∷ []) → form_of (a ∷ b ∷ c ∷ []) ≡ None
  pub sample_too_large : (a b c : String Global) → Say (a ∷ b ∷ c ∷ []) (codes "sample" ∷ codes "1" ∷ codes "1225" ∷ []) → form_of (a ∷ b ∷ c ∷ []) ≡ None
  pub a_pair : (a b c d : String Global) → Say (a ∷ b ∷ c ∷ d ∷ []) (codes "run" ∷ codes "1" ∷ codes "-" ∷ codes "A=a" ∷ []) → form_of (a ∷ b ∷ c ∷ d ∷ []) ≡ Some (of_files None (record { name = codes "A"; file = codes "a" } ∷ []))
  pub two_pairs : (a b c d e : String Global) → Say (a ∷ b ∷ c ∷ d ∷ e ∷ []) (codes "run" ∷ codes "1" ∷ codes "-" ∷ codes "A=a" ∷ codes "B=b" ∷ []) → form_of (a ∷ b ∷ c ∷ d ∷ e ∷ []) ≡ Some (of_files None (record { name = codes "A"; file = codes "a" } ∷ record { name = codes "B"; file = codes "b" } ∷ []))
  pub a_model : (a b c d : String Global) → Say (a ∷ b ∷ c ∷ d ∷ []) (codes "run" ∷ codes "1" ∷ codes "m" ∷ codes "A=a" ∷ []) → form_of (a ∷ b ∷ c ∷ d ∷ []) ≡ Some (of_files (Some (codes "m")) (record { name = codes "A"; file = codes "a" } ∷ []))
  pub sixty_four_workers : (a b c d : String Global) → Say (a ∷ b ∷ c ∷ d ∷ []) (codes "run" ∷ codes "64" ∷ codes "-" ∷ codes "A=a" ∷ []) → form_of (a ∷ b ∷ c ∷ d ∷ []) ≡ Some (of_files None (record { name = codes "A"; file = codes "a" } ∷ []))
  pub smallest_sample : (a b c : String Global) → Say (a ∷ b ∷ c ∷ []) (codes "sample" ∷ codes "1" ∷ codes "1" ∷ []) → form_of (a ∷ b ∷ c ∷ []) ≡ Some (of_sample 1)
  pub realistic_sample : (a b c : String Global) → Say (a ∷ b ∷ c ∷ []) (codes "sample" ∷ codes "8" ∷ codes "1201" ∷ []) → form_of (a ∷ b ∷ c ∷ []) ≡ Some (of_sample 1201)
  pub whole_run : (a b c d : String Global) → Say (a ∷ b ∷ c ∷ d ∷ []) (codes "run" ∷ codes "1" ∷ codes "-" ∷ codes "A=a" ∷ [])
      → run_text longest_file too_many_bytes (a ∷ b ∷ c ∷ d ∷ []) summed.files summed.session ≡ ok 1 1 1 0 ++ ok 2 1 1 0 ++ grid_of 3 3 (codes "4 5 6\n7 8 9\n10 11 12\n")

-- The words of a run.
use Rattle.std.specs.Prelude.{ℕ, nat_lt, Bool, List, [], ◌∷◌, ◌++◌, map, find, length, Option, Some, None, option_map, String, string_bytes, codes, decimal, bytes_eq, if◌then◌else◌}
use Rattle.std.specs.List.{list_any, range_with_len}
use Rattle.std.specs.declared.alloc.Global.{Global}
use Rattle.map_machine.specs.Limits.{most_workers, largest_sample}
use Rattle.map_machine.specs.Pairs.{Pair, all_pairs, pairs_of}

pub data Form : Type 0 where
  -- a model file, where there is one, and what is loaded before it, in order
  of_files : Option (List ℕ) → List Pair → Form
  -- so many rows and columns
  of_sample : ℕ → Form

-- 1 to 64, in digits without a sign or a leading nought
abbrev pub is_workers : List ℕ → Bool
is_workers word = list_any (λ n. bytes_eq word (decimal n)) (range_with_len 1 most_workers)

-- 1 to 1224, in such digits
abbrev pub sample_size : List ℕ → Option ℕ
sample_size word = find (λ n. bytes_eq word (decimal n)) (range_with_len 1 largest_sample)

-- - stands for no model file
abbrev pub model_of : List ℕ → Option (List ℕ)
model_of word = if bytes_eq word (codes "-") then None else Some word

abbrev pub files_form : List ℕ → Option (List Pair) → Option Form
files_form model None = None
files_form model (Some ps) = if nat_lt 0 (length model) then Some (of_files (model_of model) ps) else None

abbrev pub sample_form : List ℕ → List (String Global) → Option Form
sample_form size [] = option_map of_sample (sample_size size)
sample_form size (word ∷ words) = None

abbrev pub form_by : List ℕ → List ℕ → List ℕ → List (String Global) → Option Form
form_by verb workers third rest =
    if is_workers workers
    then (if bytes_eq verb (codes "run") then files_form third (pairs_of (all_pairs rest)) else (if bytes_eq verb (codes "sample") then sample_form third rest else None))
    else None

-- `run WORKERS MODEL NAME=FILE {NAME=FILE}` or `sample WORKERS N`
abbrev pub form_of : List (String Global) → Option Form
form_of (verb ∷ workers ∷ third ∷ rest) = form_by (string_bytes verb) (string_bytes workers) (string_bytes third) rest
form_of _ = None

abbrev pub model_files : Option (List ℕ) → List (List ℕ)
model_files None = []
model_files (Some file) = file ∷ []

-- the files that are fetched, in order
abbrev pub files_of : Form → List (List ℕ)
files_of (of_files model ps) = map (λ (p : Pair). p.file) ps ++ model_files model
files_of (of_sample n) = []

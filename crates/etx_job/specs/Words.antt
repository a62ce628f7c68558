-- The words of the command line.
use Rattle.std.specs.Prelude.{ℕ, ◌+◌, ◌-◌, ◌*◌, ◌^◌, Bool, false, ◌==◌, ◌&&◌, not, nat_le, List, [], ◌∷◌, ◌++◌, length, take, drop, Option, Some, None, if◌then◌else◌, codes}
use Rattle.std.specs.List.{list_all}
use Rattle.std.specs.Str.{bytes_eq}
use Rattle.etx_outside.specs.Names.{is_good_name, name_with_extension, job_name_of}
use Rattle.etx_matter.specs.Jobs.{JobState}

abbrev pub begins_with_dash : List ℕ → Bool
begins_with_dash [] = false
begins_with_dash (b ∷ bytes) = b == 45

-- a name that may stand on the command line
abbrev pub is_file_word : List ℕ → Bool
is_file_word word = is_good_name word && not (begins_with_dash word)

-- ---- the steps that a job may take

-- where no word says how many
abbrev pub default_budget : ℕ
default_budget = 100000000

-- the most that a word may give: 2^40
abbrev pub greatest_budget : ℕ
greatest_budget = 1099511627776

abbrev pub is_digit : ℕ → Bool
is_digit byte = nat_le 48 byte && nat_le byte 57

-- the number that decimal digits write
abbrev pub number_of : List ℕ → ℕ
number_of [] = 0
number_of (digit ∷ digits) = (digit - 48) * 10 ^ length digits + number_of digits

-- at most thirteen decimal digits, which write a number from 1 to the greatest
abbrev pub is_budget : List ℕ → Bool
is_budget word = nat_le (length word) 13 && list_all is_digit word && nat_le 1 (number_of word) && nat_le (number_of word) greatest_budget

abbrev pub budget_in : List ℕ → Option ℕ
budget_in word = if is_budget word then Some (number_of word) else None

-- the steps in one word: `--steps=N`
abbrev pub budget_joined : List ℕ → Option ℕ
budget_joined word = if bytes_eq (take 8 word) (codes "--steps=") then budget_in (drop 8 word) else None

-- the steps in two words: `--steps` and N
abbrev pub budget_apart : List ℕ → List ℕ → Option ℕ
budget_apart option number = if bytes_eq option (codes "--steps") then budget_in number else None

-- ---- the job that the words ask for

-- `.tex` is added to a name without a full stop
abbrev pub job_of : List ℕ → ℕ → JobState
job_of file budget = record { name = name_with_extension file (codes ".tex"); budget = budget }

-- the job of a file and of steps, if they were given
abbrev pub job_with : List ℕ → Option ℕ → Option JobState
job_with file None = None
job_with file (Some budget) = if is_file_word file then Some (job_of file budget) else None

abbrev pub or_else : Option JobState → Option JobState → Option JobState
or_else None other = other
or_else (Some job) other = Some job

-- behind `alone`: the name of a file, with or without the steps, which stand behind it or before it, in one word or in two
abbrev pub job_behind : List (List ℕ) → Option JobState
job_behind [] = None
job_behind (file ∷ []) = job_with file (Some default_budget)
job_behind (first ∷ second ∷ []) = or_else (job_with first (budget_joined second)) (job_with second (budget_joined first))
job_behind (first ∷ second ∷ third ∷ []) = or_else (job_with first (budget_apart second third)) (job_with third (budget_apart first second))
job_behind (first ∷ second ∷ third ∷ fourth ∷ more) = None

-- the job that the words ask for, if they are of a known form
abbrev pub job_asked : List (List ℕ) → Option JobState
job_asked [] = None
job_asked (command ∷ words) = if bytes_eq command (codes "alone") then job_behind words else None

-- the name of a job's log
abbrev pub log_name : List ℕ → List ℕ
log_name file = job_name_of file ++ codes ".log"

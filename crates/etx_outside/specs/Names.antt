-- Names of files: which of them are good, the extension that a name gets, and the name of a job.
use Rattle.std.specs.Prelude.{◌≢◌, ℕ, ◌≤◌, Bool, not, ◌&&◌, ◌||◌, ◌==◌, List, ◌++◌, length, All, nat_le, codes, if◌then◌else◌}
use Rattle.std.specs.List.{list_any, list_all, before_last}
use Rattle.std.specs.Str.{bytes_eq}

-- a byte that a good name may have: visible ASCII, and no slash
abbrev pub IsGoodByte : ℕ → Type 0
IsGoodByte b = (33 ≤ b) × (b ≤ 126) × (b ≢ 47)

-- a good name: 1 to 200 such bytes, which are not the name of this folder or of the one above
pub record IsGood (name : List ℕ) : Type 0 where
  pub some : 1 ≤ length name
  pub short : length name ≤ 200
  pub bytes : All IsGoodByte name
  pub not_here : name ≢ codes "."
  pub not_above : name ≢ codes ".."

-- the same as tests, for definitions that choose by them
abbrev pub is_good_byte : ℕ → Bool
is_good_byte b = nat_le 33 b && nat_le b 126 && not (b == 47)

abbrev pub is_folder : List ℕ → Bool
is_folder name = bytes_eq name (codes ".") || bytes_eq name (codes "..")

abbrev pub is_good_name : List ℕ → Bool
is_good_name name = nat_le 1 (length name) && nat_le (length name) 200 && list_all is_good_byte name && not (is_folder name)

abbrev pub is_full_stop : ℕ → Bool
is_full_stop b = b == 46

abbrev pub has_full_stop : List ℕ → Bool
has_full_stop name = list_any is_full_stop name

-- the name with the extension, if it has no full stop
abbrev pub name_with_extension : List ℕ → List ℕ → List ℕ
name_with_extension name extension = if has_full_stop name then name else name ++ extension

-- the name of the job whose main file has this name: up to the last full stop, if there is one
abbrev pub job_name_of : List ℕ → List ℕ
job_name_of name = if has_full_stop name then before_last is_full_stop name else name

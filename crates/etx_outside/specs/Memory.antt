-- A tree and a terminal in memory, as their contracts see them.
use Rattle.std.specs.Prelude.{◌≡◌, ℕ, ◌+◌, ◌/◌, ◌^◌, ◌-◌, ◌≢◌, ◌<◌, ◌==◌, List, [], ◌∷◌, ◌++◌, Bool, Option, min, length, take, unwrap_or, slice_index_or, refl}
use Rattle.std.specs.List.{list_any}
use Rattle.std.specs.Ordering.{nat_cmp}
use Rattle.std.specs.Cmp.Lexicographic.{slice_cmp}
use Rattle.std.specs.Coded.{Coded, code_by, coded×, coded_list, coded_ℕ}
use Rattle.std.specs.FinMap as map

-- files by their names
abbrev pub FileMap : Type 0
FileMap = map.FinMap (slice_cmp nat_cmp) (List ℕ)

abbrev pub no_files : FileMap
no_files = map.empty

-- what the name's file holds, if there is one
abbrev pub file_at : FileMap → List ℕ → Option (List ℕ)
file_at files name = map.get files name

-- the files of a list, in which a name counts once, where it stands first
abbrev pub file_map : List (List ℕ × List ℕ) → FileMap
file_map files = map.from_entries files

-- the files with one that holds these bytes, in place of what stood under its name
abbrev pub with_file : List ℕ → List ℕ → FileMap → FileMap
with_file name bytes files = map.insert files name bytes

-- the files with bytes added at the end of one
abbrev pub with_more : List ℕ → List ℕ → FileMap → FileMap
with_more name more files = with_file name (unwrap_or (file_at files name) [] ++ more) files

-- the files with these put in, one after the other, so that of a name the last counts
abbrev pub with_all : List (List ℕ × List ℕ) → FileMap → FileMap
with_all [] files = files
with_all (f ∷ fs) files = with_all fs (with_file f.0 f.1 files)

-- one more, up to the greatest u64
abbrev pub next : ℕ → ℕ
next n = min (n + 1) (2 ^ 64 - 1)

-- the call behind so many has a number in the list. Calls are numbered from 1, and each behind the greatest u64 has that number
abbrev pub is_failing : List ℕ → ℕ → Bool
is_failing failing calls = list_any (λ n. n == next calls) failing

-- the first half of the bytes, rounded down
abbrev pub half : List ℕ → List ℕ
half bytes = take (length bytes / 2) bytes

-- a tree in memory: its files, the names asked for in order, the numbers of the calls that fail, how many calls there were, and the counts of faults
pub record TreeState : Type 0 where
  pub files : FileMap
  pub asked : List (List ℕ)
  pub failing : List ℕ
  pub calls : ℕ
  pub read_faults : ℕ
  pub write_faults : ℕ

abbrev pub tree_code : Coded TreeState
tree_code =
    code_by (FileMap × (List (List ℕ) × (List ℕ × (ℕ × (ℕ × ℕ)))))
    (coded× (map.code (coded_list coded_ℕ) (coded_list coded_ℕ)) (coded× (coded_list (coded_list coded_ℕ)) (coded× (coded_list coded_ℕ) (coded× coded_ℕ (coded× coded_ℕ coded_ℕ)))))
    (λ t. (t.files, (t.asked, (t.failing, (t.calls, (t.read_faults, t.write_faults))))))
    (λ p. record { files = p.0; asked = p.1.0; failing = p.1.1.0; calls = p.1.1.1.0; read_faults = p.1.1.1.1.0; write_faults = p.1.1.1.1.1 })
    (λ _. refl)

-- a tree before its first call
abbrev pub fresh_tree : FileMap → List ℕ → TreeState
fresh_tree files failing = record { files = files; asked = []; failing = failing; calls = 0; read_faults = 0; write_faults = 0 }

-- the tree after a load of a name
abbrev pub tree_asked : List ℕ → TreeState → TreeState
tree_asked name t = record t { asked = t.asked ++ name ∷ []; calls = next t.calls }

-- the tree after a call that left these files
abbrev pub tree_written : FileMap → TreeState → TreeState
tree_written files t = record t { files = files; calls = next t.calls }

abbrev pub with_read_fault : TreeState → TreeState
with_read_fault t = record t { read_faults = next t.read_faults }

abbrev pub with_write_fault : TreeState → TreeState
with_write_fault t = record t { write_faults = next t.write_faults }

-- a terminal in memory: its text, the numbers of the calls that fail, how many calls there were, and the count of faults
pub record TerminalState : Type 0 where
  pub text : List ℕ
  pub failing : List ℕ
  pub calls : ℕ
  pub faults : ℕ

-- the terminal after a call that showed these bytes
abbrev pub terminal_shown : List ℕ → TerminalState → TerminalState
terminal_shown bytes t = record t { text = t.text ++ bytes; calls = next t.calls }

abbrev pub with_fault : TerminalState → TerminalState
with_fault t = record t { faults = next t.faults }

-- the first of these files that has this name stands at i
pub record IsFirstNamed (name : List ℕ) (files : List (List ℕ × List ℕ)) (i : ℕ) : Type 0 where
  pub within : i < length files
  pub named : (d : List ℕ × List ℕ) → (slice_index_or files i d).0 ≡ name
  pub others : (k : ℕ) (d : List ℕ × List ℕ) → k < i → (slice_index_or files k d).0 ≢ name

-- A tree and a terminal as one value, and what a history makes of it.
use Rattle.std.specs.Prelude.{◌≡◌, ◌⊎◌, ℕ, ◌≤◌, List, ◌++◌}
use Rattle.etx_outside.specs.Entries.{Files, History, files_after, said, asked_in}
use Rattle.etx_outside.specs.Faults.{Counts, Rose}

pub record Outside : Type 0 where
  pub files : Files
  pub asked : List (List ℕ)
  pub text : List ℕ

unfoldable pub outside_of : {F T : Type 0} → (F → Files) → (F → List (List ℕ)) → (T → List ℕ) → F → T → Outside
outside_of files asked text tree terminal = record { files = files tree; asked = asked tree; text = text terminal }

-- after these entries
unfoldable pub after : History → Outside → Outside
after h o = record { files = files_after h o.files; asked = o.asked ++ asked_in h; text = o.text ++ said h }

-- some first entries of the whole were written
pub record Front (whole : History) (old new : Outside) : Type 0 where
  pub written : History
  pub rest : History
  pub parts : written ++ rest ≡ whole
  pub now : new ≡ after written old

-- the counts of faults of both
pub record Faults : Type 0 where
  pub reads : ℕ
  pub writes : ℕ
  pub says : ℕ

abbrev pub faults_of : {F T : Type 0} → (F → Counts) → (T → ℕ) → F → T → Faults
faults_of tree_faults terminal_faults tree terminal = record { reads = (tree_faults tree).reads; writes = (tree_faults tree).writes; says = terminal_faults terminal }

pub record NoneFell (old new : Faults) : Type 0 where
  pub reads : old.reads ≤ new.reads
  pub writes : old.writes ≤ new.writes
  pub says : old.says ≤ new.says

-- the tree or the terminal failed at a write
abbrev pub WriteRose : Faults → Faults → Type 0
WriteRose old new = Rose old.writes new.writes ⊎ Rose old.says new.says

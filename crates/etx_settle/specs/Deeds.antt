-- What deeds write: the entries of a history.
use Rattle.std.specs.Prelude.{◌≡◌, ℕ, Bool, true, false, List, [], ◌∷◌, ◌++◌, nat_eq, ◌==◌, ◌-◌, length, slice_get, Option, Some, None, codes}
use Rattle.std.specs.Fmt.{decimal}
use Rattle.std.specs.List.{list_any}
use Rattle.std.specs.Cmp.Lexicographic.{pointwise}
use Rattle.etx_outside.specs.Entries.{History, Made, bytes_to, shown}
use Rattle.etx_matter.specs.declared.deed.Audience.{Audience}
use Rattle.etx_matter.specs.declared.deed.Audience.TheVariants as audience
use Rattle.etx_matter.specs.declared.deed.Deed.{Deed}
use Rattle.etx_matter.specs.declared.deed.Deed.TheVariants.{Fresh, Space, Text, Error, Create}

-- what a job's deeds have left so far: the files that were created, the log first, whether a line of the transcript is at
-- its start, and whether an error was reported
pub record PenState : Type 0 where
  pub created : List (List ℕ)
  pub at_start : Bool
  pub has_erred : Bool

-- the pen of a job that has done nothing
abbrev pub first_pen : PenState
first_pen = record { created = []; at_start = true; has_erred = false }

-- the log is the first file that was created
abbrev pub log_of : List (List ℕ) → List ℕ
log_of [] = []
log_of (log ∷ others) = log

abbrev pub is_among : List ℕ → List (List ℕ) → Bool
is_among name names = list_any (λ q. pointwise nat_eq q name) names

-- these entries, where it is so
abbrev pub entries_if : Bool → History → History
entries_if true h = h
entries_if false h = []

-- bytes for a file that was not created are no entries
abbrev pub to_file : List (List ℕ) → List ℕ → List ℕ → History
to_file created name bytes = entries_if (is_among name created) (bytes_to name bytes)

-- bytes go whole to a file, and then whole to the terminal, where they are shown
abbrev pub written_by : List (List ℕ) → List ℕ → List ℕ → Bool → History
written_by created name bytes is_shown = to_file created name bytes ++ entries_if is_shown (shown bytes)

abbrev pub is_shown_to : Audience → Bool
is_shown_to audience.Log = false
is_shown_to audience.LogAndTerminal = true

-- these bytes, unless a line is at its start
abbrev pub inside_line : Bool → List ℕ → List ℕ
inside_line true bytes = []
inside_line false bytes = bytes

-- an error's lines, which begin at the start of a line
abbrev pub error_text : Bool → List ℕ → ℕ → List ℕ
error_text at_start text line = inside_line at_start (codes "\n") ++ codes "! " ++ text ++ codes ".\nl." ++ decimal line ++ codes "\n"

-- whether a line is at its start behind this byte, if there is one
abbrev pub start_behind : Bool → Option ℕ → Bool
start_behind at_start None = at_start
start_behind at_start (Some b) = b == 10

-- whether a line is at its start after these bytes: the last of them says so
abbrev pub start_after : Bool → List ℕ → Bool
start_after at_start bytes = start_behind at_start (slice_get bytes (length bytes - 1))

-- a text was written to the log and, where it is shown, to the terminal
pub record Written : Type 0 where
  pub entries : History
  pub pen : PenState

unfoldable pub text_written : PenState → List ℕ → Audience → Written
text_written p text who = record {
  entries = written_by p.created (log_of p.created) text (is_shown_to who);
  pen = record p { at_start = start_after p.at_start text };
}

-- an error was reported
unfoldable pub error_reported : PenState → List ℕ → ℕ → Audience → Written
error_reported p text line who = record {
  entries = (text_written p (error_text p.at_start text line) who).entries;
  pen = record (text_written p (error_text p.at_start text line) who).pen { has_erred = true };
}

unfoldable pub file_made : PenState → List ℕ → Written
file_made p name = record { entries = Made name ∷ []; pen = record p { created = p.created ++ name ∷ [] } }

-- a line for each deed
abbrev pub written_of : PenState → Deed → Written
written_of p (Fresh who) = text_written p (inside_line p.at_start (codes "\n")) who
written_of p (Space who) = text_written p (inside_line p.at_start (codes " ")) who
written_of p (Text text who) = text_written p text who
written_of p (Error text line who) = error_reported p text line who
written_of p (Create name) = file_made p name

abbrev pub deed_entries : PenState → Deed → History
deed_entries p d = (written_of p d).entries

abbrev pub pen_after : PenState → Deed → PenState
pen_after p d = (written_of p d).pen

-- the entries of deeds, one after the other, and what the next depends on
abbrev pub entries : PenState → List Deed → History
entries p [] = []
entries p (d ∷ ds) = deed_entries p d ++ entries (pen_after p d) ds

abbrev pub pen_after_all : PenState → List Deed → PenState
pen_after_all p [] = p
pen_after_all p (d ∷ ds) = pen_after_all (pen_after p d) ds

-- each created file may be appended to
abbrev pub AllOpen : (List ℕ → Type 0) → List (List ℕ) → Type 0
AllOpen is_open created = (q : List ℕ) → is_among q created ≡ true → is_open q

-- what is written, and the deeds that wait
pub record JournalState : Type 0 where
  pub pen : PenState
  pub waiting : List Deed

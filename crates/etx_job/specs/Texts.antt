-- What a job writes to its log, and where the last line of that stands.
use Rattle.std.specs.Prelude.{◌≡◌, ℕ, Bool, true, ◌==◌, ◌<◌, List, [], ◌∷◌, nat_eq, if◌then◌else◌}
use Rattle.std.specs.Cmp.Lexicographic.{pointwise}
use Rattle.etx_outside.specs.Entries.{Asked, Made, Byte, Shown, History}
use Rattle.etx_settle.specs.Deeds.{is_shown_to}
use Rattle.etx_matter.specs.declared.deed.Deed.{Deed}
use Rattle.etx_matter.specs.declared.deed.Deed.TheVariants.{Fresh, Space, Text, Error, Create}
use Rattle.etx_mouth.specs.declared.yields.Yield.TheVariants.{Act}
use Rattle.etx_mouth.specs.Turn.{turn_of}
use Rattle.etx_job.specs.Chain.{Start, chain}

-- the bytes that a history adds to the file of this name
abbrev pub added_to : List ℕ → History → List ℕ
added_to name [] = []
added_to name (Asked q ∷ h) = added_to name h
added_to name (Made q ∷ h) = added_to name h
added_to name (Byte q b ∷ h) = if pointwise nat_eq q name then b ∷ added_to name h else added_to name h
added_to name (Shown b ∷ h) = added_to name h

-- whether a line is at its start behind a text: each byte 10 ends a line, and no other byte does
abbrev pub ends_line : Bool → List ℕ → Bool
ends_line before [] = before
ends_line before (b ∷ bytes) = ends_line (b == 10) bytes

-- whether a line of this text is at its start: the text is empty, or ends in byte 10
abbrev pub is_at_start : List ℕ → Bool
is_at_start text = ends_line true text

-- a history adds bytes to no file but this
abbrev pub OnlyTo : List ℕ → History → Type 0
OnlyTo name [] = Unit {0}
OnlyTo name (Asked q ∷ h) = OnlyTo name h
OnlyTo name (Made q ∷ h) = OnlyTo name h
OnlyTo name (Byte q b ∷ h) = (q ≡ name) × OnlyTo name h
OnlyTo name (Shown b ∷ h) = OnlyTo name h

-- a history creates no file but this
abbrev pub OnlyMakes : List ℕ → History → Type 0
OnlyMakes name [] = Unit {0}
OnlyMakes name (Asked q ∷ h) = OnlyMakes name h
OnlyMakes name (Made q ∷ h) = (q ≡ name) × OnlyMakes name h
OnlyMakes name (Byte q b ∷ h) = OnlyMakes name h
OnlyMakes name (Shown b ∷ h) = OnlyMakes name h

-- a history asks for no name but this
abbrev pub OnlyAsks : List ℕ → History → Type 0
OnlyAsks name [] = Unit {0}
OnlyAsks name (Asked q ∷ h) = (q ≡ name) × OnlyAsks name h
OnlyAsks name (Made q ∷ h) = OnlyAsks name h
OnlyAsks name (Byte q b ∷ h) = OnlyAsks name h
OnlyAsks name (Shown b ∷ h) = OnlyAsks name h

-- whether a deed goes to the terminal as well as to the log
abbrev pub is_told : Deed → Bool
is_told (Fresh who) = is_shown_to who
is_told (Space who) = is_shown_to who
is_told (Text text who) = is_shown_to who
is_told (Error text line who) = is_shown_to who
is_told (Create name) = true

-- in these turns no deed goes to the log alone
abbrev pub AllTold : Start → ℕ → Type 0
AllTold start turns = (n : ℕ) (d : Deed) → n < turns → (turn_of (chain start n).mouth).did ≡ Act d → is_told d ≡ true

-- A file as it is read: the line at hand, and the lines behind it ("TeX: The Program", sections 331 and 343 to 362).
use Rattle.std.specs.Prelude.{◌≡◌, Bool, true, false, ℕ, zero, suc, ◌+◌, ◌-◌, ℤ, List, [], ◌∷◌, ◌++◌, length, take, drop, Option, Some, None}
use Rattle.std.specs.Option.{option_to_list}
use Rattle.etx_lexer.specs.Lex.{Lex, lexed_of}
use Rattle.etx_lexer.specs.Places.{line_of}
use Rattle.etx_lexer.specs.Splitting.{Split, first_line}
use Rattle.etx_lexer.specs.declared.place.LineState.{LineState}
use Rattle.etx_lexer.specs.declared.place.LineState.TheVariants.{New}
use Rattle.etx_lexer.specs.declared.lexed.Lexed.{Lexed}
use Rattle.etx_lexer.specs.declared.lexed.Lexed.TheVariants.{Char, Name, LineEnd, Invalid}

-- what is left of the line at hand, the state of the lexer there, the number of lines that were read, and the lines that weren't
pub record FileState : Type 0 where
  pub line : List ℕ
  pub state : LineState
  pub number : ℕ
  pub lines : List (List ℕ)

-- the lines of a text: its first, and those of what is behind that. A text has at most as many lines as bytes.
abbrev pub first_and_more : Option Split → (List ℕ → List (List ℕ)) → List (List ℕ)
first_and_more None more = []
first_and_more (Some s) more = s.line ∷ more s.rest

abbrev pub lines_within : ℕ → List ℕ → List (List ℕ)
lines_within zero text = []
lines_within (suc n) text = first_and_more (first_line text) (lines_within n)

unfoldable pub lines_of : List ℕ → List (List ℕ)
lines_of text = lines_within (length text) text

-- before the first line
unfoldable pub unread : List ℕ → FileState
unread text = record { line = []; state = New; number = 0; lines = lines_of text }

-- a line is read: its bytes, and the character that \endlinechar adds
abbrev pub line_read : ℤ → List ℕ → ℕ → List (List ℕ) → FileState
line_read endline line number lines = record { line = line_of line endline; state = New; number = number + 1; lines = lines }

-- A file is opened: its first line is read at once ("TeX: The Program", section 538). A file without a line counts as one
-- empty line.
abbrev pub opened_as : ℤ → List (List ℕ) → FileState
opened_as endline [] = line_read endline [] 0 []
opened_as endline (l ∷ ls) = line_read endline l 0 ls

unfoldable pub opened : ℤ → List ℕ → FileState
opened endline text = opened_as endline (lines_of text)

-- the line that is kept as bytes of the text and a character behind them
abbrev pub line_within : List ℕ → ℕ → ℕ → Option ℕ → List ℕ
line_within text start stop end = take (stop - start) (drop start text) ++ option_to_list end

-- what was got, if the file had more, and the file behind it
pub record Got : Type 0 where
  pub lexed : Option Lexed
  pub file : FileState

abbrev pub behind : Lex → ℕ → List (List ℕ) → FileState
behind x number lines = record { line = x.rest; state = x.state; number = number; lines = lines }

abbrev pub got_or_more : Lexed → FileState → Got → Got
got_or_more (Char code cat) file more = record { lexed = Some (Char code cat); file = file }
got_or_more (Name name) file more = record { lexed = Some (Name name); file = file }
got_or_more LineEnd file more = more
got_or_more (Invalid code) file more = record { lexed = Some (Invalid code); file = file }

-- what is lexed next: of the line at hand, or, where that is over, of the next line that gives something
abbrev pub got_in : (ℕ → ℕ) → ℤ → List ℕ → LineState → ℕ → List (List ℕ) → Got
got_in cats endline line state number [] =
    let x = lexed_of cats line state in
    got_or_more x.lexed (behind x number []) (record { lexed = None; file = behind x number [] })
got_in cats endline line state number (l ∷ ls) =
    let x = lexed_of cats line state in
    got_or_more x.lexed (behind x number (l ∷ ls)) (got_in cats endline (line_of l endline) New (number + 1) ls)

unfoldable pub got_of : (ℕ → ℕ) → ℤ → FileState → Got
got_of cats endline file = got_in cats endline file.line file.state file.number file.lines

-- a line was read, or there was none
abbrev pub ReadsLine : ℤ → Bool → FileState → FileState → Type 0
ReadsLine endline true old new = (l : List ℕ) × (ls : List (List ℕ)) × (old.lines ≡ l ∷ ls) × (new ≡ line_read endline l old.number ls)
ReadsLine endline false old new = (old.lines ≡ []) × (new ≡ old)

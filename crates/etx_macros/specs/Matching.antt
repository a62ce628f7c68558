-- The match of a call, token by token.
use Rattle.std.specs.Prelude.{ℕ, zero, suc, Bool, not, ◌&&◌, List, take, ◌<◌, ◌≤◌, Option, Some, None, Result, Ok, Err, ◌==◌, if◌then◌else◌}
use Rattle.etx_matter.specs.declared.token.Token.{Token}
use Rattle.etx_macros.specs.declared.argument.Turn.{Turn}
use Rattle.etx_macros.specs.declared.argument.Turn.TheVariants as turn
use Rattle.etx_macros.specs.declared.fault.Fed.{Fed}
use Rattle.etx_macros.specs.declared.fault.Fed.TheVariants.{More, Done}
use Rattle.etx_macros.specs.declared.fault.MatchFault.{MatchFault}
use Rattle.etx_macros.specs.declared.fault.MatchFault.TheVariants.{ParagraphEnded, ExtraBrace}
use Rattle.etx_macros.specs.Marks.{is_space, is_par, behind, EndsWith}

-- where so many braces are open behind a token, an undelimited argument goes on, or is over
abbrev pub undelimited_behind : Option ℕ → Turn
undelimited_behind None = turn.Fault ExtraBrace
undelimited_behind (Some zero) = turn.Found
undelimited_behind (Some (suc n)) = turn.Keep (suc n)

abbrev pub delimited_behind : Option ℕ → Result ℕ MatchFault
delimited_behind None = Err ExtraBrace
delimited_behind (Some n) = Ok n

-- the longest beginning of the delimiter, of at most so many tokens, that ends the text
pub record IsLongest (text delimiter : List Token) (most count : ℕ) : Type 0 where
  pub within : count ≤ most
  pub ends : EndsWith text (take count delimiter)
  pub longest : (more : ℕ) → count < more → more ≤ most → EndsWith text (take more delimiter) → ⊥

-- what a token makes of an undelimited argument in which so many braces are open
unfoldable pub undelimited_turn : ℕ → Bool → Token → Turn
undelimited_turn depth long t =
    if (depth == 0) && is_space t then turn.Skip
    else (if not long && is_par t then turn.Fault ParagraphEnded else undelimited_behind (behind t depth))

-- how many braces are open behind a token of a delimited argument that it doesn't end
unfoldable pub delimited_turn : Bool → ℕ → Bool → Token → Result ℕ MatchFault
delimited_turn is_inside depth long t =
    if not long && is_par t && not is_inside then Err ParagraphEnded else delimited_behind (behind t depth)

-- what is said where the next part is `part` of so many
abbrev pub said_at : ℕ → ℕ → Fed
said_at part count = if part == count then Done else More

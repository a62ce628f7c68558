-- What a token makes of the match of a call ("TeX: The Program", sections 391 to 401).
use Rattle.std.specs.Prelude.{◌≡◌, ℕ, zero, suc, ◌+◌, ◌-◌, min, nat_lt, Bool, true, false, not, ◌&&◌, List, [], ◌∷◌, ◌++◌, length, take, slice_get, slice_index_or, Option, Some, None, Result, Ok, Err, ◌==◌, if◌then◌else◌}
use Rattle.etx_matter.specs.declared.token.Token.{Token}
use Rattle.etx_matter.specs.declared.token.Token.TheVariants.{Char}
use Rattle.etx_macros.specs.declared.argument.Turn.{Turn}
use Rattle.etx_macros.specs.declared.argument.Turn.TheVariants as turn
use Rattle.etx_macros.specs.declared.fault.Fed.{Fed}
use Rattle.etx_macros.specs.declared.fault.Fed.TheVariants.{More, Fault}
use Rattle.etx_macros.specs.declared.fault.MatchFault.{MatchFault}
use Rattle.etx_macros.specs.declared.fault.MatchFault.TheVariants.{DoesNotMatch}
use Rattle.etx_macros.specs.Marks.{has_category, is_space, depth_of, same_token, ends_with}
use Rattle.etx_macros.specs.Calls.{inner_of}
use Rattle.etx_macros.specs.Matching.{undelimited_turn, delimited_turn, said_at}
use Rattle.etx_macros.specs.State.{MatcherState, FedBy}

-- the argument that a text gives: one pair of braces that encloses it all is lost
abbrev pub is_zero : Option ℕ → Bool
is_zero None = false
is_zero (Some zero) = true
is_zero (Some (suc n)) = false

abbrev pub is_group : List Token → Bool
is_group text = has_category (slice_index_or text 0 (Char 0 0)) 1 && has_category (slice_index_or text (length text - 1) (Char 0 0)) 2 && is_zero (depth_of (inner_of text))

abbrev pub argument_of : List Token → List Token
argument_of text = if is_group text then inner_of text else text

-- how many tokens of the delimiter end a text, if no more than so many do
abbrev pub longest : List Token → List Token → ℕ → ℕ
longest text delimiter zero = 0
longest text delimiter (suc n) = if ends_with text (take (suc n) delimiter) then suc n else longest text delimiter n

-- Behind a token: it lengthens what is matched by one at most. Inside braces the delimiter isn't looked for.
abbrev pub matched_in : ℕ → ℕ → List Token → List Token → ℕ
matched_in depth matched text delimiter = if nat_lt 0 depth then 0 else longest text delimiter (min (matched + 1) (length delimiter))

-- the token stands at this place of the text
abbrev pub is_token : Token → Option Token → Bool
is_token t None = false
is_token t (Some u) = same_token u t

abbrev pub has_at : List Token → ℕ → Token → Bool
has_at text at t = is_token t (slice_get text at)

-- the part that is being matched
abbrev pub part_of : MatcherState → List Token
part_of m = slice_index_or m.parts m.part []

-- the part goes on
abbrev pub more : MatcherState → List Token → ℕ → ℕ → FedBy
more m read depth matched =
    record {
      fed = More;
      matcher = record { parts = m.parts; long = m.long; args = m.args; part = m.part; read = read; depth = depth; matched = matched; failed = m.failed };
    }

-- the part is over: with the last one the call is complete
abbrev pub ended : MatcherState → List (List Token) → FedBy
ended m args =
    record {
      fed = said_at (m.part + 1) (length m.parts);
      matcher = record { parts = m.parts; long = m.long; args = args; part = m.part + 1; read = []; depth = 0; matched = 0; failed = m.failed };
    }

-- no call goes on so
abbrev pub refused : MatchFault → MatcherState → FedBy
refused fault m =
    record {
      fed = Fault fault;
      matcher = record { parts = m.parts; long = m.long; args = m.args; part = m.part; read = []; depth = 0; matched = 0; failed = true };
    }

-- a token of the text before the first parameter
abbrev pub text_fed : MatcherState → List Token → Token → FedBy
text_fed m text t =
    if has_at text (length m.read) t
    then (if length m.read + 1 == length text then ended m m.args else more m (m.read ++ t ∷ []) m.depth m.matched)
    else refused DoesNotMatch m

-- a token of an undelimited argument
abbrev pub undelimited_fed : MatcherState → Token → Turn → FedBy
undelimited_fed m t turn.Skip = more m m.read m.depth m.matched
undelimited_fed m t (turn.Keep depth) = more m (m.read ++ t ∷ []) depth m.matched
undelimited_fed m t turn.Found = ended m (m.args ++ argument_of (m.read ++ t ∷ []) ∷ [])
undelimited_fed m t (turn.Fault fault) = refused fault m

-- a token of a delimited argument, with which so many tokens of the delimiter end the text
abbrev pub delimited_kept : MatcherState → List Token → ℕ → Result ℕ MatchFault → FedBy
delimited_kept m text matched (Ok depth) = more m text depth matched
delimited_kept m text matched (Err fault) = refused fault m

abbrev pub delimited_fed : MatcherState → List Token → List Token → ℕ → Token → FedBy
delimited_fed m delimiter text matched t =
    if matched == length delimiter
    then ended m (m.args ++ argument_of (take (length text - matched) text) ∷ [])
    else delimited_kept m text matched (delimited_turn (nat_lt 0 matched) m.depth m.long t)

-- a token of an argument, by what delimits it
abbrev pub argument_fed : MatcherState → List Token → Token → FedBy
argument_fed m [] t = undelimited_fed m t (undelimited_turn m.depth m.long t)
argument_fed m (d ∷ ds) t = delimited_fed m (d ∷ ds) (m.read ++ t ∷ []) (matched_in m.depth m.matched (m.read ++ t ∷ []) (d ∷ ds)) t

-- whether more tokens are wanted, and whether the call is complete
abbrev pub is_going : MatcherState → Bool
is_going m = not m.failed && nat_lt m.part (length m.parts)

abbrev pub is_done : MatcherState → Bool
is_done m = not m.failed && (m.part == length m.parts)

-- what is said of a token, and the match behind it; none is taken where no more are wanted
abbrev pub part_fed : MatcherState → Token → FedBy
part_fed m t = if m.part == 0 then text_fed m (part_of m) t else argument_fed m (part_of m) t

unfoldable pub fed_of : MatcherState → Token → FedBy
fed_of m t = if is_going m then part_fed m t else refused DoesNotMatch m

-- the match behind these tokens, if more were wanted behind each of them
abbrev pub after : MatcherState → List Token → Option MatcherState
after m [] = if is_going m then Some m else None
after m (t ∷ ts) = if is_going m then after (fed_of m t).matcher ts else None

-- what is said, and the match then, are these
abbrev pub Makes : FedBy → Fed → MatcherState → Type 0
Makes x fed m = (fed ≡ x.fed) × (m ≡ x.matcher)

-- A match that no token was fed to. Where nothing stands before the first parameter, it begins behind that.
abbrev pub first_part : List Token → ℕ
first_part [] = 1
first_part (t ∷ ts) = 0

unfoldable pub started : List (List Token) → Bool → MatcherState
started parts long = record { parts = parts; long = long; args = []; part = first_part (slice_index_or parts 0 []); read = []; depth = 0; matched = 0; failed = false }

-- whether a token is a right brace that no left brace of an argument opens
unfoldable pub is_extra : MatcherState → Token → Bool
is_extra m t = nat_lt 0 m.part && (m.depth == 0) && has_category t 2

-- the same match for a macro that isn't long
unfoldable pub short : MatcherState → MatcherState
short m = record { parts = m.parts; long = false; args = m.args; part = m.part; read = m.read; depth = m.depth; matched = m.matched; failed = m.failed }

-- The same match where an extra right brace was found: for a macro that isn't long, and what was matched of the delimiter belongs to
-- the argument.
unfoldable pub unmatched : MatcherState → MatcherState
unmatched m = record { parts = m.parts; long = false; args = m.args; part = m.part; read = m.read; depth = m.depth; matched = 0; failed = m.failed }

-- whether the argument that is being read has a delimiter
abbrev pub is_delimited : Option (List Token) → Bool
is_delimited None = false
is_delimited (Some []) = false
is_delimited (Some (t ∷ ts)) = true

-- a space before an undelimited argument is skipped
abbrev pub is_skipped : MatcherState → Token → Bool
is_skipped m t = if is_delimited (slice_get m.parts m.part) then false else (m.depth == 0) && is_space t

-- Whether a token that is taken is copied into an argument. Its delimiter is, until it is known to be that; the text before the
-- first parameter and spaces that are skipped aren't.
unfoldable pub is_copied : MatcherState → Token → Bool
is_copied m t = if m.part == 0 then false else not (is_skipped m t)

-- What is said of the tokens of a call.
use Rattle.std.specs.Prelude.{Bool, true, false, List, [], ◌∷◌, ◌++◌, ◌≡◌}
use Rattle.etx_matter.specs.declared.token.Token.{Token}
use Rattle.etx_macros.specs.declared.fault.MatchFault.{MatchFault}
use Rattle.etx_macros.specs.declared.fault.MatchFault.TheVariants.{DoesNotMatch, ParagraphEnded, ExtraBrace}
use Rattle.etx_macros.specs.declared.fault.Fed.{Fed}
use Rattle.etx_macros.specs.declared.fault.Fed.TheVariants.{More, Done, Fault}
use Rattle.etx_macros.specs.Marks.{has_category, is_par}
use Rattle.etx_macros.specs.Calls.{MatchesCall, Begins, NoCall, IsPastText}

-- the last token is such a one
abbrev pub IsLast : (Token → Bool) → List Token → Type 0
IsLast p tokens = (front : List Token) × (t : Token) × (tokens ≡ front ++ t ∷ []) × (p t ≡ true)

-- why no call begins with the tokens: it is their last one
abbrev pub Why : MatchFault → Bool → List (List Token) → List Token → Type 0
Why DoesNotMatch long parts tokens = IsPastText parts tokens → ⊥
Why ParagraphEnded long parts tokens = IsPastText parts tokens × (long ≡ false) × IsLast is_par tokens
Why ExtraBrace long parts tokens = IsPastText parts tokens × IsLast (λ t. has_category t 2) tokens

-- Of tokens that are the beginning of a call it is said that more are wanted, of a call that it is done, and of others
-- that no call begins with them. One of these is said of any tokens at most.
abbrev pub Says : Fed → Bool → List (List Token) → List Token → Type 0
Says More long parts tokens = Begins long parts tokens
Says Done long parts tokens = (args : List (List Token)) × MatchesCall long parts tokens args
Says (Fault fault) long parts tokens = NoCall long parts tokens × Why fault long parts tokens

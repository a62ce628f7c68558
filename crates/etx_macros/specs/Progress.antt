-- How far the match of a call has come.
use Rattle.std.specs.Prelude.{ℕ, ◌<◌, Bool, true, false, List, [], ◌++◌, ◌≡◌, ◌⊎◌, length, take, slice_index_or}
use Rattle.etx_matter.specs.declared.token.Token.{Token}
use Rattle.etx_macros.specs.declared.fault.Fed.{Fed}
use Rattle.etx_macros.specs.declared.fault.Fed.TheVariants.{More, Done, Fault}
use Rattle.etx_macros.specs.State.{MatcherState}
use Rattle.etx_macros.specs.Calls.{MatchesCall, NoCall}
use Rattle.etx_macros.specs.Says.{Why, Says}
use Rattle.etx_macros.specs.Within.{Within}

-- in the text before the first parameter
pub record InText (parts args : List (List Token)) (part : ℕ) (read : List Token) (depth : ℕ) (call : List Token) : Type 0 where
  pub first : part ≡ 0
  pub no_args : args ≡ []
  pub flat : depth ≡ 0
  pub same : call ≡ read
  pub rest : List Token
  pub begins : slice_index_or parts 0 [] ≡ read ++ rest
  pub wants : 0 < length rest

-- in an argument: the call so far is one of the parts before, then what was read of the argument
pub record InArgument (parts : List (List Token)) (long : Bool) (args : List (List Token)) (part : ℕ) (read : List Token) (depth found : ℕ) (call : List Token) : Type 0 where
  pub past_text : 0 < part
  pub before : List Token
  pub matched : MatchesCall long (take part parts) before args
  pub skipped : List Token
  pub whole : call ≡ before ++ (skipped ++ read)
  pub within : Within long (slice_index_or parts part []) skipped read depth found

-- more tokens are wanted
pub record IsGoing (m : MatcherState) : Type 0 where
  pub in_parts : m.part < length m.parts
  pub not_failed : m.failed ≡ false

-- the call is complete
pub record IsDone (m : MatcherState) : Type 0 where
  pub at_end : m.part ≡ length m.parts
  pub not_failed : m.failed ≡ false

-- these tokens were fed so far, and more are wanted
abbrev pub IsAfter : MatcherState → List Token → Type 0
IsAfter m call = IsGoing m × (InText m.parts m.args m.part m.read m.depth call ⊎ InArgument m.parts m.long m.args m.part m.read m.depth m.matched call)

-- the tokens are a call with these arguments
abbrev pub IsWhole : MatcherState → List Token → Type 0
IsWhole m call = IsDone m × MatchesCall m.long m.parts call m.args

-- what stands behind a token that was taken
abbrev pub Comes : Fed → MatcherState → List Token → Type 0
Comes More m call = IsAfter m call
Comes Done m call = IsWhole m call
Comes (Fault fault) m call = NoCall m.long m.parts call × Why fault m.long m.parts call

-- what a matcher is when these tokens were fed
abbrev pub Is : Fed → MatcherState → List Token → Type 0
Is More m call = IsAfter m call
Is Done m call = IsWhole m call
Is (Fault fault) m call = Unit {0}

-- what a matcher says of the tokens that were fed is true, and it is ready for the next one, or has the arguments
abbrev pub Means : Fed → MatcherState → List Token → Type 0
Means fed m call = Says fed m.long m.parts call × Is fed m call

-- what a matcher is after what it says
abbrev pub Stands : Fed → MatcherState → Type 0
Stands More m = IsGoing m
Stands Done m = IsDone m
Stands (Fault fault) m = m.failed ≡ true

-- nothing but these is changed
pub record KeepsPattern (m m' : MatcherState) : Type 0 where
  pub parts_is : m'.parts ≡ m.parts
  pub long_is : m'.long ≡ m.long

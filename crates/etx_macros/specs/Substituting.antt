-- The body of a macro with its arguments ("TeX: The Program", section 390).
use Rattle.std.specs.Prelude.{ℕ, zero, suc, List, [], ◌∷◌, ◌++◌, slice_index_or}
use Rattle.etx_matter.specs.declared.token.Token.{Token}
use Rattle.etx_matter.specs.declared.token.Token.TheVariants.{Char, Name, Param}

-- the n-th argument, from 1 on; nothing where there is none
abbrev pub argument : List (List Token) → ℕ → List Token
argument args zero = []
argument args (suc n) = slice_index_or args n []

-- what stands for a token of the body: for a parameter its argument
abbrev pub replaced : List (List Token) → Token → List Token
replaced args (Char code cat) = Char code cat ∷ []
replaced args (Name name) = Name name ∷ []
replaced args (Param n) = argument args n

-- the body, in which the n-th argument stands for each parameter n
unfoldable pub substituted : List Token → List (List Token) → List Token
substituted [] args = []
substituted (t ∷ body) args = replaced args t ++ substituted body args

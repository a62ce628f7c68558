-- The fresh tokens of the innermost level are what the input gives.
use Rattle.std.proofs.Common.{◌≡◌, ◌+◌, ◌<◌, ℕ, zero, suc, ℤ, List, [], ◌∷◌, length, drop, refl, sym, ap, ◌∙◌, arith}
use Rattle.std.proofs.Math.ListN.{length-drop}
use Rattle.std.proofs.lemmas.List.{drop-drop}
use Rattle.etx_matter.specs.declared.token.Token.{Token}
use Rattle.etx_input.specs.declared.level.Level.{Level}
use Rattle.etx_input.specs.declared.level.Level.TheVariants as level
use Rattle.etx_input.specs.declared.levels.Next.TheVariants as gives
use Rattle.etx_input.specs.declared.origin.Origin.{Origin}
use Rattle.etx_input.specs.declared.origin.Origin.TheVariants.{Fresh, Back, Unexpanded, Kept}
use Rattle.etx_input.specs.Levels.{InputState, Given, reading, list_level, list_given, given_in, given_of}
use Rattle.etx_input.specs.Lists.{fresh_of}
use Rattle.etx_input.specs.Runs.{fresh_at, fresh_in, list_unless_over, levels_skipped, skipped}

abbrev listed : Token → InputState → Given
listed token input = record { next = gives.Listed token Fresh; input = input }

list_first : (rest : List Token) (origin : Origin) (ls : List Level) (left : ℕ) (more : Given) (token : Token) (tokens : List Token) → fresh_of origin rest ≡ token ∷ tokens → list_given rest origin ls left more ≡ listed token (reading (list_unless_over (drop 1 rest) origin ls) left)
list_first [] Fresh ls left more token tokens is = absurd (let no : [] ≡ token ∷ tokens = is in cc)
list_first (t ∷ []) Fresh ls left more token tokens is = let same : t ≡ token = cc in ap (λ (u : Token). listed u (reading ls left)) same
list_first (t ∷ u ∷ ts) Fresh ls left more token tokens is = let same : t ≡ token = cc in ap (λ (v : Token). listed v (reading (list_level (u ∷ ts) Fresh ∷ ls) left)) same
list_first rest Back ls left more token tokens is = absurd (let no : [] ≡ token ∷ tokens = is in cc)
list_first rest Unexpanded ls left more token tokens is = absurd (let no : [] ≡ token ∷ tokens = is in cc)
list_first rest Kept ls left more token tokens is = absurd (let no : [] ≡ token ∷ tokens = is in cc)

first_in : (cats : ℕ → ℕ) (endline : ℤ) (ls : List Level) (left : ℕ) (token : Token) (tokens : List Token) → fresh_in ls ≡ token ∷ tokens → given_in cats endline ls left ≡ listed token (reading (levels_skipped 1 ls) left)
first_in cats endline [] left token tokens is = absurd (let no : [] ≡ token ∷ tokens = is in cc)
first_in cats endline (level.File f ∷ ls) left token tokens is = absurd (let no : [] ≡ token ∷ tokens = is in cc)
first_in cats endline (level.List l ∷ ls) left token tokens is = list_first l.rest l.origin ls left (given_in cats endline ls left) token tokens is

-- the first of them is given
pub first : (cats : ℕ → ℕ) (endline : ℤ) (input : InputState) (token : Token) (tokens : List Token) → fresh_in input.levels ≡ token ∷ tokens → given_of cats endline input ≡ listed token (skipped 1 input)
unfolding given_of skipped
first cats endline input token tokens is = first_in cats endline input.levels input.left token tokens is

drop_more : (n : ℕ) (ts : List Token) → drop (n + 1) ts ≡ drop 1 (drop n ts)
drop_more n ts = ap (λ (k : ℕ). drop k ts) (omega arith) ∙ sym (drop-drop 1 n ts)

-- a list of which tokens are left is still read
list_more : (ts : List Token) (origin : Origin) (ls : List Level) → 0 < length ts → levels_skipped 1 (list_unless_over ts origin ls) ≡ list_unless_over (drop 1 ts) origin ls
list_more [] origin ls some = absurd (omega (arith, some))
list_more (t ∷ ts) origin ls some = refl

list_rest : (ts : List Token) (origin : Origin) (ls : List Level) → 0 < length ts → fresh_in (list_unless_over ts origin ls) ≡ fresh_of origin ts
list_rest [] origin ls some = absurd (omega (arith, some))
list_rest (t ∷ ts) origin ls some = refl

some_left : (n : ℕ) (origin : Origin) (ts : List Token) → n < length (fresh_of origin ts) → 0 < length (drop n ts)
some_left n Fresh ts less = let long = length-drop n ts in omega arith
some_left n Back ts less = absurd (omega (arith, less))
some_left n Unexpanded ts less = absurd (omega (arith, less))
some_left n Kept ts less = absurd (omega (arith, less))

dropped : (n : ℕ) (origin : Origin) (ts : List Token) → fresh_of origin (drop n ts) ≡ drop n (fresh_of origin ts)
dropped n Fresh ts = refl
dropped zero Back ts = refl
dropped (suc n) Back ts = refl
dropped zero Unexpanded ts = refl
dropped zero Kept ts = refl
dropped (suc n) Unexpanded ts = refl
dropped (suc n) Kept ts = refl

more_in : (n : ℕ) (ls : List Level) → n < length (fresh_in ls) → levels_skipped (n + 1) ls ≡ levels_skipped 1 (levels_skipped n ls)
more_in n [] less = absurd (omega (arith, less))
more_in n (level.File f ∷ ls) less = absurd (omega (arith, less))
more_in n (level.List l ∷ ls) less =
    ap (λ (ts : List Token). list_unless_over ts l.origin ls) (drop_more n l.rest)
    ∙ sym (list_more (drop n l.rest) l.origin ls (some_left n l.origin l.rest less))

-- to skip one more is to skip some, and then one
pub more : (n : ℕ) (input : InputState) → n < length (fresh_in input.levels) → skipped (n + 1) input ≡ skipped 1 (skipped n input)
unfolding skipped
more n input less = ap (λ (ls : List Level). reading ls input.left) (more_in n input.levels less)

rest_in : (n : ℕ) (ls : List Level) → n < length (fresh_in ls) → fresh_in (levels_skipped n ls) ≡ drop n (fresh_in ls)
rest_in n [] less = absurd (omega (arith, less))
rest_in n (level.File f ∷ ls) less = absurd (omega (arith, less))
rest_in n (level.List l ∷ ls) less = list_rest (drop n l.rest) l.origin ls (some_left n l.origin l.rest less) ∙ dropped n l.origin l.rest

-- the others are still there
pub rest : (n : ℕ) (input : InputState) → n < length (fresh_in input.levels) → fresh_in (skipped n input).levels ≡ drop n (fresh_in input.levels)
unfolding skipped
rest n input less = rest_in n input.levels less

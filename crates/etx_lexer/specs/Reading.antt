-- A walk along a text as the lexer sees it, its fronts replaced one after another.
use Rattle.std.specs.Prelude.{ℕ, ◌&&◌, List, [], ◌∷◌, Option, Some, None, if◌then◌else◌}
use Rattle.etx_lexer.specs.Fronts.{is_hex, hex_code, shifted, is_front}

-- The walk over the text c ∷ rest. A front at its beginning is replaced, and what stands for it is looked at again.
-- Where there is none, `step` has the character, the text behind it, and what the walk over that text gives.
unfoldable pub walk_at : {A : Type 0} → (ℕ → ℕ) → A → (ℕ → List ℕ → A → A) → ℕ → List ℕ → A
walk_at cats stop step c [] = step c [] stop
walk_at cats stop step c (d ∷ []) = step c (d ∷ []) (walk_at cats stop step d [])
walk_at cats stop step c (d ∷ e ∷ []) =
    if is_front cats c d e
    then walk_at cats stop step (shifted e) []
    else step c (d ∷ e ∷ []) (walk_at cats stop step d (e ∷ []))
walk_at cats stop step c (d ∷ e ∷ f ∷ rest) =
    if is_front cats c d e
    then (if is_hex e && is_hex f then walk_at cats stop step (hex_code e f) rest else walk_at cats stop step (shifted e) (f ∷ rest))
    else step c (d ∷ e ∷ f ∷ rest) (walk_at cats stop step d (e ∷ f ∷ rest))

-- the walk over a text; `stop` is what the empty text gives
unfoldable pub walk : {A : Type 0} → (ℕ → ℕ) → A → (ℕ → List ℕ → A → A) → List ℕ → A
walk cats stop step [] = stop
walk cats stop step (c ∷ rest) = walk_at cats stop step c rest

-- a character that begins no front, and the text behind it
pub record First : Type 0 where
  pub code : ℕ
  pub rest : List ℕ

-- the first character of a text once its fronts are replaced
unfoldable pub first_of : (ℕ → ℕ) → List ℕ → Option First
first_of cats text = walk cats None (λ c rest later. Some (record { code = c; rest = rest })) text

-- What there is one of, by number.
use Rattle.std.specs.Prelude.{ℕ, List, [], ◌∷◌, Option, slice_get}
use Rattle.etx_keys.specs.declared.single.Single.{Single}
use Rattle.etx_keys.specs.declared.single.Single.TheVariants as singles

unfoldable pub all_singles : List Single
all_singles = singles.CurrentFont ∷ singles.ParShape ∷ singles.AfterAssignment ∷ singles.Interaction ∷ singles.HyphenTables ∷ []

unfoldable pub single_number : Single → ℕ
single_number singles.CurrentFont = 0
single_number singles.ParShape = 1
single_number singles.AfterAssignment = 2
single_number singles.Interaction = 3
single_number singles.HyphenTables = 4

unfoldable pub single_at : ℕ → Option Single
single_at number = slice_get all_singles number

-- What there is one of has its number, and a number what has it.
use Rattle.std.proofs.Common.{◌≡◌, ℕ, map, Some, refl, ◌∙◌, zero-add}
use Rattle.etx_keys.proofs.Counting.{numbers_from, counted}
use Rattle.etx_keys.specs.declared.single.Single.{Single}
use Rattle.etx_keys.specs.declared.single.Single.TheVariants as singles
use Rattle.etx_keys.specs.Singles.{all_singles, single_number, single_at}

pub single_back : (single : Single) → single_at (single_number single) ≡ Some single
unfolding all_singles single_number single_at
single_back singles.CurrentFont = refl
single_back singles.ParShape = refl
single_back singles.AfterAssignment = refl
single_back singles.Interaction = refl
single_back singles.HyphenTables = refl

singles_counted : map single_number all_singles ≡ numbers_from 0 5
unfolding all_singles single_number
singles_counted = refl

pub single_there : (number : ℕ) (single : Single) → single_at number ≡ Some single → single_number single ≡ number
unfolding single_at
single_there number single h = counted single_number all_singles 0 5 singles_counted number single h ∙ zero-add number

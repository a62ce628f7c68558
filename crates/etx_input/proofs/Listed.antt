-- What is given whatever the categories are.
use Rattle.std.proofs.Common.{◌≡◌, ◌<◌, ℕ, ℤ, suc, List, [], ◌∷◌, length, get_or, set, take, reverse, refl, sym, ap, ◌∙◌, arith}
use Rattle.etx_matter.specs.declared.token.Token.{Token}
use Rattle.etx_input.specs.declared.gift.Gift.{Gift}
use Rattle.etx_input.specs.declared.gift.Gift.TheVariants.{Stay, Leave, Empty}
use Rattle.etx_input.specs.declared.level.Level.{Level}
use Rattle.etx_input.specs.declared.level.Level.TheVariants as level
use Rattle.etx_input.specs.declared.origin.Origin.{Origin}
use Rattle.etx_input.specs.Gifts.{list_gift, list_behind, gift_in, IsListed, IsListedBy}
use Rattle.etx_input.specs.Levels.{reading, list_level}
use Rattle.etx_input.specs.Lists.{ListState}
use Rattle.etx_input.proofs.Ends.{behind-changed, all-but-last, changed}

-- a list asks for nothing else
pub list_listed : (tokens : List Token) (origin : Origin) → IsListedBy (list_gift tokens origin) (list_level tokens origin) (level.List (list_behind (record { rest = tokens; origin = origin })))
list_listed [] origin = refl
list_listed (t ∷ []) origin = λ cats endline. (refl, refl)
list_listed (t ∷ u ∷ ts) origin = λ cats endline. (refl, refl)

-- what the last level of a list gives, the innermost of the stack gives
pub innermost_listed : (gift : Gift) (xs : List Level) (n left : ℕ) (old new : Level) → suc n ≡ length xs → old ≡ get_or xs n old → IsListedBy gift old new → IsListed gift (reading (reverse xs) left) (reading (reverse (set xs n new)) left)
innermost_listed Empty xs n left old new all is same =
    ap (λ (ls : List Level). reading ls left) (changed xs n new all ∙ ap (λ (l : Level). l ∷ reverse (take n xs)) (same ∙ is) ∙ sym (all-but-last xs n old all))
innermost_listed (Stay next) xs n left old new all is listed = λ cats endline. (
  ap (gift_in cats endline) (all-but-last xs n old all) ∙ ap (λ (l : Level). gift_in cats endline (l ∷ reverse (take n xs))) (sym is) ∙ (listed cats endline).0,
  ap (λ (ls : List Level). reading ls left) (behind-changed cats endline xs n old new all is (listed cats endline).1),
)
innermost_listed (Leave next) xs n left old new all is listed = λ cats endline. (
  ap (gift_in cats endline) (all-but-last xs n old all) ∙ ap (λ (l : Level). gift_in cats endline (l ∷ reverse (take n xs))) (sym is) ∙ (listed cats endline).0,
  ap (λ (ls : List Level). reading ls left) (behind-changed cats endline xs n old new all is (listed cats endline).1),
)

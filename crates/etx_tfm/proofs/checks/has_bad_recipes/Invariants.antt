use Rattle.std.proofs.Common.{◌≡◌, drop}
use Rattle.std.specs.List.{list_any}
use Rattle.etx_matter.specs.Fonts.{has_bad_recipe}
use Rattle.etx_tfm.proofs.checks.has_bad_recipes.Given as goal

abbrev pub invariant-loop-recipe : goal.invariant-loop-recipe
invariant-loop-recipe l = list_any (has_bad_recipe l.font) (drop l.recipe-index l.font.recipes) ≡ list_any (has_bad_recipe l.font) l.font.recipes

-- Ligatures that lead on: what they make has to be looked at again with a neighbour. Where the cursor passes over all that
-- stays of two items, it doesn't.
use Rattle.std.specs.Prelude.{Bool, false, ◌||◌, nat_lt, List, [], ◌∷◌}
use Rattle.etx_matter.specs.declared.font.PairAction.{PairAction}
use Rattle.etx_matter.specs.declared.font.PairAction.TheVariants.{Kern, Ligature}
use Rattle.etx_matter.specs.declared.font.LigStep.{LigStep}
use Rattle.etx_matter.specs.declared.font.LigStep.TheVariants.{Pair, Elsewhere}
use Rattle.etx_tfm.specs.Machine.{kept}

abbrev pub leads_on : PairAction → Bool
leads_on (Kern kern) = false
leads_on (Ligature code keeps_current keeps_next passes) = nat_lt passes (kept keeps_current keeps_next)

-- some step of these leads on
unfoldable pub some_lead : List LigStep → Bool
some_lead [] = false
some_lead (Elsewhere place ∷ steps) = some_lead steps
some_lead (Pair next action skip ∷ steps) = leads_on action || some_lead steps

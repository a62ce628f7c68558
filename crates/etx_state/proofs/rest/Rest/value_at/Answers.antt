use Rattle.std.proofs.Common.{◌≡◌, ◌≢◌, ◌+◌, ◌-◌, ◌<◌, ◌≤◌, ℕ, List, ◌∷◌, Some, refl, sym, ◌∙◌, ap, subst, arith}
use Rattle.etx_state.proofs.rest.Rest.value_at.Goals as goal

pub value_at-requires : goal.value_at-requires
value_at-requires c = c.requires.scopes

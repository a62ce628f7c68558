use Rattle.std.proofs.Common.{sym, subst}
use Rattle.etx_state.specs.Naming.{IsApart}
use Rattle.etx_state.proofs.Naming.{apart_pushed}
use Rattle.etx_state.proofs.rest.Rest.add_name.Goals as goal

pub returns-in_default-clause-apart : goal.returns-in_default-clause-apart
returns-in_default-clause-apart c = subst IsApart (sym c.in_ok-add.ensures.ok) (apart_pushed _ _ c.len-number.ensures.apart c.requires)

pub returns-in-Ok-clause-apart : goal.returns-in-Ok-clause-apart
returns-in-Ok-clause-apart c = subst IsApart (sym c.in_ok-add.ensures.ok) (apart_pushed _ _ c.len-number.ensures.apart c.requires)

use Rattle.std.proofs.Common.{◌∙◌, ap}
use Rattle.etx_keys.specs.Kinds.{all_kinds, kind_at}
use Rattle.etx_keys.proofs.kind.Kind.at.Goals as goal

pub returns : goal.returns
unfolding all_kinds kind_at
returns c = c.in_table.ensures ∙ ap kind_at c.from.ensures

use Rattle.std.proofs.Common.{sym, subst}
use Rattle.etx_matter.specs.Nests.{AreNested}
use Rattle.etx_sealed.proofs.Nesting.{nested_take}
use Rattle.etx_sealed.proofs.line.front_of.Goals as goal

pub returns-clause-nested : goal.returns-clause-nested
returns-clause-nested c = λ h. subst AreNested (sym c.split_at.ensures.front) (nested_take c.min.result c.args.nodes.now h)

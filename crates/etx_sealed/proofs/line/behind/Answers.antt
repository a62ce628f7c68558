use Rattle.std.proofs.Common.{sym, subst}
use Rattle.etx_matter.specs.Nests.{AreNested}
use Rattle.etx_sealed.proofs.Nesting.{nested_drop}
use Rattle.etx_sealed.proofs.line.behind.Goals as goal

pub returns-clause-nested : goal.returns-clause-nested
returns-clause-nested c = λ h. subst AreNested (sym c.split_at.ensures.back) (nested_drop c.min.result c.args.nodes.now h)

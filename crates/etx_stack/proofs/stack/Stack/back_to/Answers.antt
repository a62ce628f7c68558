use Rattle.std.proofs.Common.{◌≡◌, length, sym, ◌∙◌, arith}
use Rattle.std.proofs.lemmas.List.{length-map}
use Rattle.etx_stack.proofs.Histories.{back-guard, back-guarded, back-items, back-kept}
use Rattle.etx_stack.proofs.stack.Stack.back_to.Goals as goal

pub returns-clause-kept : goal.returns-clause-kept
returns-clause-kept g c = back-kept c.args.self.now _ c.args.mark c.requires c.loop-self.invariant.same (omega arith) c.cut.new.self c.cut.ensures.items c.cut.ensures.taken c.cut.ensures.guard

use Rattle.std.proofs.Common.{sym, ◌∙◌}
use Rattle.etx_tfm.proofs.Rounds.{comes_to-none, comes_to-here, comes_to-on, comes_to-end}
use Rattle.etx_tfm.proofs.checks.comes_round.Goals as goal

pub returns-in-None : goal.returns-in-None
returns-in-None c =
    sym (comes_to-none c.args.font.now c.args.code c.loop.at c.loop.counter 256 c.loop-test.true (sym c.successor.ensures ∙ c.in-None.is))
    ∙ c.loop.invariant

pub returns-then-next-code : goal.returns-then-next-code
returns-then-next-code c =
    sym (comes_to-here c.args.font.now c.args.code c.loop.at c.loop.counter 256 c.in-Some.next c.loop-test.true (sym c.successor.ensures ∙ c.in-Some.is) c.if-next-code.true)
    ∙ c.loop.invariant

pub loop-preserved : goal.loop-preserved
loop-preserved c =
    sym (comes_to-on c.args.font.now c.args.code c.loop.at c.loop.counter 256 c.in-Some.next c.loop-test.true (sym c.successor.ensures ∙ c.in-Some.is) c.if-next-code.false)
    ∙ c.loop.invariant

pub returns : goal.returns
returns c =
    sym (comes_to-end c.args.font.now c.args.code c.loop.at c.loop.counter 256 c.loop-test.false) ∙ c.loop.invariant

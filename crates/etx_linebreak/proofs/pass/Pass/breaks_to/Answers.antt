use Rattle.std.proofs.Common.{Some, length, arith}
use Rattle.etx_linebreak.proofs.Leading.{lead_first, lead_step, lead_done}
use Rattle.etx_linebreak.proofs.pass.Pass.breaks_to.Goals as goal

pub loop-passed-init : goal.loop-passed-init
loop-passed-init c = lead_first c.args.self.now c.args.rows.now (length c.args.rows.now) (Some c.args.last) c.new-found.result.items c.new-found.ensures.items

pub loop-passed-preserved : goal.loop-passed-preserved
loop-passed-preserved c =
    lead_step c.args.self.now c.args.rows.now (length c.args.rows.now) c.loop-passed._passed c.loop-passed.at c.earlier-at.result _ _ _
    c.loop-passed.invariant (omega arith) c.in_ok-note.ensures c.earlier-at.ensures

pub returns : goal.returns
returns c =
    lead_done c.args.self.now c.args.rows.now (length c.args.rows.now) c.loop-passed._passed c.loop-passed.at c.loop-passed.found.items _ _
    c.loop-passed.invariant c.loop-passed-test.false c.loop-passed.auto._passed-end c.reverse.ensures.items

use Rattle.std.proofs.Common.{◌∙◌, ◌+◌, ◌++◌, Bool, ap, drop, arith}
use Rattle.etx_sealed.specs.declared.breaks.Scan.{Scan}
use Rattle.etx_sealed.specs.Breaks.{may_end, breaks_from}
use Rattle.etx_sealed.proofs.Breaking.{breaks_step, breaks_end}
use Rattle.etx_sealed.proofs.breaks.breaks_among.Goals as goal

pub loop-index-preserved : goal.loop-index-preserved
loop-index-preserved c =
    let params = c.args.params.now in
    let nodes = c.args.nodes.now in
    let i = c.loop-index.index in
    let node = c.index-nodes-index.result in
    ap (λ (s : Scan). c.push_if.new.found.items ++ breaks_from params (i + 1 + 1) s (drop (i + 1) nodes)) c.behind-scan.ensures
    ∙ breaks_step params nodes i c.loop-index.scan node c.loop-index.found.items c.push_if.new.found.items c.may_end-legal.result
    c.loop-index-test.true c.index-nodes-index.is
    (c.may_end-legal.ensures ∙ ap (λ (g : Bool). may_end params c.loop-index.scan g node) c.is_glue_at.ensures) c.in_ok-push_if.ensures
    ∙ c.loop-index.invariant

pub returns : goal.returns
returns c =
    breaks_end c.args.params.now c.args.nodes.now c.loop-index.index c.loop-index.scan c.loop-index.found.items _ (omega (arith, c.loop-index-test.false)) c.loop-index.invariant

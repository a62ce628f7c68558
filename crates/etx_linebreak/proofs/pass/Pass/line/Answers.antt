use Rattle.std.proofs.Common.{ap, ◌∙◌}
use Rattle.etx_linebreak.specs.Passes.{PassState, break_at}
use Rattle.etx_linebreak.proofs.Stopping.{placed, line_is}
use Rattle.etx_linebreak.proofs.pass.Pass.line.Goals as goal

pub line-requires-clause-from : goal.line-requires-clause-from
line-requires-clause-from c =
    placed c.args.self.now.paragraph c.get.result.now c.stop.result.now (break_at c.args.self.now c.args.from)
    (c.get.ensures ∙ ap (λ (it : PassState). it.paragraph) c.self.view_is) c.stop.ensures

pub line-requires-clause-to : goal.line-requires-clause-to
line-requires-clause-to c =
    placed c.args.self.now.paragraph c.get.result.now c.stop-2.result.now (break_at c.args.self.now c.args.to)
    (c.get.ensures ∙ ap (λ (it : PassState). it.paragraph) c.self.view_is) c.stop-2.ensures

pub returns-clause-value : goal.returns-clause-value
returns-clause-value c =
    line_is c.args.self.now.paragraph c.get.result.now c.stop.result.now c.stop-2.result.now (break_at c.args.self.now c.args.from) (break_at c.args.self.now c.args.to)
    c.line.result (c.get.ensures ∙ ap (λ (it : PassState). it.paragraph) c.self.view_is) c.stop.ensures c.stop-2.ensures c.line.ensures.value

use Rattle.std.proofs.Common.{ap, ◌∙◌, w32, w64, to_z, of_z, rules}
use Rattle.std.proofs.lemmas.Int.{to_z-of_z}
use Rattle.etx_sealed.specs.declared.params.BreakParams.{BreakParams}
use Rattle.etx_linebreak.proofs.Costing.{base_by}
use Rattle.etx_linebreak.proofs.pass.Pass.base_of.Goals as goal

pub returns-clause-value : goal.returns-clause-value
returns-clause-value c =
    let extra = c.params.result.line_penalty in
    base_by c.args.self.now c.args.line (to_z w64 (of_z w64 c.with_badness.result)) c.with_badness.result (to_z w32 (of_z w32 extra)) (to_z w32 (of_z w32 c.args.line.badness))
    c.base.result c.base.ensures.value (to_z-of_z w64 c.with_badness.result (search rules)) c.with_badness.ensures
    (to_z-of_z w32 extra (search rules) ∙ ap (λ (it : BreakParams). it.line_penalty) c.params.ensures) (to_z-of_z w32 c.args.line.badness (search rules))

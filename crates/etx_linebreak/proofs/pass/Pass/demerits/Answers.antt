use Rattle.std.proofs.Common.{◌∙◌, w32, w64, to_z, of_z, rules}
use Rattle.std.proofs.lemmas.Int.{to_z-of_z}
use Rattle.etx_linebreak.proofs.Costing.{demerits_by}
use Rattle.etx_linebreak.proofs.pass.Pass.demerits.Goals as goal

pub returns : goal.returns
returns c =
    to_z-of_z w64 c.sum_of.result (search rules)
    ∙ c.sum_of.ensures
    ∙ demerits_by c.args.self.now c.args.break_number c.args.row.now c.args.line c.base_of.result (to_z w64 (of_z w64 c.cost_of_break.result))
    (to_z w32 (of_z w32 c.hyphen_cost.result)) (to_z w32 (of_z w32 c.class_cost.result)) c.base_of.ensures.value
    (to_z-of_z w64 c.cost_of_break.result (search rules) ∙ c.cost_of_break.ensures.value)
    (to_z-of_z w32 c.hyphen_cost.result (search rules) ∙ c.hyphen_cost.ensures)
    (to_z-of_z w32 c.class_cost.result (search rules) ∙ c.class_cost.ensures)

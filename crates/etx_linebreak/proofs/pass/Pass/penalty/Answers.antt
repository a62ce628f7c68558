use Rattle.std.proofs.Common.{◌∙◌, w32, rules}
use Rattle.std.proofs.lemmas.Int.{to_z-of_z}
use Rattle.etx_linebreak.proofs.Stopping.{penalty_is}
use Rattle.etx_linebreak.proofs.pass.Pass.penalty.Goals as goal

pub returns : goal.returns
returns c =
    to_z-of_z w32 c.penalty.result (search rules) ∙ c.penalty.ensures ∙ penalty_is c.args.self.now c.stop.result.now c.args.break_number c.stop.ensures

use Rattle.std.proofs.Common.{◌∙◌}
use Rattle.etx_linebreak.proofs.Stopping.{hyphenated_is}
use Rattle.etx_linebreak.proofs.pass.Pass.is_hyphenated.Goals as goal

pub returns : goal.returns
returns c = c.is_hyphenated.ensures ∙ hyphenated_is c.args.self.now c.stop.result.now c.args.break_number c.stop.ensures

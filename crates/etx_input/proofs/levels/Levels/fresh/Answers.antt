use Rattle.std.proofs.Common.{sym, ◌∙◌, ap}
use Rattle.etx_input.specs.Marks.{input_of}
use Rattle.etx_input.specs.Runs.{fresh_in}
use Rattle.etx_input.proofs.Tops.{top}
use Rattle.etx_input.proofs.levels.Levels.fresh.Goals as goal

pub returns-in-Some : goal.returns-in-Some
unfolding input_of
returns-in-Some c = c.fresh.ensures ∙ sym (ap fresh_in (top c.args.self.now.levels.items c.in-Some.level.now (sym c.in-Some.ensures)))

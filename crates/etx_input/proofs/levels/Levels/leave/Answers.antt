use Rattle.std.proofs.Common.{◌≡◌}
use Rattle.etx_input.specs.Marks.{input_of}
use Rattle.etx_input.proofs.Marks.{keeps_by}
use Rattle.etx_input.proofs.Tops.{left}
use Rattle.etx_input.proofs.levels.Levels.leave.Goals as goal

pub returns-in_err-drop_last-clause-kept : goal.returns-in_err-drop_last-clause-kept
returns-in_err-drop_last-clause-kept c = keeps_by _ _ c.in_err-drop_last.ensures.kept

pub returns-clause-left : goal.returns-clause-left
unfolding input_of
returns-clause-left c = left c.args.self.now.levels.items c.drop_last.new.self.items c.args.self.now.left c.left_next-left.result c.in_ok-drop_last.ensures.ok c.left_next-left.ensures

pub returns-clause-kept : goal.returns-clause-kept
returns-clause-kept c = keeps_by _ _ c.in_ok-drop_last.ensures.kept

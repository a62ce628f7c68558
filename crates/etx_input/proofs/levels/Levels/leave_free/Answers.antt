use Rattle.std.proofs.Common.{◌≡◌}
use Rattle.etx_input.specs.Marks.{input_of}
use Rattle.etx_input.proofs.Marks.{keeps_by}
use Rattle.etx_input.proofs.Tops.{left}
use Rattle.etx_input.proofs.levels.Levels.leave_free.Goals as goal

pub returns-clause-left : goal.returns-clause-left
unfolding input_of
returns-clause-left c = left c.args.self.now.levels.items c.drop_free.new.self.items c.args.self.now.left c.left_next-left.result c.drop_free.ensures.items c.left_next-left.ensures

pub returns-clause-kept : goal.returns-clause-kept
returns-clause-kept c = keeps_by _ _ c.drop_free.ensures.kept

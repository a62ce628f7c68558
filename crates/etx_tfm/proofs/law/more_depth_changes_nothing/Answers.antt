use Rattle.etx_tfm.proofs.Deeper.{deeper}
use Rattle.etx_tfm.proofs.law.more_depth_changes_nothing.Goals as goal

pub returns : goal.returns
returns c = λ depth x y more. deeper c.args.font.now.info depth x y c.info-info.ensures.sound more

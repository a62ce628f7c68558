use Rattle.etx_state.specs.Mouths.{mouth_of}
use Rattle.etx_mouth.proofs.Skims.{rests}
use Rattle.etx_mouth.proofs.skim.skim_next.Goals as goal

pub skim_idle-requires-clause-rest : goal.skim_idle-requires-clause-rest
skim_idle-requires-clause-rest c = rests c.args.token (mouth_of c.args.s.now) c.requires.next

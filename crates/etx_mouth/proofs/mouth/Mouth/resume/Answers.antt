use Rattle.std.proofs.Common.{rules}
use Rattle.etx_mouth.specs.Mouths.{state_of}
use Rattle.etx_mouth.proofs.Falling.{resumed_adds_to}
use Rattle.etx_mouth.proofs.mouth.Mouth.resume.Goals as goal

pub returns-clause-answered : goal.returns-clause-answered
returns-clause-answered c = resumed_adds_to c.args.name.now (state_of c.args.self.now) (state_of c.take.new.self) c.args.loaded (search rules)

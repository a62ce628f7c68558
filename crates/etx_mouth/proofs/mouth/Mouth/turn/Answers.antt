use Rattle.std.proofs.Common.{rules}
use Rattle.etx_mouth.specs.Mouths.{state_of}
use Rattle.etx_mouth.proofs.Falling.{turn_goes_to}
use Rattle.etx_mouth.proofs.mouth.Mouth.turn.Goals as goal

pub returns-clause-goes : goal.returns-clause-goes
returns-clause-goes c = turn_goes_to (state_of c.args.self.now) (state_of c.make_turn.new.self) c.in_ok-did.did (search rules) (search rules)

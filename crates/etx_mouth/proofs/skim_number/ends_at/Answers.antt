use Rattle.etx_mouth.proofs.Constants.{space_at}
use Rattle.etx_mouth.proofs.skim_number.ends_at.Goals as goal

pub returns-then-count-tokens-clause-space : goal.returns-then-count-tokens-clause-space
returns-then-count-tokens-clause-space c = λ yes. space_at c.args.count c.args.tokens.now _ c.if-count-tokens.true (c.is_space.ensures yes)

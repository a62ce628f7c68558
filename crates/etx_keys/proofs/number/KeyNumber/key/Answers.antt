use Rattle.std.proofs.Common.{sym}
use Rattle.etx_keys.proofs.KeyNumbers.{answered_number, answered_key}
use Rattle.etx_keys.proofs.number.KeyNumber.key.Goals as goal

pub returns-clause-there : goal.returns-clause-there
returns-clause-there c = answered_number c.args.self c.in_ok-kind.kind c.key_in.result (sym c.in_ok-kind.ensures) c.key_in.ensures

pub returns-clause-ranges : goal.returns-clause-ranges
returns-clause-ranges c = answered_key c.args.self c.in_ok-kind.kind c.key_in.result (sym c.in_ok-kind.ensures) c.key_in.ensures

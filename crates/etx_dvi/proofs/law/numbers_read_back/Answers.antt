use Rattle.etx_dvi.proofs.Values.{signed_four, movement_read}
use Rattle.etx_dvi.proofs.law.numbers_read_back.Goals as goal

pub returns-clause-whole : goal.returns-clause-whole
returns-clause-whole c = signed_four

pub returns-clause-moved : goal.returns-clause-moved
returns-clause-moved c = movement_read

use Rattle.etx_dvi.proofs.Fills.{whole, least, most}
use Rattle.etx_dvi.proofs.law.tail_fills_up.Goals as goal

pub returns-clause-whole : goal.returns-clause-whole
returns-clause-whole c = whole

pub returns-clause-least : goal.returns-clause-least
returns-clause-least c = least

pub returns-clause-most : goal.returns-clause-most
returns-clause-most c = most

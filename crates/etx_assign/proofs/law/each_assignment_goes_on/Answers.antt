use Rattle.etx_assign.proofs.Falling.{assign_goes, number_goes, text_goes, assign_word_goes, future_goes}
use Rattle.etx_assign.proofs.law.each_assignment_goes_on.Goals as goal

pub returns-clause-token : goal.returns-clause-token
returns-clause-token c = assign_goes

pub returns-clause-number : goal.returns-clause-number
returns-clause-number c = number_goes

pub returns-clause-text : goal.returns-clause-text
returns-clause-text c = text_goes

pub returns-clause-word : goal.returns-clause-word
returns-clause-word c = assign_word_goes

pub returns-clause-future : goal.returns-clause-future
returns-clause-future c = future_goes

use Rattle.etx_expand.proofs.Falling.{scan_fetched_pays, planned_goes, begun_goes, finished_goes, word_goes, idle_goes, expand_after_goes, due_goes, say_goes}
use Rattle.etx_expand.proofs.law.each_turn_goes_on.Goals as goal

pub returns-clause-fetched : goal.returns-clause-fetched
returns-clause-fetched c = scan_fetched_pays

pub returns-clause-plan : goal.returns-clause-plan
returns-clause-plan c = planned_goes

pub returns-clause-start : goal.returns-clause-start
returns-clause-start c = begun_goes

pub returns-clause-value : goal.returns-clause-value
returns-clause-value c = finished_goes

pub returns-clause-word : goal.returns-clause-word
returns-clause-word c = word_goes

pub returns-clause-idle : goal.returns-clause-idle
returns-clause-idle c = idle_goes

pub returns-clause-kept : goal.returns-clause-kept
returns-clause-kept c = expand_after_goes

pub returns-clause-due : goal.returns-clause-due
returns-clause-due c = due_goes

pub returns-clause-says : goal.returns-clause-says
returns-clause-says c = say_goes

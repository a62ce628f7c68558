use Rattle.etx_dvi.proofs.Apart.{reads, apart, sequences}
use Rattle.etx_dvi.proofs.law.commands_come_apart.Goals as goal

pub returns-clause-reads : goal.returns-clause-reads
returns-clause-reads c = reads

pub returns-clause-apart : goal.returns-clause-apart
returns-clause-apart c = apart

pub returns-clause-sequences : goal.returns-clause-sequences
returns-clause-sequences c = sequences

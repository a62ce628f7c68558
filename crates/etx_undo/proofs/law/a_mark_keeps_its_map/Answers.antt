use Rattle.etx_undo.proofs.Laws.{at-deeds, present-deeds}
use Rattle.etx_undo.proofs.law.a_mark_keeps_its_map.Goals as goal

pub returns-clause-looked : goal.returns-clause-looked
returns-clause-looked c c' = at-deeds

pub returns-clause-gone : goal.returns-clause-gone
returns-clause-gone c c' = present-deeds

use Rattle.etx_prims.proofs.Laws.{found_by_table, absent_by_table}
use Rattle.etx_prims.proofs.Named.{is_named}
use Rattle.etx_prims.proofs.Sorted.{HasRisingNames-SORTED}
use Rattle.etx_prims.proofs.table.lookup.Goals as goal

pub find-requires : goal.find-requires
find-requires c = HasRisingNames-SORTED

pub returns-clause-found : goal.returns-clause-found
returns-clause-found c = found_by_table c.find.result c.args.name.now c.find.ensures.found c.find.ensures.absent

pub returns-clause-absent : goal.returns-clause-absent
returns-clause-absent c = absent_by_table c.find.result c.args.name.now c.find.ensures.absent

pub returns-clause-value : goal.returns-clause-value
returns-clause-value c = is_named c.find.result c.args.name.now (found_by_table c.find.result c.args.name.now c.find.ensures.found c.find.ensures.absent)

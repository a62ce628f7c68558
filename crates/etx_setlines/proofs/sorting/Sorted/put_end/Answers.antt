use Rattle.etx_sealed.specs.Breaks.{item_at}
use Rattle.etx_setlines.proofs.Parted.{nothing_stays, nothing_moves}
use Rattle.etx_setlines.proofs.sorting.Sorted.put_end.Goals as goal

pub returns-in-None-clause-line : goal.returns-in-None-clause-line
returns-in-None-clause-line c = nothing_stays c.args.self.now.line (item_at c.args.nodes.now c.args.place) c.in-None.ensures.value

pub returns-in-None-clause-moved : goal.returns-in-None-clause-moved
returns-in-None-clause-moved c = nothing_moves c.args.self.now.moved (item_at c.args.nodes.now c.args.place) c.in-None.ensures.value

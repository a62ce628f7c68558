use Rattle.std.proofs.Common.{sym}
use Rattle.etx_tfm.proofs.Waiting.{known_already}
use Rattle.etx_tfm.proofs.pairs.is_open_at.Goals as goal

pub returns-in-Some-clause-value : goal.returns-in-Some-clause-value
returns-in-Some-clause-value c =
    sym (known_already c.args.font.now c.args.depth c.args.place c.in-Some.end c.args.known.now c.requires.table c.in-Some.ensures)

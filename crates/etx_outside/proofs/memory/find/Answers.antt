use Rattle.std.proofs.Common.{sym}
use Rattle.etx_outside.proofs.FileMaps.{file_at_none, file_at_first}
use Rattle.etx_outside.proofs.memory.find.Goals as goal

pub returns-in_err-i : goal.returns-in_err-i
returns-in_err-i c = rw c.from_residual.ensures (sym (file_at_none c.args.files.now c.args.name.now c.in_err-i.ensures))

pub returns : goal.returns
returns c = sym (file_at_first c.args.files.now c.args.name.now c.in_ok-i.i c.index-files-i.result c.in_ok-i.ensures)

use Rattle.std.proofs.lemmas.Result.{on_ok_weaker}
use Rattle.etx_outside.proofs.FileMaps.{written_more, there_and_not}
use Rattle.etx_outside.proofs.memory.add.Goals as goal

pub returns-in-Some-clause-ok : goal.returns-in-Some-clause-ok
returns-in-Some-clause-ok c =
    on_ok_weaker c.extend_from_slice.result
    (written_more c.args.files.now.items c.deref.result.now c.args.name.now c.args.more.now c.in-Some.i c.index_mut.result.now c.extend_from_slice.new.self c.deref.ensures.value c.in-Some.ensures c.index_mut.ensures.value)
    c.extend_from_slice.ensures.ok

pub returns-in-None-clause-ok : goal.returns-in-None-clause-ok
returns-in-None-clause-ok c = absurd (there_and_not c.args.files.now.items c.deref.result.now c.args.name.now c.deref.ensures.value c.in-None.ensures c.requires)

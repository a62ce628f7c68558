use Rattle.etx_expand.proofs.Watching.{watch_found, watch_passed}
use Rattle.etx_expand.proofs.get.find_watch.Goals as goal

pub returns-in-Some-watch_at : goal.returns-in-Some-watch_at
returns-in-Some-watch_at c = watch_found c.args.entries.now c.loop-i.i c.in-Some.entry.now c.in-Some-watch_at.watch (c.in-Some.ensures) (c.in-Some-watch_at.ensures) c.loop-i.invariant

pub loop-i-preserved : goal.loop-i-preserved
loop-i-preserved c = watch_passed c.args.entries.now c.loop-i.i c.in-Some.entry.now (c.in-Some.ensures) (c.in_default-watch_at.ensures) c.loop-i.invariant

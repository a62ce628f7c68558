use Rattle.std.proofs.Common.{arith}
use Rattle.etx_outside.proofs.NameCuts.{job_name_whole, job_name_cut}
use Rattle.etx_outside.proofs.names.job_name.Goals as goal

pub returns-then-name-end-eq46 : goal.returns-then-name-end-eq46
returns-then-name-end-eq46 c =
    job_name_cut c.args.name.now c.loop-end.end (omega arith) c.loop-end.invariant.0 c.if-name-end-eq46.true c.loop-end.invariant.1

pub returns : goal.returns
returns c = job_name_whole c.args.name.now (λ k from within. c.loop-end.invariant.1 k (omega arith) within)

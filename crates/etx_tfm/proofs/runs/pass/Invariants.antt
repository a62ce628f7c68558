use Rattle.etx_tfm.proofs.Loops.{Passes}
use Rattle.etx_tfm.proofs.runs.pass.Given as goal

abbrev pub invariant-loop : goal.invariant-loop
invariant-loop l =
    Passes l.font l.count l.counter l.initial.out l.initial.edges l.initial.rest.items l.initial.rest.touched l.out l.edges l.rest.items l.rest.touched

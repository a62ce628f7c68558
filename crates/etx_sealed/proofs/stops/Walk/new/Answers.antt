use Rattle.std.proofs.Common.{sym, subst, arith}
use Rattle.etx_sealed.specs.Walks.{IsRunning}
use Rattle.etx_sealed.proofs.Walking.{running_first}
use Rattle.etx_sealed.proofs.stops.Walk.new.Goals as goal

pub returns : goal.returns
returns c =
    let nodes = c.args.nodes.now in
    record {
      ends = subst (IsRunning nodes) (sym c.new.ensures) (running_first nodes);
      starts = subst (IsRunning nodes) (sym c.new-2.ensures) (running_first nodes);
      run = record { ends = omega (arith, c.dropped_first-to.ensures.value) };
    }

use Rattle.std.proofs.Common.{arith}
use Rattle.etx_state.specs.Mouths.{mouth_of}
use Rattle.etx_mouth.proofs.Skims.{call_runs_to, first_some}
use Rattle.etx_mouth.proofs.skim.skim_call.Goals as goal

pub skip-requires : goal.skip-requires
skip-requires c = first_some _ _ c.requires.next.first

pub returns-clause-runs : goal.returns-clause-runs
returns-clause-runs c =
    call_runs_to
    c.args.budget
    (mouth_of c.args.s.now)
    _
    _
    c.args.token
    c.args.body
    c.requires.next
    c.requires.called
    c.in_ok-skip.ensures.ok
    c.in_ok-push_shared.ensures.ok
    (omega (arith, c.requires.within, c.if-s-budget.false))

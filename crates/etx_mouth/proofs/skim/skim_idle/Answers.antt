use Rattle.std.proofs.Common.{List, length, ap, arith}
use Rattle.etx_matter.specs.declared.token.Token.{Token}
use Rattle.etx_state.specs.Mouths.{mouth_of}
use Rattle.etx_mouth.proofs.Skims.{as_many, idle_runs_to, at_rest_behind}
use Rattle.etx_mouth.proofs.skim.skim_idle.Goals as goal

pub skip-requires : goal.skip-requires
skip-requires c =
    let many = as_many _ c.count_idle.result c.fresh.result.now c.count_idle.ensures in
    omega (arith, many, c.count_within-count.ensures.some, ap (λ (ts : List Token). length ts) c.fresh.ensures)

pub returns-clause-runs : goal.returns-clause-runs
returns-clause-runs c =
    idle_runs_to
    c.args.budget
    c.count_within-count.result
    c.count_idle.result
    (mouth_of c.args.s.now)
    _
    c.fresh.result.now
    c.requires.rest
    c.fresh.ensures
    c.count_idle.ensures
    c.count_within-count.ensures.some
    (omega (arith, c.if-count-eq0.false))
    (omega (arith, c.count_within-count.ensures.fits, c.requires.within))
    c.in_ok-skip.ensures.ok

pub returns-clause-rest : goal.returns-clause-rest
returns-clause-rest c = at_rest_behind c.count_within-count.result (mouth_of c.args.s.now) _ c.requires.rest c.in_ok-skip.ensures.ok

use Rattle.std.proofs.Common.{List, length, ap, arith}
use Rattle.etx_matter.specs.declared.token.Token.{Token}
use Rattle.etx_state.specs.Mouths.{mouth_of}
use Rattle.etx_mouth.proofs.Passes.{as_many, passed_runs_as}
use Rattle.etx_mouth.proofs.skim_skip.pass.Goals as goal

pub skip-requires : goal.skip-requires
skip-requires c =
    let many = as_many _ c.count_passed-count.result c.fresh-tokens.result.now c.count_passed-count.ensures.passed in
    omega (arith, many, ap (λ (ts : List Token). length ts) c.fresh-tokens.ensures)

pub returns-clause-runs : goal.returns-clause-runs
returns-clause-runs c =
    passed_runs_as
    c.args.budget
    c.count_passed-count.result
    c.args.left
    c.args.skip
    (mouth_of c.args.s.now)
    (mouth_of c.enter_skipped-2.new.s)
    _
    c.fresh-tokens.result.now
    _
    c.in_ok-enter_skipped-2.ensures
    c.in_ok-skip.ensures.ok
    (omega arith)
    c.requires.entries
    c.requires.levels
    c.fresh-tokens.ensures
    c.count_passed-count.ensures.passed
    (omega (arith, c.if-count-eq0.false))
    (omega (arith, c.count_passed-count.ensures.fits, c.requires.within))

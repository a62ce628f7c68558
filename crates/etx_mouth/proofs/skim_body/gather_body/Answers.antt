use Rattle.std.proofs.Common.{subst, arith}
use Rattle.etx_state.specs.declared.scan.Definition.{Definition}
use Rattle.etx_state.specs.Mouths.{mouth_of}
use Rattle.etx_mouth.specs.Gathering.{AreCopied}
use Rattle.etx_mouth.proofs.Gathers.{body_runs_as}
use Rattle.etx_mouth.proofs.skim_body.gather_body.Goals as goal

pub returns-clause-runs : goal.returns-clause-runs
returns-clause-runs c =
    body_runs_as
    c.args.budget
    c.count_copied-copied.result.count
    c.args.left
    c.count_copied-copied.result.depth
    c.args.definition
    c.in_ok-longer.longer
    (mouth_of c.args.s.now)
    (mouth_of c.enter_body-2.new.s)
    _
    c.fresh-tokens.result.now
    _
    c.in_ok-enter_body-2.ensures
    c.in_ok-longer.ensures
    c.in_ok-skip.ensures.ok
    (omega arith)
    c.requires.mark
    c.requires.plain
    c.requires.entries
    c.requires.levels
    c.fresh-tokens.ensures
    (subst (λ (d : Definition). AreCopied (mouth_of c.args.s.now).rest.values c.count_copied-copied.result.count c.fresh-tokens.result.now d.depth c.count_copied-copied.result.depth) c.get.ensures c.count_copied-copied.ensures.copied)
    (omega (arith, c.if-copied-eq0.false))
    (omega (arith, c.room_for-room.ensures, c.count_copied-copied.ensures.fits, c.requires.within))

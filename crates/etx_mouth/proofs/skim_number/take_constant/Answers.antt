use Rattle.std.proofs.Common.{List, length, ap, ◌∙◌, arith, rules}
use Rattle.etx_matter.specs.declared.token.Token.{Token}
use Rattle.etx_state.specs.Mouths.{Mouth, mouth_of}
use Rattle.etx_expand.specs.Moves.{entered}
use Rattle.etx_mouth.specs.Counting.{in_digits, given}
use Rattle.etx_mouth.proofs.Constants.{digits_run_as, constant_run_as}
use Rattle.etx_mouth.proofs.skim_number.take_constant.Goals as goal

pub returns-then-is_whole-clause-runs : goal.returns-then-is_whole-clause-runs
returns-then-is_whole-clause-runs c =
    constant_run_as
    c.args.budget
    c.read_constant-constant.result.count
    c.args.left
    c.args.taker
    c.read_constant-constant.result.digits
    (mouth_of c.args.s.now)
    (mouth_of c.give.new.s)
    c.fresh-tokens.result.now
    (c.in_ok-give.ensures ∙ ap (λ (m : Mouth). entered (given c.read_constant-constant.result.digits c.args.taker) m) c.in_ok-use_up.ensures)
    c.requires.entries
    c.requires.levels
    c.fresh-tokens.ensures
    c.read_constant-constant.ensures.digits
    (c.is_whole.ensures.space (search rules))
    (omega (arith, c.if-constant-eq0.false))
    (omega (arith, c.is_whole.ensures.room (search rules), c.requires.within))

pub returns-clause-runs : goal.returns-clause-runs
returns-clause-runs c =
    digits_run_as
    c.args.budget
    c.read_constant-constant.result.count
    c.args.left
    c.args.taker
    c.read_constant-constant.result.digits
    (mouth_of c.args.s.now)
    (mouth_of c.enter_digits.new.s)
    c.fresh-tokens.result.now
    (c.in_ok-enter_digits.ensures ∙ ap (λ (m : Mouth). entered (in_digits c.read_constant-constant.result.digits c.args.taker) m) c.in_ok-use_up-2.ensures)
    c.requires.entries
    c.requires.levels
    c.fresh-tokens.ensures
    c.read_constant-constant.ensures.digits
    (omega (arith, c.if-constant-eq0.false))
    (omega (arith, c.read_constant-constant.ensures.fits, c.requires.within))

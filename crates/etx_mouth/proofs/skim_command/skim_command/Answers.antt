use Rattle.std.proofs.Common.{sym, ◌∙◌, arith}
use Rattle.etx_state.specs.Mouths.{mouth_of}
use Rattle.etx_mouth.proofs.SkimCommands.{rest_is_kept, nothing_is, same_runs, command_within, command_forth, command_runs}
use Rattle.etx_mouth.proofs.Skims.{first_some}
use Rattle.etx_mouth.proofs.skim_command.skim_command.Goals as goal

pub skip-requires : goal.skip-requires
skip-requires c = first_some _ _ c.requires.next.first

pub returns-then-not-is_quiet-clause-runs : goal.returns-then-not-is_quiet-clause-runs
returns-then-not-is_quiet-clause-runs c =
    same_runs
    c.args.budget
    (mouth_of c.args.s.now)
    _
    (rest_is_kept c.args.token c.args.meaning _ (mouth_of c.args.s.now).rest _ c.in_ok-start.start c.in_ok-start.ensures.start c.in_ok-start.ensures.rest (sym c.is_quiet.ensures ∙ c.if-not-is_quiet.true))

pub returns-clause-runs : goal.returns-clause-runs
returns-clause-runs c =
    command_runs
    c.args.budget
    (mouth_of c.args.s.now)
    c.args.token
    c.args.meaning
    _
    _
    c.in_ok-start.start
    _
    _
    c.line-line.ensures
    c.requires.next
    c.requires.command
    c.in_ok-start.ensures.start
    c.in_ok-start.ensures.rest
    (nothing_is _ (sym c.is_quiet.ensures ∙ c.if-not-is_quiet.false))
    c.in_ok-skip.ensures.ok
    c.in_ok-begin.ensures.now
    (omega (arith, c.requires.within, c.if-s-budget.false))

pub returns-clause-within : goal.returns-clause-within
returns-clause-within c =
    command_within
    c.args.budget
    (mouth_of c.args.s.now)
    c.args.token
    _
    c.in_ok-start.start
    _
    _
    (nothing_is _ (sym c.is_quiet.ensures ∙ c.if-not-is_quiet.false))
    c.in_ok-begin.ensures.now
    (omega (arith, c.requires.within, c.if-s-budget.false))

pub returns-clause-forth : goal.returns-clause-forth
returns-clause-forth c =
    command_forth
    (mouth_of c.args.s.now)
    c.args.token
    _
    c.in_ok-start.start
    _
    _
    (nothing_is _ (sym c.is_quiet.ensures ∙ c.if-not-is_quiet.false))
    c.in_ok-begin.ensures.now

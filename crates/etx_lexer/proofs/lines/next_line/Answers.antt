-- What is left of the text, and its first byte 10.
use Rattle.std.proofs.Common.{◌≤◌, ◌-◌, length, take, drop, arith, sym, length-take}
use Rattle.etx_lexer.proofs.FirstLines.{no_line, last_line, ended_line}
use Rattle.etx_lexer.proofs.lines.next_line.Goals as goal

pub returns-then-from-text-clause-line : goal.returns-then-from-text-clause-line
returns-then-from-text-clause-line c = no_line c.args.text.now c.args.from c.if-from-text.true

pub returns-in-None-clause-line : goal.returns-in-None-clause-line
returns-in-None-clause-line c = last_line c.args.text.now c.args.from c.if-from-text.false (sym c.in-None.ensures.value)

pub returns-in-Some-clause-line : goal.returns-in-Some-clause-line
returns-in-Some-clause-line c =
    let left = take (length c.args.text.now - c.args.from) (drop c.args.from c.args.text.now) in
    let small : c.kept_length.result ≤ c.in-Some.length = omega (arith, c.kept_length.ensures.small, length-take c.in-Some.length left) in
    ended_line c.args.text.now c.args.from c.in-Some.length c.kept_length.result c.if-from-text.false (sym c.in-Some.ensures.value) c.kept_length.ensures.value small

-- The number is the code of a character exactly from 0 to 255.
use Rattle.std.proofs.Common.{pos, ◌<ℤ◌, ◌≤ℤ◌, inl, inr, arith}
use mir.Syntax.{w32}
use mir.Val.{SFits}
use Rattle.std.proofs.lemmas.Int.{ints, to_z-of_z}
use Rattle.etx_lexer.proofs.EndCharacters.{end_from, end_none}
use Rattle.etx_lexer.proofs.line.end_character.Goals as goal
use Rattle.etx_lexer.proofs.line.end_character.Goals.{else-endline-ge0-via-then-endline-ge0+else-endline-lt256, else-endline-ge0-via-else-endline-ge0}

pub returns-then-endline-lt256 : goal.returns-then-endline-lt256
returns-then-endline-lt256 c =
    let fits : SFits w32 c.args.endline = c.ranges.endline in
    let low : pos 0 ≤ℤ c.args.endline = grind (arith, ints) in
    let high : c.args.endline <ℤ pos 256 = grind (arith, ints) in
    rw to_z-of_z (end_from c.args.endline low high)

pub returns-else-endline-ge0 : goal.returns-else-endline-ge0
returns-else-endline-ge0 c =
    let fits : SFits w32 c.args.endline = c.ranges.endline in
    elim c.else-endline-ge0.branch [
      | else-endline-ge0-via-then-endline-ge0+else-endline-lt256 w ↦ end_none c.args.endline (inr (grind (arith, ints)))
      | else-endline-ge0-via-else-endline-ge0 w ↦ end_none c.args.endline (inl (grind (arith, ints)))
    ]

use Rattle.std.proofs.Common.{◌≡◌, ◌++◌, drop}
use Rattle.etx_answers.specs.Printing.{character_tokens}
use Rattle.etx_answers.proofs.printing.character_tokens.Given as goal

abbrev pub invariant-loop-code : goal.invariant-loop-code
invariant-loop-code l = l.tokens ++ character_tokens (drop l.code-index l.text) ≡ character_tokens l.text

use Rattle.std.proofs.Common.{◌≡◌, drop}
use Rattle.etx_hyphen.specs.Words.{font_numbered}
use Rattle.etx_hyphen.proofs.words.font_numbered.Given as goal

abbrev pub invariant-loop-it : goal.invariant-loop-it
invariant-loop-it l = font_numbered (drop l.it-index l.fonts) l.number ≡ font_numbered l.fonts l.number

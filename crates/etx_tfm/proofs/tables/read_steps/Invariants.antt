use Rattle.std.proofs.Common.{◌≡◌, take, map}
use Rattle.etx_tfm.specs.Words.{step_of}
use Rattle.etx_tfm.proofs.tables.read_steps.Given as goal

abbrev pub invariant-loop-word : goal.invariant-loop-word
invariant-loop-word l = l.out ≡ map step_of (take l.word-index l.words)

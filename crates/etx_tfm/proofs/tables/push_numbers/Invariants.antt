use Rattle.std.proofs.Common.{◌≡◌, ◌++◌, take, map}
use Rattle.etx_tfm.specs.Numbers.{fix_word}
use Rattle.etx_tfm.proofs.tables.push_numbers.Given as goal

abbrev pub invariant-loop-word : goal.invariant-loop-word
invariant-loop-word l = l.out ≡ l.initial.out ++ map (fix_word l.size) (take l.word-index l.words)

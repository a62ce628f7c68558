use Rattle.std.proofs.Common.{◌≡◌, ◌++◌, take}
use Rattle.std.specs.List.{flat_map}
use Rattle.etx_gen.specs.Font.{fix_word}
use Rattle.etx_gen.proofs.font.push_fix_words.Given as goal

abbrev pub invariant-loop-number : goal.invariant-loop-number
invariant-loop-number l = l.out.items ≡ l.initial.out.items ++ flat_map fix_word (take l.number-index l.sixteenths)

use Rattle.std.proofs.Common.{◌≡◌, drop}
use Rattle.std.specs.List.{list_all}
use Rattle.etx_hyphen.specs.Words.{is_letter}
use Rattle.etx_hyphen.proofs.letters.all_letters.Given as goal

abbrev pub invariant-loop-letter : goal.invariant-loop-letter
invariant-loop-letter l = list_all (is_letter l.params) (drop l.letter-index l.letters) ≡ list_all (is_letter l.params) l.letters

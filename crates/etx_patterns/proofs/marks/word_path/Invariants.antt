use Rattle.std.proofs.Common.{◌≡◌, ◌++◌, drop}
use Rattle.etx_patterns.specs.Shapes.{word_marks, path_in}
use Rattle.etx_patterns.proofs.marks.word_path.Given as goal

abbrev pub invariant-loop-code : goal.invariant-loop-code
invariant-loop-code l = l.path.items ++ word_marks (drop l.code-index l.word) ≡ path_in l.language (word_marks l.word)

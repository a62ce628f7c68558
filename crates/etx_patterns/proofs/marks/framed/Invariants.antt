use Rattle.std.proofs.Common.{◌≡◌, ◌++◌, ◌∷◌, drop}
use Rattle.etx_patterns.specs.Shapes.{word_marks}
use Rattle.etx_patterns.specs.declared.step.Mark.TheVariants.{Boundary}
use Rattle.etx_patterns.proofs.marks.framed.Given as goal

abbrev pub invariant-loop-code : goal.invariant-loop-code
invariant-loop-code l = l.marks.items ++ word_marks (drop l.code-index l.word) ≡ Boundary ∷ word_marks l.word

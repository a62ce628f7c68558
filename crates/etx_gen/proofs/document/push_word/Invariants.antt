use Rattle.std.proofs.Common.{◌≡◌, ◌++◌}
use Rattle.etx_gen.specs.Document.{letters}
use Rattle.etx_gen.specs.Draws.{seed_after}
use Rattle.etx_gen.proofs.document.push_word.Given as goal

abbrev pub invariant-loop-letter : goal.invariant-loop-letter
invariant-loop-letter l =
    (l.out.items ≡ l.initial.out.items ++ letters l._letter l.initial.draws.seed) × (l.draws.seed ≡ seed_after l._letter l.initial.draws.seed)

use Rattle.std.proofs.Common.{◌≡◌, ◌++◌}
use Rattle.etx_gen.specs.Document.{paragraphs, after_paragraphs}
use Rattle.etx_gen.proofs.document.push_paragraphs.Given as goal

abbrev pub invariant-loop-before : goal.invariant-loop-before
invariant-loop-before l =
    (l.out.items ≡ l.initial.out.items ++ paragraphs l.before l.n) × (l.draws.seed ≡ after_paragraphs l.before l.n)

use Rattle.std.proofs.Common.{◌≡◌, ◌++◌}
use Rattle.std.specs.List.{join_with_byte}
use Rattle.etx_gen.specs.Document.{words, after_words}
use Rattle.etx_gen.proofs.document.push_words.Given as goal

abbrev pub invariant-loop-before : goal.invariant-loop-before
invariant-loop-before l =
    (l.out.items ≡ l.initial.out.items ++ join_with_byte 32 (words l.before l.initial.draws.seed)) × (l.draws.seed ≡ after_words l.before l.initial.draws.seed)

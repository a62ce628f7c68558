use Rattle.std.proofs.Common.{◌≡◌, ◌++◌}
use Rattle.std.proofs.Math.ListN.{replicate}
use Rattle.etx_answers.proofs.showing.push_thousands.Given as goal

abbrev pub invariant-loop-thousand : goal.invariant-loop-thousand
invariant-loop-thousand l = l.text ≡ l.initial.text ++ replicate l._thousand 109

use Rattle.std.proofs.Common.{◌≡◌, ◌≤◌, ◌-◌, ◌∷◌, length, drop}
use Rattle.etx_lexer.specs.Reading.{first_of}
use Rattle.etx_lexer.proofs.front.first_from.Given as goal

abbrev pub invariant-loop-front : goal.invariant-loop-front
invariant-loop-front g l = record {
  same : first_of (g.C.CatOf.category l.cats) (l.code ∷ drop l.at l.line) ≡ first_of (g.C.CatOf.category l.cats) (l.fn.code ∷ drop l.fn.at l.line);
  forward : l.fn.at ≤ l.at;
  within : l.at ≤ length l.line;
}

abbrev pub decreases-loop-front : goal.decreases-loop-front
decreases-loop-front g l = length l.line - l.at

use Rattle.std.proofs.Common.{◌≡◌, ◌-◌, ◌++◌, length, drop}
use Rattle.etx_lexer.specs.Names.{word_of}
use Rattle.etx_lexer.proofs.name.read_word.Given as goal

abbrev pub invariant-loop-first : goal.invariant-loop-first
invariant-loop-first g l = record {
  letters : l.name ++ (word_of (g.C.CatOf.category l.cats) (drop l.at l.line)).letters ≡ l.fn.name ++ (word_of (g.C.CatOf.category l.cats) (drop l.fn.at l.line)).letters;
  rest : (word_of (g.C.CatOf.category l.cats) (drop l.at l.line)).rest ≡ (word_of (g.C.CatOf.category l.cats) (drop l.fn.at l.line)).rest;
}

abbrev pub decreases-loop-first : goal.decreases-loop-first
decreases-loop-first g l = length l.line - l.at

use Rattle.std.proofs.Common.{◌≡◌, length}
use Rattle.etx_lexer.specs.Places.{rest_of}
use Rattle.etx_lexer.specs.Lex.{lexed_of}
use Rattle.etx_lexer.proofs.line.lex_at.Given as goal

abbrev pub invariant-loop-first : goal.invariant-loop-first
invariant-loop-first g l = record {
  same : lexed_of (g.C.CatOf.category l.cats) (rest_of l.line l.place) l.place.state ≡ lexed_of (g.C.CatOf.category l.cats) (rest_of l.line l.fn.place) l.fn.place.state;
}

abbrev pub decreases-loop-first : goal.decreases-loop-first
decreases-loop-first g l = length (rest_of l.line l.place)

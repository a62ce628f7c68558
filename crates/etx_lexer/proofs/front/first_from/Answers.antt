-- A front is replaced until there is none.
use Rattle.std.proofs.Common.{sym, ◌∙◌, arith}
use Rattle.etx_lexer.proofs.Firsts.{first-front, first-bare}
use Rattle.etx_lexer.proofs.front.first_from.Goals as goal

pub loop-front-preserved : goal.loop-front-preserved
loop-front-preserved g c = record {
  same = sym (first-front _ _ _ c.in-Some.ensures.0) ∙ c.loop-front.invariant.same;
  forward = omega (arith, c.in-Some.ensures.1);
  within = c.in-Some.ensures.2;
}

pub returns-clause-first : goal.returns-clause-first
returns-clause-first g c = sym c.loop-front.invariant.same ∙ first-bare _ _ _ c.in_default.ensures

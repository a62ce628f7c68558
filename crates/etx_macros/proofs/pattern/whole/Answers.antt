use Rattle.std.proofs.Common.{List, length, sym, ap, subst, arith}
use Rattle.std.specs.Prelude.{All}
use Rattle.std.proofs.lemmas.List.{length_push}
use Rattle.std.proofs.lemmas.List.Elements.{All-push}
use Rattle.etx_matter.specs.declared.token.Token.{Token}
use Rattle.etx_macros.specs.Marks.{IsDelimiter}
use Rattle.etx_macros.proofs.pattern.whole.Goals as goal

pub invariant_of-new : goal.invariant_of-new
invariant_of-new c = record {
  has_text = omega (arith, ap length c.in_ok-push.ensures.ok, length_push c.args.parts c.args.last);
  flat = subst (λ (xs : List (List Token)). All IsDelimiter xs) (sym c.in_ok-push.ensures.ok) (All-push IsDelimiter c.args.parts c.args.last c.requires.parts c.requires.last);
}

use Rattle.std.proofs.Common.{◌≡◌, ◌<◌, ℕ, List, [], length, sym, ◌∙◌, subst, arith}
use Rattle.std.specs.Prelude.{All}
use Rattle.std.proofs.lemmas.List.Elements.{All-push}
use Rattle.etx_matter.specs.declared.token.Token.{Token}
use Rattle.etx_macros.specs.Marks.{IsUnbraced, IsDelimiter}
use Rattle.etx_macros.proofs.Delimiters.{plain_delimiter}
use Rattle.etx_macros.proofs.open_pattern.OpenPattern.push_parameter.Goals as goal

none_unbraced : (ts : List Token) → ts ≡ [] → All IsUnbraced ts
none_unbraced ts e = subst (λ (xs : List Token). All IsUnbraced xs) (sym e) (λ k d l. absurd (omega (arith, l)))

pub invariant_of-self : goal.invariant_of-self
invariant_of-self c = record {
  flat = subst (λ (xs : List (List Token)). All IsDelimiter xs) (sym c.in_err-push.ensures.err) c.self.invariant.flat;
  plain = none_unbraced _ (c.replace-part.ensures.after ∙ c.new.ensures);
  left = c.self.invariant.left;
}

pub invariant_of-self-2 : goal.invariant_of-self-2
invariant_of-self-2 c = record {
  flat = subst (λ (xs : List (List Token)). All IsDelimiter xs) (sym c.in_ok-push.ensures.ok) (All-push IsDelimiter _ _ c.self.invariant.flat (plain_delimiter _ (subst (λ (xs : List Token). All IsUnbraced xs) (sym c.replace-part.ensures.value) c.self.invariant.plain)));
  plain = none_unbraced _ (c.replace-part.ensures.after ∙ c.new.ensures);
  left = c.self.invariant.left;
}

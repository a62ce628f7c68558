use Rattle.std.proofs.Common.{◌≡◌, ◌+◌, Some, get_or, drop, sym, ap, ◌∙◌, arith}
use Rattle.std.proofs.lemmas.List.{at_drop_more}
use Rattle.etx_matter.specs.declared.token.Token.TheVariants.{Char}
use Rattle.etx_macros.specs.Marks.{behind, behind_all}
use Rattle.etx_macros.proofs.Depths.{behind_bound}
use Rattle.etx_macros.proofs.mark.is_balanced.Goals as goal

pub loop-token-preserved : goal.loop-token-preserved
loop-token-preserved c =
    let h : behind (get_or c.args.text.now c.loop-token.token-index (Char 0 0)) c.loop-token.depth ≡ Some c.in-Some.next = sym c.behind.ensures ∙ c.in-Some.is in (
      omega (arith, behind_bound _ _ _ h, c.loop-token.invariant.0),
      sym (ap (λ o. behind_all o (drop (c.loop-token.token-index + 1) c.args.text.now)) h)
          ∙ sym (at_drop_more (behind_all (Some c.loop-token.depth)) c.args.text.now c.loop-token.token-index (Char 0 0) c.loop-token-test.true)
          ∙ c.loop-token.invariant.1,
    )

use Rattle.std.proofs.Common.{sym, ◌∙◌}
use Rattle.std.specs.Prelude.{is_none}
use Rattle.etx_matter.specs.declared.font.LigItem.TheVariants.{Glyph}
use Rattle.etx_matter.specs.Ligatures.{last}
use Rattle.etx_tfm.proofs.Settling.{any_below-none, any_below-on, some_item-edge, some_item-here}
use Rattle.etx_tfm.proofs.settle.is_open_beside.Goals as goal

pub loop-code-init : goal.loop-code-init
loop-code-init c =
    (c.in_ok-beside_edge.ensures.table, any_below-none (λ code. is_none (last c.args.font.now c.args.depth c.args.current (Glyph code))))

pub returns-then-beside_edge-clause-value : goal.returns-then-beside_edge-clause-value
returns-then-beside_edge-clause-value c =
    sym (some_item-edge (λ next. is_none (last c.args.font.now c.args.depth c.args.current next))
    (sym c.in_ok-beside_edge.ensures.value ∙ c.if-beside_edge.true))

pub returns-then-is_so-clause-value : goal.returns-then-is_so-clause-value
returns-then-is_so-clause-value c =
    sym (some_item-here (λ next. is_none (last c.args.font.now c.args.depth c.args.current next)) c.loop-code.code c.loop-code-test.true
    (sym c.in_ok-is_so.ensures.value ∙ c.if-is_so.true))

pub loop-code-preserved : goal.loop-code-preserved
loop-code-preserved c = (
  c.in_ok-is_so.ensures.table,
  any_below-on (λ code. is_none (last c.args.font.now c.args.depth c.args.current (Glyph code))) c.loop-code.code c.loop-code.invariant.1
      (sym c.in_ok-is_so.ensures.value ∙ c.if-is_so.false),
)

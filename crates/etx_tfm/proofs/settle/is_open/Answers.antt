use Rattle.std.proofs.Common.{sym, ◌∙◌}
use Rattle.std.specs.Prelude.{is_none}
use Rattle.etx_matter.specs.declared.font.LigItem.TheVariants.{Glyph}
use Rattle.etx_matter.specs.Ligatures.{last, some_item}
use Rattle.etx_tfm.proofs.Settling.{any_below-none, any_below-on, some_item-edge, some_item-here}
use Rattle.etx_tfm.proofs.settle.is_open.Goals as goal

pub loop-code-init : goal.loop-code-init
loop-code-init c =
    (c.in_ok-beside_edge.ensures.table, any_below-none (λ code. some_item (λ y. is_none (last c.args.font.now c.args.depth (Glyph code) y))))

pub returns-then-beside_edge : goal.returns-then-beside_edge
returns-then-beside_edge c =
    sym (some_item-edge (λ x. some_item (λ y. is_none (last c.args.font.now c.args.depth x y)))
    (sym c.in_ok-beside_edge.ensures.value ∙ c.if-beside_edge.true))

pub returns-then-is_so : goal.returns-then-is_so
returns-then-is_so c =
    sym (some_item-here (λ x. some_item (λ y. is_none (last c.args.font.now c.args.depth x y))) c.loop-code.code c.loop-code-test.true
    (sym c.in_ok-is_so.ensures.value ∙ c.if-is_so.true))

pub loop-code-preserved : goal.loop-code-preserved
loop-code-preserved c = (
  c.in_ok-is_so.ensures.table,
  any_below-on (λ code. some_item (λ y. is_none (last c.args.font.now c.args.depth (Glyph code) y))) c.loop-code.code c.loop-code.invariant.1
      (sym c.in_ok-is_so.ensures.value ∙ c.if-is_so.false),
)

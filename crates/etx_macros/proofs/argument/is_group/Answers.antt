use Rattle.std.proofs.Common.{sym, ◌∙◌, arith}
use Rattle.etx_matter.specs.declared.token.Token.TheVariants.{Char}
use Rattle.etx_macros.proofs.Depths.{group_decides}
use Rattle.etx_macros.proofs.argument.is_group.Goals as goal

pub returns : goal.returns
returns c =
    group_decides c.is_balanced.result c.args.text.now (Char 0 0) (omega arith) (sym c.has_category.ensures ∙ c.if-not-has_category.false) (sym c.has_category-2.ensures ∙ c.if-not-has_category-2.false)
    c.is_balanced.ensures.0 c.is_balanced.ensures.1

use Rattle.std.proofs.Common.{◌≡◌, false}
use Rattle.std.specs.Prelude.{is_none}
use Rattle.etx_matter.specs.declared.font.LigItem.TheVariants.{Glyph}
use Rattle.etx_matter.specs.Ligatures.{last, any_below, some_item}
use Rattle.etx_tfm.specs.Pairs.{IsTable}
use Rattle.etx_tfm.proofs.settle.is_open.Given as goal

abbrev pub invariant-loop-code : goal.invariant-loop-code
invariant-loop-code l = IsTable l.font l.known × (any_below (λ code. some_item (λ y. is_none (last l.font l.depth (Glyph code) y))) l.code ≡ false)

use Rattle.std.proofs.Common.{◌≡◌, false}
use Rattle.std.specs.Prelude.{is_none}
use Rattle.etx_matter.specs.declared.font.LigItem.TheVariants.{Glyph}
use Rattle.etx_matter.specs.Ligatures.{last, any_below}
use Rattle.etx_tfm.specs.Pairs.{IsTable}
use Rattle.etx_tfm.proofs.settle.is_open_beside.Given as goal

abbrev pub invariant-loop-code : goal.invariant-loop-code
invariant-loop-code l = IsTable l.font l.known × (any_below (λ code. is_none (last l.font l.depth l.current (Glyph code))) l.code ≡ false)

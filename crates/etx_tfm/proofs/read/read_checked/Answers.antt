use Rattle.std.proofs.Common.{◌+◌, ◌≤◌, length, sym, subst}
use Rattle.etx_matter.specs.declared.font.FontInfo.{FontInfo}
use Rattle.etx_matter.specs.Soundness.{IsSound}
use Rattle.etx_tfm.proofs.HeaderSizes.{is_font}
use Rattle.etx_tfm.proofs.Sizes.{table_small}
use Rattle.etx_tfm.proofs.read.read_checked.Goals as goal

pub find_damage-requires : goal.find_damage-requires
find_damage-requires c =
    let P : FontInfo → Type 0 = λ font. font.first + length font.characters ≤ 256 in
    subst P (sym c.in_ok-info.ensures) (table_small c.args.header c.args.words.now c.args.lengths.now c.requires.codes)

pub new-requires : goal.new-requires
new-requires c =
    let sound : IsSound c.in_ok-info.info = rw c.in-None.is at c.in_ok-damage.ensures.sound in
    is_font c.args.header c.args.words.now c.args.lengths.now c.in_ok-info.info c.requires.sizes sound c.in_ok-info.ensures

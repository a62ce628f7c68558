-- A font in whose tables every place and code leads to something, and whose ligatures don't come round.
use Rattle.std.specs.Prelude.{◌≡◌, ◌≤◌, ◌<◌, ◌+◌, Bool, false, ◌||◌, length}
use Rattle.etx_matter.specs.declared.font.FontHeader.{FontHeader}
use Rattle.etx_matter.specs.declared.font.FontInfo.{FontInfo}
use Rattle.etx_matter.specs.Fonts.{has_bad_characters, has_bad_among, has_bad_recipes}
use Rattle.etx_matter.specs.Ligatures.{comes_round}

-- damage of the kind LigKern
unfoldable pub has_bad_steps : FontInfo → Bool
has_bad_steps font = has_bad_among font font.steps || comes_round font

-- codes are at most 255, and there is no damage of the kinds Char, LigKern and Exten
pub record IsSound (font : FontInfo) : Type 0 where
  pub codes : font.first + length font.characters ≤ 256
  pub characters : has_bad_characters font ≡ false
  pub steps : has_bad_steps font ≡ false
  pub recipes : has_bad_recipes font ≡ false

-- the size is from 1 sp to below 2^27 sp, and the design size from 1pt to below 2048pt
pub record HasSizes (header : FontHeader) : Type 0 where
  pub least : 1 ≤ header.size
  pub most : header.size < 134217728
  pub least_design : 65536 ≤ header.design_size
  pub most_design : header.design_size < 134217728

-- what every font keeps
pub record IsFont (font : FontInfo) : Type 0 where
  pub sound : IsSound font
  pub sizes : HasSizes font.header
  pub parameters : 7 ≤ length font.parameters

-- A DVI file in the making, and what ends it ("TeX: The Program", sections 642 and 643).
use Rattle.std.specs.Prelude.{ℕ, ◌+◌, ◌%◌, ◌==◌, if◌then◌else◌, Bool, false, ℤ, pos, negsuc, List, [], ◌∷◌, ◌++◌, length}
use Rattle.std.specs.List.{flat_map}
use Rattle.etx_dvi.specs.Commands.{bytes_of}
use Rattle.etx_dvi.specs.Tail.{tail_of}
use Rattle.etx_dvi.specs.declared.command.Dvi.{Dvi}
use Rattle.etx_dvi.specs.declared.command.Dvi.TheVariants.{Post, PostPost}
use Rattle.etx_ship.specs.Pens.{definition_of}
use Rattle.etx_ship.specs.declared.state.DviFont.{DviFont}
use Rattle.etx_ship.specs.declared.state.Numbers.{Numbers}

-- the bytes and the pages that it has, where the last page begins, or -1, the greatest height plus depth of a page with
-- its `\voffset` and the greatest width of one with its `\hoffset`, each at least 0, the most pushes that were open, the
-- fonts that are loaded, in the order of their numbers, and for each whether it is used, and the magnification
pub record FileState : Type 0 where
  pub bytes : ℕ
  pub pages : ℕ
  pub last : ℤ
  pub tallest : ℤ
  pub widest : ℤ
  pub pushes : ℕ
  pub fonts : List DviFont
  pub used : List Bool
  pub magnification : ℤ

abbrev pub file_of : Numbers → List DviFont → List Bool → FileState
file_of n fonts used = record {
  bytes = n.bytes;
  pages = n.pages;
  last = n.last;
  tallest = n.tallest;
  widest = n.widest;
  pushes = n.pushes;
  fonts = fonts;
  used = used;
  magnification = n.magnification;
}

unfoldable pub new_file : ℤ → FileState
new_file magnification = record { bytes = 0; pages = 0; last = negsuc 0; tallest = pos 0; widest = pos 0; pushes = 0; fonts = []; used = []; magnification = magnification }

-- one more font is loaded, which isn't used yet
unfoldable pub with_font : DviFont → FileState → FileState
with_font f file = record file { fonts = file.fonts ++ f ∷ []; used = file.used ++ false ∷ [] }

-- the definitions of the used ones of these fonts, of which the first has this number, the highest first
abbrev pub definitions : ℕ → List DviFont → List Bool → List Dvi
definitions number [] used = []
definitions number (f ∷ fs) [] = []
definitions number (f ∷ fs) (u ∷ us) = definitions (number + 1) fs us ++ (if u then definition_of number f ∷ [] else [])

abbrev pub post_of : FileState → Dvi
post_of file = Post file.last file.magnification file.tallest file.widest (file.pushes % 65536) (file.pages % 65536)

unfoldable pub ending : FileState → List ℕ
ending file = flat_map bytes_of (post_of file ∷ (definitions 0 file.fonts file.used ++ (PostPost (pos file.bytes) ∷ [])))

-- A file without a page is no file: nothing ends it.
unfoldable pub postamble : FileState → List ℕ
postamble file = if file.pages == 0 then [] else ending file ++ tail_of (file.bytes + length (ending file))

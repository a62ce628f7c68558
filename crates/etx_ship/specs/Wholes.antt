-- A whole DVI file: the bytes of its pages, in which fonts count from where they are loaded, and its postamble ("TeX: The
-- Program", section 592).
use Rattle.std.specs.Prelude.{ℕ, ℤ, List, [], ◌∷◌, ◌++◌}
use Rattle.etx_ship.specs.Files.{FileState, new_file, with_font, postamble}
use Rattle.etx_ship.specs.Pages.{Page, page_bytes, shipped}
use Rattle.etx_ship.specs.declared.state.DviFont.{DviFont}

-- what happens to a file: a font is loaded, or a page is shipped
pub data Event : Type 0 where
  Load : DviFont → Event
  Ship : Page → Event

-- the bytes that a file gets behind those that it has, when all this happens to it and it is ended then
unfoldable pub bytes_behind : FileState → List Event → List ℕ
bytes_behind file [] = postamble file
bytes_behind file (Load font ∷ events) = bytes_behind (with_font font file) events
bytes_behind file (Ship page ∷ events) = page_bytes file page ++ bytes_behind (shipped file page) events

-- all bytes of the file to which this happens, with this magnification
unfoldable pub dvi_file : ℤ → List Event → List ℕ
dvi_file magnification events = bytes_behind (new_file magnification) events

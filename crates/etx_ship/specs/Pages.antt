-- A page of a DVI file, and the file behind it ("TeX: The Program", sections 617, 638, 640 and 641).
use Rattle.std.specs.Prelude.{ℕ, ◌+◌, max, ◌==◌, ◌≡◌, ⊤, nat_lt, if◌then◌else◌, ◌||◌, Bool, Option, None, Some, Result, Ok, Err, ℤ, pos, ◌+ℤ◌, int_lt, List, [], ◌∷◌, ◌++◌, length}
use Rattle.std.specs.Int.{int_max}
use Rattle.std.specs.List.{flat_map}
use Rattle.etx_dvi.specs.Commands.{bytes_of}
use Rattle.etx_dvi.specs.declared.command.Dvi.{Dvi}
use Rattle.etx_dvi.specs.declared.command.Dvi.TheVariants.{Bop, Eop, Pre}
use Rattle.etx_matter.specs.declared.node.BoxNode.{BoxNode}
use Rattle.etx_ship.specs.Files.{FileState, postamble}
use Rattle.etx_ship.specs.Hands.{Hand, all_inked}
use Rattle.etx_ship.specs.Items.{Item}
use Rattle.etx_ship.specs.Kept.{kept}
use Rattle.etx_ship.specs.Pens.{Pen, all_commands, after_all}
use Rattle.etx_ship.specs.Places.{places_of}
use Rattle.etx_ship.specs.declared.fault.ShipFault.{ShipFault}
use Rattle.etx_ship.specs.declared.state.Numbers.{Numbers}
use Rattle.etx_ship.specs.declared.fault.ShipFault.TheVariants.{Huge, Full, OutOfMemory}

-- a page: a box, the ten counts that name it, and by how much it is moved right (`\hoffset`) and down (`\voffset`)
pub record Page : Type 0 where
  pub it : BoxNode
  pub counts : List ℤ
  pub right : ℤ
  pub down : ℤ

abbrev pub page_of : BoxNode → List ℤ → ℤ → ℤ → Page
page_of it counts right down = record { it = it; counts = counts; right = right; down = down }

-- the height plus depth and the width that the page takes, with how far it is moved
abbrev pub tall : Page → ℤ
tall page = (page.it.height +ℤ page.it.depth) +ℤ page.down

abbrev pub wide : Page → ℤ
wide page = page.it.width +ℤ page.right

-- more than TeX's greatest size
abbrev pub passes : ℤ → Bool
passes z = int_lt (pos 1073741823) z

unfoldable pub is_huge : Page → Bool
is_huge page = passes page.it.height || (passes page.it.depth || (passes (tall page) || passes (wide page)))

-- the pen before a page
abbrev pub fresh : List Bool → Pen
fresh used = record { at = record { h = pos 0; v = pos 0 }; font = None; used = used; saved = []; most = 0 }

-- what stands on the page: its box has its upper left corner where the offsets say
unfoldable pub page_items : Page → List Item
page_items page = places_of page.it (record { h = page.right; v = page.it.height +ℤ page.down })

-- the first page begins the file
abbrev pub opening : FileState → List Dvi
opening file = if file.pages == 0 then Pre file.magnification ∷ [] else []

-- the same, of the hand that writes the page
abbrev pub begun : FileState → Hand → Hand
begun file x = record x { ink = all_inked (opening file) x.ink }

unfoldable pub page_commands : FileState → Page → List Dvi
page_commands file page =
    opening file ++ (Bop page.counts file.last ∷ (all_commands file.fonts (page_items page) (fresh file.used) ++ (Eop ∷ [])))

unfoldable pub page_bytes : FileState → Page → List ℕ
page_bytes file page = flat_map bytes_of (kept (page_commands file page))

unfoldable pub shipped : FileState → Page → FileState
shipped file page =
    let pen = after_all file.fonts (page_items page) (fresh file.used) in
    record {
      bytes = file.bytes + length (page_bytes file page);
      pages = file.pages + 1;
      last = pos (file.bytes + length (flat_map bytes_of (opening file)));
      tallest = int_max file.tallest (tall page);
      widest = int_max file.widest (wide page);
      pushes = max file.pushes pen.most;
      fonts = file.fonts;
      used = pen.used;
      magnification = file.magnification;
    }

-- the numbers of a file behind a page, with so many bytes, where that page had so many boxes open
abbrev pub numbers_behind : FileState → Page → ℕ → ℕ → Numbers
numbers_behind file page bytes most = record {
  bytes = bytes;
  pages = file.pages + 1;
  last = pos (file.bytes + length (flat_map bytes_of (opening file)));
  tallest = int_max file.tallest (tall page);
  widest = int_max file.widest (wide page);
  pushes = max file.pushes most;
  magnification = file.magnification;
}

-- with the page and its end the file is too long
unfoldable pub is_full : FileState → Page → Bool
is_full file page = let next = shipped file page in nat_lt 2147483647 (next.bytes + length (postamble next))

abbrev pub refusal : FileState → Page → Option ShipFault
refusal file page = if is_huge page then Some Huge else (if is_full file page then Some Full else None)

-- The answer is Ok exactly where nothing refuses the page, and each refusal exactly where it is due; want of memory is free.
abbrev pub AnswersBy : {A : Type 0} → Option ShipFault → Result A ShipFault → Type 0
AnswersBy refused (Ok done) = refused ≡ None
AnswersBy refused (Err Huge) = refused ≡ Some Huge
AnswersBy refused (Err Full) = refused ≡ Some Full
AnswersBy refused (Err OutOfMemory) = ⊤

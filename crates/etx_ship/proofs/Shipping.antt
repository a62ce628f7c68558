-- The file behind a page, and what refuses a page.
use Rattle.std.proofs.Common.{◌≡◌, refl, ap, sym, ◌∙◌, ℕ, ◌+◌, ◌≤◌, ◌<◌, Bool, true, false, nat_lt, max, pos, [], None, Some, List, length, lt-ltb, le-ltb, arith}
use Rattle.std.specs.Int.{int_max}
use Rattle.std.specs.List.{flat_map}
use Rattle.etx_dvi.specs.Commands.{bytes_of}
use Rattle.etx_ship.specs.Files.{FileState, file_of, postamble}
use Rattle.etx_ship.specs.Pages.{Page, page_items, page_bytes, fresh, shipped, is_huge, is_full, refusal, numbers_behind, opening, tall, wide}
use Rattle.etx_ship.specs.Pens.{after_all}
use Rattle.etx_ship.specs.declared.fault.ShipFault.TheVariants.{Full}
use Rattle.etx_ship.specs.declared.state.DviFont.{DviFont}
use Rattle.etx_ship.specs.declared.state.Numbers.{Numbers}

-- the numbers and the fonts behind a page are those of the definition
pub shipped_as : (file : FileState) (n next : Numbers) (now : List Bool) (page : Page) (place most : ℕ) → file_of n file.fonts file.used ≡ file → now ≡ (after_all file.fonts (page_items page) (fresh file.used)).used → most ≡ (after_all file.fonts (page_items page) (fresh file.used)).most → place ≡ file.bytes + length (page_bytes file page) → next ≡ numbers_behind (file_of n [] []) page place most → file_of next file.fonts now ≡ shipped file page
unfolding shipped
shipped_as file n next now page place most v u m p e =
    rw (e, u, m, p) (ap (λ f. record (shipped file page) {
      pages = f.pages + 1;
      last = pos (f.bytes + length (flat_map bytes_of (opening f)));
      tallest = int_max f.tallest (tall page);
      widest = int_max f.widest (wide page);
      pushes = max f.pushes (after_all file.fonts (page_items page) (fresh file.used)).most;
      magnification = f.magnification;
    }) v)

above : (a b : ℕ) → a < b → nat_lt a b ≡ true
above a b h = lt-ltb a b h

below : (a b : ℕ) → b ≤ a → nat_lt a b ≡ false
below a b h = le-ltb a b h

-- a page that is too long by itself
pub full_at_once : (file : FileState) (page : Page) (place : ℕ) → is_huge page ≡ false → place ≡ file.bytes + length (page_bytes file page) → 2147483647 < place → refusal file page ≡ Some Full
unfolding is_full shipped
full_at_once file page place h p l =
    let f : is_full file page ≡ true = above 2147483647 _ (omega (arith, p, l)) in
    rw (h, f) refl

-- or with what ends the file
pub full_at_end : (file next : FileState) (page : Page) (end : ℕ) → is_huge page ≡ false → next ≡ shipped file page → end ≡ length (postamble next) → 2147483647 < next.bytes + end → refusal file page ≡ Some Full
unfolding is_full
full_at_end file next page end h e p l =
    let f : is_full file page ≡ true = rw (← e, ← p) (above 2147483647 (next.bytes + end) l) in
    rw (h, f) refl

-- or not at all
pub not_refused : (file next : FileState) (page : Page) (end : ℕ) → is_huge page ≡ false → next ≡ shipped file page → end ≡ length (postamble next) → next.bytes + end ≤ 2147483647 → refusal file page ≡ None
unfolding is_full
not_refused file next page end h e p l =
    let f : is_full file page ≡ false = rw (← e, ← p) (below 2147483647 (next.bytes + end) l) in
    rw (h, f) refl

-- the file and the page of a call, and what its steps answered
pub record IsShipped (file : FileState) (page : Page) (n next : Numbers) (fonts : List DviFont) (now : List Bool) (place most end : ℕ) (ending : List ℕ) : Type 0 where
  pub fits : false ≡ is_huge page
  pub numbers : file_of n file.fonts file.used ≡ file
  pub loaded : fonts ≡ file.fonts
  pub used : now ≡ (after_all file.fonts (page_items page) (fresh file.used)).used
  pub most_is : most ≡ (after_all file.fonts (page_items page) (fresh file.used)).most
  pub place_is : place ≡ file.bytes + length (page_bytes file page)
  pub next_is : next ≡ numbers_behind (file_of n [] []) page place most
  pub ending_is : ending ≡ postamble (file_of next fonts now)
  pub end_is : end ≡ length ending

behind : {file : FileState} {page : Page} {n next : Numbers} {fonts : List DviFont} {now : List Bool} {place most end : ℕ} {ending : List ℕ} → IsShipped file page n next fonts now place most end ending → file_of next file.fonts now ≡ shipped file page
behind {file} {page} {n} {next} {fonts} {now} {place} {most} h = shipped_as file n next now page place most h.numbers h.used h.most_is h.place_is h.next_is

end_of : {file : FileState} {page : Page} {n next : Numbers} {fonts : List DviFont} {now : List Bool} {place most end : ℕ} {ending : List ℕ} → IsShipped file page n next fonts now place most end ending → end ≡ length (postamble (file_of next file.fonts now))
end_of {file} {page} {n} {next} {fonts} {now} h = h.end_is ∙ ap length h.ending_is ∙ ap (λ fs. length (postamble (file_of next fs now))) h.loaded

pub shipped_file : (file : FileState) (page : Page) (n next : Numbers) (fonts : List DviFont) (now : List Bool) (place most end : ℕ) (ending : List ℕ) → IsShipped file page n next fonts now place most end ending → file_of next file.fonts now ≡ shipped file page
shipped_file file page n next fonts now place most end ending h = behind h

bytes_are : {file : FileState} {page : Page} {n next : Numbers} {fonts : List DviFont} {now : List Bool} {place most end : ℕ} {ending : List ℕ} → IsShipped file page n next fonts now place most end ending → next.bytes ≡ place
bytes_are h = ap (λ m. m.bytes) h.next_is

pub shipped_full : (file : FileState) (page : Page) (n next : Numbers) (fonts : List DviFont) (now : List Bool) (place most end : ℕ) (ending : List ℕ) → IsShipped file page n next fonts now place most end ending → 2147483647 < place + end → refusal file page ≡ Some Full
shipped_full file page n next fonts now place most end ending h l =
    full_at_end file (file_of next file.fonts now) page end (sym h.fits) (behind h) (end_of h) (rw (bytes_are h) l)

pub shipped_whole : (file : FileState) (page : Page) (n next : Numbers) (fonts : List DviFont) (now : List Bool) (place most end : ℕ) (ending : List ℕ) → IsShipped file page n next fonts now place most end ending → place + end ≤ 2147483647 → refusal file page ≡ None
shipped_whole file page n next fonts now place most end ending h l =
    not_refused file (file_of next file.fonts now) page end (sym h.fits) (behind h) (end_of h) (rw (bytes_are h) l)

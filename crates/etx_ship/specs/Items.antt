-- What is to be done on a page, one thing behind the other, with the places where it is wanted.
use Rattle.std.specs.Prelude.{ℕ, ℤ, List}
use Rattle.etx_ship.specs.declared.place.Point.{Point}

pub data Item : Type 0 where
  -- a character of this font, code and width; it leads right by its width
  Letter : ℕ → ℕ → ℤ → Point → Item
  -- a rule of this height and width whose lower left corner is here; it leads right by its width
  Bar : ℤ → ℤ → Point → Item
  -- one that leads nowhere
  Block : ℤ → ℤ → Point → Item
  -- a text for the printer's driver
  Note : List ℕ → Point → Item
  -- a place across, or one down, where nothing stands yet
  Across : ℤ → Item
  Down : ℤ → Item
  -- the beginning and the end of a box
  Open : Item
  Close : Item

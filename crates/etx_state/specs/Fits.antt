-- Which values a key may have: those of its class, and numbers in its range.
use Rattle.std.specs.Prelude.{ℤ, int_lt, Bool, true, false, not, ◌&&◌, Option, Some, None}
use Rattle.etx_keys.specs.declared.key.Key.{Key}
use Rattle.etx_keys.specs.declared.class.Class.{Class}
use Rattle.etx_keys.specs.declared.class.Class.TheVariants as class
use Rattle.etx_keys.specs.declared.class.NumberRange.{NumberRange}
use Rattle.etx_keys.specs.Classes.{class_of, range_of, IsWithin}
use Rattle.etx_state.specs.declared.key.Val.{Val}
use Rattle.etx_state.specs.declared.key.Val.TheVariants as val

-- a number in the range, where numbers stand under the key
abbrev pub SuitsRange : Option NumberRange → ℤ → Type 0
SuitsRange None number = ⊥
SuitsRange (Some range) number = IsWithin range number

abbrev pub Suits : Class → Option NumberRange → Val → Type 0
Suits class.Meaning range (val.Means meaning) = Unit {0}
Suits class.Integer range (val.Int number) = SuitsRange range number
Suits class.Dimension range (val.Int number) = SuitsRange range number
Suits class.Glue range (val.Glue glue) = Unit {0}
Suits class.MuGlue range (val.Glue glue) = Unit {0}
Suits class.Tokens range (val.Tokens tokens) = Unit {0}
Suits class.Token range (val.Kept token) = Unit {0}
Suits class.Box range val.Nothing = Unit {0}
Suits class.Shape range val.Nothing = Unit {0}
Suits class.Font range val.Nothing = Unit {0}
Suits class.HyphenTables range val.Nothing = Unit {0}
Suits class.Stream range val.Nothing = Unit {0}
Suits _ _ _ = ⊥

abbrev pub Fits : Key → Val → Type 0
Fits key value = Suits (class_of key) (range_of key) value

-- the same as a test
abbrev pub suits_range : Option NumberRange → ℤ → Bool
suits_range None number = false
suits_range (Some range) number = not (int_lt number range.least) && not (int_lt range.greatest number)

abbrev pub suits : Class → Option NumberRange → Val → Bool
suits class.Meaning range (val.Means meaning) = true
suits class.Integer range (val.Int number) = suits_range range number
suits class.Dimension range (val.Int number) = suits_range range number
suits class.Glue range (val.Glue glue) = true
suits class.MuGlue range (val.Glue glue) = true
suits class.Tokens range (val.Tokens tokens) = true
suits class.Token range (val.Kept token) = true
suits class.Box range val.Nothing = true
suits class.Shape range val.Nothing = true
suits class.Font range val.Nothing = true
suits class.HyphenTables range val.Nothing = true
suits class.Stream range val.Nothing = true
suits _ _ _ = false

abbrev pub fits : Key → Val → Bool
fits key value = suits (class_of key) (range_of key) value

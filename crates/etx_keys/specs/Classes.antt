-- What stands under keys: the class of the values of each family, and the numbers that they may be.
use Rattle.std.specs.Prelude.{ℕ, ℤ, pos, negsuc, ◌≤ℤ◌, Option, None, Some}
use Rattle.etx_prims.specs.declared.quantities.RegisterKind.{RegisterKind}
use Rattle.etx_prims.specs.declared.quantities.RegisterKind.TheVariants as registers
use Rattle.etx_prims.specs.declared.quantities.CodeKind.{CodeKind}
use Rattle.etx_prims.specs.declared.quantities.CodeKind.TheVariants as codes
use Rattle.etx_keys.specs.declared.key.Key.{Key}
use Rattle.etx_keys.specs.declared.key.Key.TheVariants as key
use Rattle.etx_keys.specs.declared.single.Single.{Single}
use Rattle.etx_keys.specs.declared.single.Single.TheVariants as singles
use Rattle.etx_keys.specs.declared.class.Class.{Class}
use Rattle.etx_keys.specs.declared.class.Class.TheVariants.{Meaning, Integer, Dimension, Glue, MuGlue, Tokens, Box, Shape, Token, Font, HyphenTables, Stream}
use Rattle.etx_keys.specs.declared.class.NumberRange.{NumberRange}

abbrev pub register_class : RegisterKind → Class
register_class registers.Count = Integer
register_class registers.Dimen = Dimension
register_class registers.Skip = Glue
register_class registers.MuSkip = MuGlue
register_class registers.Toks = Tokens

abbrev pub single_class : Single → Class
single_class singles.CurrentFont = Integer
single_class singles.ParShape = Shape
single_class singles.AfterAssignment = Token
single_class singles.Interaction = Integer
single_class singles.HyphenTables = HyphenTables

abbrev pub class_of : Key → Class
class_of (key.Meaning name) = Meaning
class_of (key.Active code) = Meaning
class_of (key.Int parameter) = Integer
class_of (key.Dimen parameter) = Dimension
class_of (key.Glue parameter) = Glue
class_of (key.MuGlue parameter) = MuGlue
class_of (key.Tokens parameter) = Tokens
class_of (key.Register kind number) = register_class kind
class_of (key.Box number) = Box
class_of (key.Code kind code) = Integer
class_of (key.FontInt kind font) = Integer
class_of (key.FamilyFont size family) = Integer
class_of (key.FontDimen font parameter) = Dimension
class_of (key.Single single) = single_class single
class_of (key.Font font) = Font
class_of (key.InStream stream) = Stream
class_of (key.OutStream stream) = Stream
class_of (key.Mark kind class) = Tokens

-- a number is in a range
abbrev pub IsWithin : NumberRange → ℤ → Type 0
IsWithin range number = (range.least ≤ℤ number) × (number ≤ℤ range.greatest)

-- the numbers up to 2^31-1 in size, which is all that TeX keeps; dimensions too, since `\advance` may lead past the
-- greatest that can be written
abbrev pub any_number : NumberRange
any_number = record { least = negsuc 2_147_483_646; greatest = pos 2_147_483_647 }

abbrev pub up_to : ℕ → NumberRange
up_to greatest = record { least = pos 0; greatest = pos greatest }

abbrev pub register_range : RegisterKind → Option NumberRange
register_range registers.Count = Some any_number
register_range registers.Dimen = Some any_number
register_range registers.Skip = None
register_range registers.MuSkip = None
register_range registers.Toks = None

-- "TeX: The Program", section 1233; a `\delcode` may be negative
abbrev pub code_range : CodeKind → NumberRange
code_range codes.Cat = up_to 15
code_range codes.Math = up_to 32768
code_range codes.Lc = up_to 255
code_range codes.Uc = up_to 255
code_range codes.Sf = up_to 32767
code_range codes.Del = record { least = negsuc 2_147_483_646; greatest = pos 16_777_215 }

-- fonts have the numbers 0 to 255, and the modes of interaction 0 to 3
abbrev pub single_range : Single → Option NumberRange
single_range singles.CurrentFont = Some (up_to 255)
single_range singles.ParShape = None
single_range singles.AfterAssignment = None
single_range singles.Interaction = Some (up_to 3)
single_range singles.HyphenTables = None

-- the numbers that may stand under a key, if numbers do
abbrev pub range_of : Key → Option NumberRange
range_of (key.Meaning name) = None
range_of (key.Active code) = None
range_of (key.Int parameter) = Some any_number
range_of (key.Dimen parameter) = Some any_number
range_of (key.Glue parameter) = None
range_of (key.MuGlue parameter) = None
range_of (key.Tokens parameter) = None
range_of (key.Register kind number) = register_range kind
range_of (key.Box number) = None
range_of (key.Code kind code) = Some (code_range kind)
range_of (key.FontInt kind font) = Some any_number
range_of (key.FamilyFont size family) = Some (up_to 255)
range_of (key.FontDimen font parameter) = Some any_number
range_of (key.Single single) = single_range single
range_of (key.Font font) = None
range_of (key.InStream stream) = None
range_of (key.OutStream stream) = None
range_of (key.Mark kind class) = None

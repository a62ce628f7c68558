-- The values that INITEX starts with ("TeX: The Program", sections 164, 228, 232, 240, 241, 250 and 1337: a job starts at noon on
-- 4 July 1776).
use Rattle.std.specs.Prelude.{◌≡◌, ◌<◌, List, length, slice_get, Some, None, ℕ, ◌+◌, ◌-◌, zero, suc, ℤ, pos, negsuc, [], Bool, ◌==◌, ◌&&◌, ◌||◌, if◌then◌else◌, nat_le, nat_lt}
use Rattle.etx_matter.specs.declared.glue.Glue.{Glue}
use Rattle.etx_matter.specs.declared.glue.GlueOrder.TheVariants.{Normal}
use Rattle.etx_prims.specs.declared.parameters.IntParam.{IntParam}
use Rattle.etx_prims.specs.declared.parameters.IntParam.TheVariants as param
use Rattle.etx_prims.specs.declared.quantities.CodeKind.{CodeKind}
use Rattle.etx_prims.specs.declared.quantities.CodeKind.TheVariants as kinds
use Rattle.etx_prims.specs.declared.quantities.RegisterKind.{RegisterKind}
use Rattle.etx_prims.specs.declared.quantities.RegisterKind.TheVariants as registers
use Rattle.etx_prims.specs.declared.command.Primitive.TheVariants as prims
use Rattle.etx_keys.specs.declared.key.Key.{Key}
use Rattle.etx_keys.specs.declared.key.Key.TheVariants as key
use Rattle.etx_keys.specs.declared.single.Single.{Single}
use Rattle.etx_keys.specs.declared.single.Single.TheVariants as singles
use Rattle.etx_state.specs.declared.key.Val.{Val}
use Rattle.etx_state.specs.declared.key.Val.TheVariants as val
use Rattle.etx_state.specs.declared.key.Meaning.{Meaning}
use Rattle.etx_state.specs.declared.key.Meaning.TheVariants.{Undefined, Primitive}

abbrev pub is_capital : ℕ → Bool
is_capital code = nat_le 65 code && nat_le code 90

abbrev pub is_small : ℕ → Bool
is_small code = nat_le 97 code && nat_le code 122

abbrev pub is_digit : ℕ → Bool
is_digit code = nat_le 48 code && nat_le code 57

-- the category of a character: 0 for the backslash, 11 for letters, 10 for the space, 5 for the return, 14 for the
-- per cent sign, 9 for code 0, 15 for code 127 and 12 for all others
unfoldable pub first_category : ℕ → ℕ
first_category code =
    if code == 92 then 0
    else if is_capital code || is_small code then 11
    else if code == 32 then 10
    else if code == 13 then 5
    else if code == 37 then 14
    else if code == 0 then 9
    else if code == 127 then 15
    else 12

-- a digit is of the variable class 7, a letter of that class and of family 1, and every other character has its own code
unfoldable pub first_math_code : ℕ → ℕ
first_math_code code =
    if is_digit code then code + 28672
    else if is_capital code || is_small code then code + 28928
    else if nat_lt code 256 then code
    else 0

unfoldable pub first_lower : ℕ → ℕ
first_lower code = if is_capital code then code + 32 else if is_small code then code else 0

unfoldable pub first_upper : ℕ → ℕ
first_upper code = if is_small code then code - 32 else if is_capital code then code else 0

unfoldable pub first_space_factor : ℕ → ℕ
first_space_factor code = if is_capital code then 999 else 1000

-- no character is a delimiter but the full stop, which is the null delimiter
unfoldable pub first_delimiter : ℕ → ℤ
first_delimiter code = if code == 46 then pos 0 else negsuc 0

unfoldable pub first_code : CodeKind → ℕ → ℤ
first_code kinds.Cat code = pos (first_category code)
first_code kinds.Math code = pos (first_math_code code)
first_code kinds.Lc code = pos (first_lower code)
first_code kinds.Uc code = pos (first_upper code)
first_code kinds.Sf code = pos (first_space_factor code)
first_code kinds.Del code = first_delimiter code

unfoldable pub first_int : IntParam → ℤ
first_int param.Tolerance = pos 10000
first_int param.Mag = pos 1000
first_int param.MaxDeadCycles = pos 25
first_int param.HangAfter = pos 1
first_int param.EscapeChar = pos 92
first_int param.EndLineChar = pos 13
first_int param.Time = pos 720
first_int param.Day = pos 4
first_int param.Month = pos 7
first_int param.Year = pos 1776
first_int _ = pos 0

-- the name that has number 0 in every job is `par`
abbrev pub first_meaning : ℕ → Meaning
first_meaning zero = Primitive prims.Par
first_meaning (suc name) = Undefined

abbrev pub no_glue : Glue
no_glue = record { width = pos 0; stretch = pos 0; shrink = pos 0; stretch_order = Normal; shrink_order = Normal }

abbrev pub first_register : RegisterKind → Val
first_register registers.Count = val.Int (pos 0)
first_register registers.Dimen = val.Int (pos 0)
first_register registers.Skip = val.Glue no_glue
first_register registers.MuSkip = val.Glue no_glue
first_register registers.Toks = val.Tokens []

-- a job starts in the mode that stops at errors
abbrev pub first_single : Single → Val
first_single singles.CurrentFont = val.Int (pos 0)
first_single singles.ParShape = val.Nothing
first_single singles.AfterAssignment = val.Kept None
first_single singles.Interaction = val.Int (pos 3)
first_single singles.HyphenTables = val.Nothing

-- the value of a key before any assignment
abbrev pub first_of : Key → Val
first_of (key.Meaning name) = val.Means (first_meaning name)
first_of (key.Active code) = val.Means Undefined
first_of (key.Int parameter) = val.Int (first_int parameter)
first_of (key.Dimen parameter) = val.Int (pos 0)
first_of (key.Glue parameter) = val.Glue no_glue
first_of (key.MuGlue parameter) = val.Glue no_glue
first_of (key.Tokens parameter) = val.Tokens []
first_of (key.Register kind number) = first_register kind
first_of (key.Box number) = val.Nothing
first_of (key.Code kind code) = val.Int (first_code kind code)
first_of (key.FontInt kind font) = val.Int (pos 0)
first_of (key.FamilyFont size family) = val.Int (pos 0)
first_of (key.FontDimen font parameter) = val.Int (pos 0)
first_of (key.Single single) = first_single single
first_of (key.Font font) = val.Nothing
first_of (key.InStream stream) = val.Nothing
first_of (key.OutStream stream) = val.Nothing
first_of (key.Mark kind class) = val.Tokens []

-- the values of a function of numbers below 256
abbrev pub AreNumbers : (ℕ → ℕ) → List Val → Type 0
AreNumbers f values = (length values ≡ 256) × ((n : ℕ) → n < 256 → slice_get values n ≡ Some (val.Int (pos (f n))))

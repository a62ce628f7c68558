-- INITEX's values fit their keys.
use Rattle.std.proofs.Common.{ℕ, ℤ, pos, negsuc, ◌≤◌, ◌≤ℤ◌, ◌+◌, ◌-◌, ◌==◌, ◌&&◌, ◌||◌, Bool, true, false, arith, refl, ◌≡◌, if◌then◌else◌}
use Rattle.std.proofs.lemmas.Int.{ints}
use Rattle.std.proofs.lemmas.Bool.Decides.{nat_tests}
use Rattle.std.specs.Prelude.{nat_le, nat_lt}
use Rattle.etx_prims.specs.declared.parameters.IntParam.{IntParam}
use Rattle.etx_prims.specs.declared.parameters.IntParam.TheVariants as param
use Rattle.etx_prims.specs.declared.quantities.CodeKind.{CodeKind}
use Rattle.etx_prims.specs.declared.quantities.CodeKind.TheVariants as codes
use Rattle.etx_prims.specs.declared.quantities.RegisterKind.{RegisterKind}
use Rattle.etx_prims.specs.declared.quantities.RegisterKind.TheVariants as registers
use Rattle.etx_keys.specs.declared.key.Key.{Key}
use Rattle.etx_keys.specs.declared.key.Key.TheVariants as key
use Rattle.etx_keys.specs.declared.single.Single.{Single}
use Rattle.etx_keys.specs.declared.single.Single.TheVariants as singles
use Rattle.etx_keys.specs.Classes.{IsWithin, any_number, up_to}
use Rattle.etx_state.specs.Initial.{is_digit, is_capital, is_small, first_category, first_math_code, first_lower, first_upper, first_space_factor, first_delimiter, first_code, first_int, first_single, first_register, first_of}
use Rattle.etx_state.specs.Fits.{Fits}

number_within : (n : ℕ) → n ≤ 2147483647 → IsWithin any_number (pos n)
number_within n small = (omega (arith, ints), omega (arith, ints, small))

small_within : (greatest n : ℕ) → n ≤ greatest → IsWithin (up_to greatest) (pos n)
small_within greatest n small = (omega (arith, ints), omega (arith, ints, small))

int_within : (p : IntParam) → IsWithin any_number (first_int p)
unfolding first_int
int_within param.Pretolerance = number_within 0 (omega arith)
int_within param.Tolerance = number_within 10000 (omega arith)
int_within param.LinePenalty = number_within 0 (omega arith)
int_within param.HyphenPenalty = number_within 0 (omega arith)
int_within param.ExHyphenPenalty = number_within 0 (omega arith)
int_within param.ClubPenalty = number_within 0 (omega arith)
int_within param.WidowPenalty = number_within 0 (omega arith)
int_within param.DisplayWidowPenalty = number_within 0 (omega arith)
int_within param.BrokenPenalty = number_within 0 (omega arith)
int_within param.BinOpPenalty = number_within 0 (omega arith)
int_within param.RelPenalty = number_within 0 (omega arith)
int_within param.PreDisplayPenalty = number_within 0 (omega arith)
int_within param.PostDisplayPenalty = number_within 0 (omega arith)
int_within param.InterLinePenalty = number_within 0 (omega arith)
int_within param.DoubleHyphenDemerits = number_within 0 (omega arith)
int_within param.FinalHyphenDemerits = number_within 0 (omega arith)
int_within param.AdjDemerits = number_within 0 (omega arith)
int_within param.Mag = number_within 1000 (omega arith)
int_within param.DelimiterFactor = number_within 0 (omega arith)
int_within param.Looseness = number_within 0 (omega arith)
int_within param.Time = number_within 720 (omega arith)
int_within param.Day = number_within 4 (omega arith)
int_within param.Month = number_within 7 (omega arith)
int_within param.Year = number_within 1776 (omega arith)
int_within param.ShowBoxBreadth = number_within 0 (omega arith)
int_within param.ShowBoxDepth = number_within 0 (omega arith)
int_within param.HBadness = number_within 0 (omega arith)
int_within param.VBadness = number_within 0 (omega arith)
int_within param.Pausing = number_within 0 (omega arith)
int_within param.TracingOnline = number_within 0 (omega arith)
int_within param.TracingMacros = number_within 0 (omega arith)
int_within param.TracingStats = number_within 0 (omega arith)
int_within param.TracingParagraphs = number_within 0 (omega arith)
int_within param.TracingPages = number_within 0 (omega arith)
int_within param.TracingOutput = number_within 0 (omega arith)
int_within param.TracingLostChars = number_within 0 (omega arith)
int_within param.TracingCommands = number_within 0 (omega arith)
int_within param.TracingRestores = number_within 0 (omega arith)
int_within param.TracingAssigns = number_within 0 (omega arith)
int_within param.TracingGroups = number_within 0 (omega arith)
int_within param.TracingIfs = number_within 0 (omega arith)
int_within param.TracingScanTokens = number_within 0 (omega arith)
int_within param.TracingNesting = number_within 0 (omega arith)
int_within param.UcHyph = number_within 0 (omega arith)
int_within param.OutputPenalty = number_within 0 (omega arith)
int_within param.MaxDeadCycles = number_within 25 (omega arith)
int_within param.HangAfter = number_within 1 (omega arith)
int_within param.FloatingPenalty = number_within 0 (omega arith)
int_within param.GlobalDefs = number_within 0 (omega arith)
int_within param.Fam = number_within 0 (omega arith)
int_within param.EscapeChar = number_within 92 (omega arith)
int_within param.DefaultHyphenChar = number_within 0 (omega arith)
int_within param.DefaultSkewChar = number_within 0 (omega arith)
int_within param.EndLineChar = number_within 13 (omega arith)
int_within param.NewLineChar = number_within 0 (omega arith)
int_within param.Language = number_within 0 (omega arith)
int_within param.LeftHyphenMin = number_within 0 (omega arith)
int_within param.RightHyphenMin = number_within 0 (omega arith)
int_within param.HoldingInserts = number_within 0 (omega arith)
int_within param.ErrorContextLines = number_within 0 (omega arith)

-- ---- codes

either : (most : ℕ) (b : Bool) (m n : ℕ) → m ≤ most → n ≤ most → (if b then m else n) ≤ most
either most true m n hm hn = hm
either most false m n hm hn = hn

-- the same where a test says something of the first
given : (most : ℕ) (b : Bool) (m n : ℕ) → (b ≡ true → m ≤ most) → n ≤ most → (if b then m else n) ≤ most
given most true m n hm hn = hm refl
given most false m n hm hn = hn

both_left : (b d : Bool) → (b && d) ≡ true → b ≡ true
both_left true d e = refl
both_left false d e = e

both_right : (b d : Bool) → (b && d) ≡ true → d ≡ true
both_right true d e = e
both_right false d e = absurd (cc)

le_of : (m n : ℕ) → nat_le m n ≡ true → m ≤ n
le_of m n e = grind (arith, nat_tests)

lt_of : (m n : ℕ) → nat_lt m n ≡ true → m ≤ n
lt_of m n e = grind (arith, nat_tests)

digit_small : (c : ℕ) → is_digit c ≡ true → c ≤ 57
digit_small c e = le_of c 57 (both_right (nat_le 48 c) (nat_le c 57) e)

capital_small : (c : ℕ) → is_capital c ≡ true → c ≤ 90
capital_small c e = le_of c 90 (both_right (nat_le 65 c) (nat_le c 90) e)

small_small : (c : ℕ) → is_small c ≡ true → c ≤ 122
small_small c e = le_of c 122 (both_right (nat_le 97 c) (nat_le c 122) e)

letter_small : (c : ℕ) (b d : Bool) → (b ≡ true → c ≤ 122) → (d ≡ true → c ≤ 122) → (b || d) ≡ true → c ≤ 122
letter_small c true d f g e = f refl
letter_small c false d f g e = g e

category_small : (c : ℕ) → first_category c ≤ 15
unfolding first_category
category_small c =
    either 15 _ 0 _ (omega arith) (either 15 _ 11 _ (omega arith) (either 15 _ 10 _ (omega arith) (either 15 _ 5 _ (omega arith)
    (either 15 _ 14 _ (omega arith) (either 15 _ 9 _ (omega arith) (either 15 _ 15 12 (omega arith) (omega arith)))))))

math_small : (c : ℕ) → first_math_code c ≤ 32768
unfolding first_math_code
math_small c =
    given 32768 (is_digit c) (c + 28672) _ (λ e. let small = digit_small c e in omega (arith, small))
    (given 32768 (is_capital c || is_small c) (c + 28928) _ (λ e. let small = letter_small c (is_capital c) (is_small c) (λ f. let le = capital_small c f in omega (arith, le)) (small_small c) e in omega (arith, small))
    (given 32768 (nat_lt c 256) c 0 (λ e. let small = lt_of c 256 e in omega (arith, small)) (omega arith)))

lower_small : (c : ℕ) → first_lower c ≤ 255
unfolding first_lower
lower_small c =
    given 255 (is_capital c) (c + 32) _ (λ e. let small = capital_small c e in omega (arith, small))
    (given 255 (is_small c) c 0 (λ e. let small = small_small c e in omega (arith, small)) (omega arith))

upper_small : (c : ℕ) → first_upper c ≤ 255
unfolding first_upper
upper_small c =
    given 255 (is_small c) (c - 32) _ (λ e. let small = small_small c e in omega (arith, small))
    (given 255 (is_capital c) c 0 (λ e. let small = capital_small c e in omega (arith, small)) (omega arith))

factor_small : (c : ℕ) → first_space_factor c ≤ 32767
unfolding first_space_factor
factor_small c = either 32767 _ 999 1000 (omega arith) (omega arith)

delimiter_within : (c : ℕ) → Fits (key.Code codes.Del c) (first_of (key.Code codes.Del c))
unfolding first_code first_delimiter
delimiter_within c = by (c == 46) where
  by : (b : Bool) → (negsuc 2147483646 ≤ℤ (if b then pos 0 else negsuc 0)) × ((if b then pos 0 else negsuc 0) ≤ℤ pos 16777215)
  by true = (omega (arith, ints), omega (arith, ints))
  by false = (omega (arith, ints), omega (arith, ints))

code_fits : (kind : CodeKind) (c : ℕ) → Fits (key.Code kind c) (first_of (key.Code kind c))
unfolding first_code
code_fits codes.Cat c = small_within 15 (first_category c) (category_small c)
code_fits codes.Math c = small_within 32768 (first_math_code c) (math_small c)
code_fits codes.Lc c = small_within 255 (first_lower c) (lower_small c)
code_fits codes.Uc c = small_within 255 (first_upper c) (upper_small c)
code_fits codes.Sf c = small_within 32767 (first_space_factor c) (factor_small c)
code_fits codes.Del c = delimiter_within c

-- ---- the others

register_fits : (kind : RegisterKind) (n : ℕ) → Fits (key.Register kind n) (first_of (key.Register kind n))
register_fits registers.Count n = number_within 0 (omega arith)
register_fits registers.Dimen n = number_within 0 (omega arith)
register_fits registers.Skip n = tt
register_fits registers.MuSkip n = tt
register_fits registers.Toks n = tt

single_fits : (single : Single) → Fits (key.Single single) (first_of (key.Single single))
single_fits singles.CurrentFont = small_within 255 0 (omega arith)
single_fits singles.ParShape = tt
single_fits singles.AfterAssignment = tt
single_fits singles.Interaction = small_within 3 3 (omega arith)
single_fits singles.HyphenTables = tt

pub first_fits : (q : Key) → Fits q (first_of q)
first_fits (key.Meaning name) = tt
first_fits (key.Active code) = tt
first_fits (key.Int parameter) = int_within parameter
first_fits (key.Dimen parameter) = number_within 0 (omega arith)
first_fits (key.Glue parameter) = tt
first_fits (key.MuGlue parameter) = tt
first_fits (key.Tokens parameter) = tt
first_fits (key.Register kind number) = register_fits kind number
first_fits (key.Box number) = tt
first_fits (key.Code kind code) = code_fits kind code
first_fits (key.FontInt kind font) = number_within 0 (omega arith)
first_fits (key.FamilyFont size family) = small_within 255 0 (omega arith)
first_fits (key.FontDimen font parameter) = number_within 0 (omega arith)
first_fits (key.Single single) = single_fits single
first_fits (key.Font font) = tt
first_fits (key.InStream stream) = tt
first_fits (key.OutStream stream) = tt
first_fits (key.Mark kind class) = tt

-- Numbers, dimensions and glue: signs, constants and digits, and what stands where a number is read ("TeX: The Program", sections 402 to
-- 446, 448, 449 and 460 to 462).
use Rattle.std.specs.Prelude.{ℕ, ◌==◌, ℤ, pos, Bool, true, false, not, is_some, ◌&&◌, ◌||◌, List, [], ◌∷◌, ◌++◌, slice_get, Option, Some, None, codes, if◌then◌else◌}
use Rattle.std.specs.Option.{option_map}
use Rattle.etx_exprs.specs.declared.part.Turn.{Turn}
use Rattle.etx_exprs.specs.declared.part.Turn.TheVariants.{More, Done, DoneBack}
use Rattle.etx_exprs.specs.declared.value.Value.TheVariants as amount
use Rattle.etx_exprs.specs.declared.value.ValueKind.{ValueKind}
use Rattle.etx_exprs.specs.declared.value.ValueKind.TheVariants as kind
use Rattle.etx_exprs.specs.Constants.{DigitsState, digit_turn, digits_fed}
use Rattle.etx_exprs.specs.Feeding.{started}
use Rattle.etx_prims.specs.declared.quantities.RegisterKind.{RegisterKind}
use Rattle.etx_prims.specs.declared.quantities.RegisterKind.TheVariants as registers
use Rattle.etx_prims.specs.declared.quantities.ExpressionKind.{ExpressionKind}
use Rattle.etx_prims.specs.declared.quantities.ExpressionKind.TheVariants as expressions
use Rattle.etx_prims.specs.declared.quantities.GlueConversionKind.{GlueConversionKind}
use Rattle.etx_prims.specs.declared.quantities.GlueConversionKind.TheVariants as conversions
use Rattle.etx_matter.specs.declared.end.End.TheVariants.{Unbuilt}
use Rattle.etx_matter.specs.declared.glue.Glue.{Glue}
use Rattle.etx_matter.specs.declared.token.Token.{Token}
use Rattle.etx_matter.specs.declared.token.Token.TheVariants.{Char, Name, Param}
use Rattle.etx_state.specs.declared.key.Meaning.{Meaning}
use Rattle.etx_state.specs.declared.taker.Length.{Length}
use Rattle.etx_state.specs.declared.taker.Decimals.{Decimals}
use Rattle.etx_state.specs.declared.taker.Want.{Want}
use Rattle.etx_state.specs.declared.taker.Want.TheVariants as want
use Rattle.etx_state.specs.declared.taker.Factor.{Factor}
use Rattle.etx_state.specs.declared.taker.NumberScan.{NumberScan}
use Rattle.etx_state.specs.declared.taker.NumberScan.TheVariants as number
use Rattle.etx_state.specs.declared.taker.Outer.TheVariants as outer
use Rattle.etx_state.specs.Rests.{RestState}
use Rattle.etx_answers.specs.declared.read.Read.{Read}
use Rattle.etx_numbers.specs.declared.internal.Internal.{Internal}
use Rattle.etx_numbers.specs.declared.internal.Internal.TheVariants as internal
use Rattle.etx_numbers.specs.declared.words.WordSet.{WordSet}
use Rattle.etx_answers.specs.Reads.{goes_on, gives, back, back_unless, failing, behind, list_read, reads_end}
use Rattle.etx_numbers.specs.Taking.{signed, begin_units, taken, glue_amount}
use Rattle.etx_numbers.specs.Internals.{internal_of}
use Rattle.etx_numbers.specs.Words.{letter_read}
use Rattle.etx_numbers.specs.Dimensions.{decimal_digit, with_decimal, fraction_of, no_internal_unit, is_no_internal, unit_end_row}
use Rattle.etx_answers.specs.Meanings.{has_category}
use Rattle.etx_answers.specs.Showing.{shown_meaning}
use Rattle.etx_answers.specs.Printing.{printed, escape_in}

-- a character of category 12
abbrev pub is_other : ℕ → Token → Bool
is_other wanted (Char code cat) = (code == wanted) && (cat == 12)
is_other wanted (Name n) = false
is_other wanted (Param n) = false

-- a full stop, for which a comma may stand
abbrev pub is_point : Token → Bool
is_point t = is_other 46 t || is_other 44 t

abbrev pub missing_text : List ℕ
missing_text = codes "Missing number, treated as zero"

-- ---- what is wanted

abbrev pub integer : Want
integer = want.Integer false

abbrev pub plain_length : Length
plain_length = record { is_negative = false; is_mu = false; is_infinite = false }

abbrev pub glue_want : Bool → Want
glue_want is_mu = want.Glue false is_mu

unfoldable pub flipped : Want → Want
flipped (want.Integer is_negative) = want.Integer (not is_negative)
flipped (want.Dimension l) = want.Dimension (record l { is_negative = not l.is_negative })
flipped (want.Unit l f) = want.Unit l f
flipped (want.Glue is_negative is_mu) = want.Glue (not is_negative) is_mu
flipped want.Whole = want.Whole

-- ---- units

-- a unit is a word, or an internal quantity; spaces before it are skipped
abbrev pub unit_by : Internal → Length → Factor → Bool → Token → Meaning → RestState → (Want → Internal → Read) → Read
unit_by i l f behind_true t mm r begun = if behind_true || is_no_internal i then no_internal_unit l f behind_true t else begun (want.Unit l f) i

-- ---- integers

-- an integer is a value, or the number before a unit
abbrev pub integer_read : Want → ℤ → Read
integer_read (want.Integer is_negative) n = gives (amount.Int (signed is_negative n))
integer_read (want.Dimension l) n = goes_on (begin_units l n)
integer_read (want.Unit l f) n = gives (amount.Int n)
integer_read (want.Glue is_negative is_mu) n = gives (amount.Int n)
integer_read want.Whole n = gives (amount.Int n)

-- no number is there: it is zero, and the token is read again
abbrev pub missing_number : Want → Read
missing_number w = failing missing_text (back (integer_read w (pos 0)))

-- the character that is a whole text
unfoldable pub only_code : List ℕ → Option ℕ
only_code [] = None
only_code (code ∷ []) = Some code
only_code (code ∷ other ∷ others) = None

abbrev pub only_code_in : Option (List ℕ) → Option ℕ
only_code_in None = None
only_code_in (Some text) = only_code text

-- behind a backquote: a character, or a name of one character
unfoldable pub constant_of : RestState → Token → Option ℕ
constant_of r (Char code cat) = Some code
constant_of r (Name n) = only_code_in (slice_get r.names n.0)
constant_of r (Param n) = None

abbrev pub constant_by : Option ℕ → Want → Read
constant_by (Some code) w = goes_on (number.CharacterEnd w code)
constant_by None w = failing (codes "Improper alphabetic constant") (back (integer_read w (pos 48)))

unfoldable pub constant_row : Want → Token → RestState → Read
constant_row w t r = constant_by (constant_of r t) w

-- ---- digits

abbrev pub no_digits : ℕ → DigitsState
no_digits base = record { base = base; number = Some 0; empty = true }

-- the number, unless it is too big; then it is the greatest
abbrev pub number_in : DigitsState → Option ℤ
number_in d = option_map pos d.number

abbrev pub number_or_greatest : Option ℤ → ℤ
number_or_greatest None = pos 2147483647
number_or_greatest (Some n) = n

abbrev pub digits_of : ℕ → Want → Read
digits_of base w = goes_on (number.Digits w (no_digits base) (base == 10))

abbrev pub first_digit_by : Turn → Want → Token → Read
first_digit_by More w t = goes_on (number.Digits w (digits_fed (no_digits 10) t) true)
first_digit_by Done w t = missing_number w
first_digit_by DoneBack w t = missing_number w

-- the first digit that makes the number too big is an error
abbrev pub digit_taken : Bool → DigitsState → Want → Bool → Read
digit_taken was_small new w is_decimal =
    let read = goes_on (number.Digits w new is_decimal) in
    if was_small && not (is_some (number_in new)) then failing (codes "Number too big") read else read

abbrev pub fraction_scan : Length → ℤ → NumberScan
fraction_scan l whole = number.Fraction l whole (record { digits = 0; places = 0 })

-- ---- where no internal quantity stands

abbrev pub constant_begun : Want → Token → Read
constant_begun w t =
    if is_other 96 t then goes_on (number.Character w)
    else if is_other 39 t then digits_of 8 w
    else if is_other 34 t then digits_of 16 w
    else first_digit_by (digit_turn (no_digits 10) t) w t

abbrev pub dimension_begun : Length → Token → Read
dimension_begun l t = if is_point t then goes_on (fraction_scan l (pos 0)) else constant_begun (want.Dimension l) t

abbrev pub cannot_the : Meaning → RestState → Read
cannot_the mm r = failing (codes "You can't use " ++ shown_meaning mm r ++ codes " after " ++ printed r.values (escape_in r.values ++ codes "the")) (gives (amount.Int (pos 0)))

-- the width of glue is a dimension, which is read first
unfoldable pub number_begun : Want → Token → Meaning → RestState → Read
number_begun (want.Integer is_negative) t mm r = constant_begun (want.Integer is_negative) t
number_begun (want.Dimension l) t mm r = dimension_begun l t
number_begun (want.Unit l f) t mm r = dimension_begun l t
number_begun (want.Glue is_negative is_mu) t mm r = behind (outer.Width is_mu) (dimension_begun (record { is_negative = is_negative; is_mu = is_mu; is_infinite = false }) t)
number_begun want.Whole t mm r = cannot_the mm r

-- ---- internal quantities

abbrev pub kind_of : ExpressionKind → ValueKind
kind_of expressions.Num = kind.Int
kind_of expressions.Dimen = kind.Dim
kind_of expressions.Glue = kind.Glue
kind_of expressions.Mu = kind.MuGlue

-- what is wanted of an operand
abbrev pub want_of : ValueKind → Want
want_of kind.Int = integer
want_of kind.Dim = want.Dimension plain_length
want_of kind.Glue = glue_want false
want_of kind.MuGlue = glue_want true

-- what \the wants
abbrev pub is_whole : Want → Bool
is_whole want.Whole = true
is_whole _ = false

-- \the takes a list of tokens; elsewhere no number is there
abbrev pub list_begun : Want → Read → Read
list_begun w next = if is_whole w then next else failing missing_text (back (behind (outer.Again w) (gives (amount.Dim (pos 0)))))

-- a quantity of another mode is zero
abbrev pub improper_zero : Want → Read
improper_zero w = if is_whole w then gives (amount.Int (pos 0)) else behind (outer.Again w) (gives (amount.Dim (pos 0)))

-- the number of a register comes next
abbrev pub number_next : Want → Read
number_next w = goes_on (number.Start w)

abbrev pub register_begun : RegisterKind → Want → Read
register_begun registers.Toks w = list_begun w (behind (outer.Register registers.Toks w) (number_next integer))
register_begun registers.Count w = behind (outer.Register registers.Count w) (number_next integer)
register_begun registers.Dimen w = behind (outer.Register registers.Dimen w) (number_next integer)
register_begun registers.Skip w = behind (outer.Register registers.Skip w) (number_next integer)
register_begun registers.MuSkip w = behind (outer.Register registers.MuSkip w) (number_next integer)

abbrev pub is_from_mu : GlueConversionKind → Bool
is_from_mu conversions.ToMu = false
is_from_mu conversions.FromMu = true

unfoldable pub internal_begun : Want → Internal → Token → Meaning → RestState → Read
internal_begun w internal.Nothing t mm r = number_begun w t mm r
internal_begun w (internal.Amount a) t mm r = taken w a
internal_begun w (internal.List k) t mm r = list_begun w (list_read k)
internal_begun w (internal.Register kind) t mm r = register_begun kind w
internal_begun w (internal.Code kind) t mm r = behind (outer.Code kind w) (number_next integer)
internal_begun w (internal.GluePart kind) t mm r = behind (outer.GluePart kind w) (number_next (glue_want false))
internal_begun w (internal.GlueConversion kind) t mm r = behind (outer.GlueConversion kind w) (number_next (glue_want (is_from_mu kind)))
internal_begun w (internal.Expression kind) t mm r = goes_on (number.Operand (started (kind_of kind)) w)
internal_begun w internal.Improper t mm r = failing (codes "Other error") (improper_zero w)
internal_begun w internal.Unbuilt t mm r = reads_end Unbuilt

abbrev pub begin_row : Want → Token → Meaning → ℕ → RestState → Read
begin_row w t mm line r = internal_begun w (internal_of mm line r) t mm r

-- ---- units, and what stands behind an integer

unfoldable pub unit_row : Length → Factor → Bool → Token → Meaning → ℕ → RestState → Read
unit_row l f behind_true t mm line r =
    if has_category 10 mm then goes_on (number.Unit l f behind_true)
    else unit_by (internal_of mm line r) l f behind_true t mm r (λ w i. internal_begun w i t mm r)

-- the token behind an integer is a space that belongs to it, or a unit begins with it, or it is read again
abbrev pub begin_with : NumberScan → Token → Meaning → ℕ → RestState → Read
begin_with (number.Unit l f behind_true) t mm line r = unit_row l f behind_true t mm line r
begin_with s t mm line r = back (goes_on s)

abbrev pub behind_integer : Want → ℤ → Token → Meaning → ℕ → RestState → Read
behind_integer (want.Dimension l) n t mm line r = begin_with (begin_units l n) t mm line r
behind_integer w n t mm line r = back (integer_read w n)

unfoldable pub integer_over : Want → ℤ → Token → Meaning → ℕ → RestState → Read
integer_over w n t mm line r = if has_category 10 mm then integer_read w n else behind_integer w n t mm line r

abbrev pub has_point : Want → Bool → Token → Bool
has_point (want.Dimension l) is_decimal t = is_decimal && is_point t
has_point w is_decimal t = false

abbrev pub fraction_begun : Want → ℤ → Read
fraction_begun (want.Dimension l) n = goes_on (fraction_scan l n)
fraction_begun w n = integer_read w n

unfoldable pub digits_over : Want → DigitsState → Bool → Token → Meaning → ℕ → RestState → Read
digits_over w d is_decimal t mm line r =
    if d.empty then missing_number w
    else if has_point w is_decimal t then fraction_begun w (number_or_greatest (number_in d))
    else integer_over w (number_or_greatest (number_in d)) t mm line r

abbrev pub digits_by : Turn → Want → DigitsState → Bool → Token → Meaning → ℕ → RestState → Read
digits_by More w d is_decimal t mm line r = digit_taken (is_some (number_in d)) (digits_fed d t) w is_decimal
digits_by Done w d is_decimal t mm line r = digits_over w d is_decimal t mm line r
digits_by DoneBack w d is_decimal t mm line r = digits_over w d is_decimal t mm line r

unfoldable pub digits_row : Want → DigitsState → Bool → Token → Meaning → ℕ → RestState → Read
digits_row w d is_decimal t mm line r = digits_by (digit_turn d t) w d is_decimal t mm line r

abbrev pub fraction_by : Option ℕ → Length → ℤ → Decimals → Token → Meaning → ℕ → RestState → Read
fraction_by (Some digit) l whole d t mm line r = goes_on (number.Fraction l whole (with_decimal d digit))
fraction_by None l whole d t mm line r = unit_row l (record { whole = whole; fraction = fraction_of d }) false t mm line r

unfoldable pub fraction_row : Length → ℤ → Decimals → Token → Meaning → ℕ → RestState → Read
fraction_row l whole d t mm line r = fraction_by (decimal_digit t) l whole d t mm line r

-- ---- the beginning

-- a sign, or a space
abbrev pub is_sign : Token → Meaning → Bool
is_sign t mm = has_category 10 mm || is_other 43 t || is_other 45 t

-- signs and spaces come first; what \the takes has none
unfoldable pub start_row : Want → Token → Meaning → ℕ → RestState → Read
start_row w t mm line r =
    if is_whole w || not (is_sign t mm) then begin_row w t mm line r
    else if is_other 45 t then goes_on (number.Start (flipped w))
    else goes_on (number.Start w)

-- an = that may be there, behind spaces
unfoldable pub equals_row : Want → Token → Meaning → ℕ → RestState → Read
equals_row w t mm line r =
    if has_category 10 mm then goes_on (number.Equals w)
    else if is_other 61 t then goes_on (number.Start w)
    else start_row w t mm line r

-- behind the width of glue or its stretch: a word may begin, and else the glue is whole
abbrev pub behind_set_row : WordSet → NumberScan → Read → Token → Meaning → Read
behind_set_row set s whole t mm = if has_category 10 mm then goes_on s else letter_read set s t (back whole)

abbrev pub behind_glue_row : WordSet → NumberScan → Bool → Glue → Token → Meaning → Read
behind_glue_row set s is_mu g t mm = behind_set_row set s (gives (glue_amount is_mu g)) t mm

-- the end of a dimension: a space that may be there
abbrev pub size_over : Length → Option ℤ → Meaning → Read
size_over l size mm = back_unless (has_category 10 mm) (unit_end_row l size)

-- The expressions of e-TeX, and the line for each scan of a number (the e-TeX manual, section 3.5).
use Rattle.std.specs.Prelude.{ℕ, ℤ, pos, Bool, true, false, nat_lt, length, Option, Some, None, codes, if◌then◌else◌}
use Rattle.etx_exprs.specs.declared.part.Part.{Part}
use Rattle.etx_exprs.specs.declared.part.Part.TheVariants as part
use Rattle.etx_exprs.specs.declared.part.Turn.{Turn}
use Rattle.etx_exprs.specs.declared.part.Turn.TheVariants.{More, Done, DoneBack}
use Rattle.etx_exprs.specs.declared.value.Value.{Value as Amount}
use Rattle.etx_exprs.specs.declared.value.Value.TheVariants as amount
use Rattle.etx_exprs.specs.declared.value.ValueKind.{ValueKind}
use Rattle.etx_exprs.specs.declared.value.ValueKind.TheVariants as kind
use Rattle.etx_exprs.specs.Feeding.{ExprState, fed_of, wanted_of, is_whole, level_value}
use Rattle.etx_matter.specs.declared.end.End.TheVariants.{Capacity}
use Rattle.etx_matter.specs.declared.end.Limit.TheVariants.{Scans}
use Rattle.etx_matter.specs.declared.token.Token.{Token}
use Rattle.etx_state.specs.declared.key.Meaning.{Meaning}
use Rattle.etx_state.specs.declared.taker.Want.{Want}
use Rattle.etx_state.specs.declared.taker.NumberScan.{NumberScan}
use Rattle.etx_state.specs.declared.taker.NumberScan.TheVariants as number
use Rattle.etx_state.specs.declared.taker.Outer.TheVariants as outer
use Rattle.etx_state.specs.declared.taker.Taker.{Taker}
use Rattle.etx_state.specs.Initial.{no_glue}
use Rattle.etx_state.specs.Rests.{RestState}
use Rattle.etx_answers.specs.declared.read.Read.{Read}
use Rattle.etx_numbers.specs.declared.words.WordSet.TheVariants as words
use Rattle.etx_answers.specs.declared.plan.Plan.{Plan}
use Rattle.etx_answers.specs.Reads.{goes_on, gives, back, failing, behind, behind_all, reads_end, read_plan}
use Rattle.etx_numbers.specs.Dimensions.{fil_row}
use Rattle.etx_numbers.specs.Numbers.{is_other, want_of, start_row, equals_row, constant_row, integer_over, digits_row, fraction_row, unit_row, size_over, behind_glue_row}
use Rattle.etx_answers.specs.Meanings.{has_category, is_relax}

abbrev pub kind_or_integer : Option ValueKind → ValueKind
kind_or_integer None = kind.Int
kind_or_integer (Some k) = k

-- an operand begins, or a parenthesis; at most 10000 of these are open
unfoldable pub operand_row : ExprState → Want → Token → Meaning → ℕ → RestState → Read
operand_row e w t mm line r =
    if has_category 10 mm then goes_on (number.Operand e w)
    else if is_other 40 t then (if nat_lt (length e.outer) 10000 then goes_on (number.Operand (fed_of e part.Open).state w) else reads_end (Capacity Scans))
    else behind_all (outer.Operand e w) (start_row (want_of (kind_or_integer (wanted_of e))) t mm line r)

-- what a token is behind an operand
abbrev pub part_of : Token → Meaning → Part
part_of t mm =
    if is_other 43 t then part.Plus
    else if is_other 45 t then part.Minus
    else if is_other 42 t then part.Times
    else if is_other 47 t then part.Divide
    else if is_other 41 t then part.Close
    else if is_relax mm then part.Relax
    else part.Other

abbrev pub zero_of : ValueKind → Amount
zero_of kind.Int = amount.Int (pos 0)
zero_of kind.Dim = amount.Dim (pos 0)
zero_of kind.Glue = amount.Glue no_glue
zero_of kind.MuGlue = amount.MuGlue no_glue

-- what an expression comes to goes to what waits for it; nothing where it has no room
abbrev pub value_over : Option Amount → ExprState → Want → Read
value_over (Some a) e w = behind (outer.Again w) (gives a)
value_over None e w = failing (codes "Arithmetic overflow") (behind (outer.Again w) (gives (zero_of e.level.kind)))

unfoldable pub expression_over : ExprState → Want → Read
expression_over e w = if is_whole e then value_over (level_value e.level) e w else behind (outer.Again w) (gives (zero_of e.level.kind))

abbrev pub behind_part : Option ValueKind → ExprState → Want → Read
behind_part (Some k) e w = goes_on (number.Operand e w)
behind_part None e w = goes_on (number.Operator e w)

-- a token that is no part: a parenthesis lacks, or the expression is over
abbrev pub part_refused : ExprState → Want → Read
part_refused e w =
    if nat_lt 0 (length e.outer)
    then failing (codes "Missing ) inserted for expression") (back (goes_on (number.Operator (fed_of e part.Close).state w)))
    else back (expression_over e w)

abbrev pub operator_by : Turn → ExprState → ExprState → Want → Read
operator_by More old new w = behind_part (wanted_of new) new w
operator_by Done old new w = expression_over new w
operator_by DoneBack old new w = part_refused new w

unfoldable pub operator_row : ExprState → Want → Token → Meaning → Read
operator_row e w t mm =
    if has_category 10 mm then goes_on (number.Operator e w)
    else operator_by (fed_of e (part_of t mm)).turn e (fed_of e (part_of t mm)).state w

-- ---- a line for each scan of a number

unfoldable pub read_row : NumberScan → Token → Meaning → ℕ → RestState → Read
read_row (number.Equals w) t mm line r = equals_row w t mm line r
read_row (number.Start w) t mm line r = start_row w t mm line r
read_row (number.Character w) t mm line r = constant_row w t r
read_row (number.CharacterEnd w code) t mm line r = integer_over w (pos code) t mm line r
read_row (number.Digits w d is_decimal) t mm line r = digits_row w d is_decimal t mm line r
read_row (number.Fraction l whole d) t mm line r = fraction_row l whole d t mm line r
read_row (number.Unit l f behind_true) t mm line r = unit_row l f behind_true t mm line r
read_row (number.Fil l f o) t mm line r = fil_row l f o t mm
read_row (number.UnitEnd l size) t mm line r = size_over l size mm
read_row (number.Plus g is_mu) t mm line r = behind_glue_row words.PlusMinus (number.Plus g is_mu) is_mu g t mm
read_row (number.Minus g is_mu) t mm line r = behind_glue_row words.Minus (number.Minus g is_mu) is_mu g t mm
read_row (number.Operand e w) t mm line r = operand_row e w t mm line r
read_row (number.Operator e w) t mm line r = operator_row e w t mm

unfoldable pub number_row : NumberScan → Taker → Token → Meaning → ℕ → RestState → Plan
number_row s taker t mm line r = read_plan taker (read_row s t mm line r) r

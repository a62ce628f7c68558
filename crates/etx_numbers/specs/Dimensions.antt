-- Dimensions: the fraction behind a full stop, and units ("TeX: The Program", sections 102, 288 and 448 to 458).
use Rattle.std.specs.Prelude.{ℕ, ◌+◌, ◌*◌, ◌/◌, ◌^◌, ◌-◌, ◌==◌, ℤ, pos, negsuc, int_lt, unsigned_abs, Bool, true, false, not, ◌&&◌, ◌||◌, min, nat_lt, nat_le, List, [], ◌∷◌, ◌++◌, Option, Some, None, codes, if◌then◌else◌}
use Rattle.etx_exprs.specs.declared.value.Value.{Value as Amount}
use Rattle.etx_exprs.specs.declared.value.Value.TheVariants as amount
use Rattle.etx_exprs.specs.declared.unit.Unit.{Unit as Size}
use Rattle.etx_exprs.specs.declared.unit.Unit.TheVariants as unit
use Rattle.etx_exprs.specs.Units.{converted}
use Rattle.etx_matter.specs.declared.token.Token.{Token}
use Rattle.etx_matter.specs.declared.token.Token.TheVariants.{Char, Name, Param}
use Rattle.etx_matter.specs.declared.glue.Glue.{Glue}
use Rattle.etx_matter.specs.declared.glue.GlueOrder.{GlueOrder}
use Rattle.etx_matter.specs.declared.glue.GlueOrder.TheVariants.{Normal, Fil, Fill, Filll}
use Rattle.etx_prims.specs.declared.parameters.IntParam.TheVariants.{Mag}
use Rattle.etx_keys.specs.declared.key.Key.TheVariants as key
use Rattle.etx_state.specs.declared.key.Val.TheVariants as val
use Rattle.etx_state.specs.declared.key.Meaning.{Meaning}
use Rattle.etx_state.specs.declared.taker.Length.{Length}
use Rattle.etx_state.specs.declared.taker.Factor.{Factor}
use Rattle.etx_state.specs.declared.taker.Decimals.{Decimals}
use Rattle.etx_state.specs.declared.taker.Want.TheVariants as want
use Rattle.etx_state.specs.declared.taker.NumberScan.{NumberScan}
use Rattle.etx_state.specs.declared.taker.NumberScan.TheVariants as number
use Rattle.etx_state.specs.declared.taker.Outer.TheVariants as outer
use Rattle.etx_state.specs.declared.taker.Taker.{Taker}
use Rattle.etx_state.specs.declared.scan.Scan.TheVariants as scan
use Rattle.etx_state.specs.Values.{Values, assign_global}
use Rattle.etx_state.specs.Reading.{int_in}
use Rattle.std.specs.Ordering.{int_eq}
use Rattle.etx_state.specs.Rests.{RestState, with_values, with_mag}
use Rattle.etx_answers.specs.declared.read.Read.{Read}
use Rattle.etx_numbers.specs.declared.internal.Internal.{Internal}
use Rattle.etx_numbers.specs.declared.internal.Internal.TheVariants as internal
use Rattle.etx_numbers.specs.declared.words.Word.{Word}
use Rattle.etx_numbers.specs.declared.words.Word.TheVariants as word
use Rattle.etx_numbers.specs.declared.words.WordSet.{WordSet}
use Rattle.etx_numbers.specs.declared.words.WordSet.TheVariants as words
use Rattle.etx_numbers.specs.declared.words.Spelled.{Spelled}
use Rattle.etx_numbers.specs.declared.words.Spelled.TheVariants as spelled
use Rattle.etx_answers.specs.declared.plan.WordPlan.{WordPlan}
use Rattle.etx_answers.specs.declared.plan.WordPlan.TheVariants as plans
use Rattle.etx_answers.specs.Reads.{goes_on, gives, gives_order, back, failing, behind, read_plan, read_ended}
use Rattle.etx_numbers.specs.Taking.{signed, width_glue, glue_amount, attached, unit_total}
use Rattle.etx_numbers.specs.Words.{letter_of, letters_of, letter_read, found_by, is_plus}
use Rattle.etx_answers.specs.Meanings.{has_category}
use Rattle.etx_answers.specs.Showing.{integer_text}

-- ---- the fraction

-- the digits as a number of so many places, in 65536ths, rounded
unfoldable pub fraction_of : Decimals → ℤ
fraction_of d = pos (min ((d.digits * 131072 / 10 ^ min d.places 17 + 1) / 2) 65536)

-- digits behind the 17th don't count
unfoldable pub with_decimal : Decimals → ℕ → Decimals
with_decimal d digit = if nat_lt d.places 17 && nat_lt d.digits 100_000_000_000_000_000 then record { digits = d.digits * 10 + digit; places = d.places + 1 } else d

abbrev pub decimal_digit : Token → Option ℕ
decimal_digit (Char code cat) = if (cat == 12) && (nat_le 48 code && nat_le code 57) then Some (code - 48) else None
decimal_digit (Name n) = None
decimal_digit (Param n) = None

-- ---- the unit

abbrev pub units_of : Length → Bool → WordSet
units_of l behind_true = words.Units behind_true l.is_mu l.is_infinite

-- one point, or one mu
abbrev pub point_amount : Length → Amount
point_amount l = if l.is_mu then amount.MuGlue (width_glue (pos 65536)) else amount.Dim (pos 65536)

abbrev pub illegal_text : Bool → List ℕ
illegal_text true = codes "Illegal unit of measure (mu inserted)"
illegal_text false = codes "Illegal unit of measure (pt inserted)"

-- where no unit is, points are taken, or mu
abbrev pub illegal_unit : Length → Factor → Read
illegal_unit l f = failing (illegal_text l.is_mu) (behind (outer.Again (want.Unit l f)) (gives (point_amount l)))

-- a word may begin with the token; else it is read again
abbrev pub no_internal_unit : Length → Factor → Bool → Token → Read
no_internal_unit l f behind_true t = letter_read (units_of l behind_true) (number.Unit l f behind_true) t (back (illegal_unit l f))

abbrev pub is_no_internal : Internal → Bool
is_no_internal internal.Nothing = true
is_no_internal _ = false

-- ---- so many points

unfoldable pub points : Factor → Option ℤ
points f = unit_total f (pos 65536)

abbrev pub next_order : GlueOrder → Option GlueOrder
next_order Normal = Some Fil
next_order Fil = Some Fill
next_order Fill = Some Filll
next_order Filll = None

-- a further letter l; the fourth is an error
abbrev pub fil_letter : Option GlueOrder → Length → Factor → GlueOrder → Read
fil_letter (Some more) l f o = goes_on (number.Fil l f more)
fil_letter None l f o = failing (codes "Illegal unit of measure (replaced by filll)") (goes_on (number.Fil l f o))

abbrev pub infinite_by : Option ℤ → Length → GlueOrder → Read
infinite_by (Some size) l o = gives_order (amount.Dim (signed l.is_negative size)) o
infinite_by None l o = failing (codes "Dimension too large") (gives_order (amount.Dim (signed l.is_negative (pos 1073741823))) o)

abbrev pub is_l : Option ℕ → Bool
is_l None = false
is_l (Some c) = c == 108

-- behind fil there may be spaces between the letters
unfoldable pub fil_row : Length → Factor → GlueOrder → Token → Meaning → Read
fil_row l f o t mm =
    if has_category 10 mm then goes_on (number.Fil l f o)
    else if is_l (letter_of t) then fil_letter (next_order o) l f o
    else back (infinite_by (points f) l o)

unfoldable pub unit_end_row : Length → Option ℤ → Read
unit_end_row l size = attached l.is_negative size

-- ---- words as units

abbrev pub true_or : Bool → Size → Size → Option Size
true_or behind_true u v = Some (if behind_true then u else v)

abbrev pub unit_of : Word → Bool → Option Size
unit_of word.Pt behind_true = true_or behind_true unit.TruePt unit.Pt
unit_of word.Pc behind_true = true_or behind_true unit.TruePc unit.Pc
unit_of word.In behind_true = true_or behind_true unit.TrueIn unit.In
unit_of word.Cm behind_true = true_or behind_true unit.TrueCm unit.Cm
unit_of word.Mm behind_true = true_or behind_true unit.TrueMm unit.Mm
unit_of word.Bp behind_true = true_or behind_true unit.TrueBp unit.Bp
unit_of word.Dd behind_true = true_or behind_true unit.TrueDd unit.Dd
unit_of word.Cc behind_true = true_or behind_true unit.TrueCc unit.Cc
unit_of word.Sp behind_true = true_or behind_true unit.TrueSp unit.Sp
unit_of _ behind_true = None

abbrev pub is_mag : ℤ → Bool
is_mag (pos n) = nat_le 1 n && nat_le n 32768
is_mag (negsuc n) = false

-- the magnification, where it is one
abbrev pub mag_of : Values → ℕ
mag_of v = if is_mag (int_in v Mag) then unsigned_abs (int_in v Mag) else 1000

abbrev pub below_limit : ℕ → Option ℤ
below_limit n = if nat_lt n 1073741824 then Some (pos n) else None

-- the size of so many of a unit, if it is a dimension
unfoldable pub size_of : Size → Factor → Values → Option ℤ
size_of u f v = if int_lt f.whole (pos 0) || int_lt f.fraction (pos 0) || int_lt (pos 65536) f.fraction then None else below_limit (converted u (unsigned_abs f.whole) (unsigned_abs f.fraction) (mag_of v))

abbrev pub size_by : Option Size → Factor → Values → Option ℤ
size_by (Some u) f v = size_of u f v
size_by None f v = Some (pos 0)

-- what a scan of a number makes of the rest, and what it decides
pub record Reading : Type 0 where
  pub rest : RestState
  pub read : Read

abbrev pub reading : Read → RestState → Reading
reading read r = record { rest = r; read = read }

abbrev pub with_global_mag : ℤ → RestState → RestState
with_global_mag mag r = with_values (assign_global r.values (key.Int Mag) (val.Int mag)) r

abbrev pub incompatible_mag : ℤ → List ℕ
incompatible_mag mag = codes "Incompatible magnification (" ++ integer_text mag ++ codes "); the previous value will be retained"

abbrev pub illegal_mag : ℤ → List ℕ
illegal_mag mag = codes "Illegal magnification has been changed to 1000 (" ++ integer_text mag ++ codes ")"

-- the magnification is fixed at its first use: another one is set back, and one that is none is set to 1000, each with an error
unfoldable pub prepared_mag : Read → RestState → Reading
prepared_mag read r =
    if nat_lt 0 r.mag && not (int_eq (int_in r.values Mag) (pos r.mag)) then reading (failing (incompatible_mag (int_in r.values Mag)) read) (with_global_mag (pos r.mag) r)
    else if is_mag (int_in r.values Mag) then reading read (with_mag (unsigned_abs (int_in r.values Mag)) r)
    else reading (failing (illegal_mag (int_in r.values Mag)) read) (with_mag 1000 (with_global_mag (pos 1000) r))

abbrev pub unit_ends : Length → Option ℤ → RestState → Reading
unit_ends l size r = reading (goes_on (number.UnitEnd l size)) r

-- while there is no font, em and ex are nothing
unfoldable pub unit_found : Word → Length → Factor → Bool → RestState → Reading
unit_found word.Fil l f behind_true r = reading (goes_on (number.Fil l f Fil)) r
unit_found word.True l f behind_true r = prepared_mag (goes_on (number.Unit l f true)) r
unit_found word.Em l f behind_true r = unit_ends l (Some (pos 0)) r
unit_found word.Ex l f behind_true r = unit_ends l (Some (pos 0)) r
unit_found word.Mu l f behind_true r = unit_ends l (points f) r
unit_found w l f behind_true r = unit_ends l (size_by (unit_of w behind_true) f r.values) r

-- what stands behind `plus` or `minus`
abbrev pub set_begun : Bool → Read
set_begun is_mu = goes_on (number.Start (want.Dimension (record { is_negative = false; is_mu = is_mu; is_infinite = true })))

abbrev pub glue_outer : Word → Glue → Bool → Read
glue_outer w g is_mu = if is_plus w then behind (outer.Stretch g is_mu) (set_begun is_mu) else behind (outer.Shrink g is_mu) (set_begun is_mu)

-- a word that stands at its place, by the scan that reads it
unfoldable pub word_found : NumberScan → Word → RestState → Reading
word_found (number.Unit l f behind_true) w r = unit_found w l f behind_true r
word_found (number.Plus g is_mu) w r = reading (glue_outer w g is_mu) r
word_found (number.Minus g is_mu) w r = reading (glue_outer w g is_mu) r
word_found s w r = reading (goes_on s) r

-- the letters are no word of the place
unfoldable pub word_lost : NumberScan → Read
word_lost (number.Unit l f behind_true) = illegal_unit l f
word_lost (number.Plus g is_mu) = gives (glue_amount is_mu g)
word_lost (number.Minus g is_mu) = gives (glue_amount is_mu g)
word_lost s = goes_on s

abbrev pub words_at : NumberScan → Option WordSet
words_at (number.Unit l f behind_true) = Some (units_of l behind_true)
words_at (number.Plus g is_mu) = Some words.PlusMinus
words_at (number.Minus g is_mu) = Some words.Minus
words_at _ = None

abbrev pub spelled_at : Option WordSet → List Token → Spelled
spelled_at None ts = spelled.Nothing
spelled_at (Some set) ts = found_by set (letters_of ts)

-- what becomes of a word, and of the rest
pub record WordPlanned : Type 0 where
  pub rest : RestState
  pub plan : WordPlan

abbrev pub found_plan : Reading → Taker → WordPlanned
found_plan x t = record { rest = x.rest; plan = plans.Found (read_plan t x.read x.rest) }

abbrev pub word_by : Spelled → NumberScan → Taker → RestState → WordPlanned
word_by spelled.Front s t r = record { rest = r; plan = plans.Letter (scan.Number s t) }
word_by (spelled.Whole w) s t r = found_plan (word_found s w r) t
word_by spelled.Nothing s t r = record { rest = r; plan = plans.Lost (read_ended t (word_lost s) r) }

-- a number that reads a word gets a token, behind these letters
unfoldable pub number_word_row : NumberScan → Taker → List Token → Token → RestState → WordPlanned
number_word_row s taker ls t r = word_by (spelled_at (words_at s) (ls ++ t ∷ [])) s taker r

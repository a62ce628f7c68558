-- Values of parameters and registers, codes of characters, and names of characters and registers ("TeX: The Program", sections 1221 to
-- 1240 and 1243; e-TeX has 32768 registers of each kind).
use Rattle.std.specs.Prelude.{ℕ, ◌+◌, ℤ, pos, negsuc, Bool, true, false, ◌&&◌, ◌||◌, nat_le, List, [], ◌++◌, Option, Some, None, codes, if◌then◌else◌}
use Rattle.std.specs.Int.{int_max}
use Rattle.etx_exprs.specs.declared.value.Value.{Value as Amount}
use Rattle.etx_matter.specs.declared.token.Token.{Token}
use Rattle.etx_matter.specs.declared.end.End.TheVariants.{Unbuilt}
use Rattle.etx_prims.specs.declared.command.Primitive.{Primitive}
use Rattle.etx_prims.specs.declared.command.Primitive.TheVariants as prims
use Rattle.etx_prims.specs.declared.assignments.ArithmeticKind.{ArithmeticKind}
use Rattle.etx_prims.specs.declared.assignments.CharDefKind.{CharDefKind}
use Rattle.etx_prims.specs.declared.assignments.CharDefKind.TheVariants as chars
use Rattle.etx_prims.specs.declared.quantities.CodeKind.{CodeKind}
use Rattle.etx_prims.specs.declared.quantities.CodeKind.TheVariants as kinds
use Rattle.etx_prims.specs.declared.quantities.RegisterKind.{RegisterKind}
use Rattle.etx_prims.specs.declared.quantities.RegisterKind.TheVariants as registers
use Rattle.etx_keys.specs.declared.key.Key.{Key}
use Rattle.etx_keys.specs.declared.key.Key.TheVariants as key
use Rattle.etx_keys.specs.declared.class.Class.{Class}
use Rattle.etx_keys.specs.declared.class.Class.TheVariants as class
use Rattle.etx_keys.specs.Classes.{class_of}
use Rattle.etx_state.specs.declared.key.Val.{Val}
use Rattle.etx_state.specs.declared.key.Val.TheVariants as val
use Rattle.etx_state.specs.declared.key.Meaning.{Meaning}
use Rattle.etx_state.specs.declared.key.Meaning.TheVariants as means
use Rattle.etx_state.specs.declared.scan.AssignNumber.{AssignNumber}
use Rattle.etx_state.specs.declared.scan.AssignNumber.TheVariants as takes
use Rattle.etx_state.specs.declared.scan.AssignScan.TheVariants as assign
use Rattle.etx_state.specs.declared.scan.NameFor.TheVariants as naming
use Rattle.etx_state.specs.declared.scan.NumberFinish.TheVariants as finish
use Rattle.etx_state.specs.declared.scan.Scan.{Scan}
use Rattle.etx_state.specs.declared.scan.Scan.TheVariants as scan
use Rattle.etx_state.specs.declared.taker.Want.{Want}
use Rattle.etx_state.specs.declared.taker.Want.TheVariants as want
use Rattle.etx_state.specs.declared.taker.NumberScan.{NumberScan}
use Rattle.etx_state.specs.declared.taker.NumberScan.TheVariants as number
use Rattle.etx_state.specs.Reading.{tokens_at}
use Rattle.etx_state.specs.Rests.{RestState, with_values}
use Rattle.etx_answers.specs.declared.plan.Did.TheVariants as did
use Rattle.etx_answers.specs.declared.plan.Push.TheVariants as push
use Rattle.etx_answers.specs.declared.plan.Start.{Start}
use Rattle.etx_answers.specs.declared.plan.Then.TheVariants as afterwards
use Rattle.etx_answers.specs.declared.plan.Ended.{Ended}
use Rattle.etx_answers.specs.Answers.{Finished, starting, start_ends}
use Rattle.etx_numbers.specs.Numbers.{integer, plain_length, glue_want}
use Rattle.etx_numbers.specs.Outers.{within, bad_text}
use Rattle.etx_answers.specs.Showing.{integer_text}
use Rattle.etx_numbers.specs.Taking.{amount_in, glue_in}
use Rattle.etx_assign.specs.Assignments.{key_of, assigned, with_fitting, over, value_over, failing}
use Rattle.etx_assign.specs.Arithmetic.{is_glue, by_scan, change_taken}
use Rattle.etx_assign.specs.Naming.{named, let_begun}

-- ---- scans

abbrev pub number_scan : NumberScan → AssignNumber → Scan
number_scan s f = scan.Number s (record { outers = []; finish = finish.Assign f })

-- the value under a key, behind an = that may be there
abbrev pub value_scan : Want → Key → Bool → Scan
value_scan w k is_global = number_scan (number.Equals w) (takes.Value k is_global)

-- the same of a list of tokens
abbrev pub list_scan : Key → Token → Bool → Scan
list_scan k reader is_global = scan.Assign (assign.List k is_global reader false)

-- ---- what an assignment begins

abbrev pub begins : Scan → Start
begins s = starting (push.Begin s)

unfoldable pub register_scan : RegisterKind → Key → Token → Bool → Scan
register_scan registers.Toks k t is_global = list_scan k t is_global
register_scan registers.Count k t is_global = value_scan integer k is_global
register_scan registers.Dimen k t is_global = value_scan (want.Dimension plain_length) k is_global
register_scan registers.Skip k t is_global = value_scan (glue_want false) k is_global
register_scan registers.MuSkip k t is_global = value_scan (glue_want true) k is_global

-- a register that is known
abbrev pub register_begun : RegisterKind → ℕ → Token → Bool → Start
register_begun kind n t is_global = begins (register_scan kind (key.Register kind n) t is_global)

-- a line for each family of assignments that takes \global alone
unfoldable pub simple_begun : Primitive → Token → Bool → Start
simple_begun (prims.Let kind) t is_global = let_begun kind is_global
simple_begun (prims.IntParam p) t is_global = begins (value_scan integer (key.Int p) is_global)
simple_begun (prims.DimenParam p) t is_global = begins (value_scan (want.Dimension plain_length) (key.Dimen p) is_global)
simple_begun (prims.GlueParam p) t is_global = begins (value_scan (glue_want false) (key.Glue p) is_global)
simple_begun (prims.MuGlueParam p) t is_global = begins (value_scan (glue_want true) (key.MuGlue p) is_global)
simple_begun (prims.TokenParam p) t is_global = begins (list_scan (key.Tokens p) t is_global)
simple_begun (prims.Register kind) t is_global = begins (number_scan (number.Start integer) (takes.Register kind is_global t))
simple_begun (prims.Code kind) t is_global = begins (number_scan (number.Start integer) (takes.CodeOf kind is_global))
simple_begun (prims.CharDef kind) t is_global = named (naming.CharDef kind is_global)
simple_begun (prims.RegisterDef kind) t is_global = named (naming.RegisterDef kind is_global)
simple_begun (prims.Arithmetic kind) t is_global = begins (scan.Assign (assign.Arithmetic kind is_global))
simple_begun _ t is_global = start_ends Unbuilt

-- ---- what is done with numbers

-- a number that is kept is above -2^31
abbrev pub kept_number : ℤ → ℤ
kept_number n = int_max n (negsuc 2147483646)

-- an amount as a value under a key
unfoldable pub stored : Key → Amount → Val
stored k a = if is_glue (class_of k) then val.Glue (glue_in a) else val.Int (kept_number (amount_in a))

abbrev pub failing_in : List ℕ → Finished → Finished
failing_in text f = record { rest = f.rest; ended = failing text f.ended }

-- a number from 0 to the most; another one is 0, with an error
abbrev pub or_zero : Option ℕ → ℕ
or_zero (Some n) = n
or_zero None = 0

abbrev pub failing_by : Option ℕ → List ℕ → ℤ → Ended → Ended
failing_by (Some n) what z e = e
failing_by None what z e = failing (bad_text what z) e

abbrev pub checked : ℕ → List ℕ → ℤ → Ended → Ended
checked most what z e = failing_by (within most z) what z e

abbrev pub checked_in : ℕ → List ℕ → ℤ → Finished → Finished
checked_in most what z f = record { rest = f.rest; ended = checked most what z f.ended }

abbrev pub number_within : ℕ → ℤ → ℕ
number_within most z = or_zero (within most z)

abbrev pub more : Scan → Ended
more s = record { then = afterwards.More s; did = did.Nothing }

-- what changes nothing itself
abbrev pub unchanged : Ended → RestState → Finished
unchanged e r = record { rest = r; ended = e }

abbrev pub bad_register : List ℕ
bad_register = codes "Bad register code"

unfoldable pub register_taken : RegisterKind → Token → Bool → ℤ → Ended
register_taken kind reader is_global z = checked 32767 bad_register z (more (register_scan kind (key.Register kind (number_within 32767 z)) reader is_global))

unfoldable pub code_of_taken : CodeKind → Bool → ℤ → Ended
code_of_taken kind is_global z = checked 255 (codes "Bad character code") z (more (number_scan (number.Equals integer) (takes.Code kind (number_within 255 z) is_global)))

abbrev pub greatest_code : CodeKind → ℕ
greatest_code kinds.Cat = 15
greatest_code kinds.Math = 32768
greatest_code kinds.Lc = 255
greatest_code kinds.Uc = 255
greatest_code kinds.Sf = 32767
greatest_code kinds.Del = 16777215

abbrev pub may_be_negative : CodeKind → Bool
may_be_negative kinds.Del = true
may_be_negative _ = false

abbrev pub is_code : CodeKind → ℤ → Bool
is_code kind (pos n) = nat_le n (greatest_code kind)
is_code kind (negsuc n) = may_be_negative kind

abbrev pub range_text : Bool → List ℕ
range_text true = codes "), should be at most "
range_text false = codes "), should be in the range 0.."

abbrev pub invalid_code : CodeKind → ℤ → List ℕ
invalid_code kind z = codes "Invalid code (" ++ integer_text z ++ range_text (may_be_negative kind) ++ integer_text (pos (greatest_code kind))

abbrev pub with_value : Key → Bool → Val → RestState → RestState
with_value k is_global x r = with_values (assigned is_global k x r.values) r

-- a code that is out of its range is 0, with an error
unfoldable pub code_taken : CodeKind → ℕ → Bool → ℤ → RestState → Finished
code_taken kind code is_global z r =
    if is_code kind z
    then value_over (over (with_value (key.Code kind code) is_global (val.Int (kept_number z)) r))
    else failing_in (invalid_code kind z) (value_over (over (with_value (key.Code kind code) is_global (val.Int (pos 0)) r)))

unfoldable pub value_taken : Key → Bool → Amount → RestState → Finished
value_taken k is_global a r = value_over (over (with_fitting k is_global (stored k a) r))

abbrev pub meaning_taken : Token → Bool → Meaning → RestState → Finished
meaning_taken name is_global mm r = value_over (over (with_value (key_of name) is_global (val.Means mm) r))

unfoldable pub character_taken : CharDefKind → Token → Bool → ℤ → RestState → Finished
character_taken chars.Char name is_global z r = checked_in 255 (codes "Bad character code") z (meaning_taken name is_global (means.CharGiven (number_within 255 z)) r)
character_taken chars.MathChar name is_global z r = checked_in 32767 (codes "Bad mathchar") z (meaning_taken name is_global (means.MathGiven (number_within 32767 z)) r)

unfoldable pub register_name_taken : RegisterKind → Token → Bool → ℤ → RestState → Finished
register_name_taken kind name is_global z r = checked_in 32767 bad_register z (meaning_taken name is_global (means.Register kind (number_within 32767 z)) r)

unfoldable pub changed_taken : ArithmeticKind → RegisterKind → Bool → ℤ → Ended
changed_taken by kind is_global z = checked 32767 bad_register z (more (by_scan by (key.Register kind (number_within 32767 z)) is_global))

unfoldable pub list_of_taken : Key → Bool → ℤ → RestState → Finished
list_of_taken k is_global z r = checked_in 32767 bad_register z (value_over (over (with_fitting k is_global (val.Tokens (tokens_at r.values (key.Register registers.Toks (number_within 32767 z)))) r)))

-- a line for each number that assignments take
unfoldable pub number_taken : AssignNumber → Amount → RestState → Finished
number_taken (takes.Register kind is_global reader) a r = unchanged (register_taken kind reader is_global (amount_in a)) r
number_taken (takes.CodeOf kind is_global) a r = unchanged (code_of_taken kind is_global (amount_in a)) r
number_taken (takes.Code kind code is_global) a r = code_taken kind code is_global (amount_in a) r
number_taken (takes.Value k is_global) a r = value_taken k is_global a r
number_taken (takes.Character kind name is_global) a r = character_taken kind name is_global (amount_in a) r
number_taken (takes.RegisterName kind name is_global) a r = register_name_taken kind name is_global (amount_in a) r
number_taken (takes.Changed by kind is_global) a r = unchanged (changed_taken by kind is_global (amount_in a)) r
number_taken (takes.Change by k is_global) a r = change_taken by k is_global a r
number_taken (takes.ListOf k is_global) a r = list_of_taken k is_global (amount_in a) r

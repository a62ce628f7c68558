-- \advance, \multiply and \divide ("TeX: The Program", sections 105, 106 and 1236 to 1240). A sum that TeX doesn't check is brought into
-- the range of what is kept.
use Rattle.std.specs.Prelude.{ℕ, ◌==◌, ℤ, pos, negsuc, ◌+ℤ◌, ◌*ℤ◌, int_div, unsigned_abs, Bool, true, false, not, ◌&&◌, nat_lt, nat_le, List, [], ◌∷◌, ◌++◌, Option, Some, None, codes, if◌then◌else◌}
use Rattle.std.specs.Int.{int_max, int_min}
use Rattle.std.specs.Option.{option_map}
use Rattle.etx_exprs.specs.declared.value.Value.{Value as Quantity}
use Rattle.etx_assign.specs.declared.arithmetic.Amount.{Amount}
use Rattle.etx_exprs.specs.Values.{is_zero, rank}
use Rattle.etx_matter.specs.declared.glue.Glue.{Glue}
use Rattle.etx_matter.specs.declared.glue.GlueOrder.TheVariants.{Normal}
use Rattle.etx_matter.specs.declared.token.Token.{Token}
use Rattle.etx_prims.specs.declared.command.Primitive.{Primitive}
use Rattle.etx_prims.specs.declared.command.Primitive.TheVariants as prims
use Rattle.etx_prims.specs.declared.assignments.ArithmeticKind.{ArithmeticKind}
use Rattle.etx_prims.specs.declared.assignments.ArithmeticKind.TheVariants as kinds
use Rattle.etx_prims.specs.declared.quantities.RegisterKind.{RegisterKind}
use Rattle.etx_prims.specs.declared.quantities.RegisterKind.TheVariants as registers
use Rattle.etx_keys.specs.declared.key.Key.{Key}
use Rattle.etx_keys.specs.declared.key.Key.TheVariants as key
use Rattle.etx_keys.specs.declared.class.Class.{Class}
use Rattle.etx_keys.specs.declared.class.Class.TheVariants as class
use Rattle.etx_keys.specs.Classes.{class_of}
use Rattle.etx_state.specs.declared.key.Val.{Val}
use Rattle.etx_state.specs.declared.key.Val.TheVariants as val
use Rattle.etx_state.specs.declared.key.Meaning.{Meaning}
use Rattle.etx_state.specs.declared.key.Meaning.TheVariants as means
use Rattle.etx_state.specs.declared.scan.AssignNumber.{AssignNumber}
use Rattle.etx_state.specs.declared.scan.AssignNumber.TheVariants as takes
use Rattle.etx_state.specs.declared.scan.AssignScan.TheVariants as assign
use Rattle.etx_state.specs.declared.scan.NumberFinish.TheVariants as finish
use Rattle.etx_state.specs.declared.scan.Scan.{Scan}
use Rattle.etx_state.specs.declared.scan.Scan.TheVariants as scan
use Rattle.etx_state.specs.declared.taker.Taker.{Taker}
use Rattle.etx_state.specs.declared.taker.Want.{Want}
use Rattle.etx_state.specs.declared.taker.Want.TheVariants as want
use Rattle.etx_state.specs.declared.taker.NumberScan.TheVariants as number
use Rattle.etx_state.specs.Reading.{number_at, glue_at}
use Rattle.etx_state.specs.Rests.{RestState}
use Rattle.etx_answers.specs.declared.plan.Did.TheVariants as did
use Rattle.etx_answers.specs.declared.plan.Move.TheVariants as move
use Rattle.etx_answers.specs.declared.plan.Plan.{Plan}
use Rattle.etx_answers.specs.declared.plan.Then.TheVariants as afterwards
use Rattle.etx_answers.specs.declared.plan.WordPlan.{WordPlan}
use Rattle.etx_answers.specs.declared.plan.WordPlan.TheVariants as plans
use Rattle.etx_numbers.specs.declared.words.WordSet.TheVariants as words
use Rattle.etx_numbers.specs.declared.words.Spelled.{Spelled}
use Rattle.etx_numbers.specs.declared.words.Spelled.TheVariants as spelled
use Rattle.etx_answers.specs.Answers.{Planned, planned, Finished, quiet, used}
use Rattle.etx_numbers.specs.Expressions.{number_row}
use Rattle.etx_answers.specs.Meanings.{has_category}
use Rattle.etx_numbers.specs.Numbers.{integer, plain_length, glue_want}
use Rattle.etx_numbers.specs.Taking.{amount_in, glue_in}
use Rattle.etx_numbers.specs.Words.{begins_word, found_by, letters_of}
use Rattle.etx_assign.specs.declared.arithmetic.Changed.{Changed}
use Rattle.etx_assign.specs.declared.arithmetic.Changed.TheVariants as changed
use Rattle.etx_assign.specs.Assignments.{Over, with_fitting, over, value_over, failing}

-- ---- what is changed

abbrev pub changed_kind : RegisterKind → Changed
changed_kind registers.Toks = changed.Nothing
changed_kind kind = changed.Register kind

abbrev pub changed_primitive : Primitive → Changed
changed_primitive (prims.IntParam p) = changed.Key (key.Int p)
changed_primitive (prims.DimenParam p) = changed.Key (key.Dimen p)
changed_primitive (prims.GlueParam p) = changed.Key (key.Glue p)
changed_primitive (prims.MuGlueParam p) = changed.Key (key.MuGlue p)
changed_primitive (prims.Register kind) = changed_kind kind
changed_primitive _ = changed.Nothing

abbrev pub changed_register : RegisterKind → ℕ → Changed
changed_register registers.Toks n = changed.Nothing
changed_register kind n = changed.Key (key.Register kind n)

unfoldable pub changed_of : Meaning → Changed
changed_of (means.Primitive p) = changed_primitive p
changed_of (means.Register kind n) = changed_register kind n
changed_of _ = changed.Nothing

-- the word `by` may come next
abbrev pub by_scan : ArithmeticKind → Key → Bool → Scan
by_scan kind k is_global = scan.Assign (assign.By kind is_global k)

abbrev pub taker_for : AssignNumber → Taker
taker_for f = record { outers = []; finish = finish.Assign f }

-- what can't be changed is dropped, with an error, and the assignment is over
abbrev pub refused : Over → Planned
refused o = record { rest = o.rest; plan = record { go = used; did = did.Error (record { text = codes "Other error"; is_back = false; inserted = o.kept }) } }

abbrev pub arithmetic_by : Changed → ArithmeticKind → Bool → RestState → Planned
arithmetic_by (changed.Key k) kind is_global r = planned r (move.Begin (by_scan kind k is_global))
arithmetic_by (changed.Register register) kind is_global r = planned r (move.Begin (scan.Number (number.Start integer) (taker_for (takes.Changed kind register is_global))))
arithmetic_by changed.Nothing kind is_global r = refused (over r)

unfoldable pub arithmetic_row : ArithmeticKind → Bool → Meaning → RestState → Planned
arithmetic_row kind is_global mm r = arithmetic_by (changed_of mm) kind is_global r

-- ---- what it is changed by

abbrev pub advance_want : Class → Want
advance_want class.Dimension = want.Dimension plain_length
advance_want class.Glue = glue_want false
advance_want class.MuGlue = glue_want true
advance_want _ = integer

unfoldable pub by_want : ArithmeticKind → Key → Want
by_want kinds.Advance k = advance_want (class_of k)
by_want kinds.Multiply k = integer
by_want kinds.Divide k = integer

abbrev pub change_taker : ArithmeticKind → Key → Bool → Taker
change_taker kind k is_global = taker_for (takes.Change kind k is_global)

abbrev pub amount_scan : ArithmeticKind → Key → Bool → Scan
amount_scan kind k is_global = scan.Number (number.Start (by_want kind k)) (change_taker kind k is_global)

-- the word may begin here; else the number begins with the token
unfoldable pub by_row : ArithmeticKind → Key → Bool → Token → Meaning → ℕ → RestState → Plan
by_row kind k is_global t mm line r =
    if has_category 10 mm then quiet (move.Stay (by_scan kind k is_global))
    else if begins_word words.By t then quiet (move.Letter (by_scan kind k is_global))
    else number_row (number.Start (by_want kind k)) (change_taker kind k is_global) t mm line r

abbrev pub by_word : Spelled → ArithmeticKind → Key → Bool → WordPlan
by_word spelled.Front kind k is_global = plans.Letter (by_scan kind k is_global)
by_word (spelled.Whole w) kind k is_global = plans.Found (quiet (move.Begin (amount_scan kind k is_global)))
by_word spelled.Nothing kind k is_global = plans.Lost (record { then = afterwards.More (amount_scan kind k is_global); did = did.Nothing })

unfoldable pub by_word_row : ArithmeticKind → Key → Bool → List Token → Token → WordPlan
by_word_row kind k is_global ls t = by_word (found_by words.By (letters_of (ls ++ t ∷ []))) kind k is_global

-- ---- the arithmetic

abbrev pub kept_number : ℤ → ℤ
kept_number n = int_max n (negsuc 2147483646)

-- the sum, from -(2^31-1) to 2^31-1
abbrev pub sum_of : ℤ → ℤ → ℤ
sum_of n m = int_min (kept_number (n +ℤ m)) (pos 2147483647)

abbrev pub normal : Amount → Amount
normal s = if is_zero s.size then record { size = pos 0; order = Normal } else s

-- of two stretches of one order the sum counts, else that of the greater order; nothing has no order
abbrev pub joined : Amount → Amount → Amount
joined s old =
    if rank s.order == rank old.order then record { size = sum_of s.size old.size; order = s.order }
    else if nat_lt (rank s.order) (rank old.order) && not (is_zero old.size) then old
    else s

abbrev pub stretch_of : Glue → Amount
stretch_of g = record { size = g.stretch; order = g.stretch_order }

abbrev pub shrink_of : Glue → Amount
shrink_of g = record { size = g.shrink; order = g.shrink_order }

unfoldable pub glue_sum : Glue → Glue → Glue
glue_sum g old = record {
  width = sum_of g.width old.width;
  stretch = (joined (normal (stretch_of g)) (stretch_of old)).size;
  shrink = (joined (normal (shrink_of g)) (shrink_of old)).size;
  stretch_order = (joined (normal (stretch_of g)) (stretch_of old)).order;
  shrink_order = (joined (normal (shrink_of g)) (shrink_of old)).order;
}

-- a product is at most so great in size
abbrev pub product_of : ℤ → ℤ → ℕ → Option ℤ
product_of n m most = if nat_le (unsigned_abs (n *ℤ m)) most then Some (n *ℤ m) else None

-- a quotient is cut off, and at most 2^31-1; there is none by 0
abbrev pub quotient_of : ℤ → ℤ → Option ℤ
quotient_of n m = if is_zero m then None else Some (int_min (int_div n m) (pos 2147483647))

unfoldable pub changed_number : ArithmeticKind → ℕ → ℤ → ℤ → Option ℤ
changed_number kinds.Advance most n by = Some (sum_of by n)
changed_number kinds.Multiply most n by = product_of n by most
changed_number kinds.Divide most n by = quotient_of n by

abbrev pub glue_from : Option ℤ → Option ℤ → Option ℤ → Glue → Option Glue
glue_from (Some width) (Some stretch) (Some shrink) g = Some (record g { width = width; stretch = stretch; shrink = shrink })
glue_from _ _ _ g = None

abbrev pub scaled_glue : ArithmeticKind → Glue → ℤ → Option Glue
scaled_glue kind g by = glue_from (changed_number kind 1073741823 g.width by) (changed_number kind 1073741823 g.stretch by) (changed_number kind 1073741823 g.shrink by) g

unfoldable pub changed_glue : ArithmeticKind → Glue → Quantity → Option Glue
changed_glue kinds.Advance g a = Some (glue_sum (glue_in a) g)
changed_glue kinds.Multiply g a = scaled_glue kinds.Multiply g (amount_in a)
changed_glue kinds.Divide g a = scaled_glue kinds.Divide g (amount_in a)

abbrev pub number_value : Option ℤ → Option Val
number_value n = option_map (λ m. val.Int (kept_number m)) n

abbrev pub is_glue : Class → Bool
is_glue class.Glue = true
is_glue class.MuGlue = true
is_glue _ = false

-- the greatest number of a class
abbrev pub greatest_of : Class → ℕ
greatest_of class.Dimension = 1073741823
greatest_of _ = 2147483647

abbrev pub changed_value : ArithmeticKind → Key → Quantity → RestState → Option Val
changed_value kind k a r =
    if is_glue (class_of k)
    then option_map val.Glue (changed_glue kind (glue_at r.values k) a)
    else number_value (changed_number kind (greatest_of (class_of k)) (number_at r.values k) (amount_in a))

-- a value that has no room isn't assigned, with an error
abbrev pub overflow : Over → Finished
overflow o = record { rest = o.rest; ended = failing (codes "Arithmetic overflow") (value_over o).ended }

abbrev pub change_by : Option Val → Key → Bool → RestState → Finished
change_by (Some x) k is_global r = value_over (over (with_fitting k is_global x r))
change_by None k is_global r = overflow (over r)

unfoldable pub change_taken : ArithmeticKind → Key → Bool → Quantity → RestState → Finished
change_taken kind k is_global a r = change_by (changed_value kind k a r) k is_global r

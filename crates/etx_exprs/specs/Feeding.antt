-- What a part makes of an expression of which some parts were fed.
use Rattle.std.specs.Prelude.{Bool, true, false, List, [], ◌∷◌, Option, Some, None, if◌then◌else◌}
use Rattle.etx_exprs.specs.declared.value.Value.{Value}
use Rattle.etx_exprs.specs.declared.value.ValueKind.{ValueKind}
use Rattle.etx_exprs.specs.declared.value.ValueKind.TheVariants.{Int}
use Rattle.etx_exprs.specs.declared.part.Part.{Part}
use Rattle.etx_exprs.specs.declared.part.Part.TheVariants as part
use Rattle.etx_exprs.specs.declared.part.Turn.{Turn}
use Rattle.etx_exprs.specs.declared.part.Turn.TheVariants.{More, Done, DoneBack}
use Rattle.etx_exprs.specs.declared.sum.Sign.{Sign}
use Rattle.etx_exprs.specs.declared.sum.Sign.TheVariants as sign
use Rattle.etx_exprs.specs.declared.level.Sum.{Sum}
use Rattle.etx_exprs.specs.declared.level.Sum.TheVariants.{Nothing, Before}
use Rattle.etx_exprs.specs.declared.level.Progress.{Progress}
use Rattle.etx_exprs.specs.declared.level.Progress.TheVariants.{Begins, Lone, Whole, Product, Times, Over, Scale}
use Rattle.etx_exprs.specs.declared.level.Level.{Level}
use Rattle.etx_exprs.specs.Values.{is_of, checked, product, quotient, scaled, normalized, sum_of}

-- the level of the innermost parenthesis that is open, or of the whole expression, and the levels around it, the innermost first
pub record ExprState : Type 0 where
  pub outer : List Level
  pub level : Level

abbrev pub fresh : ValueKind → Level
fresh kind = record { kind = kind; sum = Nothing; progress = Begins }

unfoldable pub started : ValueKind → ExprState
started kind = record { outer = []; level = fresh kind }

-- the kind of operand that is wanted; none where an operator is due
abbrev pub wanted_by : ValueKind → Progress → Option ValueKind
wanted_by kind Begins = Some kind
wanted_by kind (Times v) = Some Int
wanted_by kind (Over v) = Some Int
wanted_by kind (Scale v n) = Some Int
wanted_by kind (Lone v) = None
wanted_by kind (Whole v) = None
wanted_by kind (Product v n) = None

abbrev pub is_due : Progress → Bool
is_due Begins = false
is_due (Times v) = false
is_due (Over v) = false
is_due (Scale v n) = false
is_due (Lone v) = true
is_due (Whole v) = true
is_due (Product v n) = true

-- behind a factor
abbrev pub with_factor : Progress → Option Value → Progress
with_factor Begins f = Lone f
with_factor (Times v) f = Product v f
with_factor (Over v) f = Whole (quotient v f)
with_factor (Scale v n) f = Whole (scaled v n f)
with_factor (Lone v) f = Lone v
with_factor (Whole v) f = Whole v
with_factor (Product v n) f = Product v n

-- the value of the term so far
abbrev pub value_so_far : Progress → Option Value
value_so_far (Lone v) = v
value_so_far (Whole v) = v
value_so_far (Product v n) = product v n
value_so_far Begins = None
value_so_far (Times v) = None
value_so_far (Over v) = None
value_so_far (Scale v n) = None

-- the same where an operator stands behind it
abbrev pub value_begun : Progress → Option Value
value_begun (Lone v) = normalized v
value_begun (Whole v) = v
value_begun (Product v n) = product v n
value_begun Begins = None
value_begun (Times v) = None
value_begun (Over v) = None
value_begun (Scale v n) = None

-- the value of a level so far, and the same where a sign stands behind it
abbrev pub with_sum : Sum → Option Value → Option Value → Option Value
with_sum Nothing begun v = begun
with_sum (Before e s) begun v = sum_of s e v

abbrev pub level_value : Level → Option Value
level_value l = with_sum l.sum (value_so_far l.progress) (value_so_far l.progress)

abbrev pub level_begun : Level → Option Value
level_begun l = with_sum l.sum (value_begun l.progress) (value_so_far l.progress)

-- the level behind an operator
abbrev pub progress_at : Level → Progress → Level
progress_at l progress = record { kind = l.kind; sum = l.sum; progress = progress }

abbrev pub behind_sign : Sign → Level → Level
behind_sign s l = record { kind = l.kind; sum = Before (level_begun l) s; progress = Begins }

abbrev pub behind_times : Level → Level
behind_times l = progress_at l (Times (value_begun l.progress))

-- directly behind a product the division makes one scaling of both
abbrev pub divided_progress : Progress → Progress
divided_progress (Product v n) = Scale v n
divided_progress (Lone v) = Over (normalized v)
divided_progress (Whole v) = Over v
divided_progress Begins = Begins
divided_progress (Times v) = Times v
divided_progress (Over v) = Over v
divided_progress (Scale v n) = Scale v n

abbrev pub behind_divide : Level → Level
behind_divide l = progress_at l (divided_progress l.progress)

abbrev pub behind_factor : Level → Option Value → Level
behind_factor l f = progress_at l (with_factor l.progress f)

-- what is said of a part, and the expression behind it; a part that can't go on is not taken
pub record FedBy : Type 0 where
  pub turn : Turn
  pub state : ExprState

abbrev pub refused : ExprState → FedBy
refused s = record { turn = DoneBack; state = s }

abbrev pub on : List Level → Level → FedBy
on outer level = record { turn = More; state = record { outer = outer; level = level } }

abbrev pub operand_fed : Option ValueKind → ExprState → Value → FedBy
operand_fed None s v = refused s
operand_fed (Some kind) s v = if is_of kind v then on s.outer (behind_factor s.level (checked v)) else refused s

abbrev pub open_fed : Option ValueKind → ExprState → FedBy
open_fed None s = refused s
open_fed (Some kind) s = on (s.level ∷ s.outer) (fresh kind)

abbrev pub operator_fed : Bool → ExprState → Level → FedBy
operator_fed true s level = on s.outer level
operator_fed false s level = refused s

abbrev pub close_in : List Level → ExprState → FedBy
close_in [] s = refused s
close_in (l ∷ ls) s = on ls (behind_factor l (level_value s.level))

abbrev pub close_fed : Bool → ExprState → FedBy
close_fed false s = refused s
close_fed true s = close_in s.outer s

abbrev pub ended_in : List Level → Bool → Turn
ended_in [] true = Done
ended_in [] false = DoneBack
ended_in (l ∷ ls) due = DoneBack

abbrev pub relax_fed : ExprState → FedBy
relax_fed s = record { turn = ended_in s.outer (is_due s.level.progress); state = s }

abbrev pub wanted_of : ExprState → Option ValueKind
wanted_of s = wanted_by s.level.kind s.level.progress

unfoldable pub fed_of : ExprState → Part → FedBy
fed_of s (part.Operand v) = operand_fed (wanted_of s) s v
fed_of s part.Plus = operator_fed (is_due s.level.progress) s (behind_sign sign.Plus s.level)
fed_of s part.Minus = operator_fed (is_due s.level.progress) s (behind_sign sign.Minus s.level)
fed_of s part.Times = operator_fed (is_due s.level.progress) s (behind_times s.level)
fed_of s part.Divide = operator_fed (is_due s.level.progress) s (behind_divide s.level)
fed_of s part.Open = open_fed (wanted_of s) s
fed_of s part.Close = close_fed (is_due s.level.progress) s
fed_of s part.Relax = relax_fed s
fed_of s part.Other = refused s

-- the expression behind these parts, if each of them goes on
abbrev pub gone_on : Turn → ExprState → Option ExprState
gone_on More s = Some s
gone_on Done s = None
gone_on DoneBack s = None

abbrev pub next : Option ExprState → Part → Option ExprState
next None p = None
next (Some s) p = gone_on (fed_of s p).turn (fed_of s p).state

abbrev pub after : Option ExprState → List Part → Option ExprState
after s [] = s
after s (p ∷ ps) = after (next s p) ps

-- whether the parts that were taken are a whole expression: no parenthesis is open, and an operator is due
abbrev pub is_whole_in : List Level → Progress → Bool
is_whole_in [] progress = is_due progress
is_whole_in (l ∷ ls) progress = false

unfoldable pub is_whole : ExprState → Bool
is_whole s = is_whole_in s.outer s.level.progress

-- What a scan of a number, a dimension or glue decides, and how that is carried out with the one who takes the number.
use Rattle.std.specs.Prelude.{ℕ, ◌||◌, ℤ, pos, Bool, true, false, not, is_some, ◌&&◌, nat_lt, List, [], ◌∷◌, Option, Some, None, length, if◌then◌else◌}
use Rattle.etx_exprs.specs.declared.value.Value.{Value as Amount}
use Rattle.etx_exprs.specs.declared.value.Value.TheVariants as amount
use Rattle.etx_keys.specs.declared.key.Key.{Key}
use Rattle.etx_matter.specs.declared.end.End.{End}
use Rattle.etx_matter.specs.declared.end.End.TheVariants.{Capacity}
use Rattle.etx_matter.specs.declared.end.Limit.TheVariants.{Scans}
use Rattle.etx_matter.specs.declared.glue.GlueOrder.{GlueOrder}
use Rattle.etx_matter.specs.declared.glue.GlueOrder.TheVariants.{Normal}
use Rattle.etx_state.specs.declared.taker.NumberScan.{NumberScan}
use Rattle.etx_state.specs.declared.taker.Outer.{Outer}
use Rattle.etx_state.specs.declared.taker.Taker.{Taker}
use Rattle.etx_state.specs.declared.scan.NumberFinish.{NumberFinish}
use Rattle.etx_state.specs.declared.scan.NumberFinish.TheVariants as finish
use Rattle.etx_state.specs.declared.scan.ExpansionNumber.TheVariants as writes
use Rattle.etx_state.specs.declared.scan.Scan.TheVariants as scan
use Rattle.etx_state.specs.declared.scan.Value.{Value}
use Rattle.etx_state.specs.declared.scan.Value.TheVariants as value
use Rattle.etx_state.specs.Reading.{tokens_at}
use Rattle.etx_state.specs.Rests.{RestState}
use Rattle.etx_matter.specs.declared.token.Token.{Token}
use Rattle.etx_answers.specs.declared.read.Read.{Read}
use Rattle.etx_answers.specs.declared.read.Next.{Next}
use Rattle.etx_answers.specs.declared.read.Next.TheVariants as next
use Rattle.etx_answers.specs.declared.plan.Insert.{Insert}
use Rattle.etx_answers.specs.declared.plan.Insert.TheVariants as insert
use Rattle.etx_answers.specs.declared.plan.Did.{Did}
use Rattle.etx_answers.specs.declared.plan.Did.TheVariants as did
use Rattle.etx_answers.specs.declared.plan.Move.{Move}
use Rattle.etx_answers.specs.declared.plan.Move.TheVariants as move
use Rattle.etx_answers.specs.declared.plan.Plan.{Plan}
use Rattle.etx_answers.specs.declared.plan.Then.{Then}
use Rattle.etx_answers.specs.declared.plan.Then.TheVariants as afterwards
use Rattle.etx_answers.specs.declared.plan.Ended.{Ended}
use Rattle.etx_answers.specs.Answers.{ends}

-- ---- what may be decided

abbrev pub reads : Next → Read
reads n = record { next = n; is_back = false; error = None; outer = None; further = None }

-- the scan goes on so, and the token is used up
abbrev pub goes_on : NumberScan → Read
goes_on s = reads (next.Scan s)

-- a word begins with the token
abbrev pub letter : NumberScan → Read
letter s = reads (next.Letter s)

-- the number is whole
abbrev pub gives_order : Amount → GlueOrder → Read
gives_order a o = reads (next.Gives a o)

abbrev pub gives : Amount → Read
gives a = gives_order a Normal

abbrev pub list_read : Key → Read
list_read k = reads (next.List k)

abbrev pub reads_end : End → Read
reads_end e = reads (next.Ends e)

-- the token is read again
abbrev pub back : Read → Read
back r = record r { is_back = true }

-- the token is read again, if it is no space that belongs to the number
abbrev pub back_unless : Bool → Read → Read
back_unless is_space r = record r { is_back = not is_space }

-- with an error of this text
abbrev pub failing : List ℕ → Read → Read
failing text r = record r { error = Some text }

-- what is read now is for this outer scan, and in the end for that one
abbrev pub behind : Outer → Read → Read
behind o r = record r { outer = Some o }

abbrev pub behind_all : Outer → Read → Read
behind_all o r = record r { further = Some o }

-- ---- with the one who takes the number

-- an outer scan waits, where there is room: at most 10000 do
abbrev pub waits : Option Outer → Taker → Option Taker
waits None t = Some t
waits (Some o) t = if nat_lt (length t.outers) 10000 then Some (record t { outers = o ∷ t.outers }) else None

abbrev pub waits_if : Option Outer → Option Taker → Option Taker
waits_if o None = None
waits_if o (Some t) = waits o t

abbrev pub both_wait : Read → Taker → Option Taker
both_wait r t = waits_if r.outer (waits r.further t)

-- an error puts the token back itself
abbrev pub error_did : Bool → Option (List ℕ) → Did
error_did is_back None = did.Nothing
error_did is_back (Some text) = did.Error (record { text = text; is_back = is_back; inserted = None })

-- a list of tokens is read next, as it stands or not
abbrev pub kept_by : Bool → List Token → Insert
kept_by is_kept [] = insert.Nothing
kept_by true (t ∷ ts) = insert.Kept (t ∷ ts)
kept_by false (t ∷ ts) = insert.Text (t ∷ ts)

abbrev pub list_insert : Key → Bool → RestState → Insert
list_insert k is_kept r = kept_by is_kept (tokens_at r.values k)

abbrev pub zero_given : Taker → Then
zero_given t = afterwards.Gives (value.Number (amount.Int (pos 0)) Normal t)

-- \the takes a list of tokens; to others it is zero
abbrev pub list_by : NumberFinish → Key → Taker → RestState → Then
list_by (finish.Expansion (writes.The is_kept)) k t r = afterwards.Insert (list_insert k is_kept r)
list_by _ k t r = zero_given t

abbrev pub list_given : Key → Taker → RestState → Then
list_given k t r = list_by t.finish k t r

abbrev pub value_move : Bool → Bool → Value → Move
value_move is_back fails v = if is_back && not fails then move.GivesBack v else move.Gives v

abbrev pub move_then : Then → Move
move_then (afterwards.Insert i) = move.Used i
move_then (afterwards.Gives v) = move.Gives v
move_then (afterwards.More s) = move.Used insert.Nothing
move_then (afterwards.MoreBehind s u) = move.Used insert.Nothing
move_then (afterwards.Say text) = move.Used insert.Nothing

abbrev pub plan_next : Next → Bool → Option (List ℕ) → Taker → RestState → Plan
plan_next (next.Scan s) is_back error t r = record { go = move.Begin (scan.Number s t); did = error_did is_back error }
plan_next (next.Letter s) is_back error t r = record { go = move.Letter (scan.Number s t); did = error_did is_back error }
plan_next (next.Gives a o) is_back error t r = record { go = value_move is_back (is_some error) (value.Number a o t); did = error_did is_back error }
plan_next (next.List k) is_back error t r = record { go = move_then (list_given k t r); did = error_did is_back error }
plan_next (next.Ends e) is_back error t r = ends e

abbrev pub plan_with : Option Taker → Read → RestState → Plan
plan_with None read r = ends (Capacity Scans)
plan_with (Some t) read r = plan_next read.next read.is_back read.error t r

-- where a token was got
unfoldable pub read_plan : Taker → Read → RestState → Plan
read_plan t read r = plan_with (both_wait read t) read r

abbrev pub ended_at : End → Ended
ended_at e = record { then = afterwards.Insert insert.Nothing; did = did.End e }

abbrev pub ended_next : Next → Option (List ℕ) → Taker → RestState → Ended
ended_next (next.Scan s) error t r = record { then = afterwards.More (scan.Number s t); did = error_did false error }
ended_next (next.Letter s) error t r = record { then = afterwards.More (scan.Number s t); did = error_did false error }
ended_next (next.Gives a o) error t r = record { then = afterwards.Gives (value.Number a o t); did = error_did false error }
ended_next (next.List k) error t r = record { then = list_given k t r; did = error_did false error }
ended_next (next.Ends e) error t r = ended_at e

abbrev pub ended_with : Option Taker → Read → RestState → Ended
ended_with None read r = ended_at (Capacity Scans)
ended_with (Some t) read r = ended_next read.next read.error t r

-- where none was got
unfoldable pub read_ended : Taker → Read → RestState → Ended
read_ended t read r = ended_with (both_wait read t) read r

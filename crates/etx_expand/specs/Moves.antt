-- What an answer makes of the mouth. These few words are all that reaches the input, the stack and the count of steps.
use Rattle.std.specs.Prelude.{ℕ, zero, suc, ◌+◌, nat_le, Bool, true, false, List, [], ◌∷◌, ◌++◌, length, Option, Some, None}
use Rattle.etx_matter.specs.declared.token.Token.{Token}
use Rattle.etx_matter.specs.declared.deed.Audience.TheVariants.{LogAndTerminal}
use Rattle.etx_matter.specs.declared.deed.Deed.TheVariants as deed
use Rattle.etx_input.specs.declared.origin.Origin.{Origin}
use Rattle.etx_input.specs.declared.origin.Origin.TheVariants as origin
use Rattle.etx_input.specs.Levels.{with_list, line_number}
use Rattle.etx_state.specs.declared.scan.Scan.{Scan}
use Rattle.etx_state.specs.declared.scan.Entry.{Entry}
use Rattle.etx_state.specs.declared.scan.Entry.TheVariants as entry
use Rattle.etx_state.specs.Mouths.{Mouth, with_rest, with_input}
use Rattle.etx_answers.specs.declared.plan.Insert.{Insert}
use Rattle.etx_answers.specs.declared.plan.Insert.TheVariants as insert
use Rattle.etx_answers.specs.declared.plan.Failure.{Failure}
use Rattle.etx_answers.specs.declared.plan.Did.{Did}
use Rattle.etx_answers.specs.declared.plan.Did.TheVariants as did
use Rattle.etx_answers.specs.declared.plan.Move.{Move}
use Rattle.etx_answers.specs.declared.plan.Move.TheVariants as move
use Rattle.etx_answers.specs.declared.plan.Push.{Push}
use Rattle.etx_answers.specs.declared.plan.Push.TheVariants as push
use Rattle.etx_answers.specs.declared.plan.WordPlan.{WordPlan}
use Rattle.etx_answers.specs.declared.plan.WordPlan.TheVariants as words
use Rattle.etx_state.specs.declared.scan.Value.{Value}
use Rattle.etx_answers.specs.declared.plan.Then.{Then}
use Rattle.etx_answers.specs.declared.plan.Then.TheVariants as afterwards
use Rattle.etx_answers.specs.declared.plan.Turned.{Turned}
use Rattle.etx_answers.specs.declared.plan.Turned.TheVariants as turned
use Rattle.etx_answers.specs.Answers.{Planned, Begun, Finished}

-- the mouth behind a turn, and what the turn came to
pub record After : Type 0 where
  pub now : Mouth
  pub turned : Turned

abbrev pub after : Mouth → Turned → After
after m t = record { now = m; turned = t }

-- ---- the input, the stack and the count

-- a token that was put back is no step
abbrev pub charge_of : Origin → ℕ
charge_of origin.Fresh = 1
charge_of origin.Back = 0
charge_of origin.Unexpanded = 0
charge_of origin.Kept = 1

abbrev pub charged : ℕ → Mouth → Mouth
charged n m = record m { spent = m.spent + n }

abbrev pub read_next : Origin → List Token → Mouth → Mouth
read_next o ts m = with_input (with_list o ts m.input) m

abbrev pub put_back : Token → Mouth → Mouth
put_back t m = read_next origin.Back (t ∷ []) m

abbrev pub entered : Entry → Mouth → Mouth
entered e m = record m { entries = e ∷ m.entries }

-- a scan whose programme may go on so often for nothing
abbrev pub scanning : ℕ → Scan → Mouth → Mouth
scanning left s m = entered (entry.Scan left s) m

-- how often a programme may go on for nothing that a token began
abbrev pub most_stages : ℕ
most_stages = 7

unfoldable pub inserted : Insert → Mouth → Mouth
inserted insert.Nothing m = m
inserted (insert.Token t) m = read_next origin.Fresh (t ∷ []) m
inserted (insert.Text ts) m = read_next origin.Fresh ts m
inserted (insert.Kept ts) m = read_next origin.Kept ts m

-- ---- what is done beside

abbrev pub back_if : Bool → Token → Mouth → Mouth
back_if true t m = put_back t m
back_if false t m = m

abbrev pub insert_if : Option Token → Mouth → Mouth
insert_if None m = m
insert_if (Some t) m = read_next origin.Fresh (t ∷ []) m

-- the token is read again, and a fresh one before it
abbrev pub failed : Token → Failure → Mouth → Mouth
failed t f m = insert_if f.inserted (back_if f.is_back t m)

-- what is done beside is about a token, or about none
unfoldable pub beside : Token → Did → Mouth → Mouth
beside t did.Nothing m = m
beside t did.Space m = m
beside t (did.Error f) m = failed t f m
beside t (did.End e) m = m

unfoldable pub beside_value : Did → Mouth → Mouth
beside_value did.Nothing m = m
beside_value did.Space m = m
beside_value (did.Error f) m = insert_if f.inserted m
beside_value (did.End e) m = m

-- an error is reported with the number of the line that was read last
abbrev pub error_deed : List ℕ → Mouth → Turned
error_deed text m = turned.Deed (deed.Error text (line_number m.input) LogAndTerminal)

unfoldable pub turned_by : Did → Mouth → Turned
turned_by did.Nothing m = turned.Again
turned_by did.Space m = turned.Deed (deed.Space LogAndTerminal)
turned_by (did.Error f) m = error_deed f.text m
turned_by (did.End e) m = turned.End e

-- what is done beside, and what the turn comes to by it
abbrev pub done_beside : Token → Did → Mouth → After
done_beside t d m = after (beside t d m) (turned_by d m)

abbrev pub done_beside_value : Did → Mouth → After
done_beside_value d m = after (beside_value d m) (turned_by d m)

-- ---- what a scan's row, a start and a finisher decide

unfoldable pub made : ℕ → Token → Move → Mouth → Mouth
made left t (move.Used i) m = inserted i m
made left t (move.Begin s) m = scanning most_stages s m
made left t (move.Stay s) m = scanning left s m
made left t (move.Copied s) m = charged 1 (scanning left s m)
made left t (move.CopiedLast i) m = charged 1 (inserted i m)
made left t move.Back m = put_back t m
made left t (move.Gives v) m = entered (entry.Given left v) m
made left t (move.GivesBack v) m = entered (entry.Given left v) (put_back t m)
made left t (move.Hold by) m = entered (entry.Kept t by) m
made left t move.Unexpanded m = read_next origin.Unexpanded (t ∷ []) m
made left t (move.Letter s) m = entered (entry.Word left (t ∷ []) s) m

abbrev pub planned_turn : ℕ → Token → Planned → Mouth → After
planned_turn left t p m = done_beside t p.plan.did (made left t p.plan.go (with_rest p.rest m))

unfoldable pub pushed : Push → Mouth → Mouth
pushed (push.Insert i) m = inserted i m
pushed (push.Begin s) m = scanning most_stages s m

abbrev pub begun_turn : Token → Begun → Mouth → After
begun_turn t b m = done_beside t b.start.did (pushed b.start.push (with_rest b.rest m))

-- Each time that a programme goes on, it may do so once less for nothing, and when it may no more, that is a step. (No programme goes
-- on so often.)
abbrev pub more : ℕ → Scan → Mouth → Mouth
more zero s m = charged 1 (scanning zero s m)
more (suc n) s m = scanning n s m

abbrev pub more_given : ℕ → Value → Mouth → Mouth
more_given zero v m = charged 1 (entered (entry.Given zero v) m)
more_given (suc n) v m = entered (entry.Given n v) m

unfoldable pub followed : ℕ → Then → Mouth → Mouth
followed left (afterwards.Insert i) m = inserted i m
followed left (afterwards.More s) m = more left s m
followed left (afterwards.MoreBehind a s) m = scanning zero a (more left s m)
followed left (afterwards.Say text) m = entered (entry.Say text) m
followed left (afterwards.Gives v) m = more_given left v m

abbrev pub finished_turn : ℕ → Finished → Mouth → After
finished_turn left f m = done_beside_value f.ended.did (followed left f.ended.then (with_rest f.rest m))

-- ---- words

-- the letters of a word are read again, the first before the others
unfoldable pub letters_back : List Token → Mouth → Mouth
letters_back [] m = m
letters_back (t ∷ ts) m = put_back t (letters_back ts m)

-- where seven letters are kept, one more is a step (no word is so long)
abbrev pub charged_if : Bool → Mouth → Mouth
charged_if true m = charged 1 m
charged_if false m = m

abbrev pub letter_kept : ℕ → List Token → Token → Scan → Mouth → Mouth
letter_kept left ls t s m = entered (entry.Word left (ls ++ t ∷ []) s) (charged_if (nat_le 7 (length ls)) m)

-- what becomes of a word that is read
unfoldable pub word_turn : ℕ → List Token → Token → WordPlan → Mouth → After
word_turn left ls t (words.Letter s) m = after (letter_kept left ls t s m) turned.Again
word_turn left ls t (words.Found p) m = planned_turn left t (record { rest = m.rest; plan = p }) m
word_turn left ls t (words.Lost e) m = finished_turn left (record { rest = m.rest; ended = e }) (letters_back ls (put_back t m))

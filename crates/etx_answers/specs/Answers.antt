-- The few answers that rows are made of.
use Rattle.std.specs.Prelude.{ℕ, Bool, true, false, List, [], ◌∷◌, Option, Some, None}
use Rattle.etx_matter.specs.declared.token.Token.{Token}
use Rattle.etx_matter.specs.declared.end.End.{End}
use Rattle.etx_state.specs.declared.scan.Scan.{Scan}
use Rattle.etx_state.specs.Rests.{RestState}
use Rattle.etx_answers.specs.declared.plan.Insert.{Insert}
use Rattle.etx_answers.specs.declared.plan.Insert.TheVariants as insert
use Rattle.etx_answers.specs.declared.plan.Did.{Did}
use Rattle.etx_answers.specs.declared.plan.Did.TheVariants as did
use Rattle.etx_answers.specs.declared.plan.Move.{Move}
use Rattle.etx_answers.specs.declared.plan.Move.TheVariants as move
use Rattle.etx_answers.specs.declared.plan.Plan.{Plan}
use Rattle.etx_answers.specs.declared.plan.Push.{Push}
use Rattle.etx_answers.specs.declared.plan.Push.TheVariants as push
use Rattle.etx_answers.specs.declared.plan.Start.{Start}
use Rattle.etx_answers.specs.declared.plan.Then.{Then}
use Rattle.etx_answers.specs.declared.plan.Then.TheVariants as afterwards
use Rattle.etx_answers.specs.declared.plan.Ended.{Ended}

-- what a scan's row makes of the rest of the state, and its plan
pub record Planned : Type 0 where
  pub rest : RestState
  pub plan : Plan

-- what a start makes of the rest, and what begins
pub record Begun : Type 0 where
  pub rest : RestState
  pub start : Start

-- what a finisher makes of the rest, and what comes then
pub record Finished : Type 0 where
  pub rest : RestState
  pub ended : Ended

-- ---- scans

abbrev pub quiet : Move → Plan
quiet go = record { go = go; did = did.Nothing }

abbrev pub planned : RestState → Move → Planned
planned r go = record { rest = r; plan = quiet go }

-- a plan that leaves the rest as it is
abbrev pub reading : Plan → RestState → Planned
reading p r = record { rest = r; plan = p }

-- the token is used up, and the scan is over
abbrev pub used : Move
used = move.Used insert.Nothing

abbrev pub ends : End → Plan
ends e = record { go = used; did = did.End e }

-- an error after which the token is gone
abbrev pub fails : List ℕ → Move → Plan
fails text go = record { go = go; did = did.Error (record { text = text; is_back = false; inserted = None }) }

-- an error after which the token is read again
abbrev pub fails_back : List ℕ → Move → Plan
fails_back text go = record { go = go; did = did.Error (record { text = text; is_back = true; inserted = None }) }

-- an error after which this is read, and then the token again
abbrev pub fails_under : Token → List ℕ → Move → Plan
fails_under u text go = record { go = go; did = did.Error (record { text = text; is_back = true; inserted = Some u }) }

-- ---- starts

abbrev pub starting : Push → Start
starting p = record { push = p; did = did.Nothing }

abbrev pub begun : RestState → Push → Begun
begun r p = record { rest = r; start = starting p }

-- nothing begins
abbrev pub nothing : Push
nothing = push.Insert insert.Nothing

abbrev pub start_ends : End → Start
start_ends e = record { push = nothing; did = did.End e }

abbrev pub start_fails : List ℕ → Push → Start
start_fails text p = record { push = p; did = did.Error (record { text = text; is_back = false; inserted = None }) }

abbrev pub start_fails_back : List ℕ → Push → Start
start_fails_back text p = record { push = p; did = did.Error (record { text = text; is_back = true; inserted = None }) }

abbrev pub start_fails_under : Token → List ℕ → Push → Start
start_fails_under u text p = record { push = p; did = did.Error (record { text = text; is_back = true; inserted = Some u }) }

-- a scan that is over begins what a start begins
abbrev pub move_of : Push → Move
move_of (push.Insert i) = move.Used i
move_of (push.Begin s) = move.Begin s

abbrev pub plan_of : Start → Plan
plan_of s = record { go = move_of s.push; did = s.did }

-- ---- finishers

-- nothing is done beside
abbrev pub quiet_end : Then → Ended
quiet_end t = record { then = t; did = did.Nothing }

abbrev pub finished : RestState → Then → Finished
finished r t = record { rest = r; ended = quiet_end t }

abbrev pub value_ends : End → RestState → Finished
value_ends e r = record { rest = r; ended = record { then = afterwards.Insert insert.Nothing; did = did.End e } }

-- ---- what is read next

-- tokens that may be none
abbrev pub insert_of : List Token → Insert
insert_of [] = insert.Nothing
insert_of (t ∷ ts) = insert.Text (t ∷ ts)

-- a token that may be there
abbrev pub insert_token : Option Token → Insert
insert_token None = insert.Nothing
insert_token (Some t) = insert.Token t

-- What each turn makes smaller, so that turns come to an end where no step is taken: the weight of what waits in a mouth.
use Rattle.std.specs.Prelude.{◌≡◌, ℕ, ◌+◌, ◌-◌, ◌*◌, ◌<◌, ◌≤◌, ◌⊎◌, List, [], ◌∷◌, length}
use Rattle.etx_matter.specs.declared.token.Token.{Token}
use Rattle.etx_matter.specs.declared.deed.Deed.{Deed}
use Rattle.etx_matter.specs.declared.deed.Deed.TheVariants as deed
use Rattle.etx_input.specs.declared.origin.Origin.{Origin}
use Rattle.etx_input.specs.declared.origin.Origin.TheVariants as origin
use Rattle.etx_input.specs.declared.level.Level.{Level}
use Rattle.etx_input.specs.declared.level.Level.TheVariants as level
use Rattle.etx_input.specs.Levels.{InputState}
use Rattle.etx_state.specs.declared.scan.Entry.{Entry}
use Rattle.etx_state.specs.declared.scan.Entry.TheVariants as entry
use Rattle.etx_state.specs.Mouths.{Mouth}
use Rattle.etx_answers.specs.declared.plan.Turned.{Turned}
use Rattle.etx_answers.specs.declared.plan.Turned.TheVariants as turned
use Rattle.etx_expand.specs.declared.fetch.Idle.TheVariants as idle
use Rattle.etx_expand.specs.declared.fetch.Fetched.{Fetched}
use Rattle.etx_expand.specs.declared.fetch.Fetched.TheVariants as fetched
use Rattle.etx_expand.specs.Moves.{After, most_stages, turned_by}
use Rattle.etx_expand.specs.Turn.{Fetching}

-- ---- the weights, in their order

-- a file can say that it is over
abbrev pub file_weight : ℕ
file_weight = 1

-- what a turn of a row makes smaller where it takes no step
abbrev pub turn_weight : ℕ
turn_weight = 2

-- a text that is said next
abbrev pub say_weight : ℕ
say_weight = turn_weight

-- a value is given, and may become a text that is said
abbrev pub given_weight : ℕ
given_weight = say_weight + turn_weight

-- a scan can give a value, also where the token that ends it is put back, and with it the seven letters of a word at most
abbrev pub scan_weight : ℕ
scan_weight = given_weight + turn_weight * 8

-- each time that its programme may go on for nothing, a scan or a value can begin two scans more
abbrev pub stage_weight : ℕ
stage_weight = 2 * scan_weight

-- the most that a token begins
abbrev pub begun_weight : ℕ
begun_weight = scan_weight + stage_weight * most_stages

-- a token that was put back can begin that
abbrev pub back_weight : ℕ
back_weight = begun_weight + turn_weight

-- a token that is kept, or is due, is put back in the end
abbrev pub held_weight : ℕ
held_weight = back_weight + turn_weight

-- the letters of a word: each was a token that could be put back, and the first seven were kept for nothing
abbrev pub letters_weight : ℕ → ℕ
letters_weight n = begun_weight * n + turn_weight * (n - 7)

-- ---- what weighs

-- a fresh token weighs nothing, since it is a step
abbrev pub tokens_weight : Origin → List Token → ℕ
tokens_weight origin.Fresh ts = 0
tokens_weight origin.Back ts = back_weight * length ts
tokens_weight origin.Unexpanded ts = back_weight * length ts
tokens_weight origin.Kept ts = 0

abbrev pub level_weight : Level → ℕ
level_weight (level.File f) = file_weight
level_weight (level.List l) = tokens_weight l.origin l.rest

abbrev pub levels_weight : List Level → ℕ
levels_weight [] = 0
levels_weight (l ∷ ls) = level_weight l + levels_weight ls

abbrev pub input_weight : InputState → ℕ
input_weight i = levels_weight i.levels

abbrev pub entry_weight : Entry → ℕ
entry_weight (entry.Scan left s) = scan_weight + stage_weight * left
entry_weight (entry.Given left v) = given_weight + stage_weight * left
entry_weight (entry.Kept token by) = held_weight
entry_weight (entry.Due token) = held_weight
entry_weight (entry.Say text) = say_weight
entry_weight (entry.Word left letters s) = scan_weight + stage_weight * left + letters_weight (length letters)

abbrev pub entries_weight : List Entry → ℕ
entries_weight [] = 0
entries_weight (e ∷ es) = entry_weight e + entries_weight es

abbrev pub weight : Mouth → ℕ
weight m = input_weight m.input + entries_weight m.entries

-- ---- what a turn does

-- a step was taken, or the weight fell by this much at least
abbrev pub Falls : ℕ → Mouth → Mouth → Type 0
Falls n old new = (old.spent < new.spent) ⊎ ((new.spent ≡ old.spent) × (weight new + n ≤ weight old))

-- an error is free, since a job ends at the hundredth; no turn creates a file
abbrev pub FallsBy : Deed → Mouth → Mouth → Type 0
FallsBy (deed.Fresh audience) old new = Falls 1 old new
FallsBy (deed.Space audience) old new = Falls 1 old new
FallsBy (deed.Text bytes audience) old new = Falls 1 old new
FallsBy (deed.Error text line audience) old new = Unit {0}
FallsBy (deed.Create name) old new = ⊥

-- a turn ends the job or reports an error, or it takes a step or makes the weight smaller
abbrev pub Comes : Turned → Mouth → Mouth → Type 0
Comes turned.Again old new = Falls 1 old new
Comes (turned.Deed d) old new = FallsBy d old new
Comes (turned.End e) old new = Unit {0}

-- EACH TURN goes on, takes no step back, and takes two steps at most
pub record Goes (old : Mouth) (a : After) : Type 0 where
  pub comes : Comes a.turned old a.now
  pub forth : old.spent ≤ a.now.spent
  pub few : a.now.spent ≤ old.spent + 2

-- ---- what was fetched was paid for

-- so many steps were taken at most, and none back
pub record Steps (most : ℕ) (old new : Mouth) : Type 0 where
  pub forth : old.spent ≤ new.spent
  pub few : new.spent ≤ old.spent + most

-- a token was paid for, so that it may be put back; else the turn goes on
abbrev pub PaidFor : Fetched → Mouth → Mouth → Type 0
PaidFor (fetched.Token t mm) old new = Falls back_weight old new
PaidFor (fetched.Idle (idle.Expands t what)) old new = Falls back_weight old new
PaidFor (fetched.Idle (idle.Over d)) old new = Comes (turned_by d new) old new
PaidFor (fetched.Idle (idle.Cut text)) old new = Unit {0}

pub record PaysFor (old : Mouth) (f : Fetching) : Type 0 where
  pub paid : PaidFor f.fetched old f.now
  pub steps : Steps 1 old f.now

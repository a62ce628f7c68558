-- What holds of a job's history: that the log has what was said, that no other file is created or written, and that none but the
-- job's own is asked for.
use Rattle.std.proofs.Common.{◌≡◌, ℕ, zero, suc, ◌+◌, Bool, true, false, cond, nat_lt, List, [], ◌∷◌, ◌++◌, Option, Some, None, refl, sym, ◌∙◌, ap, subst, append_assoc, arith, codes}
use Rattle.std.proofs.lemmas.List.{append-nil}
use Rattle.etx_outside.specs.Entries.{Asked, Made, Byte, Shown, History, said, bytes_to, shown}
use Rattle.etx_outside.proofs.Fronts.{said-shown}
use Rattle.etx_outside.proofs.Histories.{said-append, said-bytes_to}
use Rattle.etx_settle.specs.Deeds.{PenState, log_of, entries_if, written_by, is_shown_to, inside_line, error_text, text_written, error_reported, file_made, deed_entries, pen_after, entries}
use Rattle.etx_matter.specs.declared.deed.Deed.{Deed}
use Rattle.etx_matter.specs.declared.deed.Deed.TheVariants.{Fresh, Space, Text, Error, Create}
use Rattle.etx_matter.specs.declared.end.End.{End}
use Rattle.etx_matter.specs.declared.end.End.TheVariants as end
use Rattle.etx_mouth.specs.declared.yields.Yield.{Yield}
use Rattle.etx_mouth.specs.declared.yields.Yield.TheVariants.{Quiet, Act, Load, Done}
use Rattle.etx_outside.specs.Entries.{files_after}
use Rattle.etx_outside.specs.Loading.{load_of}
use Rattle.etx_outside.specs.declared.tree.Loaded.{Loaded}
use Rattle.etx_outside.specs.declared.tree.Loaded.TheVariants as loaded
use Rattle.etx_state.specs.Mouths.{Mouth}
use Rattle.etx_answers.specs.declared.plan.Turned.{Turned as Came}
use Rattle.etx_answers.specs.declared.plan.Turned.TheVariants as came
use Rattle.etx_mouth.specs.declared.mouth.Source.{Source}
use Rattle.etx_mouth.specs.declared.mouth.Source.TheVariants.{Unasked, Absent, Refused, Reading}
use Rattle.etx_mouth.specs.Mouths.{MouthState}
use Rattle.etx_mouth.specs.Machine.{machine_turn}
use Rattle.etx_mouth.specs.Errors.{is_error}
use Rattle.etx_job.specs.Errors.{most_errors}
use Rattle.etx_mouth.specs.Turn.{turn_of, line_number_of, yield_of, source_turn, answered, resumed, first_mouth}
use Rattle.etx_job.specs.Words.{log_name}
use Rattle.etx_job.specs.Chain.{Start, World, with_deeds, closing, ended, with_error, counted, handled, turned_on, step_open, step_from, step, opening, chain}
use Rattle.etx_job.specs.Texts.{added_to, OnlyTo, OnlyMakes, OnlyAsks, is_told, AllTold}
use Rattle.etx_mouth.proofs.Falling.{turn_makes_nothing}
use Rattle.etx_job.proofs.Logs.{InLog, added-append, added-text, written_in, deed_in, deeds_in, chain_in}

-- what is asked of a deed: of a text that it goes to where it may, and of a file that it may be created
abbrev Fine : (Bool → Type 0) → (List ℕ → Type 0) → Deed → Type 0
Fine Allowed Makes (Fresh who) = Allowed (is_shown_to who)
Fine Allowed Makes (Space who) = Allowed (is_shown_to who)
Fine Allowed Makes (Text text who) = Allowed (is_shown_to who)
Fine Allowed Makes (Error text line who) = Allowed (is_shown_to who)
Fine Allowed Makes (Create name) = Makes name

module _ (log : List ℕ) (Holds : History → Type 0) (Allowed : Bool → Type 0) (both : Allowed true) (Makes : List ℕ → Type 0) (Named : List ℕ → Type 0)
    (with_text : (h : History) (text : List ℕ) (is : Bool) → Allowed is → Holds h → Holds (h ++ (bytes_to log text ++ entries_if is (shown text))))
    (with_made : (h : History) (name : List ℕ) → Makes name → Holds h → Holds (h ++ Made name ∷ []))
    (with_asked : (h : History) (name : List ℕ) → Named name → Holds h → Holds (h ++ Asked name ∷ [])) where
  text_holds : (p : PenState) (h : History) (text : List ℕ) (is : Bool) → Allowed is → InLog log p h → Holds h → Holds (h ++ written_by p.created (log_of p.created) text is)
  text_holds p h text is fine i holds = subst (λ (g : History). Holds (h ++ g)) (sym (written_in log p h text is i)) (with_text h text is fine holds)

  deed_holds : (p : PenState) (h : History) (d : Deed) → Fine Allowed Makes d → InLog log p h → Holds h → Holds (h ++ deed_entries p d)
  unfolding text_written error_reported file_made
  deed_holds p h (Fresh who) fine i holds = text_holds p h (inside_line p.at_start (codes "\n")) (is_shown_to who) fine i holds
  deed_holds p h (Space who) fine i holds = text_holds p h (inside_line p.at_start (codes " ")) (is_shown_to who) fine i holds
  deed_holds p h (Text text who) fine i holds = text_holds p h text (is_shown_to who) fine i holds
  deed_holds p h (Error text line who) fine i holds = text_holds p h (error_text p.at_start text line) (is_shown_to who) fine i holds
  deed_holds p h (Create name) fine i holds = with_made h name fine holds

  abbrev EachAllowed : List Deed → Type 0
  EachAllowed [] = Unit {0}
  EachAllowed (d ∷ ds) = Fine Allowed Makes d × EachAllowed ds

  deeds_hold : (ds : List Deed) (p : PenState) (h : History) → EachAllowed ds → InLog log p h → Holds h → Holds (h ++ entries p ds)
  deeds_hold [] p h fine i holds = subst Holds (sym (append-nil h)) holds
  deeds_hold (d ∷ ds) p h fine i holds =
      subst
      Holds
      (append_assoc h (deed_entries p d) (entries (pen_after p d) ds))
      (deeds_hold ds (pen_after p d) (h ++ deed_entries p d) fine.1 (deed_in log p h d i) (deed_holds p h d fine.0 i holds))

  closing_allowed : (e : End) (line : ℕ) → EachAllowed (closing e line)
  closing_allowed end.Ended line = (both, (both, tt))
  closing_allowed (end.Fatal why) line = (both, (both, (both, (both, tt))))
  closing_allowed end.Hundred line = (both, (both, (both, (both, tt))))
  closing_allowed (end.Capacity limit) line = (both, (both, (both, tt)))
  closing_allowed end.Spent line = (both, (both, (both, (both, tt))))
  closing_allowed end.Unbuilt line = (both, (both, (both, (both, tt))))

  ended_holds : (e : End) (w : World) → InLog log w.pen w.trace → Holds w.trace → Holds (ended e w).trace
  ended_holds e w i holds = deeds_hold (closing e (line_number_of w.mouth)) w.pen w.trace (closing_allowed e (line_number_of w.mouth)) i holds

  counted_holds : (b : Bool) (w : World) → InLog log w.pen w.trace → Holds w.trace → Holds (counted b w).trace
  counted_holds false w i holds = holds
  counted_holds true w i holds = elim (nat_lt (w.errors + 1) most_errors) as (λ b. Holds (cond b (with_error w) (ended end.Hundred (with_error w))).trace) [
    | true ↦ holds
    | false ↦ ended_holds end.Hundred (with_error w) i holds
  ]

  handled_holds : (start : Start) (w : World) (y : Yield) → ((d : Deed) → y ≡ Act d → Fine Allowed Makes d) → ((name : List ℕ) → y ≡ Load name → Named name) → InLog log w.pen w.trace → Holds w.trace → Holds (handled start w y).trace
  handled_holds start w Quiet fine named i holds = holds
  handled_holds start w (Act d) fine named i holds = counted_holds (is_error d) (with_deeds (d ∷ []) w) (deeds_in log (d ∷ []) w.pen w.trace i) (deeds_hold (d ∷ []) w.pen w.trace (fine d refl, tt) i holds)
  handled_holds start w (Load name) fine named i holds = with_asked w.trace name (named name refl) holds
  handled_holds start w (Done e) fine named i holds = ended_holds e w i holds

  open_holds : (start : Start) (w : World) → ((d : Deed) → (turn_of w.mouth).did ≡ Act d → Fine Allowed Makes d) → ((name : List ℕ) → (turn_of w.mouth).did ≡ Load name → Named name) → InLog log w.pen w.trace → Holds w.trace → Holds (step_open start w).trace
  open_holds start w fine named i holds =
      elim (nat_lt start.job.budget (turn_of w.mouth).now.machine.spent) as (λ b. Holds (cond b (ended end.Spent w) (handled start (turned_on w) (turn_of w.mouth).did)).trace) [
        | true ↦ ended_holds end.Spent w i holds
        | false ↦ handled_holds start (turned_on w) (turn_of w.mouth).did fine named i holds
      ]

  pub step_holds : (start : Start) (w : World) → ((d : Deed) → (turn_of w.mouth).did ≡ Act d → Fine Allowed Makes d) → ((name : List ℕ) → (turn_of w.mouth).did ≡ Load name → Named name) → InLog log w.pen w.trace → Holds w.trace → Holds (step start w).trace
  unfolding step
  step_holds start w fine named i holds = by w.end
    where
      by : (o : Option End) → Holds (step_from start w o).trace
      by None = open_holds start w fine named i holds
      by (Some e) = holds

abbrev AnyText : Bool → Type 0
AnyText b = Unit {0}

abbrev AnyName : List ℕ → Type 0
AnyName name = Unit {0}

any_fine : (d : Deed) → Fine AnyText AnyName d
any_fine (Fresh who) = tt
any_fine (Space who) = tt
any_fine (Text text who) = tt
any_fine (Error text line who) = tt
any_fine (Create name) = tt

-- ---- the log has what was said

module _ (log : List ℕ) where
  abbrev IsSaid : History → Type 0
  IsSaid h = added_to log h ≡ said h

  abbrev IsBoth : Bool → Type 0
  IsBoth b = b ≡ true

  said-text : (h : History) (text : List ℕ) → said (h ++ (bytes_to log text ++ shown text)) ≡ said h ++ text
  said-text h text =
      said-append h (bytes_to log text ++ shown text)
      ∙ ap (λ (l : List ℕ). said h ++ l) (said-append (bytes_to log text) (shown text) ∙ ap (λ (l : List ℕ). l ++ said (shown text)) (said-bytes_to log text) ∙ said-shown text)

  said_text : (h : History) (text : List ℕ) (is : Bool) → IsBoth is → IsSaid h → IsSaid (h ++ (bytes_to log text ++ entries_if is (shown text)))
  said_text h text is both same =
      added-text log h text is
      ∙ ap (λ (l : List ℕ). l ++ text) same
      ∙ sym (ap (λ b. said (h ++ (bytes_to log text ++ entries_if b (shown text)))) both ∙ said-text h text)

  said_fine : (d : Deed) → is_told d ≡ true → Fine IsBoth AnyName d
  said_fine (Fresh who) is = is
  said_fine (Space who) is = is
  said_fine (Text text who) is = is
  said_fine (Error text line who) is = is
  said_fine (Create name) is = tt

  said_made : (h : History) (name : List ℕ) → AnyName name → IsSaid h → IsSaid (h ++ Made name ∷ [])
  said_made h name any same = added-append log h (Made name ∷ []) ∙ append-nil (added_to log h) ∙ same ∙ sym (said-append h (Made name ∷ []) ∙ append-nil (said h))

  said_asked : (h : History) (name : List ℕ) → AnyName name → IsSaid h → IsSaid (h ++ Asked name ∷ [])
  said_asked h name any same = added-append log h (Asked name ∷ []) ∙ append-nil (added_to log h) ∙ same ∙ sym (said-append h (Asked name ∷ []) ∙ append-nil (said h))

pub log_said : (start : Start) (n : ℕ) → AllTold start n → added_to (log_name start.job.name) (chain start n).trace ≡ said (chain start n).trace
unfolding chain opening file_made
log_said start zero all = refl
log_said start (suc n) all =
    let log = log_name start.job.name in
    step_holds
    log
    (IsSaid log)
    (IsBoth log)
    refl
    AnyName
    AnyName
    (said_text log)
    (said_made log)
    (said_asked log)
    start
    (chain start n)
    (λ d is. said_fine log d (all n d (omega arith) is))
    (λ name is. tt)
    (chain_in start n)
    (log_said start n (λ m d lt is. all m d (omega (arith, lt)) is))

-- ---- no other file is written

module _ (log : List ℕ) where
  only-append : (g h : History) → OnlyTo log g → OnlyTo log h → OnlyTo log (g ++ h)
  only-append [] h first then = then
  only-append (Asked q ∷ g) h first then = only-append g h first then
  only-append (Made q ∷ g) h first then = only-append g h first then
  only-append (Byte q b ∷ g) h first then = (first.0, only-append g h first.1 then)
  only-append (Shown b ∷ g) h first then = only-append g h first then

  only-bytes_to : (bytes : List ℕ) → OnlyTo log (bytes_to log bytes)
  only-bytes_to [] = tt
  only-bytes_to (b ∷ bytes) = (refl, only-bytes_to bytes)

  only-shown : (is : Bool) (bytes : List ℕ) → OnlyTo log (entries_if is (shown bytes))
  only-shown false bytes = tt
  only-shown true [] = tt
  only-shown true (b ∷ bytes) = only-shown true bytes

  only_text : (h : History) (text : List ℕ) (is : Bool) → AnyText is → OnlyTo log h → OnlyTo log (h ++ (bytes_to log text ++ entries_if is (shown text)))
  only_text h text is fine only = only-append h (bytes_to log text ++ entries_if is (shown text)) only (only-append (bytes_to log text) (entries_if is (shown text)) (only-bytes_to text) (only-shown is text))

  only_made_too : (h : History) (name : List ℕ) → AnyName name → OnlyTo log h → OnlyTo log (h ++ Made name ∷ [])
  only_made_too h name any only = only-append h (Made name ∷ []) only tt

  only_asked : (h : History) (name : List ℕ) → AnyName name → OnlyTo log h → OnlyTo log (h ++ Asked name ∷ [])
  only_asked h name any only = only-append h (Asked name ∷ []) only tt

pub only_log : (start : Start) (n : ℕ) → OnlyTo (log_name start.job.name) (chain start n).trace
unfolding chain opening file_made
only_log start zero = tt
only_log start (suc n) =
    let log = log_name start.job.name in
    step_holds
    log
    (OnlyTo log)
    AnyText
    tt
    AnyName
    AnyName
    (only_text log)
    (only_made_too log)
    (only_asked log)
    start
    (chain start n)
    (λ d is. any_fine d)
    (λ name is. tt)
    (chain_in start n)
    (only_log start n)

-- ---- no other file is created

module _ (log : List ℕ) where
  abbrev IsLog : List ℕ → Type 0
  IsLog q = q ≡ log

  makes-append : (g h : History) → OnlyMakes log g → OnlyMakes log h → OnlyMakes log (g ++ h)
  makes-append [] h first then = then
  makes-append (Asked q ∷ g) h first then = makes-append g h first then
  makes-append (Made q ∷ g) h first then = (first.0, makes-append g h first.1 then)
  makes-append (Byte q b ∷ g) h first then = makes-append g h first then
  makes-append (Shown b ∷ g) h first then = makes-append g h first then

  makes-bytes_to : (bytes : List ℕ) → OnlyMakes log (bytes_to log bytes)
  makes-bytes_to [] = tt
  makes-bytes_to (b ∷ bytes) = makes-bytes_to bytes

  makes-shown : (is : Bool) (bytes : List ℕ) → OnlyMakes log (entries_if is (shown bytes))
  makes-shown false bytes = tt
  makes-shown true [] = tt
  makes-shown true (b ∷ bytes) = makes-shown true bytes

  makes_text : (h : History) (text : List ℕ) (is : Bool) → AnyText is → OnlyMakes log h → OnlyMakes log (h ++ (bytes_to log text ++ entries_if is (shown text)))
  makes_text h text is any only = makes-append h (bytes_to log text ++ entries_if is (shown text)) only (makes-append (bytes_to log text) (entries_if is (shown text)) (makes-bytes_to text) (makes-shown is text))

  makes_made : (h : History) (q : List ℕ) → IsLog q → OnlyMakes log h → OnlyMakes log (h ++ Made q ∷ [])
  makes_made h q is only = makes-append h (Made q ∷ []) only (is, tt)

  makes_asked : (h : History) (q : List ℕ) → AnyName q → OnlyMakes log h → OnlyMakes log (h ++ Asked q ∷ [])
  makes_asked h q any only = makes-append h (Asked q ∷ []) only tt

  -- no turn creates a file: the log was there before the first one
  turn_fine : (v : MouthState) (d : Deed) → (turn_of v).did ≡ Act d → Fine AnyText IsLog d
  turn_fine v (Fresh who) is = tt
  turn_fine v (Space who) is = tt
  turn_fine v (Text text who) is = tt
  turn_fine v (Error text line who) is = tt
  turn_fine v (Create name) is = absurd (turn_makes_nothing v name is)

pub only_made : (start : Start) (n : ℕ) → OnlyMakes (log_name start.job.name) (chain start n).trace
unfolding chain opening file_made
only_made start zero = (refl, tt)
only_made start (suc n) =
    let log = log_name start.job.name in
    step_holds
    log
    (OnlyMakes log)
    AnyText
    tt
    (IsLog log)
    AnyName
    (makes_text log)
    (makes_made log)
    (makes_asked log)
    start
    (chain start n)
    (λ d is. turn_fine log (chain start n).mouth d is)
    (λ name is. tt)
    (chain_in start n)
    (only_made start n)

-- ---- no other file is asked for

abbrev Named : List ℕ → Source → Type 0
Named name (Unasked q) = q ≡ name
Named name (Absent q) = Unit {0}
Named name Refused = Unit {0}
Named name Reading = Unit {0}

yield_asks_not : (t : Came) (q : List ℕ) → yield_of t ≡ Load q → ⊥
yield_asks_not came.Again q is = cc
yield_asks_not (came.Deed d) q is = cc
yield_asks_not (came.End e) q is = cc

source_asks : (name q : List ℕ) (s : Source) (m : Mouth) → Named name s → (source_turn s m).did ≡ Load q → q ≡ name
source_asks name q (Unasked first) m named is = let same : q ≡ first = cc in same ∙ named
source_asks name q (Absent first) m named is = cc
source_asks name q Refused m named is = cc
source_asks name q Reading m named is = absurd (yield_asks_not (machine_turn m).turned q is)

source_named : (name : List ℕ) (s : Source) (m : Mouth) → Named name (source_turn s m).now.source
source_named name (Unasked first) m = tt
source_named name (Absent first) m = tt
source_named name Refused m = tt
source_named name Reading m = tt

answered_named : (name q : List ℕ) (l : Loaded) (m : Mouth) → Named name (answered q l m).source
answered_named name q loaded.Absent m = tt
answered_named name q loaded.TooLong m = tt
answered_named name q (loaded.Bytes text) m = tt

module _ (name : List ℕ) where
  turn_asks_for : (v : MouthState) (q : List ℕ) → Named name v.source → (turn_of v).did ≡ Load q → q ≡ name
  unfolding turn_of
  turn_asks_for v q named is = source_asks name q v.source v.machine named is

  turn_named : (v : MouthState) → Named name (turn_of v).now.source
  unfolding turn_of
  turn_named v = source_named name v.source v.machine

  resumed_named : (q : List ℕ) (v : MouthState) (l : Loaded) → Named name (resumed q v l).source
  unfolding resumed
  resumed_named q v l = answered_named name q l v.machine

  counted_named : (b : Bool) (w : World) → Named name w.mouth.source → Named name (counted b w).mouth.source
  counted_named false w named = named
  counted_named true w named = elim (nat_lt (w.errors + 1) most_errors) as (λ b. Named name (cond b (with_error w) (ended end.Hundred (with_error w))).mouth.source) [ true ↦ named | false ↦ named ]

  handled_named : (start : Start) (w : World) (y : Yield) → Named name w.mouth.source → Named name (handled start w y).mouth.source
  handled_named start w Quiet named = named
  handled_named start w (Act d) named = counted_named (is_error d) (with_deeds (d ∷ []) w) named
  handled_named start w (Load q) named = resumed_named q w.mouth (load_of (files_after w.trace start.files q))
  handled_named start w (Done e) named = named

  step_named : (start : Start) (w : World) → Named name w.mouth.source → Named name (step start w).mouth.source
  unfolding step
  step_named start w named = by w.end
    where
      open_named : Named name (step_open start w).mouth.source
      open_named =
          elim (nat_lt start.job.budget (turn_of w.mouth).now.machine.spent) as (λ b. Named name (cond b (ended end.Spent w) (handled start (turned_on w) (turn_of w.mouth).did)).mouth.source) [
            | true ↦ named
            | false ↦ handled_named start (turned_on w) (turn_of w.mouth).did (turn_named w.mouth)
          ]

      by : (o : Option End) → Named name (step_from start w o).mouth.source
      by None = open_named
      by (Some e) = named

chain_named : (start : Start) (n : ℕ) → Named start.job.name (chain start n).mouth.source
unfolding chain opening first_mouth
chain_named start zero = refl
chain_named start (suc n) = step_named start.job.name start (chain start n) (chain_named start n)

module _ (name : List ℕ) where
  abbrev Is : List ℕ → Type 0
  Is q = q ≡ name

  asks-append : (g h : History) → OnlyAsks name g → OnlyAsks name h → OnlyAsks name (g ++ h)
  asks-append [] h first then = then
  asks-append (Asked q ∷ g) h first then = (first.0, asks-append g h first.1 then)
  asks-append (Made q ∷ g) h first then = asks-append g h first then
  asks-append (Byte q b ∷ g) h first then = asks-append g h first then
  asks-append (Shown b ∷ g) h first then = asks-append g h first then

  asks-bytes_to : (log bytes : List ℕ) → OnlyAsks name (bytes_to log bytes)
  asks-bytes_to log [] = tt
  asks-bytes_to log (b ∷ bytes) = asks-bytes_to log bytes

  asks-shown : (is : Bool) (bytes : List ℕ) → OnlyAsks name (entries_if is (shown bytes))
  asks-shown false bytes = tt
  asks-shown true [] = tt
  asks-shown true (b ∷ bytes) = asks-shown true bytes

  asks_text : (log : List ℕ) (h : History) (text : List ℕ) (is : Bool) → AnyText is → OnlyAsks name h → OnlyAsks name (h ++ (bytes_to log text ++ entries_if is (shown text)))
  asks_text log h text is any only = asks-append h (bytes_to log text ++ entries_if is (shown text)) only (asks-append (bytes_to log text) (entries_if is (shown text)) (asks-bytes_to log text) (asks-shown is text))

  asks_made : (h : History) (q : List ℕ) → AnyName q → OnlyAsks name h → OnlyAsks name (h ++ Made q ∷ [])
  asks_made h q any only = asks-append h (Made q ∷ []) only tt

  asks_asked : (h : History) (q : List ℕ) → Is q → OnlyAsks name h → OnlyAsks name (h ++ Asked q ∷ [])
  asks_asked h q is only = asks-append h (Asked q ∷ []) only (is, tt)

pub only_asks : (start : Start) (n : ℕ) → OnlyAsks start.job.name (chain start n).trace
unfolding chain opening file_made
only_asks start zero = tt
only_asks start (suc n) =
    let log = log_name start.job.name in
    let name = start.job.name in
    step_holds
    log
    (OnlyAsks name)
    AnyText
    tt
    AnyName
    (Is name)
    (asks_text name log)
    (asks_made name)
    (asks_asked name)
    start
    (chain start n)
    (λ d is. any_fine d)
    (λ q is. turn_asks_for name (chain start n).mouth q (chain_named start n) is)
    (chain_in start n)
    (only_asks start n)

-- What a job writes to its log.
use Rattle.std.proofs.Common.{◌≡◌, ℕ, zero, suc, ◌+◌, ◌-◌, Bool, true, false, ◌==◌, ◌||◌, cond, nat_lt, nat_eq, List, [], ◌∷◌, ◌++◌, length, slice_get, Option, Some, None, refl, sym, ◌∙◌, ap, subst, append_assoc, arith, codes}
use Rattle.std.proofs.lemmas.List.{append-nil}
use Rattle.std.proofs.lemmas.Slice.Eq.{bytes_eq-Decides}
use Rattle.std.specs.Cmp.Lexicographic.{pointwise}
use Rattle.etx_outside.specs.Entries.{Asked, Made, Byte, Shown, History, bytes_to, shown}
use Rattle.etx_settle.specs.Deeds.{PenState, log_of, is_among, entries_if, written_by, is_shown_to, inside_line, error_text, start_behind, start_after, text_written, error_reported, file_made, deed_entries, pen_after, entries, pen_after_all}
use Rattle.etx_matter.specs.declared.deed.Audience.{Audience}
use Rattle.etx_matter.specs.declared.deed.Deed.{Deed}
use Rattle.etx_matter.specs.declared.deed.Deed.TheVariants.{Fresh, Space, Text, Error, Create}
use Rattle.etx_matter.specs.declared.end.End.{End}
use Rattle.etx_matter.specs.declared.end.End.TheVariants as end
use Rattle.etx_mouth.specs.declared.yields.Yield.{Yield}
use Rattle.etx_mouth.specs.declared.yields.Yield.TheVariants.{Quiet, Act, Load, Done}
use Rattle.etx_mouth.specs.Errors.{is_error}
use Rattle.etx_job.specs.Errors.{most_errors}
use Rattle.etx_mouth.specs.Turn.{turn_of, line_number_of}
use Rattle.etx_job.specs.Words.{log_name}
use Rattle.etx_job.specs.Chain.{Start, World, with_deeds, closing, ended, with_error, counted, handled, turned_on, step_open, step_from, step, opening, chain}
use Rattle.etx_job.specs.Texts.{added_to, ends_line}

-- ---- where a text's last line stands

start_at : (before : Bool) (b : ℕ) (text : List ℕ) → start_behind before (slice_get (b ∷ text) (length text)) ≡ ends_line (b == 10) text
start_at before b [] = refl
start_at before b (c ∷ text) = start_at before c text

start_ends : (before : Bool) (text : List ℕ) → start_after before text ≡ ends_line before text
start_ends before [] = refl
start_ends before (b ∷ text) =
    let last : length (b ∷ text) - 1 ≡ length text = omega arith in
    ap (λ i. start_behind before (slice_get (b ∷ text) i)) last ∙ start_at before b text

ends_line-append : (before : Bool) (first then : List ℕ) → ends_line before (first ++ then) ≡ ends_line (ends_line before first) then
ends_line-append before [] then = refl
ends_line-append before (b ∷ first) then = ends_line-append (b == 10) first then

module _ (log : List ℕ) where
  same_name : pointwise nat_eq log log ≡ true
  same_name = (bytes_eq-Decides log log).1 refl

  -- ---- what is added to the log

  pub added-append : (g h : History) → added_to log (g ++ h) ≡ added_to log g ++ added_to log h
  added-append [] h = refl
  added-append (Asked q ∷ g) h = added-append g h
  added-append (Made q ∷ g) h = added-append g h
  added-append (Byte q b ∷ g) h =
      elim (pointwise nat_eq q log) as (λ is. cond is (b ∷ added_to log (g ++ h)) (added_to log (g ++ h)) ≡ cond is (b ∷ added_to log g) (added_to log g) ++ added_to log h) [
        | true ↦ ap (λ (l : List ℕ). b ∷ l) (added-append g h)
        | false ↦ added-append g h
      ]
  added-append (Shown b ∷ g) h = added-append g h

  pub added-bytes_to : (bytes : List ℕ) → added_to log (bytes_to log bytes) ≡ bytes
  added-bytes_to [] = refl
  added-bytes_to (b ∷ bytes) =
      ap (λ is. cond is (b ∷ added_to log (bytes_to log bytes)) (added_to log (bytes_to log bytes))) same_name
      ∙ ap (λ (l : List ℕ). b ∷ l) (added-bytes_to bytes)

  pub added-shown : (is : Bool) (bytes : List ℕ) → added_to log (entries_if is (shown bytes)) ≡ []
  added-shown false bytes = refl
  added-shown true [] = refl
  added-shown true (b ∷ bytes) = added-shown true bytes

  pub added-text : (h : History) (text : List ℕ) (is : Bool) → added_to log (h ++ (bytes_to log text ++ entries_if is (shown text))) ≡ added_to log h ++ text
  added-text h text is =
      added-append h (bytes_to log text ++ entries_if is (shown text))
      ∙ ap (λ (l : List ℕ). added_to log h ++ l) (
      added-append (bytes_to log text) (entries_if is (shown text))
      ∙ ap (λ (l : List ℕ). added_to log (bytes_to log text) ++ l) (added-shown is text)
      ∙ append-nil (added_to log (bytes_to log text))
      ∙ added-bytes_to text
      )

  -- the entries of a text, where the log was created first
  written_first : (others : List (List ℕ)) (text : List ℕ) (is : Bool) → written_by (log ∷ others) log text is ≡ bytes_to log text ++ entries_if is (shown text)
  written_first others text is = ap (λ b. entries_if (b || is_among log others) (bytes_to log text) ++ entries_if is (shown text)) same_name

  -- the pen has the log first, and stands where the log's text ends
  pub record InLog (p : PenState) (h : History) : Type 0 where
    pub others : List (List ℕ)
    pub created : p.created ≡ log ∷ others
    pub start : p.at_start ≡ ends_line true (added_to log h)

  pub written_in : (p : PenState) (h : History) (text : List ℕ) (is : Bool) → InLog p h → written_by p.created (log_of p.created) text is ≡ bytes_to log text ++ entries_if is (shown text)
  written_in p h text is i = ap (λ (created : List (List ℕ)). written_by created (log_of created) text is) i.created ∙ written_first i.others text is

  added-written : (p : PenState) (h : History) (text : List ℕ) (is : Bool) → InLog p h → added_to log (h ++ written_by p.created (log_of p.created) text is) ≡ added_to log h ++ text
  added-written p h text is i = ap (λ (g : History). added_to log (h ++ g)) (written_in p h text is i) ∙ added-text h text is

  text_in : (p : PenState) (h : History) (text : List ℕ) (who : Audience) → InLog p h → InLog (text_written p text who).pen (h ++ (text_written p text who).entries)
  unfolding text_written
  text_in p h text who i = record {
    others = i.others;
    created = i.created;
    start =
        start_ends p.at_start text
        ∙ ap (λ b. ends_line b text) i.start
        ∙ sym (ends_line-append true (added_to log h) text)
        ∙ ap (ends_line true) (sym (added-written p h text (is_shown_to who) i));
  }

  error_in : (p : PenState) (h : History) (text : List ℕ) (line : ℕ) (who : Audience) → InLog p h → InLog (error_reported p text line who).pen (h ++ (error_reported p text line who).entries)
  unfolding error_reported
  error_in p h text line who i = let t = text_in p h (error_text p.at_start text line) who i in record { others = t.others; created = t.created; start = t.start }

  made_in : (p : PenState) (h : History) (name : List ℕ) → InLog p h → InLog (file_made p name).pen (h ++ (file_made p name).entries)
  unfolding file_made
  made_in p h name i = record {
    others = i.others ++ name ∷ [];
    created = ap (λ (l : List (List ℕ)). l ++ name ∷ []) i.created;
    start = i.start ∙ ap (ends_line true) (sym (added-append h (Made name ∷ []) ∙ append-nil (added_to log h)));
  }

  pub deed_in : (p : PenState) (h : History) (d : Deed) → InLog p h → InLog (pen_after p d) (h ++ deed_entries p d)
  deed_in p h (Fresh who) i = text_in p h (inside_line p.at_start (codes "\n")) who i
  deed_in p h (Space who) i = text_in p h (inside_line p.at_start (codes " ")) who i
  deed_in p h (Text text who) i = text_in p h text who i
  deed_in p h (Error text line who) i = error_in p h text line who i
  deed_in p h (Create name) i = made_in p h name i

  pub deeds_in : (ds : List Deed) (p : PenState) (h : History) → InLog p h → InLog (pen_after_all p ds) (h ++ entries p ds)
  deeds_in [] p h i = subst (λ (g : History). InLog p g) (sym (append-nil h)) i
  deeds_in (d ∷ ds) p h i =
      subst
      (λ (g : History). InLog (pen_after_all (pen_after p d) ds) g)
      (append_assoc h (deed_entries p d) (entries (pen_after p d) ds))
      (deeds_in ds (pen_after p d) (h ++ deed_entries p d) (deed_in p h d i))

  -- ---- the worlds of a job

  abbrev WorldInLog : World → Type 0
  WorldInLog w = InLog w.pen w.trace

  ended_in : (e : End) (w : World) → WorldInLog w → WorldInLog (ended e w)
  ended_in e w i = deeds_in (closing e (line_number_of w.mouth)) w.pen w.trace i

  counted_in : (b : Bool) (w : World) → WorldInLog w → WorldInLog (counted b w)
  counted_in false w i = i
  counted_in true w i = elim (nat_lt (w.errors + 1) most_errors) as (λ b. WorldInLog (cond b (with_error w) (ended end.Hundred (with_error w)))) [
    | true ↦ i
    | false ↦ ended_in end.Hundred (with_error w) i
  ]

  asked_in_log : (name : List ℕ) (p : PenState) (h : History) → InLog p h → InLog p (h ++ Asked name ∷ [])
  asked_in_log name p h i = record { others = i.others; created = i.created; start = i.start ∙ ap (ends_line true) (sym (added-append h (Asked name ∷ []) ∙ append-nil (added_to log h))) }

  handled_in : (start : Start) (w : World) (y : Yield) → WorldInLog w → WorldInLog (handled start w y)
  handled_in start w Quiet i = i
  handled_in start w (Act d) i = counted_in (is_error d) (with_deeds (d ∷ []) w) (deeds_in (d ∷ []) w.pen w.trace i)
  handled_in start w (Load name) i = asked_in_log name w.pen w.trace i
  handled_in start w (Done e) i = ended_in e w i

  open_in : (start : Start) (w : World) → WorldInLog w → WorldInLog (step_open start w)
  open_in start w i =
      elim (nat_lt start.job.budget (turn_of w.mouth).now.machine.spent) as (λ b. WorldInLog (cond b (ended end.Spent w) (handled start (turned_on w) (turn_of w.mouth).did))) [
        | true ↦ ended_in end.Spent w i
        | false ↦ handled_in start (turned_on w) (turn_of w.mouth).did i
      ]

  pub step_in : (start : Start) (w : World) → WorldInLog w → WorldInLog (step start w)
  unfolding step
  step_in start w i = by w.end
    where
      by : (o : Option End) → WorldInLog (step_from start w o)
      by None = open_in start w i
      by (Some e) = i

opening_in : (start : Start) → WorldInLog (log_name start.job.name) (opening start)
unfolding opening file_made
opening_in start = record { others = []; created = refl; start = refl }

pub chain_in : (start : Start) (n : ℕ) → InLog (log_name start.job.name) (chain start n).pen (chain start n).trace
unfolding chain
chain_in start zero = opening_in start
chain_in start (suc n) = step_in (log_name start.job.name) start (chain start n) (chain_in start n)

pub column_right : (start : Start) (n : ℕ) → (chain start n).pen.at_start ≡ ends_line true (added_to (log_name start.job.name) (chain start n).trace)
column_right start n = (chain_in start n).start

-- Each turn of assignments goes on, whatever its rows decide.
use Rattle.std.proofs.Common.{◌≡◌, ℕ, List, ◌+◌, ◌≤◌, Bool, refl, arith}
use Rattle.etx_matter.specs.declared.token.Token.{Token}
use Rattle.etx_state.specs.declared.key.Meaning.{Meaning}
use Rattle.etx_state.specs.declared.scan.AssignNumber.{AssignNumber}
use Rattle.etx_exprs.specs.declared.value.Value.{Value as Amount}
use Rattle.etx_input.specs.Levels.{line_number}
use Rattle.etx_state.specs.declared.scan.AssignText.{AssignText}
use Rattle.etx_state.specs.declared.scan.AssignScan.{AssignScan}
use Rattle.etx_state.specs.declared.scan.Value.{Value}
use Rattle.etx_state.specs.declared.scan.Keeper.TheVariants as keeper
use Rattle.etx_state.specs.declared.scan.Scan.TheVariants as scan
use Rattle.etx_state.specs.declared.scan.Entry.{Entry}
use Rattle.etx_state.specs.declared.scan.Entry.TheVariants as entry
use Rattle.etx_state.specs.Mouths.{Mouth, with_rest}
use Rattle.etx_expand.specs.declared.fetch.Idle.TheVariants as idle
use Rattle.etx_expand.specs.declared.fetch.Fetched.{Fetched}
use Rattle.etx_expand.specs.declared.fetch.Fetched.TheVariants as fetched
use Rattle.etx_expand.specs.Measure.{back_weight, weight, Steps, PaidFor, Falls, Goes}
use Rattle.etx_expand.specs.Moves.{entered, scanning, put_back, insert_if, turned_by}
use Rattle.etx_expand.specs.Turn.{keeper_fetched}
use Rattle.etx_expand.proofs.Falling.{keeper_fetched_pays, planned_goes, finished_goes, word_goes, expanded_goes, over_goes, cut_goes, falls_above, above_steps, both_back, both_steps, falls_same, insert_if_adds}
use Rattle.etx_assign.specs.Assignments.{Over, over}
use Rattle.etx_assign.specs.Values.{number_taken}
use Rattle.etx_assign.specs.Lists.{list_given}
use Rattle.etx_assign.specs.Meanings.{given_meaning}
use Rattle.etx_assign.specs.Turn.{assign_row, assign_token, number_turn, text_turn, word_plan, assign_word_turn, future_over, future_token, future_with, future_turn}

pub assign_goes : (left : ℕ) (a : AssignScan) (t : Token) (mm : Meaning) (old m : Mouth) → Falls back_weight old m → Steps 1 old m → Goes (scanning left (scan.Assign a) old) (assign_token left a t mm m)
assign_goes left a t mm old m paid steps = planned_goes left (scan.Assign a) t (assign_row a t mm (line_number m.input) m.rest) old m paid steps

pub number_goes : (left : ℕ) (f : AssignNumber) (a : Amount) (v : Value) (m : Mouth) → Goes (entered (entry.Given left v) m) (number_turn left f a m)
number_goes left f a v m = finished_goes left v (number_taken f a m.rest) m

pub text_goes : (left : ℕ) (f : AssignText) (ts : List Token) (v : Value) (m : Mouth) → Goes (entered (entry.Given left v) m) (text_turn left f ts m)
text_goes left f ts v m = finished_goes left v (list_given f ts m.rest) m

pub assign_word_goes : (left : ℕ) (a : AssignScan) (letters : List Token) (t : Token) (old m : Mouth) → Falls back_weight old m → Steps 1 old m → Goes (entered (entry.Word left letters (scan.Assign a)) old) (assign_word_turn left a letters t m)
assign_word_goes left a letters t old m paid steps = word_goes left letters (scan.Assign a) t (word_plan a letters t) old m paid steps

abbrev kept_entry : Bool → Token → Token → Entry
kept_entry is_global name first = entry.Kept first (keeper.Future is_global name)

-- the two tokens are read again, behind one that may be kept
over_goes_on : (e : Entry) (o : Over) (first t : Token) (old m : Mouth) → Falls 1 (entered e old) (put_back first (put_back t m)) → Falls 1 (entered e old) (future_over o first t m)
over_goes_on e o first t old m falls =
    let h = insert_if_adds o.kept (put_back first (put_back t (with_rest o.rest m))) in
    falls_same 1 (entered e old) (put_back first (put_back t (with_rest o.rest m))) (future_over o first t m) h falls

over_steps : (e : Entry) (o : Over) (first t : Token) (old m : Mouth) → Steps 2 (entered e old) (put_back first (put_back t m)) → Steps 2 (entered e old) (future_over o first t m)
over_steps e o first t old m steps =
    let h = insert_if_adds o.kept (put_back first (put_back t (with_rest o.rest m))) in
    record { forth = omega (arith, h.spent, steps.forth); few = omega (arith, h.spent, steps.few) }

pub future_goes : (is_global : Bool) (name first : Token) (m : Mouth) → Goes (entered (entry.Kept first (keeper.Future is_global name)) m) (future_turn is_global name first m)
unfolding future_turn
future_goes is_global name first m = by (keeper_fetched (keeper.Future is_global name) m).fetched (keeper_fetched (keeper.Future is_global name) m).now (keeper_fetched_pays (keeper.Future is_global name) m).paid (keeper_fetched_pays (keeper.Future is_global name) m).steps
  where
    by : (x : Fetched) (n : Mouth) → PaidFor x m n → Steps 1 m n → Goes (entered (kept_entry is_global name first) m) (future_with is_global name first x n)
    by (fetched.Token t mm) n paid steps =
        let e = kept_entry is_global name first in
        let o = over (given_meaning is_global name mm n.rest) in
        let s = over_steps e o first t m n (both_steps e first t m n steps) in
        record { comes = over_goes_on e o first t m n (both_back e first t m n refl paid steps); forth = s.forth; few = s.few }
    by (fetched.Idle (idle.Expands t what)) n paid steps =
        let e = kept_entry is_global name first in
        expanded_goes what t (entered e m) (entered e n) (falls_above back_weight e e m n (omega arith) paid) (above_steps e e m n steps)
    by (fetched.Idle (idle.Over d)) n paid steps = over_goes (kept_entry is_global name first) (turned_by d n) m n paid steps
    by (fetched.Idle (idle.Cut text)) n paid steps = cut_goes (kept_entry is_global name first) (kept_entry is_global name first) text m n steps

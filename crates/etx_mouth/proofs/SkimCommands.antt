-- What a turn at rest comes to at which a command begins that does nothing beside.
use Rattle.std.proofs.Common.{◌≡◌, ◌⊎◌, inl, inr, ℕ, ◌+◌, ◌≤◌, ◌==◌, Bool, true, false, List, [], ◌∷◌, length, drop, Option, Some, None, if◌then◌else◌, refl, sym, ap, ◌∙◌, subst, arith}
use Rattle.etx_matter.specs.declared.end.End.TheVariants.{Unbuilt, Capacity}
use Rattle.etx_matter.specs.declared.end.Limit.TheVariants.{Groups}
use Rattle.etx_matter.specs.declared.token.Token.{Token}
use Rattle.etx_prims.specs.declared.command.Primitive.{Primitive}
use Rattle.etx_prims.specs.declared.general.GroupEdge.{GroupEdge}
use Rattle.etx_prims.specs.declared.general.GroupEdge.TheVariants as edges
use Rattle.etx_input.specs.declared.level.Level.{Level}
use Rattle.etx_input.specs.declared.level.Level.TheVariants as level
use Rattle.etx_input.specs.declared.origin.Origin.{Origin}
use Rattle.etx_input.specs.declared.origin.Origin.TheVariants.{Kept}
use Rattle.etx_input.specs.Levels.{InputState, list_before, with_list, line_in, line_number}
use Rattle.etx_input.specs.Runs.{list_unless_over, levels_skipped, skipped}
use Rattle.etx_state.specs.declared.key.GroupKind.{GroupKind}
use Rattle.etx_state.specs.declared.key.GroupKind.TheVariants as groups
use Rattle.etx_state.specs.declared.key.Meaning.{Meaning}
use Rattle.etx_state.specs.declared.key.Meaning.TheVariants as means
use Rattle.etx_state.specs.Reading.{token_meaning}
use Rattle.etx_state.specs.declared.scan.Entry.{Entry}
use Rattle.etx_state.specs.Rests.{RestState, with_values}
use Rattle.etx_state.specs.Values.{begin, kind, level}
use Rattle.etx_state.specs.Mouths.{Mouth, with_rest}
use Rattle.etx_answers.specs.declared.plan.Did.{Did}
use Rattle.etx_answers.specs.declared.plan.Did.TheVariants as did
use Rattle.etx_answers.specs.declared.plan.Insert.TheVariants as insert
use Rattle.etx_answers.specs.declared.plan.Push.{Push}
use Rattle.etx_answers.specs.declared.plan.Push.TheVariants as push
use Rattle.etx_answers.specs.declared.plan.Start.{Start}
use Rattle.etx_answers.specs.declared.plan.Turned.TheVariants as came
use Rattle.etx_answers.specs.Answers.{Begun, begun, nothing, start_ends}
use Rattle.etx_expand.specs.Expanding.{expansion_begun}
use Rattle.etx_answers.specs.Meanings.{expandable_of}
use Rattle.etx_expand.specs.Moves.{After, after, pushed, inserted, beside, turned_by, begun_turn}
use Rattle.etx_expand.specs.Turn.{main_fetched, wanted_as}
use Rattle.etx_mouth.specs.declared.commands.Command.{Command}
use Rattle.etx_mouth.specs.declared.commands.Command.TheVariants as command
use Rattle.etx_mouth.specs.declared.mouth.Source.TheVariants.{Reading}
use Rattle.etx_mouth.specs.Commands.{beginning, group_begun, group_ended, right_brace_by, right_brace_row, end_group_by, end_group_row, group_row, character_row, command_of, command_begun, command_row}
use Rattle.etx_mouth.specs.Machine.{command_turn, main_turn, stack_turn, machine_turn}
use Rattle.etx_mouth.specs.Mouths.{mouth_at}
use Rattle.etx_mouth.specs.Runs.{Runs}
use Rattle.etx_mouth.specs.Skimming.{taken, IsNext, IsCommand, is_nothing}
use Rattle.etx_mouth.proofs.Running.{runs_none, runs_one}
use Rattle.etx_mouth.proofs.Skims.{fresh_got, stack_is, fewer_in, one_more, turn_is_quiet}
use Rattle.etx_mouth.proofs.Comparing.{lt_false}

-- ---- a row that does something beside leaves the rest as it is

abbrev Keeps : Begun → RestState → Type 0
Keeps b r = (b.start.did ≡ did.Nothing) ⊎ (b.rest ≡ r)

keeps_if : (c : Bool) (a b : Begun) (r : RestState) → Keeps a r → Keeps b r → Keeps (if c then a else b) r
keeps_if true a b r one other = one
keeps_if false a b r one other = other

begun_keeps : (k : GroupKind) (r : RestState) → Keeps (group_begun k r) r
unfolding group_begun
begun_keeps k r = keeps_if (level r.values == 10000) (beginning (start_ends (Capacity Groups)) r) (begun (with_values (begin r.values k) r) nothing) r (inr refl) (inl refl)

ended_keeps : (r : RestState) → Keeps (group_ended r) r
unfolding group_ended
ended_keeps r = inl refl

brace_keeps : (o : Option GroupKind) (r : RestState) → Keeps (right_brace_by o r) r
brace_keeps None r = inr refl
brace_keeps (Some groups.Simple) r = ended_keeps r
brace_keeps (Some groups.SemiSimple) r = inr refl

end_keeps : (o : Option GroupKind) (r : RestState) → Keeps (end_group_by o r) r
end_keeps None r = inr refl
end_keeps (Some groups.Simple) r = inr refl
end_keeps (Some groups.SemiSimple) r = ended_keeps r

right_keeps : (r : RestState) → Keeps (right_brace_row r) r
unfolding right_brace_row
right_keeps r = brace_keeps (kind r.values) r

group_keeps : (e : GroupEdge) (r : RestState) → Keeps (group_row e r) r
unfolding end_group_row
group_keeps edges.Begin r = begun_keeps groups.SemiSimple r
group_keeps edges.End r = end_keeps (kind r.values) r

character_keeps : (cat : ℕ) (r : RestState) → Keeps (character_row cat r) r
unfolding character_row
character_keeps cat r =
    let unbuilt = beginning (start_ends Unbuilt) r in
    let right = if cat == 2 then right_brace_row r else unbuilt in
    let left = if cat == 1 then group_begun groups.Simple r else right in
    keeps_if (cat == 10) (begun r nothing) left r (inl refl) (
    keeps_if (cat == 1) (group_begun groups.Simple r) right r (begun_keeps groups.Simple r) (
    keeps_if (cat == 2) (right_brace_row r) unbuilt r (right_keeps r) (inr refl)))

command_keeps : (c : Command) (p : Primitive) (t : Token) (r : RestState) → Keeps (command_begun c p t r) r
unfolding command_begun
command_keeps command.Nothing p t r = inl refl
command_keeps command.End p t r = inr refl
command_keeps command.EndCsName p t r = inr refl
command_keeps (command.Group edge) p t r = group_keeps edge r
command_keeps (command.After kind) p t r = inr refl
command_keeps command.IgnoreSpaces p t r = inr refl
command_keeps (command.Message kind) p t r = inr refl
command_keeps (command.Prefix kind) p t r = inr refl
command_keeps command.Other p t r = inr refl

row_keeps : (t : Token) (mm : Meaning) (line : ℕ) (r : RestState) → Keeps (command_row t mm line r) r
unfolding command_row expansion_begun
row_keeps t (means.Char code cat) line r = character_keeps cat r
row_keeps t (means.Primitive p) line r = command_keeps (command_of p) p t r
row_keeps t means.Unexpanded line r = inl refl
row_keeps t means.EndTemplate line r = inr refl
row_keeps t (means.CharGiven code) line r = inr refl
row_keeps t (means.MathGiven code) line r = inr refl
row_keeps t (means.Register kind number) line r = inr refl
row_keeps t means.Undefined line r = inr refl
row_keeps t (means.Macro d) line r = inr refl

pub rest_is_kept : (t : Token) (mm : Meaning) (line : ℕ) (r new : RestState) (start : Start) → start ≡ (command_row t mm line r).start → new ≡ (command_row t mm line r).rest → is_nothing start.did ≡ false → new ≡ r
rest_is_kept t mm line r new start start_is new_is some = elim (row_keeps t mm line r) [
  | inl quiet ↦ absurd (let no : true ≡ false = sym (ap (λ (x : Start). is_nothing x.did) start_is ∙ ap is_nothing quiet) ∙ some in cc)
  | inr same ↦ new_is ∙ same
]

pub nothing_is : (d : Did) → is_nothing d ≡ true → d ≡ did.Nothing
nothing_is did.Nothing is = refl
nothing_is did.Space is = absurd (let no : false ≡ true = is in cc)
nothing_is (did.Error f) is = absurd (let no : false ≡ true = is in cc)
nothing_is (did.End e) is = absurd (let no : false ≡ true = is in cc)

pub same_runs : (budget : ℕ) (m : Mouth) (r : RestState) → r ≡ m.rest → Runs budget (mouth_at Reading m) (mouth_at Reading (record m { rest = r }))
same_runs budget m r is = runs_none (ap (λ (x : RestState). mouth_at Reading (record m { rest = x })) is)

-- ---- what is pushed

pushed_spent : (p : Push) (m : Mouth) → (pushed p m).spent ≡ m.spent
unfolding pushed inserted
pushed_spent (push.Insert insert.Nothing) m = refl
pushed_spent (push.Insert (insert.Token t)) m = refl
pushed_spent (push.Insert (insert.Text ts)) m = refl
pushed_spent (push.Insert (insert.Kept ts)) m = refl
pushed_spent (push.Begin s) m = refl

pushed_entries : (p : Push) (m : Mouth) → length (pushed p m).entries ≤ length m.entries + 1
unfolding pushed inserted
pushed_entries (push.Insert insert.Nothing) m = omega arith
pushed_entries (push.Insert (insert.Token t)) m = omega arith
pushed_entries (push.Insert (insert.Text ts)) m = omega arith
pushed_entries (push.Insert (insert.Kept ts)) m = omega arith
pushed_entries (push.Begin s) m = omega arith

one_kept : (ts : List Token) (i : InputState) → length (list_before ts Kept i).levels ≤ length i.levels + 1
one_kept [] i = omega arith
one_kept (t ∷ ts) i = omega arith

pushed_levels : (p : Push) (m : Mouth) → length (pushed p m).input.levels ≤ length m.input.levels + 1
unfolding pushed inserted with_list
pushed_levels (push.Insert insert.Nothing) m = omega arith
pushed_levels (push.Insert (insert.Token t)) m = one_more (t ∷ []) m.input
pushed_levels (push.Insert (insert.Text ts)) m = one_more ts m.input
pushed_levels (push.Insert (insert.Kept ts)) m = one_kept ts m.input
pushed_levels (push.Begin s) m = omega arith

-- ---- the turn

begun_quietly : (t : Token) (b : Begun) (n : Mouth) → b.start.did ≡ did.Nothing → begun_turn t b n ≡ after (pushed b.start.push (with_rest b.rest n)) came.Again
unfolding beside turned_by
begun_quietly t b n quiet = rw quiet refl

main_command : (m n : Mouth) (t : Token) (mm : Meaning) → main_fetched m ≡ record { now = n; fetched = wanted_as (expandable_of mm) t mm } → expandable_of mm ≡ None → main_turn m ≡ command_turn t mm n
unfolding main_turn
main_command m n t mm fetch stays = rw (fetch, stays) refl

pub within_limits : (m n : Mouth) → length n.entries ≤ 10000 → length n.input.levels ≤ 10000 → stack_turn m ≡ after n came.Again → machine_turn m ≡ after n came.Again
unfolding machine_turn
within_limits m n few deep is = rw (is, lt_false 10000 (length n.entries) few, lt_false 10000 (length n.input.levels) deep) refl

-- the mouth behind the turn
abbrev pub behind : Begun → Mouth → Mouth
behind b m = pushed b.start.push (with_rest b.rest (taken 1 m))

few_entries : (b : Begun) (m : Mouth) → m.entries ≡ [] → length (behind b m).entries ≤ 10000
few_entries b m none =
    let many = pushed_entries b.start.push (with_rest b.rest (taken 1 m)) in
    let empty : length m.entries ≡ 0 = ap (λ (es : List Entry). length es) none in
    omega (arith, many, empty)

few_levels : (b : Begun) (m : Mouth) → length m.input.levels ≤ 9999 → length (behind b m).input.levels ≤ 10000
unfolding skipped
few_levels b m depth =
    let many = pushed_levels b.start.push (with_rest b.rest (taken 1 m)) in
    let fewer = fewer_in 1 m.input.levels in
    omega (arith, many, fewer, depth)

command_fetched : (m : Mouth) (t : Token) (mm : Meaning) → IsNext t m → IsCommand (token_meaning m.rest.values t) mm → main_fetched m ≡ record { now = taken 1 m; fetched = wanted_as (expandable_of mm) t mm }
command_fetched m t mm next is = subst (λ (x : Meaning). main_fetched m ≡ record { now = taken 1 m; fetched = wanted_as (expandable_of x) t x }) (sym is.0) (fresh_got m t next.first.0 next.first.1 next.entries)

-- ---- the number of the line stays

line_over : (ts : List Token) (origin : Origin) (ls : List Level) (left : ℕ) → line_in (list_unless_over ts origin ls) left ≡ line_in ls left
line_over [] origin ls left = refl
line_over (t ∷ ts) origin ls left = refl

line_skipped : (count : ℕ) (ls : List Level) (left : ℕ) → line_in (levels_skipped count ls) left ≡ line_in ls left
line_skipped count [] left = refl
line_skipped count (level.File f ∷ ls) left = refl
line_skipped count (level.List l ∷ ls) left = line_over (drop count l.rest) l.origin ls left

line_stays : (m : Mouth) → line_number (taken 1 m).input ≡ line_number m.input
unfolding line_number skipped
line_stays m = line_skipped 1 m.input.levels m.input.left

-- the row of a command, in the line that was read last
abbrev row_of : Token → Meaning → Mouth → Begun
row_of t mm m = command_row t mm (line_number m.input) m.rest

turn_of_row : (t : Token) (mm : Meaning) (m : Mouth) → command_turn t mm (taken 1 m) ≡ begun_turn t (row_of t mm m) (taken 1 m)
turn_of_row t mm m = ap (λ (line : ℕ). begun_turn t (command_row t mm line m.rest) (taken 1 m)) (line_stays m)

pub command_is_made : (m : Mouth) (t : Token) (mm : Meaning) → IsNext t m → IsCommand (token_meaning m.rest.values t) mm → (row_of t mm m).start.did ≡ did.Nothing → machine_turn m ≡ after (behind (row_of t mm m) m) came.Again
command_is_made m t mm next is quiet =
    let less = next.depth in
    within_limits m (behind (row_of t mm m) m) (few_entries (row_of t mm m) m next.entries) (few_levels (row_of t mm m) m (omega (arith, less))) (
    stack_is m _ next.entries (
    main_command m (taken 1 m) t mm (command_fetched m t mm next is) is.1 ∙ turn_of_row t mm m ∙ begun_quietly t (row_of t mm m) (taken 1 m) quiet))

-- ---- as the code has it

command_spends : (t : Token) (r : RestState) (start : Start) (n new : Mouth) → start.did ≡ did.Nothing → new ≡ (begun_turn t (record { rest = r; start = start }) n).now → new.spent ≡ n.spent
command_spends t r start n new quiet is =
    ap (λ (v : Mouth). v.spent) (is ∙ ap (λ (a : After). a.now) (begun_quietly t (record { rest = r; start = start }) n quiet)) ∙ pushed_spent start.push (with_rest r n)

-- the mouth before what the command begins is carried out, as the code has it
abbrev before : Mouth → RestState → InputState → Mouth
before m r i = record { rest = r; input = i; entries = m.entries; spent = m.spent + 1 }

pub command_within : (budget : ℕ) (m : Mouth) (t : Token) (r : RestState) (start : Start) (i : InputState) (new : Mouth) → start.did ≡ did.Nothing → new ≡ (begun_turn t (record { rest = r; start = start }) (record { rest = r; input = i; entries = m.entries; spent = m.spent + 1 })).now → m.spent + 1 ≤ budget → new.spent ≤ budget
command_within budget m t r start i new quiet made room = let spends : new.spent ≡ m.spent + 1 = command_spends t r start (before m r i) new quiet made in omega (arith, spends, room)

pub command_forth : (m : Mouth) (t : Token) (r : RestState) (start : Start) (i : InputState) (new : Mouth) → start.did ≡ did.Nothing → new ≡ (begun_turn t (record { rest = r; start = start }) (record { rest = r; input = i; entries = m.entries; spent = m.spent + 1 })).now → m.spent ≤ new.spent
command_forth m t r start i new quiet made = let spends : new.spent ≡ m.spent + 1 = command_spends t r start (before m r i) new quiet made in omega (arith, spends)

pub command_runs : (budget : ℕ) (m : Mouth) (t : Token) (mm : Meaning) (line : ℕ) (r : RestState) (start : Start) (i : InputState) (new : Mouth) → line ≡ line_number m.input → IsNext t m → IsCommand (token_meaning m.rest.values t) mm → start ≡ (command_row t mm line m.rest).start → r ≡ (command_row t mm line m.rest).rest → start.did ≡ did.Nothing → i ≡ skipped 1 m.input → new ≡ (begun_turn t (record { rest = r; start = start }) (record { rest = r; input = i; entries = m.entries; spent = m.spent + 1 })).now → m.spent + 1 ≤ budget → Runs budget (mouth_at Reading m) (mouth_at Reading new)
command_runs budget m t mm line r start i new line_is next is start_by rest_by quiet skip made room =
    let b = row_of t mm m in
    let start_is : start ≡ b.start = start_by ∙ ap (λ (n : ℕ). (command_row t mm n m.rest).start) line_is in
    let rest_is : r ≡ b.rest = rest_by ∙ ap (λ (n : ℕ). (command_row t mm n m.rest).rest) line_is in
    let still : b.start.did ≡ did.Nothing = ap (λ (x : Start). x.did) (sym start_is) ∙ quiet in
    let there : new ≡ behind b m = made ∙ (λ k. (begun_turn t (record { rest = rest_is k; start = start_is k }) (record { rest = rest_is k; input = skip k; entries = m.entries; spent = m.spent + 1 })).now) ∙ ap (λ (a : After). a.now) (begun_quietly t b (with_rest b.rest (taken 1 m)) still) in
    let spends : (behind b m).spent ≡ m.spent + 1 = pushed_spent b.start.push (with_rest b.rest (taken 1 m)) in
    subst (λ (v : Mouth). Runs budget (mouth_at Reading m) (mouth_at Reading v)) (sym there) (runs_one (turn_is_quiet budget m (behind b m) (command_is_made m t mm next is still) (omega (arith, spends, room))))

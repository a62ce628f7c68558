use Rattle.std.proofs.Common.{◌≡◌, ◌-◌, ◌<◌, ◌≤◌, false, true, refl, length, get_or, set, take, reverse, List, ap, sym, ◌∙◌, subst, arith}
use Rattle.etx_stack.specs.Undoing.{is_free, with_last}
use Rattle.etx_input.specs.declared.level.Level.{Level}
use Rattle.etx_input.specs.Levels.{reading}
use Rattle.etx_input.specs.Marks.{input_of}
use Rattle.etx_input.specs.Runs.{fresh_at, fresh_in, level_skipped, level_is_over, unless_over, levels_skipped, skipped}
use Rattle.etx_input.proofs.Marks.{keeps_by, keeps_then}
use Rattle.etx_input.proofs.Tops.{below, top, some_by, other, none_left, dropped, over, not_over}
use Rattle.etx_input.proofs.levels.Levels.skip.Goals as goal

pub returns-in_err-free_last-clause-kept : goal.returns-in_err-free_last-clause-kept
returns-in_err-free_last-clause-kept c = keeps_by _ _ c.in_err-free_last.ensures.kept

pub returns-then-not-branch-clause-ok : goal.returns-then-not-branch-clause-ok
unfolding input_of skipped
returns-then-not-branch-clause-ok c =
    let xs = c.args.self.now.levels.items in
    let none : 0 < length xs → ⊥ = λ some. let no : false ≡ true = sym c.if-not-branch.true ∙ c.in_ok-free_last.ensures.free.1.1 some in cc in
    ap (λ (ls : List Level). reading ls c.args.self.now.left) (ap (reverse {A = Level}) c.in_ok-free_last.ensures.same ∙ none_left xs none ∙ sym (ap (levels_skipped c.args.count) (none_left xs none)))

pub returns-then-not-branch-clause-kept : goal.returns-then-not-branch-clause-kept
returns-then-not-branch-clause-kept c = keeps_by _ _ c.in_ok-free_last.ensures.kept

pub skip-requires : goal.skip-requires
unfolding input_of
skip-requires c =
    let xs = c.free_last.new.self.items in
    subst (λ (ls : List Level). c.args.count ≤ length (fresh_in ls))
    (ap (reverse {A = Level}) (sym c.in_ok-free_last.ensures.same) ∙ top xs c.last_mut.result.now c.last_mut.ensures.value) c.requires

pub returns-then-skip-clause-ok : goal.returns-then-skip-clause-ok
unfolding input_of skipped
returns-then-skip-clause-ok c =
    let xs = c.free_last.new.self.items in
    let old = c.last_mut.result.now in
    let new = c.skip.new.self in
    let some = some_by xs old c.last_mut.ensures.value in
    let is_over : level_is_over new ≡ true = sym c.if-skip.ensures.over in
    let was = ap (reverse {A = Level}) (sym c.in_ok-free_last.ensures.same) ∙ top xs old c.last_mut.ensures.value in
    ap (λ (ls : List Level). reading ls c.args.self.now.left)
    (ap (reverse {A = Level}) c.drop_free.ensures.items
    ∙ dropped xs new some
    ∙ over new (below xs) is_over
    ∙ ap (λ (l : Level). unless_over l (below xs)) c.if-skip.ensures.behind
    ∙ sym (ap (levels_skipped c.args.count) was))

pub returns-then-skip-clause-kept : goal.returns-then-skip-clause-kept
returns-then-skip-clause-kept c =
    keeps_by _ _ (keeps_then _ _ _ c.in_ok-free_last.ensures.kept (keeps_then _ _ _ (c.in_ok-free_last.ensures.changes c.if-not-branch.false c.skip.new.self) c.drop_free.ensures.kept))

pub returns-else-skip-clause-ok : goal.returns-else-skip-clause-ok
unfolding input_of skipped
returns-else-skip-clause-ok c =
    let xs = c.free_last.new.self.items in
    let old = c.last_mut.result.now in
    let new = c.skip.new.self in
    let some = some_by xs old c.last_mut.ensures.value in
    let is_not_over : level_is_over new ≡ false = sym c.if-skip.ensures.over in
    let was = ap (reverse {A = Level}) (sym c.in_ok-free_last.ensures.same) ∙ top xs old c.last_mut.ensures.value in
    ap (λ (ls : List Level). reading ls c.args.self.now.left)
    (other xs new some
    ∙ not_over new (below xs) is_not_over
    ∙ ap (λ (l : Level). unless_over l (below xs)) c.if-skip.ensures.behind
    ∙ sym (ap (levels_skipped c.args.count) was))

pub returns-else-skip-clause-kept : goal.returns-else-skip-clause-kept
returns-else-skip-clause-kept c =
    keeps_by _ _ (keeps_then _ _ _ c.in_ok-free_last.ensures.kept (c.in_ok-free_last.ensures.changes c.if-not-branch.false c.skip.new.self))

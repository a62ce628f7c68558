use Rattle.std.proofs.Common.{◌≡◌, ◌-◌, ◌<◌, false, true, refl, length, get_or, set, reverse, ℤ, List, ap, sym, ◌∙◌, subst, arith}
use Rattle.std.proofs.lemmas.Int.{to_z-of_z}
use mir.Syntax.{w32}
use Rattle.etx_stack.specs.Undoing.{is_free}
use Rattle.etx_input.specs.declared.gift.Gift.{Gift}
use Rattle.etx_input.specs.declared.level.Level.{Level}
use Rattle.etx_input.specs.Gifts.{level_gift, level_behind, gift_in, behind_gift}
use Rattle.etx_input.specs.Levels.{reading}
use Rattle.etx_input.specs.Marks.{input_of}
use Rattle.etx_input.proofs.Ends.{behind-changed}
use Rattle.etx_input.proofs.Marks.{keeps_by, keeps_then}
use Rattle.etx_input.proofs.Tops.{top, top_or, all_counted, none_left}
use Rattle.etx_input.proofs.levels.Levels.give.Goals as goal

pub returns-in_err-free_last-clause-kept : goal.returns-in_err-free_last-clause-kept
returns-in_err-free_last-clause-kept g c = keeps_by _ _ c.in_err-free_last.ensures.kept

pub returns-then-not-branch-clause-gift : goal.returns-then-not-branch-clause-gift
unfolding input_of
returns-then-not-branch-clause-gift g c =
    let cats = g.C.CatOf.category c.args.cats.now in
    let xs = c.args.self.now.levels.items in
    let none : 0 < length xs → ⊥ = λ some. let no : false ≡ true = sym c.if-not-branch.true ∙ c.in_ok-free_last.ensures.free.1.1 some in cc in
    sym (ap (gift_in cats c.args.endline) (none_left xs none))

pub returns-then-not-branch-clause-input : goal.returns-then-not-branch-clause-input
unfolding input_of
returns-then-not-branch-clause-input g c =
    let cats = g.C.CatOf.category c.args.cats.now in
    let xs = c.args.self.now.levels.items in
    let none : 0 < length xs → ⊥ = λ some. let no : false ≡ true = sym c.if-not-branch.true ∙ c.in_ok-free_last.ensures.free.1.1 some in cc in
    ap (λ (ls : List Level). reading ls c.args.self.now.left) (ap (reverse {A = Level}) c.in_ok-free_last.ensures.same ∙ none_left xs none ∙ sym (ap (behind_gift cats c.args.endline) (none_left xs none)))

pub returns-then-not-branch-clause-kept : goal.returns-then-not-branch-clause-kept
returns-then-not-branch-clause-kept g c = keeps_by _ _ c.in_ok-free_last.ensures.kept

pub returns-in_err-gift-clause-kept : goal.returns-in_err-gift-clause-kept
returns-in_err-gift-clause-kept g c = keeps_by _ _ (keeps_then _ _ _ c.in_ok-free_last.ensures.kept (c.in_ok-free_last.ensures.changes c.if-not-branch.false c.give.new.self))

pub returns-clause-gift : goal.returns-clause-gift
unfolding input_of
returns-clause-gift g c =
    let cats = g.C.CatOf.category c.args.cats.now in
    let xs = c.free_last.new.self.items in
    let old = c.last_mut.result.now in
    let is : c.in_ok-gift.gift ≡ level_gift cats c.args.endline old = subst (λ (e : ℤ). c.in_ok-gift.gift ≡ level_gift cats e old) (to_z-of_z w32 c.args.endline c.ranges.endline) c.in_ok-gift.ensures.gift in
    is ∙ sym (ap (gift_in cats c.args.endline) (ap (reverse {A = Level}) (sym c.in_ok-free_last.ensures.same) ∙ top xs old c.last_mut.ensures.value))

pub returns-clause-input : goal.returns-clause-input
unfolding input_of
returns-clause-input g c =
    let cats = g.C.CatOf.category c.args.cats.now in
    let xs = c.free_last.new.self.items in
    let old = c.last_mut.result.now in
    let new : c.give.new.self ≡ level_behind cats c.args.endline old = subst (λ (e : ℤ). c.give.new.self ≡ level_behind cats e old) (to_z-of_z w32 c.args.endline c.ranges.endline) c.in_ok-gift.ensures.level in
    ap (λ (ls : List Level). reading ls c.args.self.now.left)
    (behind-changed cats c.args.endline xs (length xs - 1) old c.give.new.self (all_counted xs old c.last_mut.ensures.value) (top_or xs old c.last_mut.ensures.value) new
    ∙ ap (λ (ls : List Level). behind_gift cats c.args.endline (reverse ls)) c.in_ok-free_last.ensures.same)

pub returns-clause-kept : goal.returns-clause-kept
returns-clause-kept g c = keeps_by _ _ (keeps_then _ _ _ c.in_ok-free_last.ensures.kept (c.in_ok-free_last.ensures.changes c.if-not-branch.false c.give.new.self))

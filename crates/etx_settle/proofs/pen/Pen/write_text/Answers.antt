use Rattle.std.proofs.Common.{◌≡◌, length, arith, refl, sym, ◌∙◌, ap}
use Rattle.std.proofs.lemmas.Bool.Decides.{nat_tests}
use Rattle.etx_outside.specs.Entries.{History}
use Rattle.etx_outside.specs.Outside.{outside_of, after}
use Rattle.etx_outside.proofs.Outsides.{after-nil, front_none}
use Rattle.etx_settle.proofs.Writing.{entries-empty}
use Rattle.etx_settle.proofs.pen.Pen.write_text.Goals as goal

pub returns-then-is_empty-clause-ok : goal.returns-then-is_empty-clause-ok
returns-then-is_empty-clause-ok g c = λ _ _.
    let none : length c.args.text.now ≡ 0 = grind (arith, nat_tests) in
    let here = outside_of g.F.Tree.files g.F.Tree.asked g.T.Terminal.text c.args.tree.now c.args.terminal.now in
    sym (after-nil here) ∙ sym (ap (λ (h : History). after h here) (entries-empty c.args.self.now c.args.text.now c.args.audience none))

pub returns-then-is_empty-clause-front : goal.returns-then-is_empty-clause-front
returns-then-is_empty-clause-front g c = λ _ _. front_none _ refl

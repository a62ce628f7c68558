use Rattle.std.proofs.Common.{refl, ⊎_elim, ◌∷◌, [], ap, sym, subst}
use Rattle.etx_outside.specs.Entries.{Made}
use Rattle.etx_outside.proofs.Outsides.{front_all, front_none, made, kept}
use Rattle.etx_settle.specs.Deeds.{AllOpen}
use Rattle.etx_settle.proofs.Writing.{all_open_more}
use Rattle.etx_settle.proofs.pen.create.Goals as goal

pub returns-in_err-kept-clause-front : goal.returns-in_err-kept-clause-front
returns-in_err-kept-clause-front g c = λ _ _. front_none _ refl

pub returns-in_err-create-clause-front : goal.returns-in_err-create-clause-front
returns-in_err-create-clause-front g c = λ tells _.
    let asked = c.in_err-create.ensures.asked tells in
    ⊎_elim
    (λ same. front_none _ (kept _ _ _ c.args.tree.now _ _ same asked))
    (λ there. front_all (made _ _ _ c.args.name.now c.args.tree.now _ _ there asked))
    (c.in_err-create.ensures.err tells)

pub returns-in_err-push-clause-front : goal.returns-in_err-push-clause-front
returns-in_err-push-clause-front g c = λ tells _. front_all (made _ _ _ c.args.name.now c.args.tree.now _ _ (c.in_ok-create.ensures.ok tells) (c.in_ok-create.ensures.asked tells))

pub returns-clause-ok : goal.returns-clause-ok
returns-clause-ok g c = λ tells _. made _ _ _ c.args.name.now c.args.tree.now _ _ (c.in_ok-create.ensures.ok tells) (c.in_ok-create.ensures.asked tells)

pub returns-clause-front : goal.returns-clause-front
returns-clause-front g c = λ tells _. front_all (made _ _ _ c.args.name.now c.args.tree.now _ _ (c.in_ok-create.ensures.ok tells) (c.in_ok-create.ensures.asked tells))

pub returns-clause-open : goal.returns-clause-open
returns-clause-open g c =
    rw (c.in_ok-push.ensures.items, c.in_ok-kept.ensures)
    (all_open_more (g.F.Tree.is_open c.create.new.self) c.args.created.now.items c.args.name.now (λ q among. c.in_ok-create.ensures.open q (c.requires q among)) c.in_ok-create.ensures.opened)

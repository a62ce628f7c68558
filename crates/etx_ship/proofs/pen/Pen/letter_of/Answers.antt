use Rattle.std.proofs.Common.{refl, ◌∙◌}
use Rattle.std.proofs.lemmas.Result.{on_ok_weaker}
use Rattle.etx_ship.proofs.Setting.{set_at_once}
use Rattle.etx_ship.proofs.pen.Pen.letter_of.Goals as goal

pub returns-then-is_ready : goal.returns-then-is_ready
returns-then-is_ready c =
    on_ok_weaker c.set_letter.result
    (λ h. h ∙ set_at_once c.args.font.now c.args.number c.args.code c.args.size.now.width c.args.at c.args.self.now (c.if-is_ready.ensures.at refl) (c.if-is_ready.ensures.font refl) (c.if-is_ready.ensures.waiting refl))
    c.set_letter.ensures

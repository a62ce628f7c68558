use Rattle.std.proofs.Common.{◌≡◌, List, ℕ, sym, ◌∙◌, ap}
use Rattle.etx_input.specs.declared.level.Level.{Level}
use Rattle.etx_input.specs.Gifts.{left_next}
use Rattle.etx_input.specs.Marks.{input_of}
use Rattle.etx_input.proofs.Tops.{top}
use Rattle.etx_input.proofs.levels.Levels.left_next.Goals as goal

pub returns-in-Some : goal.returns-in-Some
unfolding input_of
returns-in-Some c =
    c.number_left.ensures ∙ sym (ap (λ (ls : List Level). left_next ls c.args.self.now.left) (top c.args.self.now.levels.items c.in-Some.level.now (sym c.in-Some.ensures)))

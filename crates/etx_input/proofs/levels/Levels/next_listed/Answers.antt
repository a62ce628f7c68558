use Rattle.std.proofs.Common.{◌≡◌, ℕ, ℤ, sym, ◌∙◌, ap}
use Rattle.etx_input.specs.declared.gift.Gift.TheVariants.{Stay, Leave, Empty}
use Rattle.etx_input.specs.Gifts.{innermost_left}
use Rattle.etx_input.specs.Levels.{InputState, Given, given_of}
use Rattle.etx_input.specs.Marks.{input_of}
use Rattle.etx_input.proofs.Stack.{given-gift}
use Rattle.etx_input.proofs.levels.Levels.next_listed.Goals as goal

pub returns-in-Stay-clause-next : goal.returns-in-Stay-clause-next
returns-in-Stay-clause-next c = λ cats endline.
    let listed = c.in-Stay.ensures.listed cats endline in
    given-gift cats endline (input_of c.args.self.now) (Stay c.in-Stay.next) listed.0
    ∙ ap (λ (u : InputState). record { next = c.in-Stay.next; input = u }) (sym listed.1)

pub returns-in-Leave-clause-next : goal.returns-in-Leave-clause-next
returns-in-Leave-clause-next c = λ cats endline.
    let listed = c.in-Leave.ensures.listed cats endline in
    given-gift cats endline (input_of c.args.self.now) (Leave c.in-Leave.next) listed.0
    ∙ ap (λ (u : InputState). record { next = c.in-Leave.next; input = u }) (sym (c.leave_free.ensures.left ∙ ap (λ (u : InputState). innermost_left u.levels u.left) listed.1))

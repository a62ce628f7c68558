use Rattle.std.proofs.Common.{ℕ, [], ◌∷◌, ◌++◌, ap, ◌∙◌}
use Rattle.etx_linebreak.specs.Passes.{break_at}
use Rattle.etx_linebreak.proofs.Stopping.{place_is}
use Rattle.etx_linebreak.proofs.pass.Pass.push_break.Goals as goal

pub returns : goal.returns
returns c =
    c.in_ok-push.ensures.items
    ∙ ap (λ (n : ℕ). c.args.found.now.items ++ n ∷ [])
    (c.place.ensures ∙ place_is c.args.self.now.paragraph c.stop.result.now (break_at c.args.self.now c.args.number) c.stop.ensures)

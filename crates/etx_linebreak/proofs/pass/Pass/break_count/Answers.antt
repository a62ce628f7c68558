use Rattle.std.proofs.Common.{◌≡◌, length, ap, ◌∙◌, arith}
use Rattle.etx_sealed.specs.Stops.{stops}
use Rattle.etx_linebreak.specs.Passes.{PassState}
use Rattle.etx_linebreak.proofs.Stopping.{count_is}
use Rattle.etx_linebreak.proofs.pass.Pass.break_count.Goals as goal

pub returns : goal.returns
returns c =
    let counted : c.len.result ≡ length c.self.inside.stops.items = omega (arith, c.len.ensures, c.self.inside.stops.ok.0) in
    c.saturating_sub.ensures
    ∙ count_is c.args.self.now c.self.inside.stops.items c.len.result (c.self.invariant ∙ ap (λ (it : PassState). stops it.paragraph) c.self.view_is) counted

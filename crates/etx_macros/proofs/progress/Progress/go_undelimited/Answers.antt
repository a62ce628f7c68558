-- The depth is bounded by what was read.
use Rattle.std.proofs.Common.{◌≡◌, ◌+◌, length, sym, ap, ◌∙◌, arith}
use Rattle.std.proofs.lemmas.List.{length_push}
use Rattle.etx_macros.specs.declared.argument.Turn.TheVariants as turn
use Rattle.etx_macros.specs.Matching.{undelimited_turn}
use Rattle.etx_macros.proofs.Depths.{behind_bound}
use Rattle.etx_macros.proofs.Turns.{keep_turn}
use Rattle.etx_macros.proofs.progress.Progress.go_undelimited.Goals as goal

pub invariant_of-self-in-Keep : goal.invariant_of-self-in-Keep
invariant_of-self-in-Keep c =
    let m = c.args.self.now in
    let e : undelimited_turn m.depth m.long c.args.token ≡ turn.Keep c.in-Keep.depth =
    ap (λ d. undelimited_turn d m.long c.args.token) (sym c.open_braces.ensures.depth) ∙ sym c.undelimited_turn.ensures ∙ c.in-Keep.is in
    let l : length c.push.new.self ≡ length m.read + 1 = ap length c.in_ok-push-in-Keep.ensures.ok ∙ length_push m.read c.args.token in
    record { flat = m.flat; short = omega (arith, l, m.short); shallow = omega (arith, behind_bound c.args.token m.depth c.in-Keep.depth (keep_turn m.depth m.long c.args.token c.in-Keep.depth e).1, l, m.shallow) }

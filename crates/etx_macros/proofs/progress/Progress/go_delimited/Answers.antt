-- The depth is bounded by what was read.
use Rattle.std.proofs.Common.{◌≡◌, ◌+◌, ℕ, Ok, length, sym, ap, ◌∙◌, arith, nat_lt}
use Rattle.std.proofs.lemmas.List.{length_push}
use Rattle.etx_macros.specs.Matching.{delimited_turn}
use Rattle.etx_macros.proofs.Depths.{behind_bound}
use Rattle.etx_macros.proofs.Turns as turns
use Rattle.etx_macros.proofs.progress.Progress.go_delimited.Goals as goal

pub invariant_of-self-in-Ok : goal.invariant_of-self-in-Ok
invariant_of-self-in-Ok c =
    let m = c.args.self.now in
    let k : ℕ = c.matched_now-matched.result in
    let e : delimited_turn (nat_lt 0 k) m.depth m.long c.args.token ≡ Ok c.in-Ok.depth =
    ap (λ d. delimited_turn (nat_lt 0 k) d m.long c.args.token) (sym c.open_braces.ensures.depth) ∙ sym c.delimited_turn.ensures ∙ c.in-Ok.is in
    let l : length c.push.new.self ≡ length m.read + 1 = ap length c.in_ok-push.ensures.ok ∙ length_push m.read c.args.token in
    record {
      shallow = omega (arith, behind_bound c.args.token m.depth c.in-Ok.depth (turns.delimited_keep (nat_lt 0 k) m.depth m.long c.args.token c.in-Ok.depth e).1, l, m.shallow);
      short = c.matched_now-matched.ensures.short;
      flat = m.flat;
    }

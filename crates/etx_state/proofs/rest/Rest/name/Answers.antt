use Rattle.std.proofs.Common.{◌≡◌, ◌≤◌, ℕ, false, nat_lt, arith, ap, ◌∙◌, sym}
use Rattle.std.proofs.lemmas.Bool.Decides.{nat_tests}
use Rattle.etx_state.specs.Rests.{has_room, number_of}
use Rattle.etx_state.proofs.rest.Rest.name.Goals as goal

no_room : (n : ℕ) → n ≡ 1048576 → nat_lt n 1048576 ≡ false
no_room n e = grind (arith, nat_tests)

full : (n : ℕ) → n ≤ 1048576 → nat_lt n 1048576 ≡ false → n ≡ 1048576
full n le e = grind (arith, nat_tests)

pub returns-in-None-clause-full : goal.returns-in-None-clause-full
unfolding has_room number_of
returns-in-None-clause-full c =
    let at = c.in-None.ensures.place in (
      λ e. ap (λ (n : ℕ). nat_lt n 1048576) at ∙ no_room _ (c.add_name.ensures.full.0 e),
      λ e. c.add_name.ensures.full.1 (full _ c.find.ensures.most (sym (ap (λ (n : ℕ). nat_lt n 1048576) at) ∙ e)),
    )

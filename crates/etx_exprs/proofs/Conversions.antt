-- A division in two steps.
use Rattle.std.proofs.Common.{◌≡◌, ◌<◌, ◌+◌, ◌*◌, ◌/◌, ◌%◌, ℕ, arith, sym}
use Rattle.std.proofs.Math.Nat.{mul-add-div_right}
use Rattle.std.proofs.lemmas.Nat.{div-add-mod'}

gathered : (w f num den q r : ℕ) → q * den + r ≡ w * num → (w * 65536 + f) * num ≡ q * 65536 * den + (num * f + 65536 * r)
gathered w f num den q r e = omega (arith, e)

pub two_steps : (whole fraction num den : ℕ) → 0 < den →
    whole * num / den * 65536 + (num * fraction + 65536 * (whole * num % den)) / den ≡ (whole * 65536 + fraction) * num / den
two_steps w f num den some =
    rw (gathered w f num den (w * num / den) (w * num % den) (div-add-mod' (w * num) den))
    (sym (mul-add-div_right some (w * num / den * 65536) (num * f + 65536 * (w * num % den))))

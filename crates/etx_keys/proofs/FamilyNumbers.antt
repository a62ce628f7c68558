-- The parameters of a font by kind.
use Rattle.std.proofs.Common.{◌≡◌, ℕ, zero, suc, ◌≤◌, refl, arith}
use Rattle.etx_keys.specs.declared.kind.Kind.TheVariants as kinds
use Rattle.etx_keys.specs.Families.{font_dimen_kind}

-- from the eighth on they are of one kind
pub kind_far : (parameter : ℕ) → 8 ≤ parameter → font_dimen_kind parameter ≡ kinds.FontDimen
kind_far zero h = refl
kind_far (suc zero) h = absurd (omega (arith, h))
kind_far (suc (suc zero)) h = absurd (omega (arith, h))
kind_far (suc (suc (suc zero))) h = absurd (omega (arith, h))
kind_far (suc (suc (suc (suc zero)))) h = absurd (omega (arith, h))
kind_far (suc (suc (suc (suc (suc zero))))) h = absurd (omega (arith, h))
kind_far (suc (suc (suc (suc (suc (suc zero)))))) h = absurd (omega (arith, h))
kind_far (suc (suc (suc (suc (suc (suc (suc zero))))))) h = absurd (omega (arith, h))
kind_far (suc (suc (suc (suc (suc (suc (suc (suc parameter)))))))) h = refl

-- Lines behind those that have shapes of their own.
use Rattle.std.proofs.Common.{◌≡◌, ℕ, zero, suc, ◌≤◌, List, [], ◌∷◌, length, slice_get, refl, arith}
use Rattle.etx_sealed.specs.declared.shape.LineShape.{LineShape}
use Rattle.etx_sealed.specs.Shapes.{shape_or}

pub past_end : (shapes : List LineShape) (k : ℕ) (rest : LineShape) → length shapes ≤ k → rest ≡ shape_or rest (slice_get shapes k)
past_end [] k rest h = refl
past_end (s ∷ shapes) zero rest h = absurd (omega (arith, h))
past_end (s ∷ shapes) (suc k) rest h = past_end shapes k rest (omega (arith, h))

use Rattle.std.proofs.Common.{◌≡◌, ◌∷◌, take}
use Rattle.std.specs.List.{flat_map}
use Rattle.etx_dvi.specs.Numbers.{four}
use Rattle.etx_dvi.proofs.cold.page.Given as goal

abbrev pub invariant-loop-count : goal.invariant-loop-count
invariant-loop-count l = l.bytes.items ≡ 139 ∷ flat_map four (take l.count-index l.counts)

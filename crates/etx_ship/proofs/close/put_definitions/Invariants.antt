use Rattle.std.proofs.Common.{◌≡◌, ◌≤◌, ◌++◌, drop, length}
use Rattle.std.specs.List.{flat_map}
use Rattle.etx_dvi.specs.Commands.{bytes_of}
use Rattle.etx_ship.specs.Files.{definitions}
use Rattle.etx_ship.proofs.close.put_definitions.Given as goal

abbrev pub invariant-loop-number : goal.invariant-loop-number
invariant-loop-number l = record {
  within : l.number ≤ length l.fn.fonts;
  so_far : l.out.items ≡ l.fn.out.items ++ flat_map bytes_of (definitions l.number (drop l.number l.fn.fonts) (drop l.number l.fn.used));
}

abbrev pub decreases-loop-number : goal.decreases-loop-number
decreases-loop-number l = l.number

use Rattle.std.proofs.Common.{◌≡◌, ◌≤◌}
use Rattle.etx_mouth.specs.Counting.{AreDigits}
use Rattle.etx_mouth.proofs.skim_number.read_constant.Given as goal

abbrev pub invariant-loop-token : goal.invariant-loop-token
invariant-loop-token l = record {
  at : l.count ≡ l.token-index;
  base : l.digits.base ≡ 10;
  taken : AreDigits l.count l.tokens l.digits;
  fits : l.count ≤ l.room;
}

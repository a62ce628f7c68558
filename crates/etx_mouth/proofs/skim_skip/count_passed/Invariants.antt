use Rattle.std.proofs.Common.{◌≡◌, ◌≤◌}
use Rattle.etx_state.specs.Rests.{rest_of}
use Rattle.etx_mouth.specs.Passing.{ArePassed}
use Rattle.etx_mouth.proofs.skim_skip.count_passed.Given as goal

abbrev pub invariant-loop-token : goal.invariant-loop-token
invariant-loop-token l = record {
  at : l.count ≡ l.token-index;
  passed : ArePassed (rest_of l.rest).values l.count l.tokens;
  fits : l.count ≤ l.room;
}

use Rattle.std.proofs.Common.{◌≡◌, ◌≤◌}
use Rattle.etx_state.specs.Rests.{rest_of}
use Rattle.etx_mouth.specs.Gathering.{AreCopied}
use Rattle.etx_mouth.proofs.skim_body.count_copied.Given as goal

abbrev pub invariant-loop-token : goal.invariant-loop-token
invariant-loop-token l = record {
  at : l.count ≡ l.token-index;
  copied : AreCopied (rest_of l.rest).values l.count l.tokens l.fn.depth l.inside;
  fits : l.count ≤ l.room;
}

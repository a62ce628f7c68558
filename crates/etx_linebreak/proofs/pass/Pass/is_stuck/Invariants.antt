use Rattle.std.proofs.Common.{◌≡◌, drop}
use Rattle.etx_linebreak.specs.Rows.{is_stuck}
use Rattle.etx_linebreak.proofs.pass.Pass.is_stuck.Given as goal

abbrev pub invariant-loop-index : goal.invariant-loop-index
invariant-loop-index l = is_stuck l.self l.break_number (drop l.index l.active) ≡ is_stuck l.self l.break_number l.active

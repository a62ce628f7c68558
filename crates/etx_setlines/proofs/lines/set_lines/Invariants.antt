use Rattle.std.proofs.Common.{◌≡◌, ◌+◌, ◌<◌, ◌≤◌, length}
use Rattle.etx_matter.specs.Nests.{AreNested}
use Rattle.etx_setlines.specs.Additions.{finished}
use Rattle.etx_setlines.specs.Settings.{lines_of}
use Rattle.etx_setlines.proofs.lines.set_lines.Given as goal

abbrev pub invariant-loop-to : goal.invariant-loop-to
invariant-loop-to l = record {
  lines : finished l.sealed l.setting l.from l.rest ≡ lines_of l.sealed l.breaks;
  from : l.from < 4294967296;
  count : l.setting.count + length l.rest ≤ length l.breaks;
  nested : AreNested l.setting.list;
}

abbrev pub decreases-loop-to : goal.decreases-loop-to
decreases-loop-to l = length l.rest

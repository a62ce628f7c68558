use Rattle.std.proofs.Common.{◌≡◌, ◌-◌}
use Rattle.etx_matter.specs.Fonts.{comes_to}
use Rattle.etx_tfm.proofs.checks.comes_round.Given as goal

abbrev pub invariant-loop : goal.invariant-loop
invariant-loop l = comes_to l.font l.code (256 - l.counter) l.at ≡ comes_to l.font l.code 256 l.code

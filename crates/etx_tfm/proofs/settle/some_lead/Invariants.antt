use Rattle.std.proofs.Common.{◌≡◌, drop}
use Rattle.etx_tfm.specs.Leading.{some_lead}
use Rattle.etx_tfm.proofs.settle.some_lead.Given as goal

abbrev pub invariant-loop-step : goal.invariant-loop-step
invariant-loop-step l = some_lead (drop l.step-index l.steps) ≡ some_lead l.steps

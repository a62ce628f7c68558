use Rattle.etx_scaled.proofs.Badnesses.{badness_most, badness_grows, badness_without}
use Rattle.etx_scaled.proofs.law.badness_grows.Goals as goal

pub returns-clause-most : goal.returns-clause-most
returns-clause-most c = badness_most

pub returns-clause-grows : goal.returns-clause-grows
returns-clause-grows c = badness_grows

pub returns-clause-without : goal.returns-clause-without
returns-clause-without c = badness_without

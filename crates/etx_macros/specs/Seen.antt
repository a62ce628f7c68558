-- The match of a call as the code has it.
use Rattle.etx_macros.specs.declared.progress.Progress.{Progress}
use Rattle.etx_macros.specs.State.{MatcherState}

abbrev pub state_of : Progress → MatcherState
state_of m = record { parts = m.pattern; long = m.long; args = m.args; part = m.part; read = m.read; depth = m.depth; matched = m.matched; failed = m.failed }

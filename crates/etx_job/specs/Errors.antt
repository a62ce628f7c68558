-- The errors that are counted.
use Rattle.std.specs.Prelude.{ℕ}

-- a job gives up at its hundredth error since the last paragraph ended
abbrev pub most_errors : ℕ
most_errors = 100

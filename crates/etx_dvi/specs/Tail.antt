-- What fills up a file.
use Rattle.std.specs.Prelude.{ℕ, ◌+◌, ◌-◌, ◌%◌, List, replicate}

-- how many bytes: four, and as many as bring the file to a multiple of four
abbrev pub tail_length : ℕ → ℕ
tail_length place = 4 + (4 - place % 4) % 4

abbrev pub tail_of : ℕ → List ℕ
tail_of place = replicate (tail_length place) 223

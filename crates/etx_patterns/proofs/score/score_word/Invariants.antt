use Rattle.std.proofs.Common.{◌≡◌, ℕ, ◌<◌, length, get_or}
use Rattle.std.specs.List.{range_with_len}
use Rattle.etx_patterns.specs.Tables.{given_digit, greatest_of}
use Rattle.etx_patterns.proofs.score.score_word.Given as goal

abbrev pub invariant-loop-start : goal.invariant-loop-start
invariant-loop-start l =
    (place : ℕ) → place < length l.initial.scores
    → get_or l.scores place 0 ≡ greatest_of (λ start. greatest_of (given_digit l.language l.marks start place) l.patterns) (range_with_len 0 l.start)

-- The numbers that a document is drawn from: a stream that its seed decides.
use Rattle.std.specs.Prelude.{ℕ, zero, suc, ◌+◌, ◌*◌, ◌/◌, ◌%◌}

-- The seed that follows: a multiplier and an increment, modulo 2^31.
unfoldable pub next_seed : ℕ → ℕ
next_seed seed = (seed * 1103515245 + 12345) % 2147483648

-- What one draw gives: the upper half of the seed that follows, which is below 2^15.
unfoldable pub drawn : ℕ → ℕ
drawn seed = next_seed seed / 65536

-- The seed after a number of draws.
abbrev pub seed_after : ℕ → ℕ → ℕ
seed_after zero seed = seed
seed_after (suc draws) seed = next_seed (seed_after draws seed)

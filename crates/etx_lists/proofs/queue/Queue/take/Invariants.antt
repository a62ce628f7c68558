use Rattle.std.proofs.Common.{◌≡◌, ◌≤◌, take, drop, vec_len, vec_capacity}
use Rattle.etx_lists.proofs.queue.Queue.take.Given as goal

abbrev pub invariant-loop : goal.invariant-loop
invariant-loop g l =
    (l.front.items ≡ take l.counter l.fn.self) × (l.self-inside.items.items ≡ drop l.counter l.fn.self)
    × (vec_len l.front ≡ l.counter) × (l.count ≤ vec_capacity l.front)

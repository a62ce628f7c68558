use Rattle.std.proofs.Common.{◌+◌, ◌≤◌, sym, arith}
use Rattle.etx_tfm.specs.Pairs.{IsEnd}
use Rattle.etx_tfm.proofs.Knowing.{ends_here, ends_pair, ends_twice, waits_pair, waits_first, waits_second, known_ends, found_at, waits_at}
use Rattle.etx_tfm.proofs.pairs.look_at.Goals as goal

pub overflow_add-result : goal.overflow_add-result
overflow_add-result c =
    let small : c.in-Some.end.depth ≤ 66_049 = (c.requires.table.ends c.place_of-inner.result c.in-Some.end c.in-Some.ensures).small in
    omega (arith, small)

pub overflow_add-result-in-Some-known_at-2 : goal.overflow_add-result-in-Some-known_at-2
overflow_add-result-in-Some-known_at-2 c =
    let first : c.in-Some-known_at.first.depth ≤ 66_049 =
    (c.requires.table.ends c.place_of-inner-in-Twice.result c.in-Some-known_at.first c.in-Some-known_at.ensures).small in
    let second : c.in-Some-known_at-2.end.depth ≤ 66_049 =
    (c.requires.table.ends c.place_of-second.result c.in-Some-known_at-2.end c.in-Some-known_at-2.ensures).small in
    omega (arith, first, second, c.max.ensures)

pub returns-in-Here : goal.returns-in-Here
returns-in-Here c =
    found_at c.args.font.now c.args.place c.left_of-current.result c.right_of-next.result (record { item = c.in-Here.item; depth = 1 })
    c.left_of-current.ensures c.right_of-next.ensures (omega arith)
    (ends_here c.args.font.now c.left_of-current.result c.right_of-next.result c.in-Here.item (sym c.in-Here.ensures))

pub returns-in-Some : goal.returns-in-Some
returns-in-Some c =
    let small : c.in-Some.end.depth ≤ 66_049 = (c.requires.table.ends c.place_of-inner.result c.in-Some.end c.in-Some.ensures).small in
    let inner : IsEnd c.args.font.now c.in-Pair.left c.in-Pair.right c.in-Some.end =
    known_ends c.args.font.now c.args.known.now c.place_of-inner.result c.in-Some.end c.in-Pair.left c.in-Pair.right
    c.requires.table c.in-Some.ensures c.place_of-inner.ensures.left c.place_of-inner.ensures.right in
    found_at c.args.font.now c.args.place c.left_of-current.result c.right_of-next.result (record { item = c.in-Some.end.item; depth = c.in-Some.end.depth + 1 })
    c.left_of-current.ensures c.right_of-next.ensures (omega (arith, small))
    (ends_pair c.args.font.now c.left_of-current.result c.right_of-next.result c.in-Pair.left c.in-Pair.right c.in-Some.end (sym c.in-Pair.ensures) inner)

pub returns-in-None : goal.returns-in-None
returns-in-None c =
    waits_at c.args.font.now c.args.known.now c.args.place c.place_of-inner.result c.left_of-current.result c.right_of-next.result c.in-Pair.left c.in-Pair.right
    c.left_of-current.ensures c.right_of-next.ensures c.place_of-inner.ensures.small c.in-None.ensures c.place_of-inner.ensures.left c.place_of-inner.ensures.right
    (waits_pair c.args.font.now c.left_of-current.result c.right_of-next.result c.in-Pair.left c.in-Pair.right (sym c.in-Pair.ensures))

pub returns-in-Some-known_at-2 : goal.returns-in-Some-known_at-2
returns-in-Some-known_at-2 c =
    let small : c.in-Some-known_at.first.depth ≤ 66_049 =
    (c.requires.table.ends c.place_of-inner-in-Twice.result c.in-Some-known_at.first c.in-Some-known_at.ensures).small in
    let second : c.in-Some-known_at-2.end.depth ≤ 66_049 =
    (c.requires.table.ends c.place_of-second.result c.in-Some-known_at-2.end c.in-Some-known_at-2.ensures).small in
    let inner : IsEnd c.args.font.now c.left_of-current.result c.in-Twice.made c.in-Some-known_at.first =
    known_ends c.args.font.now c.args.known.now c.place_of-inner-in-Twice.result c.in-Some-known_at.first c.left_of-current.result c.in-Twice.made
    c.requires.table c.in-Some-known_at.ensures c.place_of-inner-in-Twice.ensures.left c.place_of-inner-in-Twice.ensures.right in
    let outer : IsEnd c.args.font.now c.in-Some-known_at.first.item c.right_of-next.result c.in-Some-known_at-2.end =
    known_ends c.args.font.now c.args.known.now c.place_of-second.result c.in-Some-known_at-2.end c.in-Some-known_at.first.item c.right_of-next.result
    c.requires.table c.in-Some-known_at-2.ensures c.place_of-second.ensures.left c.place_of-second.ensures.right in
    let ends : IsEnd c.args.font.now c.left_of-current.result c.right_of-next.result (record { item = c.in-Some-known_at-2.end.item; depth = c.max.result + 1 }) =
    rw c.max.ensures (ends_twice c.args.font.now c.left_of-current.result c.right_of-next.result c.in-Twice.made c.in-Some-known_at.first c.in-Some-known_at-2.end
    (sym c.in-Twice.ensures) inner outer) in
    found_at c.args.font.now c.args.place c.left_of-current.result c.right_of-next.result (record { item = c.in-Some-known_at-2.end.item; depth = c.max.result + 1 })
    c.left_of-current.ensures c.right_of-next.ensures (omega (arith, small, second, c.max.ensures)) ends

pub returns-in-None-known_at-2 : goal.returns-in-None-known_at-2
returns-in-None-known_at-2 c =
    let inner : IsEnd c.args.font.now c.left_of-current.result c.in-Twice.made c.in-Some-known_at.first =
    known_ends c.args.font.now c.args.known.now c.place_of-inner-in-Twice.result c.in-Some-known_at.first c.left_of-current.result c.in-Twice.made
    c.requires.table c.in-Some-known_at.ensures c.place_of-inner-in-Twice.ensures.left c.place_of-inner-in-Twice.ensures.right in
    waits_at c.args.font.now c.args.known.now c.args.place c.place_of-second.result c.left_of-current.result c.right_of-next.result c.in-Some-known_at.first.item c.right_of-next.result
    c.left_of-current.ensures c.right_of-next.ensures c.place_of-second.ensures.small c.in-None-known_at-2.ensures c.place_of-second.ensures.left c.place_of-second.ensures.right
    (waits_second c.args.font.now c.left_of-current.result c.right_of-next.result c.in-Twice.made c.in-Some-known_at.first (sym c.in-Twice.ensures) inner)

pub returns-in-None-known_at : goal.returns-in-None-known_at
returns-in-None-known_at c =
    waits_at c.args.font.now c.args.known.now c.args.place c.place_of-inner-in-Twice.result c.left_of-current.result c.right_of-next.result c.left_of-current.result c.in-Twice.made
    c.left_of-current.ensures c.right_of-next.ensures c.place_of-inner-in-Twice.ensures.small c.in-None-known_at.ensures c.place_of-inner-in-Twice.ensures.left c.place_of-inner-in-Twice.ensures.right
    (waits_first c.args.font.now c.left_of-current.result c.right_of-next.result c.in-Twice.made (sym c.in-Twice.ensures))

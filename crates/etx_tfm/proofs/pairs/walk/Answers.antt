use Rattle.std.proofs.Common.{◌<◌, ◌∷◌, sym, length, arith}
use Rattle.etx_tfm.proofs.Waiting.{IsWalk, begun, pushed, popped, noted, open_below, open_deep, found_last, falls_noted, nothing_left}
use Rattle.etx_tfm.proofs.pairs.walk.Goals as goal

pub loop-inner-init : goal.loop-inner-init
loop-inner-init c =
    rw c.new-waiting.ensures.items (begun c.args.font.now c.args.depth c.args.start c.args.known.now c.requires.table c.requires.place c.requires.unknown)

pub returns-then-len-depth-clause-value : goal.returns-then-len-depth-clause-value
returns-then-len-depth-clause-value c =
    sym (open_below c.args.font.now c.args.depth c.args.start c.loop-inner.top c.loop-inner.waiting.items c.loop-inner.known c.loop-inner.invariant (omega arith))

pub loop-inner-preserved-in-Waits : goal.loop-inner-preserved-in-Waits
loop-inner-preserved-in-Waits c =
    let low : length c.loop-inner.waiting.items < c.args.depth = omega arith in
    rw c.in_ok-push_front-in-Waits.ensures.items
    (pushed c.args.font.now c.args.depth c.args.start c.loop-inner.top c.in-Waits.inner c.loop-inner.waiting.items c.loop-inner.known c.loop-inner.invariant c.in-Waits.ensures low)

pub returns-then-depth-end-clause-value : goal.returns-then-depth-end-clause-value
returns-then-depth-end-clause-value c =
    sym (open_deep c.args.font.now c.args.depth c.args.start c.loop-inner.top c.loop-inner.waiting.items c.loop-inner.known c.in-Ends.end c.loop-inner.invariant
    c.in-Ends.ensures c.if-depth-end.true)

pub loop-inner-smaller : goal.loop-inner-smaller
loop-inner-smaller c =
    rw (c.note.ensures, c.in-Some.ensures.items)
    (falls_noted c.loop-inner.top c.in-Some.outer c.in-Ends.end c.pop_front.new.self.items c.loop-inner.known c.loop-inner.invariant.unknown)

pub loop-inner-preserved : goal.loop-inner-preserved
loop-inner-preserved c =
    let walk : IsWalk c.args.font.now c.args.depth c.args.start c.loop-inner.top (c.in-Some.outer ∷ c.pop_front.new.self.items) c.loop-inner.known =
    rw c.in-Some.ensures.items at c.loop-inner.invariant in
    rw c.note.ensures
    (popped c.args.font.now c.args.depth c.args.start c.loop-inner.top c.in-Some.outer c.pop_front.new.self.items c.loop-inner.known c.in-Ends.end walk c.in-Ends.ensures
    (omega (arith, c.if-depth-end.false, c.requires.depth)))

pub returns-in-None-clause-table : goal.returns-in-None-clause-table
returns-in-None-clause-table c =
    rw c.note.ensures
    (noted c.args.font.now c.loop-inner.known c.loop-inner.top c.in-Ends.end c.loop-inner.invariant.table c.loop-inner.invariant.unknown c.in-Ends.ensures
    (omega (arith, c.if-depth-end.false, c.requires.depth)))

pub returns-in-None-clause-value : goal.returns-in-None-clause-value
returns-in-None-clause-value c =
    sym (found_last c.args.font.now c.args.depth c.args.start c.loop-inner.top c.loop-inner.waiting.items c.loop-inner.known c.in-Ends.end c.loop-inner.invariant
    (nothing_left c.loop-inner.waiting.items c.pop_front.new.self.items c.in-None.ensures.items c.in-None.ensures.rest) c.in-Ends.ensures c.if-depth-end.false)

use Rattle.std.proofs.Common.{◌≡◌, length, refl}
use Rattle.etx_hyphen.specs.declared.cuts.Unbroken.{Unbroken}
use Rattle.etx_hyphen.specs.Rebuilds.{unbroken_of}
use Rattle.etx_hyphen.proofs.Nested.{rebuilt_nested}
use Rattle.etx_hyphen.proofs.Steps.{rebuilds-step, rebuilt_by}
use Rattle.etx_hyphen.proofs.rebuilding.rebuild_between.Goals as goal

pub loop-place-init : goal.loop-place-init
loop-place-init c = λ cuts r. (cuts, r, refl)

pub loop-place-preserved : goal.loop-place-preserved
loop-place-preserved c =
    rebuilds-step c.args.font.now c.args.hyphen c.args.ends c.args.word.now
    (record { letters = length c.args.word.now; nodes = c.len.result; places = c.in_ok-reading.reading.places })
    c.new-progress.result c.loop-place.progress c.cut.new.self c.args.places.now c.loop-place.place-index c.in_ok-cut.cut
    c.loop-place.invariant c.loop-place-test.true c.in_ok-cut.ensures.cut c.in_ok-cut-2.ensures

pub returns-clause-rebuilt : goal.returns-clause-rebuilt
returns-clause-rebuilt c =
    let word : Unbroken = record { letters = length c.args.word.now; nodes = c.len.result; places = c.in_ok-reading.reading.places } in
    let same : word ≡ unbroken_of c.args.word.now c.in_ok-reading.reading = cc (c.len.ensures.len) in
    rebuilt_by c.args.font.now c.args.hyphen c.args.ends c.args.word.now c.args.places.now c.in_ok-reading.reading word
    c.new-progress.result c.loop-place.progress c.loop-place.place-index c.in_ok-nodes.nodes
    c.in_ok-reading.ensures.places same c.new-progress.ensures c.loop-place.invariant c.loop-place-test.false c.in_ok-nodes.ensures

pub returns-clause-nested : goal.returns-clause-nested
returns-clause-nested c =
    let word : Unbroken = record { letters = length c.args.word.now; nodes = c.len.result; places = c.in_ok-reading.reading.places } in
    let same : word ≡ unbroken_of c.args.word.now c.in_ok-reading.reading = cc (c.len.ensures.len) in
    rebuilt_nested c.args.font.now c.args.hyphen c.args.ends c.args.word.now c.args.places.now c.in_ok-nodes.nodes
    (rebuilt_by c.args.font.now c.args.hyphen c.args.ends c.args.word.now c.args.places.now c.in_ok-reading.reading word
    c.new-progress.result c.loop-place.progress c.loop-place.place-index c.in_ok-nodes.nodes
    c.in_ok-reading.ensures.places same c.new-progress.ensures c.loop-place.invariant c.loop-place-test.false c.in_ok-nodes.ensures)

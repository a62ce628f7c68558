use Rattle.std.proofs.Common.{arith, rules}
use Rattle.etx_hyphen.specs.Words.{nothing_gathered}
use Rattle.etx_hyphen.proofs.Founds.{gathered-step}
use Rattle.etx_hyphen.proofs.letters.gather_word.Goals as goal

pub loop-node-preserved : goal.loop-node-preserved
loop-node-preserved c =
    let more =
    gathered-step c.args.params.now c.args.wanted nothing_gathered c.loop-node.word c.take.new.self c.args.nodes.now c.loop-node.node-index c.node-item.result
    c.in_ok-take.field-0 c.loop-node.invariant.word c.loop-node-test.true c.node-item.is (search rules) c.in_ok-take.ensures.taken in
    record {
      word = more.0;
      count = omega (arith, more.1, c.loop-node.invariant.count);
      few = c.in_ok-take.ensures.grows.few c.loop-node.invariant.few;
      some = c.in_ok-take.ensures.grows.some c.loop-node.invariant.some;
    }

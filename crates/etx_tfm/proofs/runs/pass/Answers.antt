use Rattle.std.proofs.Common.{◌∙◌, arith}
use Rattle.etx_tfm.specs.Machine.{nodes_of}
use Rattle.etx_tfm.proofs.Passing.{passed-by}
use Rattle.etx_tfm.proofs.Beginnings.{begins-over, begins-with}
use Rattle.etx_tfm.proofs.runs.pass.Goals as goal

pub loop-preserved : goal.loop-preserved
loop-preserved c = record {
  comes = passed-by c.args.font.now c.args.count c.loop.counter c.loop.out c.write.new.out c.loop.edges c.write.new.edges c.in-Some.piece
      c.loop.rest.items c.pop.new.self.items c.loop-test.true c.in-Some.ensures.0 c.is_end-ends.ensures
      c.in_ok-write-in-Some.ensures.nodes c.in_ok-write-in-Some.ensures.edges
      ∙ c.loop.invariant.comes;
  less = omega (arith, c.in-Some.ensures.1, c.loop.invariant.less);
  begins = begins-over c.args.out.now c.loop.out c.write.new.out c.loop.invariant.begins
      (begins-with c.loop.out c.write.new.out (nodes_of c.args.font.now c.loop.edges c.is_end-ends.result c.in-Some.piece) c.in_ok-write-in-Some.ensures.nodes);
}

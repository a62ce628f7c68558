use Rattle.std.proofs.Common.{ap, ◌∙◌, ◌∷◌, arith}
use Rattle.std.proofs.lemmas.Result.{on_ok_weaker}
use Rattle.etx_matter.specs.declared.node.Node.{Node}
use Rattle.etx_tfm.specs.Machine.{place}
use Rattle.etx_tfm.specs.Cleans.{RestState}
use Rattle.etx_tfm.proofs.Merging.{merges}
use Rattle.etx_tfm.proofs.runs.make.Goals as goal

pub returns-in_ok-merged-clause-ok : goal.returns-in_ok-merged-clause-ok
returns-in_ok-merged-clause-ok c =
    on_ok_weaker c.push.result
    (λ h. ap (λ (it : RestState). place c.args.out.now c.with_those_of.result it.items) h
    ∙ merges c.args.font.now c.args.out.now c.args.edges.now c.with_those_of.result c.args.current c.in-Some.next c.in_ok-merged.field-0 c.args.rest.now.items c.pop.new.self.items
    c.args.making.code c.args.making.passes c.kept-stay.result c.args.making.keeps_current c.args.making.keeps_next c.kept-stay.ensures (omega (arith, c.if-stay-gt0.false)) c.in-Some.ensures.0 c.with_those_of.ensures c.in_ok-merged.ensures)
    c.push.ensures.ok

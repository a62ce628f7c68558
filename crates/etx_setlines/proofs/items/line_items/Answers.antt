use Rattle.std.proofs.Common.{ap, ◌∙◌}
use Rattle.etx_sealed.specs.declared.params.ParParams.{ParParams}
use Rattle.etx_setlines.specs.declared.sorting.Sorted.{Sorted}
use Rattle.etx_setlines.proofs.Parted.{staying_line, moving_line}
use Rattle.etx_setlines.proofs.items.line_items.Goals as goal

pub returns-clause-line : goal.returns-clause-line
returns-clause-line c =
    staying_line c.args.sealed.now c.args.from c.args.to c.as_slice-nodes.result.now c.params.result.now.skips.left c.params.result.now.skips.right
    c.new-sorted.result.line c.put_left.new.self.line c.put_all.new.self.line c.put_all-2.new.self.line c.put_end.new.self.line c.put.new.self.line
    c.after_at.result.now c.kept.result.now c.glue_node.result
    (c.as_slice-nodes.ensures.same ∙ c.list.ensures.value) (ap (λ (it : ParParams). it.skips.left) c.params.ensures)
    (ap (λ (it : ParParams). it.skips.right) c.params.ensures) c.after_at.ensures.value c.kept.ensures.value
    (ap (λ (it : Sorted). it.line) c.new-sorted.ensures.value) c.in_ok-put_left.ensures.line c.in_ok-put_all.ensures.line c.in_ok-put_all-2.ensures.line
    c.in_ok-put_end.ensures.line c.in_ok-put.ensures.line c.glue_node.ensures.value

pub returns-clause-moved : goal.returns-clause-moved
returns-clause-moved c =
    moving_line c.args.sealed.now c.args.from c.args.to c.as_slice-nodes.result.now c.params.result.now.skips.left c.params.result.now.skips.right
    c.new-sorted.result.moved c.put_left.new.self.moved c.put_all.new.self.moved c.put_all-2.new.self.moved c.put_end.new.self.moved c.put.new.self.moved
    c.after_at.result.now c.kept.result.now c.glue_node.result
    (c.as_slice-nodes.ensures.same ∙ c.list.ensures.value) (ap (λ (it : ParParams). it.skips.left) c.params.ensures)
    (ap (λ (it : ParParams). it.skips.right) c.params.ensures) c.after_at.ensures.value c.kept.ensures.value
    (ap (λ (it : Sorted). it.moved) c.new-sorted.ensures.value) c.in_ok-put_left.ensures.moved c.in_ok-put_all.ensures.moved c.in_ok-put_all-2.ensures.moved
    c.in_ok-put_end.ensures.moved c.in_ok-put.ensures.moved c.glue_node.ensures.value

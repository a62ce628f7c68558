use Rattle.etx_setlines.specs.Items.{spent_disc}
use Rattle.etx_setlines.proofs.Parted.{staying-first, moving-first}
use Rattle.etx_setlines.proofs.sorting.Sorted.put_disc.Goals as goal

pub returns-clause-line : goal.returns-clause-line
returns-clause-line c =
    rw (← c.text_before.ensures.value)
    (staying-first c.args.self.now.line c.put.new.self.line c.put_all.new.self.line spent_disc c.in_ok-spent_disc.field-0 c.text_before.result.now
    c.in_ok-put.ensures.line c.in_ok-spent_disc.ensures.value c.in_ok-put_all.ensures.line)

pub returns-clause-moved : goal.returns-clause-moved
returns-clause-moved c =
    rw (← c.text_before.ensures.value)
    (moving-first c.args.self.now.moved c.put.new.self.moved c.put_all.new.self.moved spent_disc c.in_ok-spent_disc.field-0 c.text_before.result.now
    c.in_ok-put.ensures.moved c.in_ok-spent_disc.ensures.value c.in_ok-put_all.ensures.moved)

use Rattle.std.proofs.Common.{◌≡◌, ◌-◌, length}
use Rattle.etx_input.specs.Marks.{input_of}
use Rattle.etx_input.proofs.Listed.{innermost_listed}
use Rattle.etx_input.proofs.Marks.{keeps_by}
use Rattle.etx_input.proofs.Tops.{top_or, all_counted, free_still}
use Rattle.etx_input.proofs.levels.Levels.give_listed.Goals as goal

pub returns-clause-listed : goal.returns-clause-listed
unfolding input_of
returns-clause-listed c =
    let xs = c.args.self.now.levels.items in
    let old = c.last_mut.result.now in
    innermost_listed c.give_listed.result xs (length xs - 1) c.args.self.now.left old c.give_listed.new.self
    (all_counted xs old c.last_mut.ensures.value) (top_or xs old c.last_mut.ensures.value) c.give_listed.ensures

pub returns-clause-free : goal.returns-clause-free
returns-clause-free c = free_still c.args.self.now.levels c.give_listed.new.self c.requires

pub returns-clause-kept : goal.returns-clause-kept
returns-clause-kept c = keeps_by _ _ (c.is_free-free.ensures.changes c.requires c.give_listed.new.self)

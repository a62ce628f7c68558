use Rattle.std.proofs.Common.{◌≡◌}
use Rattle.etx_outside.proofs.Outsides.{front_all}
use Rattle.etx_settle.proofs.Writing.{front_of_file, whole_of_file, front_of_both, whole_of_both}
use Rattle.etx_settle.proofs.pen.write.Goals as goal

pub returns-in_err-add_to_created-clause-front : goal.returns-in_err-add_to_created-clause-front
returns-in_err-add_to_created-clause-front g c = λ tree_tells terminal_tells.
    let n = c.in_err-add_to_created.ensures.err tree_tells in
    front_of_file _ _ _ c.args.created.now c.args.name.now c.args.bytes.now c.args.is_shown n.0 c.args.tree.now _ _ n.1 (c.in_err-add_to_created.ensures.asked tree_tells)

pub returns-in_err-say-clause-front : goal.returns-in_err-say-clause-front
returns-in_err-say-clause-front g c = λ tree_tells terminal_tells.
    let n = c.in_err-say.ensures.err terminal_tells in
    front_of_both _ _ _ c.args.created.now c.args.name.now c.args.bytes.now c.args.is_shown n.0 c.args.tree.now _ _ _ c.if-is_shown.true (c.in_ok-add_to_created.ensures.ok tree_tells) (c.in_ok-add_to_created.ensures.asked tree_tells) n.1

pub returns-in_ok-say-clause-ok : goal.returns-in_ok-say-clause-ok
returns-in_ok-say-clause-ok g c = λ tree_tells terminal_tells.
    whole_of_both _ _ _ c.args.created.now c.args.name.now c.args.bytes.now c.args.is_shown c.args.tree.now _ _ _ c.if-is_shown.true (c.in_ok-add_to_created.ensures.ok tree_tells) (c.in_ok-add_to_created.ensures.asked tree_tells) (c.in_ok-say.ensures.ok terminal_tells)

pub returns-in_ok-say-clause-front : goal.returns-in_ok-say-clause-front
returns-in_ok-say-clause-front g c = λ tree_tells terminal_tells. front_all (returns-in_ok-say-clause-ok g c tree_tells terminal_tells)

pub returns-else-is_shown-clause-ok : goal.returns-else-is_shown-clause-ok
returns-else-is_shown-clause-ok g c = λ tree_tells terminal_tells.
    whole_of_file _ _ _ c.args.created.now c.args.name.now c.args.bytes.now c.args.is_shown c.args.tree.now _ _ c.if-is_shown.false (c.in_ok-add_to_created.ensures.ok tree_tells) (c.in_ok-add_to_created.ensures.asked tree_tells)

pub returns-else-is_shown-clause-front : goal.returns-else-is_shown-clause-front
returns-else-is_shown-clause-front g c = λ tree_tells terminal_tells. front_all (returns-else-is_shown-clause-ok g c tree_tells terminal_tells)

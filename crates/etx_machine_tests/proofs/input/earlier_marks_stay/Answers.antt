-- The first mark stands through all that follows.
use Rattle.etx_input.proofs.Marks.{kept_live}
use Rattle.etx_machine_tests.proofs.input.earlier_marks_stay.Goals as goal

pub back_to-requires-2 : goal.back_to-requires-2
back_to-requires-2 g c =
    let mark = c.mark-first.result in
    let first = c.mark-first.new.self in
    let pushed = c.in_ok-push_token.ensures.kept mark first c.mark-first.ensures.live in
    let given = c.in_ok-give.ensures mark first (c.mark-second.ensures.kept mark first pushed) in
    let back = c.back_to.ensures.kept mark first (c.mark-second.ensures.before mark first pushed) given in
    kept_live mark first c.give-2.new.levels (c.in_ok-got.ensures mark first back)

use Rattle.std.proofs.Common.{◌∙◌, ◌<◌, length, refl, arith}
use Rattle.etx_linebreak.specs.Rows.{made}
use Rattle.etx_linebreak.specs.Runs.{next_of}
use Rattle.etx_linebreak.proofs.Walking.{walked_first, walked_step, walked_end, run_positive}
use Rattle.etx_linebreak.proofs.pass.Pass.advance.Goals as goal

pub groups-init : goal.groups-init
groups-init c = walked_first c.args.self.now c.args.break_number c.in_ok-resort.resort c.args.active.now c.args.rows.now.items c.args.next.now.items c.requires

pub groups-smaller : goal.groups-smaller
groups-smaller c =
    let some : 0 < c.run-count.result = run_positive c.args.self.now c.groups.rest.now c.in-Some.first.now c.group_of.result c.run-count.result
    c.in-Some.ensures.value c.group_of.ensures c.run-count.ensures.value in
    omega (arith, some, c.split_at.ensures.back_len)

pub groups-preserved : goal.groups-preserved
groups-preserved c =
    walked_step c.args.self.now c.args.break_number c.in_ok-resort.resort c.args.active.now c.args.rows.now.items c.args.next.now.items
    c.groups.rest.now c.in-Some.first.now c.group_of.result c.run-count.result _ _ _ _ _ _
    c.in-Some.ensures.value c.group_of.ensures c.run-count.ensures.value c.groups.invariant
    c.split_at.ensures.front c.split_at.ensures.back c.in_ok-advance_group.ensures.rows c.in_ok-advance_group.ensures.next

pub returns-clause-rows : goal.returns-clause-rows
unfolding made
returns-clause-rows c =
    (walked_end c.args.self.now c.args.break_number c.in_ok-resort.resort c.args.active.now c.args.rows.now.items c.args.next.now.items
    (length c.args.rows.now.items) c.groups.rest.now _ _ c.in_default.ensures.value refl c.groups.invariant).0
    ∙ rw c.in_ok-resort.ensures refl

pub returns-clause-next : goal.returns-clause-next
unfolding next_of
returns-clause-next c =
    (walked_end c.args.self.now c.args.break_number c.in_ok-resort.resort c.args.active.now c.args.rows.now.items c.args.next.now.items
    (length c.args.rows.now.items) c.groups.rest.now _ _ c.in_default.ensures.value refl c.groups.invariant).1
    ∙ rw c.in_ok-resort.ensures refl

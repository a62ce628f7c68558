use Rattle.std.proofs.Common.{◌≡◌, true, false, subst}
use Rattle.etx_settle.specs.Deeds.{PenState, is_among}
use Rattle.etx_machine_tests.proofs.settle.a_fault_leaves_what_came_before.Goals as goal

pub flush-requires : goal.flush-requires
flush-requires g c = λ q is. absurd (let no : false ≡ true = subst (λ (p : PenState). is_among q p.created ≡ true) c.in_ok-journal.ensures is in cc)

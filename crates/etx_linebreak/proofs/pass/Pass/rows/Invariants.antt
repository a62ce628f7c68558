use Rattle.std.proofs.Common.{◌≡◌, suc}
use Rattle.etx_linebreak.specs.Table.{rows_to, flat, live}
use Rattle.etx_linebreak.proofs.pass.Pass.rows.Given as goal

-- the rows so far, and of them the live ones at the next break
abbrev pub invariant-loop-index : goal.invariant-loop-index
invariant-loop-index l =
    (l.rows.items ≡ flat (rows_to l.self l.index))
    × (l.active.items ≡ live l.self (suc l.index) (rows_to l.self l.index))
